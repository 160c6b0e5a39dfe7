use Rattle.std.specs.Prelude.{Option, ℕ}
use Rattle.format.specs.Layout.{nodes_part, files_part}
use Rattle.syntax.specs.Resolving.{MainService}
use Rattle.syntax.proofs.actor.Merging.{ServicesLeft}
use Rattle.syntax.proofs.actor.Resolver.import_services.Given as goal

abbrev pub invariant-loop-f : goal.invariant-loop-f
invariant-loop-f l =
    let s = l.self in
    let ns = nodes_part s.book.bytes.now in
    (root : Option ℕ) → MainService ns s.roots.now s.book.contents.nodes s.main root l.fn.main →
    ServicesLeft ns s.roots.now (files_part s.book.bytes.now) l.f-items s.book.contents.nodes s.main root l.services l.f-index
