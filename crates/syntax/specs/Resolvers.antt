-- What resolving says, of the resolver that looks for services. Definitions; assumes nothing.
use Rattle.std.specs.Prelude.{List, Option, ℕ, Result}
use Rattle.format.specs.Layout.{nodes_part, files_part}
use Rattle.format.specs.Whole.{tree_at}
use Rattle.refusals.specs.declared.Refusal.{Refusal}
use Rattle.judgement.specs.Aliases.{alias_end, alias_length}
use Rattle.judgement.specs.Resolve.{methods_of}
use Rattle.judgement.specs.Check.{service_verdict}
use Rattle.syntax.specs.declared.actor.Resolver.{Resolver}
use Rattle.syntax.specs.declared.actor.Service.{Service}
use Rattle.syntax.specs.declared.interface.Interface.{Interface}
use Rattle.syntax.specs.Files.{listed_files}
use Rattle.syntax.specs.Resolving.{ServiceAs, MainService, MainAs, ServicesAs}

abbrev pub rows_of : Resolver → List ℕ
rows_of r = nodes_part r.book.bytes.now

-- The service at the end of the chain from a node.
abbrev pub ServiceFrom : Resolver → ℕ → Refusal → Service → Type 0
ServiceFrom r node other s =
    let t = tree_at (rows_of r) node in
    ServiceAs (rows_of r) r.roots.now r.book.contents.nodes r.main (λ ds. service_verdict other (alias_end ds t)) (λ ds. methods_of ds t) (λ ds. alias_length ds t) s

-- The main actor of this root.
abbrev pub MainServes : Resolver → Option ℕ → List ℕ → Type 0
MainServes r root services = MainService (rows_of r) r.roots.now r.book.contents.nodes r.main root services

abbrev pub MainFrom : Resolver → Option ℕ → Result Interface Refusal → Type 0
MainFrom r root s = MainAs (rows_of r) r.roots.now r.book.contents.nodes r.main root s

-- Its service and those of the imports with these numbers.
abbrev pub ServicesFrom : Resolver → Option ℕ → List ℕ → Result (List ℕ) Refusal → Type 0
ServicesFrom r root imports s =
    ServicesAs (rows_of r) r.roots.now r.book.contents.nodes r.main root (listed_files (rows_of r) (files_part r.book.bytes.now) imports) s
