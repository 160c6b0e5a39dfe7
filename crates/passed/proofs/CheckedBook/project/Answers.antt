-- `CheckedBook::project` meets its contract. Assumes nothing.
use mathlib.Core.Path.{◌≡◌, subst}
use mathlib.Core.List.{List}
use Prim.Native.Nat.{ℕ}
use Rattle.refusals.specs.declared.Refusal.TheVariants.{NoActor}
use Rattle.refusals.specs.Outcome.{refused}
use Rattle.refusals.specs.Handed.{Answer, HandedAs}
use Rattle.format.specs.Forest.{end}
use Rattle.format.specs.Layout.{nodes_part}
use Rattle.book.specs.declared.kinds.Contents.{Contents}
use Rattle.book.specs.Reading.{Admitted}
use Rattle.judgement.specs.Resolve.{resolve_actor}
use Rattle.typing.specs.declared.prog.Passed.{Passed}
use Rattle.typing.specs.Passing.{PassedAs}
use Rattle.syntax.specs.Interfaces.{methods_in}
use Rattle.refusals.proofs.Handing.{handed-on}
use Rattle.listing.specs.Project.{project_from, projected, project}
use Rattle.analysis.specs.Projecting.{Services}
use Rattle.analysis.proofs.project.Laws.{interface-services, interface-projects}
use Rattle.passed.proofs.Asking.{lacks-actor, has-actor, handed-as, handed-refused}
use Rattle.passed.proofs.CheckedBook.project.Goals as goal

-- ---- The projection of a book that passed, as the code has it
module _ {bs : List ℕ} {c : Contents} {a : Admitted bs c} {roots ends' : List ℕ} {p : Passed} (x : PassedAs a roots ends' p) where
  project-lacks : (l : List ℕ) → resolve_actor a.book ≡ end → project a.book l ≡ refused NoActor
  unfolding project
  project-lacks l h = lacks-actor x _ h

  module _ (f : resolve_actor a.book ≡ end → ⊥) where
    services : Services (nodes_part bs) p.interface.services
    services = interface-services x.all (x.offers f)

    project-handed : {rows : List ℕ} → rows ≡ nodes_part bs → (l : List ℕ) {out out' : List ℕ} {r : Answer} →
        HandedAs (projected (project_from 0 (methods_in rows p.interface.services) l)) out out' r →
        HandedAs (project a.book l) out out' r
    unfolding project
    project-handed here l {out} {out'} {r} h =
        handed-as (has-actor x _ f)
        (interface-projects (x.offers f) l
        (subst (λ (ns : List ℕ). HandedAs (projected (project_from 0 (methods_in ns p.interface.services) l)) out out' r) here h))

pub returns-in_err-actor : goal.returns-in_err-actor
returns-in_err-actor c =
    let e = c.in_err-actor.ensures.none in
    rw (handed-on c.from_residual.result c.from_residual.ensures, e.0) (handed-refused _ (project-lacks c.args.self.now.passes.passed _ e.1))

pub project-requires : goal.project-requires
project-requires c =
    let e = c.in_ok-actor.ensures.some in
    rw (c.nodes.ensures, c.as_slice.ensures.all, e.0) (services c.args.self.now.passes.passed e.1)

pub returns : goal.returns
returns c =
    let e = c.in_ok-actor.ensures.some in
    project-handed c.args.self.now.passes.passed e.1 c.nodes.ensures _ (rw (c.as_slice.ensures.all, e.0) at c.project.ensures)
