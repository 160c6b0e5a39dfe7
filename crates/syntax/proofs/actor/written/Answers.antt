-- `actor::written` meets its contract. Assumes nothing.
use mathlib.Core.Path.{◌≡◌, ap, ◌∙◌}
use Rattle.std.proofs.Common.{rules, tests}
use mathlib.Core.Bool.{Bool, cond}
use mathlib.Core.List.{[]}
use Rattle.std.specs.Prelude.{None}
use Rattle.std.specs.Option.{option_to_list}
use Rattle.std.specs.Result.{is_ok}
use Rattle.environment.specs.Tables.{reached_in}
use Rattle.syntax.proofs.class.Laws.{top-none}
use Rattle.syntax.proofs.actor.AsWritten.{written-none, written-as}
use Rattle.syntax.proofs.actor.written.Goals.{in_default-via-in-Some+in_default, in_default-via-in_default}
use Rattle.syntax.proofs.actor.written.Goals as goal

pub returns-in_default : goal.returns-in_default
returns-in_default c =
    λ names nodes ds a z h q.
    let none : c.args.root ≡ None =
    elim c.in_default.branch [
      | in_default-via-in-Some+in_default w ↦ top-none c.args.root (w.in_default.ensures names nodes a h)
      | in_default-via-in_default w ↦ w.in_default.is-0
    ] in
    rw none (written-none a c.none.ensures ds)

pub returns : goal.returns
returns c =
    let s = c.as_service-service.ensures in
    let r = c.as_service-service.result in
    let listed : c.from.result ≡ cond (is_ok r) (option_to_list (reached_in r).node) [] = search (rules, tests) in
    λ names nodes ds a z h q.
    let x = c.in-Some-Some in
    let inside = rw x.is-0 at h in
    rw x.is-0
    (written-as a z (rw x.is-0 at (x.ensures _ _ a h)) inside s.reached.node-is
    (listed ∙ ap (λ (b : Bool). cond b (option_to_list (reached_in r).node) []) s.found-is) ds q)
