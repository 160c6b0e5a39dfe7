-- `last_child` meets its contract. Assumes nothing.
use mathlib.Core.Path.{◌≡◌, refl}
use Rattle.std.proofs.Common.{rules, tests}
use Rattle.syntax.proofs.class.Laws.{place_or, last-start, last-drained}
use Rattle.syntax.proofs.class.last_child.Goals as goal

pub returns : goal.returns
returns c =
    let t = c.args.trees in
    let l = c.last.ensures.ran in
    let is : c.map_or.result ≡ place_or t.at c.last.result = search (rules, tests) in
    rw (is, l.2) (last-drained t.at l.0 l.1 (record { rows = refl; until = refl }) (last-start t.whole c.requires) c.requires)
