-- `skip` meets its contract: the walk gives the tree after so many, or comes to the end. Assumes nothing.
use mathlib.Core.Path.{◌≡◌, refl}
use Rattle.std.proofs.Common.{rules, tests}
use Rattle.syntax.proofs.class.Laws.{place_or}
use Rattle.analysis.proofs.def_use.Trees.{skips}
use Rattle.analysis.proofs.def_use.skip.Goals as goal

pub returns : goal.returns
returns c =
    let t = c.args.trees in
    let is : c.map_or.result ≡ place_or t.until c.nth.result = search (rules, tests) in
    rw is (skips t.whole (record { rows = refl; until = refl }) refl _ c.nth.result c.nth.ensures.ran)
