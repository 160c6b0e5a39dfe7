-- `main_definitions` meets its contract. Assumes nothing.
use Rattle.std.proofs.Common.{rules, tests}
use Rattle.std.proofs.lemmas.Iterator.Consumers.{count_from_yields_List}
use Rattle.std.proofs.lemmas.Iterator.Search.{YieldsList-from_take_while}
use Rattle.syntax.proofs.files.Laws.{entries-yielded, counted, of_other, split-counted}
use Rattle.syntax.proofs.files.main_definitions.Goals as goal

pub returns : goal.returns
unfolding of_other
returns c =
    let test = of_other c.args.init in
    let n = c.new.ensures in
    let t = c.take_while.ensures in
    split-counted
    (counted _ _ test
    (count_from_yields_List _ _ c.count.ensures.ran
    (YieldsList-from_take_while _ test (entries-yielded n.over n.at t.source) t.closure t.done (λ x b q k. search (rules, tests)))))
