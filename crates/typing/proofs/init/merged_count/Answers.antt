-- `merged_count` meets its contract: what is counted are the entries whose names init lacks. Assumes nothing.
use mathlib.Core.Path.{ap, ◌∙◌}
use Rattle.std.proofs.Common.{ℕ, ◌+◌, rules, tests}
use Rattle.std.proofs.lemmas.Iterator.Consumers.{YieldsList-from_filter, count_from_yields_List}
use Rattle.syntax.proofs.files.Laws.{entries-yielded}
use Rattle.typing.proofs.init.Laws.{is-lacked, lacked-counted, root-lacked}
use Rattle.typing.proofs.init.merged_count.Goals as goal

pub returns : goal.returns
returns c =
    let init = c.args.init.now in
    let n = c.new.ensures in
    let f = c.filter.ensures in
    λ ns.
    ap (λ (k : ℕ). c.args.count + k)
    (count_from_yields_List c.filter.result c.count.result c.count.ensures.ran
    (YieldsList-from_filter _ (is-lacked init) (entries-yielded n.over n.at f.source) f.closure (λ x b q k. search (rules, tests, root-lacked)))
    ∙ lacked-counted init c.args.entries.now ns c.args.main)
