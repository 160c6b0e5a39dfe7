-- `names_of` meets its contract. Assumes nothing.
use mathlib.Core.Path.{refl}
use native.Mathlib.Omega.{arith}
use Rattle.std.proofs.Common.{rules, tests}
use Rattle.std.proofs.lemmas.Iterator.{YieldsList-from_range, YieldsList-from_map}
use Rattle.std.proofs.lemmas.Iterator.Consumers.{YieldsList-from_filter, YieldsList-at}
use Rattle.book.specs.Tables.{is_set}
use Rattle.analysis.proofs.hand.Flags.{all-listed}
use Rattle.analysis.proofs.hand.names_of.Goals as goal

pub returns : goal.returns
returns c =
    let flags = c.args.flags.now in
    all-listed c.extend.result flags c.args.names c.requires.1 c.new-list.ensures (YieldsList-from_map _ (λ n. n) (YieldsList-at c.map.ensures.source (YieldsList-from_filter _ (is_set flags) (YieldsList-at c.filter.ensures.source (YieldsList-from_range 0 c.args.names c.args.names refl (omega arith))) c.filter.ensures.closure (λ x r q k. search (rules, tests)))) c.map.ensures.closure (λ x r q k. search (rules, tests))) c.extend.ensures.ran c.extend.ensures.full c.extend.ensures.one_more
