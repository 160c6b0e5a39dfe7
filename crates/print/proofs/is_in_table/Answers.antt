-- `is_in_table` meets its contract: the layout's book tells how many names there are. Assumes nothing.
use Rattle.std.proofs.Common.{rules, ◌≡◌, false, MatchOption, nat_lt}
use Rattle.print.proofs.Refusals.{table-is}
use Rattle.print.proofs.is_in_table.Goals as goal

pub returns : goal.returns
returns c =
    let told : MatchOption c.layout.result (c.is_some_and.result ≡ false) (λ d. c.is_some_and.result ≡ nat_lt c.args.number d.names) = search rules in
    table-is _ _ _ c.layout.ensures told
