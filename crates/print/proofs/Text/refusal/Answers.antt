-- `refusal` meets its contract: its parts are laid one after another. Assumes nothing.
use Rattle.print.proofs.Lays.{then}
use Rattle.print.proofs.Refusals.{line-laid}
use Rattle.print.proofs.Text.refusal.Goals as goal

pub returns : goal.returns
returns c =
    line-laid _ _ c.number.ensures c.named.ensures (then (then c.bytes.ensures c.decimal.ensures) c.byte.ensures) c.named_or_dash.ensures c.byte-2.ensures
