-- `decimal` meets its contract: std's decimal is ours. Assumes nothing.
use Rattle.std.proofs.Common.{rules}
use Rattle.print.proofs.Lays.{alias}
use Rattle.print.proofs.Digits.{decimal-same}
use Rattle.print.proofs.Text.decimal.Goals as goal

pub returns : goal.returns
returns c = alias (decimal-same _ c.ranges.n.fits (search rules)) c.bytes.ensures
