-- `escape` meets its contract. Assumes nothing.
use mathlib.Core.Path.{◌≡◌, sym, ◌∙◌}
use mathlib.Core.List.{[], ◌∷◌}
use Rattle.std.proofs.Common.{rules}
use Rattle.hex.specs.Hex.{encode_lower}
use Rattle.print.proofs.Lays.{alias, then}
use Rattle.print.proofs.Escapes.{escape-plain, escape-digits}
use Rattle.print.proofs.Text.escape.Goals as goal

pub returns-then-is_plain : goal.returns-then-is_plain
returns-then-is_plain c = alias (escape-plain _ (sym c.is_plain.ensures ∙ c.if-is_plain.true)) c.byte.ensures

pub returns : goal.returns
returns c =
    let digits : c.encode_to_slice.new.output ≡ encode_lower (c.args.b ∷ []) = search rules in
    alias (escape-digits _ c.ranges.b.fits (sym c.is_plain.ensures ∙ c.if-is_plain.false) digits) (then c.byte-2.ensures c.bytes.ensures)
