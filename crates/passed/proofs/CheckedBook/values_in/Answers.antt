-- `CheckedBook::values_in` meets its contract. Assumes nothing.
use mathlib.Core.Path.{◌≡◌, ap, ◌∙◌}
use Prim.Native.Nat.{ℕ}
use lib.ListN.{get_or}
use Rattle.std.specs.Prelude.{Ok}
use Rattle.listing.specs.Values.{count_of}
use Rattle.passed.proofs.values.Laws.{values-lacks, values-here}
use Rattle.passed.proofs.CheckedBook.values_in.Goals as goal

pub returns-in_default : goal.returns-in_default
returns-in_default c = values-lacks c.args.self.now.passes.passed _ c.in_default.ensures.none

pub returns : goal.returns
returns c =
    let e = c.in-Some.ensures.some.0 in
    let some = λ (z : get_or c.args.self.now.tables.roots c.args.name 65535 ≡ 65535). c.in-Some.ensures.some.1 (e ∙ z) in
    ap Ok (c.of.ensures ∙ ap (λ (root : ℕ). count_of (get_or c.args.numbers.now.numbers root 0)) e ∙ ap count_of (c.requires c.args.name some))
    ∙ values-here c.args.self.now.passes.passed c.args.name some
