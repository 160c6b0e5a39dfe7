-- Facts that ghost fields hold have at most one proof.
use Rattle.std.specs.Prelude.{◌≡◌, List, ℕ, suc}
use Rattle.std.specs.Coded.{le_prop, Unit-prop}
use Rattle.std.proofs.Props.{props}
use Rattle.format.specs.Forest.{Forest, end, tree, count}
use Rattle.format.specs.Encode.{Row}
use Rattle.format.specs.Layout.{row_trees}
use Rattle.format.specs.Rules.{Sized}
use Rattle.format.specs.Whole.{Within, Whole}
use Rattle.book.specs.Reading.{EntryWithin}

Sized-prop : (f : Forest Row) → IsProp (Sized f)
Sized-prop end = Unit-prop
Sized-prop (tree r kids next) =
    let size : IsProp (r.size ≡ suc (count kids)) = Prim.hlevel props in
    λ x y i. (size x.0 y.0 i, Sized-prop kids x.1 y.1 i, Sized-prop next x.2 y.2 i)

Within-prop : (ns : List ℕ) (n : ℕ) → IsProp (Within ns n)
Within-prop ns n x y = λ i. record { held = le_prop x.held y.held i; few = le_prop x.few y.few i }

pub Whole-prop : (ns : List ℕ) (at until : ℕ) → IsProp (Whole ns at until)
Whole-prop ns at until x y =
    λ i. record { ordered = le_prop x.ordered y.ordered i; within = Within-prop ns until x.within y.within i; sized = Sized-prop (row_trees ns at until) x.sized y.sized i }

pub EntryWithin-prop : (es : List ℕ) (n : ℕ) → IsProp (EntryWithin es n)
EntryWithin-prop es n x y = λ i. record { held = le_prop x.held y.held i; few = le_prop x.few y.few i }
