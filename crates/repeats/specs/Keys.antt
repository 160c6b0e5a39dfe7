-- What siblings are compared by, and which nodes have siblings to compare below them. Definitions; assumes nothing.
use Rattle.std.specs.Prelude.{Bool, ◌&&◌, ◌||◌, List, ℕ, ltb, eqb}
use Rattle.format.specs.declared.Place.{Place}
use Rattle.format.specs.declared.Place.TheVariants.{Root, Field, Method, Inner}
use Rattle.format.specs.Node.{Labelled, label_value}
use Rattle.format.specs.Encode.{Row}
use Rattle.format.specs.Labels.{label_id}

-- A field's key is its label's number, a method's the number of its name (`OneLabel` of format, specs/Repeats.antt).
abbrev pub key_of : Place → List (List ℕ) → Labelled → ℕ
key_of Field names l = label_id names l
key_of Method names l = label_value l
key_of Root names l = label_value l
key_of Inner names l = label_value l

-- The children of a record, variant or service have labels.
unfoldable pub labels_below : ℕ → Bool
labels_below k = eqb k 21 || eqb k 22 || eqb k 24

-- It has labels below, and two children at least, by its size.
unfoldable pub is_parent : Row → Bool
is_parent r = ltb 2 r.size && labels_below r.kind
