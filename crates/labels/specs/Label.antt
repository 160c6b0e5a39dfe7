-- What a book writes for a label, and the number that a label stands for. Assumes nothing: these are definitions.
use Rattle.std.specs.Prelude.{ℕ, List}
use Rattle.labels.specs.declared.Label.{Label}
use Rattle.labels.specs.declared.Label.TheVariants.{Id, Named, Unnamed}
use Rattle.labels.specs.declared.LabelKind.{LabelKind}
use Rattle.labels.specs.declared.LabelKind.TheVariants as Kind
use Rattle.labels.specs.Number.{label_number}

-- The label kind: 1 number, 2 name number, 3 unnamed number.
abbrev pub label_kind_of : Label → ℕ
label_kind_of (Id n) = 1
label_kind_of (Named n) = 2
label_kind_of (Unnamed n) = 3

-- The number of a label kind, with 0 for a node without a label.
abbrev pub label_kind_number : LabelKind → ℕ
label_kind_number Kind.None = 0
label_kind_number Kind.Id = 1
label_kind_number Kind.Named = 2
label_kind_number Kind.Unnamed = 3

-- The number that stands in the label; for a name, its place in the table of names.
abbrev pub value_of : Label → ℕ
value_of (Id n) = n
value_of (Named n) = n
value_of (Unnamed n) = n

-- The label's number, where `hash` is that of its name: numbered and unnamed labels are their number.
abbrev pub id_by : Label → ℕ → ℕ
id_by (Id n) hash = n
id_by (Named n) hash = hash
id_by (Unnamed n) hash = n

-- By the bytes of the name.
abbrev pub id_of : Label → List ℕ → ℕ
id_of l name = id_by l (label_number name)
