-- When two types are the same, for the merge of an init file with main: "Merging compares trees; labels compare by label number." A rule for
-- each thing that counts, apart from the test that the merge computes (`same_forest`; proofs/Same.antt joins the two). Definitions; assumes
-- nothing.
use Rattle.std.specs.Prelude.{◌≡◌, List, [], ℕ, get_or}
use Rattle.labels.specs.declared.Label.TheVariants.{Id, Named, Unnamed}
use Rattle.labels.specs.Number.{label_number}
use Rattle.format.specs.declared.Place.{Place}
use Rattle.format.specs.declared.Place.TheVariants.{Root, Field, Method, Inner}
use Rattle.format.specs.Forest.{Forest, end, tree}
use Rattle.format.specs.Node.{Labelled, unlabelled, labelled, Node}
use Rattle.format.specs.Fits.{place_below}

-- The bytes of name n.
abbrev pub bytes_of : List (List ℕ) → ℕ → List ℕ
bytes_of names n = get_or names n []

-- A field's label has a label number: numbered and unnamed labels are their number, a spelled one has that of its bytes.
pub data HasNumber (names : List (List ℕ)) : Labelled → ℕ → Type 0 where
  numbered : {n : ℕ} → HasNumber names (labelled (Id n)) n
  unnamed : {n : ℕ} → HasNumber names (labelled (Unnamed n)) n
  spelled : {n : ℕ} → HasNumber names (labelled (Named n)) (label_number (bytes_of names n))

-- The labels of two nodes at a place: fields of records and variants by label number, methods by the bytes of their names; others have none.
pub data SameLabels (names : List (List ℕ)) : Place → Labelled → Labelled → Type 0 where
  fields : {l m : Labelled} {k : ℕ} → HasNumber names l k → HasNumber names m k → SameLabels names Field l m
  methods : {i j : ℕ} → bytes_of names i ≡ bytes_of names j → SameLabels names Method (labelled (Named i)) (labelled (Named j))
  roots : SameLabels names Root unlabelled unlabelled
  inners : SameLabels names Inner unlabelled unlabelled

-- Trees beside each other: as many on either side, and pairwise in order of one kind, with the same labels and the same children. A kind
-- holds a name's number, a function's argument count and its modes in order, so these count too.
pub data Same (names : List (List ℕ)) : Place → Forest Node → Forest Node → Type 0 where
  none : {p : Place} → Same names p end end
  beside : {p : Place} {n m : Node} {kids lids next rest : Forest Node} →
      n.kind ≡ m.kind → SameLabels names p n.label m.label → Same names (place_below n.kind) kids lids → Same names p next rest →
      Same names p (tree n kids next) (tree m lids rest)
