-- Labels: when two are the same, and Candid.md's rule that those of one node's children differ. Definitions; assumes nothing.
use Rattle.std.specs.Prelude.{◌⊎◌, ◌≡◌, Bool, true, List, [], ◌∷◌, ℕ, get_or, eqb}
use Rattle.labels.specs.Label.{id_of, value_of}
use Rattle.format.specs.declared.Place.{Place}
use Rattle.format.specs.declared.Place.TheVariants.{Root, Field, Method, Inner}
use Rattle.format.specs.Forest.{Forest, end, tree}
use Rattle.format.specs.Node.{RecordT, VariantT, ServT, Labelled, unlabelled, labelled, Node, label_value}
use Rattle.format.specs.Occurs.{Occurs}
use Rattle.format.specs.Distinct.{Distinct}

-- A label's number, where `names` are the bytes of the names.
unfoldable pub label_id : List (List ℕ) → Labelled → ℕ
label_id names unlabelled = 0
label_id names (labelled l) = id_of l (get_or names (value_of l) [])

-- Labels at a place: fields by number, methods by name; elsewhere there are none.
unfoldable pub same_label : List (List ℕ) → Place → Labelled → Labelled → Bool
same_label names Root l m = true
same_label names Field l m = eqb (label_id names l) (label_id names m)
same_label names Method l m = eqb (label_value l) (label_value m)
same_label names Inner l m = true

-- What the roots of trees beside each other are compared by.
unfoldable pub keys_of : (Labelled → ℕ) → Forest Node → List ℕ
keys_of key end = []
keys_of key (tree n kids next) = key n.label ∷ keys_of key next

-- The names of methods.
abbrev pub method_names : Forest Node → List ℕ
method_names f = keys_of label_value f

-- ---- Candid.md: labels of a record or variant differ by number, methods of a service by name. The Rust leaves this to its grammar; here a
-- book with a repeat is refused with 18 (Repeats.antt).
pub record Labels (names : List (List ℕ)) (f : Forest Node) : Type 0 where
  pub fields : (n : Node) (kids : Forest Node) → Occurs n kids f → (n.kind ≡ RecordT) ⊎ (n.kind ≡ VariantT) → Distinct (keys_of (label_id names) kids)
  pub methods : (n : Node) (kids : Forest Node) → Occurs n kids f → n.kind ≡ ServT → Distinct (method_names kids)
