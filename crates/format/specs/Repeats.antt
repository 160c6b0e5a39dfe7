-- Repeated labels (document 02, request 1): the first child whose label an earlier one of the same node has. Definitions; assumes nothing.
--     RepeatAt, FirstRepeatAt, RepeatOf    what a repeat is, and the first, in the paper's words
--     first_repeat, labels_verdict           the same as a computation (proofs/Repeats.antt joins the two, and both with `Labels`)
use Rattle.std.specs.Prelude.{◌≡◌, ◌⊎◌, Bool, true, false, cond, ◌&&◌, ◌||◌, List, [], ◌∷◌, ℕ, suc, ◌+◌, ◌≤◌, ◌<◌}
use Rattle.labels.specs.declared.Label.TheVariants.{Id, Named, Unnamed}
use Rattle.refusals.specs.declared.Refusal.TheVariants.{Repeated}
use Rattle.std.specs.Prelude.{Err}
use Rattle.refusals.specs.Verdict.{Verdict, passes}
use Rattle.format.specs.declared.Place.{Place}
use Rattle.format.specs.declared.Place.TheVariants.{Root, Field, Method, Inner}
use Rattle.format.specs.Forest.{Forest, end, tree, count}
use Rattle.format.specs.Node.{Kind, RecordT, VariantT, ServT, Labelled, unlabelled, labelled, Node, label_value}
use Rattle.format.specs.Book.{Book, trees}
use Rattle.format.specs.Fits.{place_below}
use Rattle.format.specs.Labels.{label_id, same_label}
use Rattle.format.specs.Numbered.{NodeAt, TreeAt}

-- ---- In the paper's words

-- Two children of a node of this kind have one label: of a record or variant by number, of a service by name.
pub data OneLabel (names : List (List ℕ)) (k : Kind) (l m : Labelled) : Type 0 where
  fields : (k ≡ RecordT) ⊎ (k ≡ VariantT) → label_id names l ≡ label_id names m → OneLabel names k l m
  methods : k ≡ ServT → label_value l ≡ label_value m → OneLabel names k l m

-- Node j of the trees is a child of node `at` and has the label l; it has one label with an earlier child of that node.
pub record RepeatAt (names : List (List ℕ)) (f : Forest Node) (j : ℕ) (l : Labelled) : Type 0 where
  pub parent : Node
  pub kids : Forest Node
  pub at : ℕ
  pub stands : NodeAt parent kids at f
  pub earlier : Node
  pub earlier_kids : Forest Node
  pub earlier_at : ℕ
  pub one : TreeAt earlier earlier_kids earlier_at kids
  pub later : Node
  pub later_kids : Forest Node
  pub later_at : ℕ
  pub other : TreeAt later later_kids later_at kids
  pub order : earlier_at < later_at
  pub same : OneLabel names parent.kind earlier.label later.label
  pub node : j ≡ suc (at + later_at)
  pub label : l ≡ later.label

-- No lower node is one.
pub record FirstRepeatAt (names : List (List ℕ)) (f : Forest Node) (j : ℕ) (l : Labelled) : Type 0 where
  pub is : RepeatAt names f j l
  pub lowest : (i : ℕ) (m : Labelled) → RepeatAt names f i m → j ≤ i

-- What 18 names: the label's name number if it is spelled, else none.
unfoldable pub spelling : Labelled → ℕ
spelling unlabelled = 65535
spelling (labelled (Id n)) = 65535
spelling (labelled (Named n)) = n
spelling (labelled (Unnamed n)) = 65535

-- 18 of a book is that of its first repeat, and names n.
pub record RepeatOf (b : Book) (n : ℕ) : Type 0 where
  pub j : ℕ
  pub l : Labelled
  pub first : FirstRepeatAt b.names (trees b) j l
  pub named : n ≡ spelling l

-- ---- As a computation

-- Children have labels at these places alone.
unfoldable pub has_labels : Place → Bool
has_labels Root = false
has_labels Field = true
has_labels Method = true
has_labels Inner = false

-- A label is one of those earlier.
unfoldable pub is_among : List (List ℕ) → Place → Labelled → List Labelled → Bool
is_among names p l [] = false
is_among names p l (m ∷ earlier) = same_label names p m l || is_among names p l earlier

-- No repeat, or a node's number and its label.
pub data Repeat : Type 0 where
  none : Repeat
  repeat : (node : ℕ) (label : Labelled) → Repeat

abbrev pub or_else : Repeat → Repeat → Repeat
or_else none r = r
or_else (repeat i l) r = repeat i l

-- The first repeat of trees at a place, whose nodes are numbered from i on and whose earlier siblings have these labels: in preorder.
unfoldable pub first_repeat : List (List ℕ) → Place → List Labelled → ℕ → Forest Node → Repeat
first_repeat names p earlier i end = none
first_repeat names p earlier i (tree n kids next) =
    cond (has_labels p && is_among names p n.label earlier) (repeat i n.label)
    (or_else (first_repeat names (place_below n.kind) [] (suc i) kids)
    (first_repeat names p (n.label ∷ earlier) (suc (i + count kids)) next))

-- 18, of all the trees of a book.
abbrev pub repeat_verdict : Repeat → Verdict
repeat_verdict none = passes
repeat_verdict (repeat i l) = Err (Repeated (spelling l))

unfoldable pub labels_verdict : Book → Verdict
labels_verdict b = repeat_verdict (first_repeat b.names Root [] 0 (trees b))
