-- Repeated labels (document 02, request 1): types, above each what it shows, and the first repeat as the request is read; then the smallest
-- book that has one. Definitions; assumes nothing. A type's root is node 0, and its nodes are numbered in preorder.
use Rattle.std.specs.Prelude.{List, [], ◌∷◌, ℕ}
use Rattle.labels.specs.declared.Label.TheVariants.{Id, Named, Unnamed}
use Rattle.format.specs.Forest.{end}
use Rattle.format.specs.Node.{labelled}
use Rattle.format.specs.Book.{Book, Main}
use Rattle.format.specs.Repeats.{Repeat, none, repeat}
use Rattle.samples.specs.Notation.{Shape, spelled, unlabelled_tree, ◌∶◌, ◌⨾◌, nat, record-of, variant-of, service-of, func, type, file}

pub record Case : Type 0 where
  pub type : Shape
  pub first : Repeat

-- The names, by number: byte 0 and then a, a, x, y. The first two have the label number 97.
unfoldable pub label_names : List (List ℕ)
label_names = spelled ("\0a" ∷ "a" ∷ "x" ∷ "y" ∷ [])

abbrev zero-a : ℕ
zero-a = 0

abbrev a : ℕ
a = 1

abbrev x : ℕ
x = 2

abbrev y : ℕ
y = 3

unfoldable pub repeats : List Case
repeats =
    -- record { 0 : record { x; x }; 0 } names x: the repeat below comes first
    record {
      type = record-of (Id 0 ∶ record-of (Named x ∶ nat ⨾ Named x ∶ nat) ⨾ Id 0 ∶ nat);
      first = repeat 3 (labelled (Named x));
    }
    -- record { y; y : record { x; x } } names y
    ∷ record {
      type = record-of (Named y ∶ nat ⨾ Named y ∶ record-of (Named x ∶ nat ⨾ Named x ∶ nat));
      first = repeat 2 (labelled (Named y));
    }
    -- { x; y; y; x } names y
    ∷ record {
      type = variant-of (Named x ∶ nat ⨾ Named y ∶ nat ⨾ Named y ∶ nat ⨾ Named x ∶ nat);
      first = repeat 3 (labelled (Named y));
    }
    -- { 97; a } names a, { a; 97 } none
    ∷ record { type = record-of (Id 97 ∶ nat ⨾ Named a ∶ nat); first = repeat 2 (labelled (Named a)) }
    ∷ record { type = record-of (Named a ∶ nat ⨾ Id 97 ∶ nat); first = repeat 2 (labelled (Id 97)) }
    -- unnamed labels are their numbers
    ∷ record { type = record-of (Id 1 ∶ nat ⨾ Unnamed 1 ∶ nat); first = repeat 2 (labelled (Unnamed 1)) }
    -- two names of one number
    ∷ record { type = record-of (Named a ∶ nat ⨾ Named zero-a ∶ nat); first = repeat 2 (labelled (Named zero-a)) }
    -- methods by name: those of one number differ
    ∷ record { type = service-of (Named a ∶ nat ⨾ Named zero-a ∶ nat); first = none }
    ∷ record { type = service-of (Named a ∶ nat ⨾ Named zero-a ∶ nat ⨾ Named a ∶ nat); first = repeat 3 (labelled (Named a)) }
    -- labels of other nodes are no siblings, and arguments have none
    ∷ record { type = record-of (Named x ∶ record-of (Named x ∶ nat) ⨾ Named y ∶ record-of (Named x ∶ nat)); first = none }
    ∷ record { type = func (unlabelled_tree nat ⨾ unlabelled_tree nat) (unlabelled_tree nat) []; first = none }
    ∷ []

-- type a = record { 0 : nat; 0 : nat }
unfoldable pub twins : Book
twins =
    record {
      names = spelled ("" ∷ "a" ∷ []);
      definitions = type 0 1 (record-of (Id 0 ∶ nat ⨾ Id 0 ∶ nat)) ∷ [];
      files = file 0 Main end ∷ [];
    }
