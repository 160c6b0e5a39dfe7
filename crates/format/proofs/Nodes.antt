-- Rows and nodes: a row meets the rules exactly if its node fits and the row is the one that encodes the node. Assumes nothing.
--     kind-write, label-write, row-write, forest-write    what is good is the encoding of what it is read as, and that fits
--     kind-read, label-read, row-read, forest-read        what fits has a good encoding, and is read back from it
--     rows-fit                                            each row of trees that fit, by itself
use mathlib.Core.Path.{◌≡◌, refl, sym, ap, subst, ◌∙◌}
use mathlib.Core.Bool.{Bool, true, false, cond, ◌&&◌, ◌||◌, not, not-not}
use mathlib.Core.List.{List, [], ◌∷◌}
use Prim.Native.Nat.{ℕ, zero, suc, ◌+◌, ◌-◌, ◌*◌, ◌/◌, ◌%◌, ◌^◌, ◌≤◌, ◌<◌}
use native.Mathlib.Nat.{le_of_suc-le-suc, not-suc-le-zero, lt_of_lt_of_le, pow-le-pow_right, pow-succ'}
use native.Mathlib.Omega.{arith}
use borrow.Author.Tests.{ltb-true, ltb-false, eqb-false, le-ltb, lt-ltb, ne_eqb}
use lib.Dec.{T, leb, ltb, eqb, lit<, lit≤, leb→le, ltb→lt, eqb→eq, le→leb, lt→ltb}
use lib.ListN.{length}
use Rattle.labels.specs.declared.Label.TheVariants.{Id, Named, Unnamed}
use Rattle.format.specs.declared.Place.{Place}
use Rattle.format.specs.declared.Place.TheVariants.{Root, Field, Method, Inner}
use Rattle.format.specs.Forest.{Forest, end, tree, count, breadth, preorder, map_forest}
use Rattle.format.specs.Node.{PrimType, FuncMode, Oneway, Query, CompositeQuery, Kind, PrimT, VarT, OptT, VecT, RecordT, VariantT, FuncT, ServT, ClassT, InitT, Labelled, unlabelled, labelled, Node, prim_number, kind_number, mode_number, modes_number, value_number, label_kind, label_value}
use Rattle.format.specs.Encode.{Row, row_of, sized}
use Rattle.format.specs.Fits.{place_below, kind_fits, not_init, kind_allowed, label_fits, node_fits, forest_fits}
use Rattle.format.specs.Layout.{mode_of, modes_of, kinds, kind_of, label_of, node_of}
use Rattle.format.specs.Rules.{good_modes, good_kind, good_place, good_label, good_row, below_kind, good_forest, Sized}
use Rattle.format.specs.Whole.{RowFits}
use Rattle.format.proofs.Logic.{both, join, both₃, join₃, of-true}
use Rattle.format.proofs.Lists.{All, all-parts, all-append, numbered, number-at}
use Rattle.format.proofs.Trees.{count-map, breadth-map, breadth-sized}
use Rattle.format.proofs.Bytes.{RowGood}

-- ---- Modes: digits 1 to 3 in base 4

mode-digit : (m : FuncMode) → (1 ≤ mode_number m) × (mode_number m < 4)
unfolding mode_number
mode-digit Oneway = (lit≤ tt, lit< tt)
mode-digit Query = (lit≤ tt, lit< tt)
mode-digit CompositeQuery = (lit≤ tt, lit< tt)

mode-read : (m : FuncMode) → mode_of (mode_number m) ≡ m
unfolding mode_number mode_of
mode-read Oneway = refl
mode-read Query = refl
mode-read CompositeQuery = refl

mode-write : (d : ℕ) → (d ≡ 0 → ⊥) → d < 4 → mode_number (mode_of d) ≡ d
unfolding mode_of numbered mode_number
mode-write d n h = number-at mode_number 1 (Oneway ∷ Query ∷ []) CompositeQuery tt (d - 1) (omega arith) ∙ omega arith

-- The lowest digit, and the others.
low-digit : (m : FuncMode) (n : ℕ) → (mode_number m + 4 * n) % 4 ≡ mode_number m
low-digit m n = omega (arith, mode-digit m)

high-digits : (m : FuncMode) (n : ℕ) → (mode_number m + 4 * n) / 4 ≡ n
high-digits m n = omega (arith, mode-digit m)

not-zero : (m : FuncMode) → eqb (mode_number m) 0 ≡ false
not-zero m = ne_eqb (mode_number m) 0 (omega (arith, mode-digit m))

pub modes-read : (k : ℕ) (ms : List FuncMode) → length ms ≤ k → modes_of k (modes_number ms) ≡ ms
unfolding modes_of modes_number
modes-read zero [] h = refl
modes-read zero (m ∷ ms) h = absurd (not-suc-le-zero h)
modes-read (suc k) [] h = refl
modes-read (suc k) (m ∷ ms) h =
    rw (low-digit m (modes_number ms), high-digits m (modes_number ms), not-zero m, mode-read m)
    (ap (λ (l : List FuncMode). m ∷ l) (modes-read k ms (le_of_suc-le-suc h)))

pub modes-good : (k : ℕ) (ms : List FuncMode) → length ms ≤ k → T (good_modes k (modes_number ms))
unfolding good_modes modes_number
modes-good zero [] h = tt
modes-good zero (m ∷ ms) h = absurd (not-suc-le-zero h)
modes-good (suc k) [] h = tt
modes-good (suc k) (m ∷ ms) h =
    rw (low-digit m (modes_number ms), high-digits m (modes_number ms), not-zero m) (modes-good k ms (le_of_suc-le-suc h))

pub modes-write : (k m : ℕ) → T (good_modes k m) → modes_number (modes_of k m) ≡ m
unfolding good_modes modes_of modes_number
modes-write zero m h = sym (eqb→eq m 0 h)
modes-write (suc k) m h = go (eqb (m % 4) 0) refl h (modes-write k (m / 4))
  where
    go : (b : Bool) → eqb (m % 4) 0 ≡ b → T (cond b (eqb m 0) (good_modes k (m / 4))) →
        (T (good_modes k (m / 4)) → modes_number (modes_of k (m / 4)) ≡ m / 4) → modes_number (cond b [] (mode_of (m % 4) ∷ modes_of k (m / 4))) ≡ m
    go true e t ih = sym (eqb→eq m 0 t)
    go false e t ih = rw (mode-write (m % 4) (eqb-false _ _ e) (omega arith), ih t) (omega arith)

pub modes-few : (k m : ℕ) → length (modes_of k m) ≤ k
unfolding modes_of
modes-few zero m = omega arith
modes-few (suc k) m = go (eqb (m % 4) 0) (modes-few k (m / 4))
  where
    go : (b : Bool) → length (modes_of k (m / 4)) ≤ k → length (cond b [] (mode_of (m % 4) ∷ modes_of k (m / 4))) ≤ suc k
    go true ih = omega arith
    go false ih = omega arith

modes-bound : (ms : List FuncMode) → modes_number ms < 4 ^ length ms
unfolding modes_number
modes-bound [] = lit< tt
modes-bound (m ∷ ms) = rw (pow-succ' 4 (length ms)) (omega (arith, mode-digit m, modes-bound ms))

pub modes-small : (ms : List FuncMode) → length ms ≤ 8 → modes_number ms < 65536
modes-small ms h = lt_of_lt_of_le (modes-bound ms) (pow-le-pow_right {n = 4} (lit< tt) h)

-- ---- Kinds

-- A kind below 18 is a leaf of the table.
leaf : (p : PrimType) (v : ℕ) → (kind_of (prim_number p) v ≡ PrimT p) × T (ltb (prim_number p) 18)
unfolding kind_of kinds prim_number
leaf PrimType.Null v = (refl, tt)
leaf PrimType.Bool v = (refl, tt)
leaf PrimType.Nat v = (refl, tt)
leaf PrimType.Int v = (refl, tt)
leaf PrimType.Nat8 v = (refl, tt)
leaf PrimType.Nat16 v = (refl, tt)
leaf PrimType.Nat32 v = (refl, tt)
leaf PrimType.Nat64 v = (refl, tt)
leaf PrimType.Int8 v = (refl, tt)
leaf PrimType.Int16 v = (refl, tt)
leaf PrimType.Int32 v = (refl, tt)
leaf PrimType.Int64 v = (refl, tt)
leaf PrimType.Float32 v = (refl, tt)
leaf PrimType.Float64 v = (refl, tt)
leaf PrimType.Text v = (refl, tt)
leaf PrimType.Reserved v = (refl, tt)
leaf PrimType.Empty v = (refl, tt)
leaf PrimType.Principal v = (refl, tt)

prim-small : (p : PrimType) → prim_number p < 18
prim-small p = ltb→lt (prim_number p) 18 (leaf p 0).1

pub kind-number : (k v : ℕ) → k < 27 → kind_number (kind_of k v) ≡ k
unfolding kind_of kinds numbered kind_number prim_number
kind-number k v h = number-at kind_number 0 (kinds v) InitT tt k (le_of_suc-le-suc h) ∙ omega arith

-- What the rule of leaves asks.
good-leaf : (names v kids : ℕ) (p : PrimType) → good_kind names (prim_number p) v kids ≡ (eqb v 0 && eqb kids 0)
unfolding good_kind
good-leaf names v kids p = rw (lt-ltb (prim_number p) 18 (prim-small p))

-- A good kind is one of document 01's.
pub good-kind : (names k v kids : ℕ) → T (good_kind names k v kids) → k < 27
unfolding good_kind
good-kind names k v kids t = go (ltb k 27) refl
  where
    go : (b : Bool) → ltb k 27 ≡ b → k < 27
    go true e = ltb-true k 27 e
    go false e =
        let h : 27 ≤ k = ltb-false k 27 e in
        absurd (rw (le-ltb k 18 (omega arith), ne_eqb k 18 (omega arith), le-ltb k 21 (omega arith), ne_eqb k 23 (omega arith), ne_eqb k 25 (omega arith), e) at t)

-- What it is for a function to fit.
record Func (a : ℕ) (ms : List FuncMode) (kids : ℕ) : Type 0 where
  held : a ≤ kids
  narrow : a < 65536
  few : length ms ≤ 8

func-is : (names a : ℕ) (ms : List FuncMode) (kids : ℕ) → T (kind_fits names (FuncT a ms) kids) → Func a ms kids
unfolding kind_fits
func-is names a ms kids t =
    let h = both₃ (leb a kids) (ltb a 65536) (leb (length ms) 8) t in
    record { held = leb→le a kids h.0; narrow = ltb→lt a 65536 h.1; few = leb→le (length ms) 8 h.2 }

func-fits : (names a : ℕ) (ms : List FuncMode) (kids : ℕ) → Func a ms kids → T (kind_fits names (FuncT a ms) kids)
unfolding kind_fits
func-fits names a ms kids f =
    join₃ (leb a kids) (ltb a 65536) (leb (length ms) 8) (le→leb a kids f.held) (lt→ltb a 65536 f.narrow) (le→leb (length ms) 8 f.few)

no-value : (v : ℕ) (b : Bool) → T (eqb v 0 && b) → (0 ≡ v) × T b
no-value v b t = let h = both (eqb v 0) b t in (sym (eqb→eq v 0 h.0), h.1)

-- The value and the number of children, where the kind is in the table.
kind-value : (names v kids : ℕ) (κ : Kind) → kind_of (kind_number κ) v ≡ κ → T (good_kind names (kind_number κ) v kids) →
    (value_number κ ≡ v) × T (kind_fits names κ kids)
unfolding good_kind kind_of kinds kind_number value_number kind_fits
kind-value names v kids (PrimT p) e t = no-value v (eqb kids 0) (rw (good-leaf names v kids p) at t)
kind-value names v kids (VarT n) e t = let z : n ≡ v = cc in (z, rw z t)
kind-value names v kids OptT e t = no-value v (eqb kids 1) t
kind-value names v kids VecT e t = no-value v (eqb kids 1) t
kind-value names v kids RecordT e t = (sym (eqb→eq v 0 t), tt)
kind-value names v kids VariantT e t = (sym (eqb→eq v 0 t), tt)
kind-value names v kids (FuncT a ms) e t =
    let x : a ≡ v % 65536 = cc in
    let y : ms ≡ modes_of 8 (v / 65536) = cc in
    let h = both (leb (v % 65536) kids) (good_modes 8 (v / 65536)) t in
    let m : modes_number ms ≡ v / 65536 = ap modes_number y ∙ modes-write 8 (v / 65536) h.1 in
    let l = leb→le (v % 65536) kids h.0 in
    let f : length ms ≤ 8 = rw y (modes-few 8 (v / 65536)) in
    (omega arith, func-fits names a ms kids (omega arith))
kind-value names v kids ServT e t = (sym (eqb→eq v 0 t), tt)
kind-value names v kids ClassT e t = no-value v (leb 1 kids) t
kind-value names v kids InitT e t = (sym (eqb→eq v 0 t), tt)

-- A good kind, value and number of children are those of a kind that fits.
pub record KindWrites (names k v kids : ℕ) : Type 0 where
  pub kind : kind_number (kind_of k v) ≡ k
  pub value : value_number (kind_of k v) ≡ v
  pub fits : T (kind_fits names (kind_of k v) kids)

pub kind-write : (names k v kids : ℕ) → T (good_kind names k v kids) → KindWrites names k v kids
kind-write names k v kids t =
    let n : kind_number (kind_of k v) ≡ k = kind-number k v (good-kind names k v kids t) in
    let h = kind-value names v kids (kind_of k v) (ap (λ (j : ℕ). kind_of j v) n) (rw n t) in
    record { kind = n; value = h.0; fits = h.1 }

-- A kind that fits is good, and read back.
pub record KindReads (names : ℕ) (κ : Kind) (kids : ℕ) : Type 0 where
  pub good : T (good_kind names (kind_number κ) (value_number κ) kids)
  pub same : kind_of (kind_number κ) (value_number κ) ≡ κ

pub kind-read : (names : ℕ) (κ : Kind) (kids : ℕ) → T (kind_fits names κ kids) → KindReads names κ kids
unfolding good_kind kind_of kinds kind_number value_number kind_fits
kind-read names (PrimT p) kids t = record { good = rw (good-leaf names 0 kids p) t; same = (leaf p 0).0 }
kind-read names (VarT n) kids t = record { good = t; same = refl }
kind-read names OptT kids t = record { good = t; same = refl }
kind-read names VecT kids t = record { good = t; same = refl }
kind-read names RecordT kids t = record { good = tt; same = refl }
kind-read names VariantT kids t = record { good = tt; same = refl }
kind-read names (FuncT a ms) kids t =
    let f = func-is names a ms kids t in
    let low : (a + 65536 * modes_number ms) % 65536 ≡ a = omega arith in
    let high : (a + 65536 * modes_number ms) / 65536 ≡ modes_number ms = omega arith in
    record {
      good = rw (low, high) (join (leb a kids) _ (le→leb a kids f.held) (modes-good 8 ms f.few));
      same = rw (low, high) (ap (FuncT a) (modes-read 8 ms f.few));
    }
kind-read names ServT kids t = record { good = tt; same = refl }
kind-read names ClassT kids t = record { good = t; same = refl }
kind-read names InitT kids t = record { good = tt; same = refl }

pub value-small : (names : ℕ) (κ : Kind) (kids : ℕ) → T (kind_fits names κ kids) → names ≤ 1024 → value_number κ < 4294967296
unfolding value_number kind_fits
value-small names (PrimT p) kids t h = lit< tt
value-small names (VarT n) kids t h = omega (arith, ltb→lt n names (both (ltb n names) (eqb kids 0) t).0)
value-small names OptT kids t h = lit< tt
value-small names VecT kids t h = lit< tt
value-small names RecordT kids t h = lit< tt
value-small names VariantT kids t h = lit< tt
value-small names (FuncT a ms) kids t h =
    let f = func-is names a ms kids t in omega (arith, modes-small ms f.few)
value-small names ServT kids t h = lit< tt
value-small names ClassT kids t h = lit< tt
value-small names InitT kids t h = lit< tt

-- ---- Places

-- What a kind's number tells.
record Told (κ : Kind) : Type 0 where
  small : kind_number κ < 27
  below : below_kind (kind_number κ) ≡ place_below κ
  init : not_init κ ≡ not (eqb (kind_number κ) 26)

told : (κ : Kind) → Told κ
unfolding below_kind kind_number place_below not_init
told (PrimT p) =
    let h = prim-small p in
    let k = prim_number p in
    record {
      small = omega arith;
      below = rw (ne_eqb k 21 (omega arith), ne_eqb k 22 (omega arith), ne_eqb k 24 (omega arith));
      init = rw (ne_eqb k 26 (omega arith));
    }
told (VarT n) = record { small = lit< tt; below = refl; init = refl }
told OptT = record { small = lit< tt; below = refl; init = refl }
told VecT = record { small = lit< tt; below = refl; init = refl }
told RecordT = record { small = lit< tt; below = refl; init = refl }
told VariantT = record { small = lit< tt; below = refl; init = refl }
told (FuncT a ms) = record { small = lit< tt; below = refl; init = refl }
told ServT = record { small = lit< tt; below = refl; init = refl }
told ClassT = record { small = lit< tt; below = refl; init = refl }
told InitT = record { small = lit< tt; below = refl; init = refl }

pub kind-small : (κ : Kind) → kind_number κ < 27
kind-small κ = (told κ).small

pub below-kind : (κ : Kind) → below_kind (kind_number κ) ≡ place_below κ
below-kind κ = (told κ).below

pub not-init : (κ : Kind) → not_init κ ≡ not (eqb (kind_number κ) 26)
not-init κ = (told κ).init

pub place-below : (k v : ℕ) → k < 27 → place_below (kind_of k v) ≡ below_kind k
place-below k v h = sym (below-kind (kind_of k v)) ∙ ap below_kind (kind-number k v h)

pub place-allowed : (p : Place) (κ : Kind) → good_place p (kind_number κ) ≡ kind_allowed p κ
unfolding good_place kind_allowed
place-allowed Root κ = refl
place-allowed Field κ = sym (not-init κ)
place-allowed Method κ = sym (not-init κ)
place-allowed Inner κ = sym (not-init κ)

-- ---- Labels

-- A good label kind and label are those of a label that fits.
pub record LabelWrites (names : ℕ) (p : Place) (k l : ℕ) : Type 0 where
  pub kind : label_kind (label_of k l) ≡ k
  pub value : label_value (label_of k l) ≡ l
  pub fits : T (label_fits names p (label_of k l))

-- By the label x that they are of.
label-is : (names : ℕ) (p : Place) (k l : ℕ) (x : Labelled) → T (eqb k (label_kind x)) → label_of (label_kind x) l ≡ x → label_value x ≡ l →
    T (label_fits names p x) → LabelWrites names p k l
label-is names p k l x c e v t =
    let z : k ≡ label_kind x = eqb→eq k (label_kind x) c in
    let y : label_of k l ≡ x = ap (λ (j : ℕ). label_of j l) z ∙ e in
    record { kind = ap label_kind y ∙ sym z; value = ap label_value y ∙ v; fits = rw y t }

no-label : (names : ℕ) (p : Place) (k l : ℕ) → T (eqb k 0 && eqb l 0) → T (label_fits names p unlabelled) → LabelWrites names p k l
unfolding label_of label_kind label_value
no-label names p k l t f = let g = both (eqb k 0) (eqb l 0) t in label-is names p k l unlabelled g.0 refl (sym (eqb→eq l 0 g.1)) f

pub label-write : (names : ℕ) (p : Place) (k l : ℕ) → T (good_label names p k l) → l < 4294967296 → LabelWrites names p k l
unfolding good_label label_of label_kind label_value label_fits
label-write names Root k l t h = no-label names Root k l t tt
label-write names Field k l t h = go (eqb k 2) refl (eqb k 1) refl t
  where
    go : (b : Bool) → eqb k 2 ≡ b → (c : Bool) → eqb k 1 ≡ c → T (cond b (ltb l names) (c || eqb k 3)) → LabelWrites names Field k l
    go true e c f x = label-is names Field k l (labelled (Named l)) (of-true (eqb k 2) e) refl refl x
    go false e true f x = label-is names Field k l (labelled (Id l)) (of-true (eqb k 1) f) refl refl (lt→ltb l 4294967296 h)
    go false e false f x = label-is names Field k l (labelled (Unnamed l)) x refl refl (lt→ltb l 4294967296 h)
label-write names Method k l t h =
    let g = both (eqb k 2) (ltb l names) t in label-is names Method k l (labelled (Named l)) g.0 refl refl g.1
label-write names Inner k l t h = no-label names Inner k l t tt

-- A label that fits is good, read back, and takes 32 bits.
pub record LabelReads (names : ℕ) (p : Place) (x : Labelled) : Type 0 where
  pub good : T (good_label names p (label_kind x) (label_value x))
  pub same : label_of (label_kind x) (label_value x) ≡ x
  pub small : names ≤ 1024 → label_value x < 4294967296

pub label-read : (names : ℕ) (p : Place) (x : Labelled) → T (label_fits names p x) → LabelReads names p x
unfolding good_label label_of label_kind label_value label_fits
label-read names Root unlabelled t = record { good = tt; same = refl; small = λ h. lit< tt }
label-read names Root (labelled l) t = absurd t
label-read names Inner unlabelled t = record { good = tt; same = refl; small = λ h. lit< tt }
label-read names Inner (labelled l) t = absurd t
label-read names Field unlabelled t = absurd t
label-read names Field (labelled (Id n)) t = record { good = tt; same = refl; small = λ h. ltb→lt n 4294967296 t }
label-read names Field (labelled (Named n)) t = record { good = t; same = refl; small = λ h. omega (arith, ltb→lt n names t) }
label-read names Field (labelled (Unnamed n)) t = record { good = tt; same = refl; small = λ h. ltb→lt n 4294967296 t }
label-read names Method unlabelled t = absurd t
label-read names Method (labelled (Id n)) t = absurd t
label-read names Method (labelled (Named n)) t = record { good = t; same = refl; small = λ h. omega (arith, ltb→lt n names t) }
label-read names Method (labelled (Unnamed n)) t = absurd t

-- ---- Rows

row-rules : (names : ℕ) (p : Place) (r : Row) (kids : ℕ) → T (good_row names p r kids) →
    T (good_kind names r.kind r.value kids) × T (good_place p r.kind) × T (good_label names p r.lkind r.label)
unfolding good_row
row-rules names p r kids t = both₃ (good_kind names r.kind r.value kids) (good_place p r.kind) (good_label names p r.lkind r.label) t

pub row-kind : (names : ℕ) (p : Place) (r : Row) (kids : ℕ) → T (good_row names p r kids) → r.kind < 27
row-kind names p r kids t = good-kind names r.kind r.value kids (row-rules names p r kids t).0

-- A good row is the one of its node, which fits.
pub record RowWrites (names : ℕ) (p : Place) (r : Row) (kids : ℕ) : Type 0 where
  pub same : row_of (node_of r) r.size ≡ r
  pub fits : T (node_fits names p (node_of r) kids)

pub row-write : (names : ℕ) (p : Place) (r : Row) (kids : ℕ) → T (good_row names p r kids) → r.label < 4294967296 → RowWrites names p r kids
unfolding row_of node_of node_fits
row-write names p r kids t h =
    let g = row-rules names p r kids t in
    let κ = kind_of r.kind r.value in
    let x = label_of r.lkind r.label in
    let k = kind-write names r.kind r.value kids g.0 in
    let l = label-write names p r.lkind r.label g.2 h in
    let a : T (kind_allowed p κ) = subst T (ap (good_place p) (sym k.kind) ∙ place-allowed p κ) g.1 in
    record {
      same = λ i. record { kind = k.kind i; lkind = l.kind i; size = r.size; value = k.value i; label = l.value i };
      fits = join₃ (kind_fits names κ kids) (kind_allowed p κ) (label_fits names p x) k.fits a l.fits;
    }

-- A node that fits has a good row, from which it is read back; the row's value and label take 32 bits.
pub record RowReads (names : ℕ) (p : Place) (n : Node) (size kids : ℕ) : Type 0 where
  pub good : T (good_row names p (row_of n size) kids)
  pub same : node_of (row_of n size) ≡ n
  pub value : names ≤ 1024 → (row_of n size).value < 4294967296
  pub label : names ≤ 1024 → (row_of n size).label < 4294967296

pub row-read : (names : ℕ) (p : Place) (n : Node) (size kids : ℕ) → T (node_fits names p n kids) → RowReads names p n size kids
unfolding row_of node_of node_fits good_row
row-read names p n size kids t =
    let κ = n.kind in
    let x = n.label in
    let f = both₃ (kind_fits names κ kids) (kind_allowed p κ) (label_fits names p x) t in
    let k = kind-read names κ kids f.0 in
    let l = label-read names p x f.2 in
    let a : T (good_place p (kind_number κ)) = subst T (sym (place-allowed p κ)) f.1 in
    record {
      good =
          join₃ (good_kind names (kind_number κ) (value_number κ) kids) (good_place p (kind_number κ)) (good_label names p (label_kind x) (label_value x))
          k.good a l.good;
      same = λ i. record { kind = k.same i; label = l.same i };
      value = value-small names κ kids f.0;
      label = l.small;
    }

-- ---- Forests

-- A row's label takes 32 bits.
abbrev pub LabelSmall : Row → Type 0
LabelSmall r = r.label < 4294967296

-- A good forest of rows is the one of its nodes, which fit.
pub record ForestWrites (names : ℕ) (p : Place) (f : Forest Row) : Type 0 where
  pub same : sized (map_forest node_of f) ≡ f
  pub fits : T (forest_fits names p (map_forest node_of f))

pub forest-write : (names : ℕ) (p : Place) (f : Forest Row) → Sized f → All LabelSmall (preorder f) → T (good_forest names p f) → ForestWrites names p f
unfolding sized map_forest forest_fits good_forest preorder node_of
forest-write names p end s l t = record { same = refl; fits = tt }
forest-write names p (tree r k n) s l t =
    let g = both₃ (good_row names p r (breadth k)) (good_forest names (below_kind r.kind) k) (good_forest names p n) t in
    let h = all-parts LabelSmall (preorder k) (preorder n) l.1 in
    let w = row-write names p r (breadth k) g.0 l.0 in
    let wk = forest-write names (below_kind r.kind) k s.1 h.0 g.1 in
    let wn = forest-write names p n s.2 h.1 g.2 in
    let c : suc (count (map_forest node_of k)) ≡ r.size = ap suc (count-map node_of k) ∙ sym s.0 in
    let row : row_of (node_of r) (suc (count (map_forest node_of k))) ≡ r = ap (row_of (node_of r)) c ∙ w.same in
    record {
      same = λ i. tree (row i) (wk.same i) (wn.same i);
      fits =
          rw (breadth-map node_of k, place-below r.kind r.value (row-kind names p r (breadth k) g.0))
          (join₃ (node_fits names p (node_of r) (breadth k)) (forest_fits names (below_kind r.kind) (map_forest node_of k)) (forest_fits names p (map_forest node_of n))
          w.fits wk.fits wn.fits);
    }

-- A forest of nodes that fit has good rows, from which it is read back; their fields are small where the forest is.
pub record ForestReads (names : ℕ) (p : Place) (f : Forest Node) : Type 0 where
  pub good : T (good_forest names p (sized f))
  pub same : map_forest node_of (sized f) ≡ f
  pub small : names ≤ 1024 → count f < 65536 → All RowGood (preorder (sized f))

pub forest-read : (names : ℕ) (p : Place) (f : Forest Node) → T (forest_fits names p f) → ForestReads names p f
unfolding sized map_forest forest_fits good_forest preorder count row_of
forest-read names p end t = record { good = tt; same = refl; small = λ h c. tt }
forest-read names p (tree n k m) t =
    let g = both₃ (node_fits names p n (breadth k)) (forest_fits names (place_below n.kind) k) (forest_fits names p m) t in
    let w = row-read names p n (suc (count k)) (breadth k) g.0 in
    let wk = forest-read names (place_below n.kind) k g.1 in
    let wm = forest-read names p m g.2 in
    record {
      good =
          rw (breadth-sized k, below-kind n.kind)
          (join₃ (good_row names p (row_of n (suc (count k))) (breadth k)) (good_forest names (place_below n.kind) (sized k)) (good_forest names p (sized m))
          w.good wk.good wm.good);
      same = λ i. tree (w.same i) (wk.same i) (wm.same i);
      small =
          λ h c. (
            record { size = omega arith; value = w.value h; label = w.label h },
            all-append RowGood (preorder (sized k)) (preorder (sized m)) (wk.small h (omega arith)) (wm.small h (omega arith)),
          );
    }

-- ---- The rows of trees that fit, each by itself

label-small : (x : Labelled) → label_kind x < 4
unfolding label_kind
label-small unlabelled = lit< tt
label-small (labelled (Id n)) = lit< tt
label-small (labelled (Named n)) = lit< tt
label-small (labelled (Unnamed n)) = lit< tt

var-named : (names v kids : ℕ) → T (good_kind names 18 v kids) → v < names
unfolding good_kind
var-named names v kids t = ltb→lt v names (both (ltb v names) (eqb kids 0) t).0

label-named : (names : ℕ) (p : Place) (l : ℕ) → T (good_label names p 2 l) → l < names
unfolding good_label
label-named names Root l t = absurd t
label-named names Field l t = ltb→lt l names t
label-named names Method l t = ltb→lt l names t
label-named names Inner l t = absurd t

row-fits : (names : ℕ) (p : Place) (n : Node) (size kids : ℕ) → T (node_fits names p n kids) → RowFits names (row_of n size)
unfolding row_of
row-fits names p n size kids t =
    let w = row-read names p n size kids t in
    let r = row_of n size in
    let g = row-rules names p r kids w.good in
    record {
      kind = kind-small n.kind;
      lkind = label-small n.label;
      name = λ e. var-named names r.value kids (subst (λ (k : ℕ). T (good_kind names k r.value kids)) e g.0);
      label = λ e. label-named names p r.label (subst (λ (k : ℕ). T (good_label names p k r.label)) e g.2);
      same = ap (λ (m : Node). row_of m size) w.same;
    }

pub rows-fit : (names : ℕ) (p : Place) (f : Forest Node) → T (forest_fits names p f) → All (RowFits names) (preorder (sized f))
unfolding sized preorder forest_fits
rows-fit names p end t = tt
rows-fit names p (tree n k m) t =
    let g = both₃ (node_fits names p n (breadth k)) (forest_fits names (place_below n.kind) k) (forest_fits names p m) t in (
      row-fits names p n (suc (count k)) (breadth k) g.0,
      all-append (RowFits names) (preorder (sized k)) (preorder (sized m)) (rows-fit names (place_below n.kind) k g.1) (rows-fit names p m g.2),
    )

-- ---- Roots: which are of kind 26

pub init-kind : (κ : Kind) → eqb (kind_number κ) 26 ≡ not (not_init κ)
init-kind κ = sym (not-not (eqb (kind_number κ) 26)) ∙ ap not (sym (not-init κ))

pub init-row : (r : Row) → r.kind < 27 → not (not_init (node_of r).kind) ≡ eqb r.kind 26
unfolding node_of
init-row r h = sym (init-kind (kind_of r.kind r.value)) ∙ ap (λ (j : ℕ). eqb j 26) (kind-number r.kind r.value h)
