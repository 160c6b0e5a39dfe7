-- How many values a type of each kind has, from how many there are of what they are made of. Assumes nothing.
--     prim-number                one of a primitive type is a number below its size
--     opt-number                 an opt has one more than its content
--     vec-none                   a vec of a type that has none has one
--     fields-none, fields-more   values of each of some types: none of them, and one more
--     cases-none, cases-more     values of one of some types: none of them, and one more
--     no-fields                  where one of the types has none, there are none of each
--     fields-record, ..          those of a record and of a variant
use mathlib.Core.Path.{◌≡◌, refl, sym, ap, ap₂, subst, ◌∙◌}
use mathlib.Core.Logic.{◌↔◌, ◌⊎◌, inl, inr}
use mathlib.Core.List.{List}
use Prim.Native.Nat.{ℕ, suc, ◌+◌, ◌*◌}
use native.Mathlib.Omega.{arith}
use Rattle.format.specs.Forest.{Forest, end, tree}
use Rattle.format.specs.Node.{PrimType, PrimT, OptT, VecT, RecordT, VariantT, Node}
use Rattle.format.specs.Book.{Definition}
use Rattle.format.specs.Occurs.{Beside, first, later}
use Rattle.format.proofs.Logic.{clash}
use Rattle.listing.specs.Values.{Value, atom, absent, present, items, fields, case, no_more, also, Values, prim_size, InSize, Has, of_prim, of_reference, of_absent, of_present, of_items, of_fields, of_case, no_items, item, HasFields, no_fields, field, HasCase, this_case, other_case, Number}
use Rattle.listing.proofs.Numbers.{number-none, number-zero, number-only, number-same, number-image, Image, number-either, number-both}
use native.Mathlib.Numerals.{add-one}

-- ---- Primitive types
module _ {ds : List Definition} where
  prim-has : {p : PrimType} {kids : Forest Node} (v : Value) → Image atom (InSize (prim_size p)) v ↔ Has ds (PrimT p) kids v
  prim-has {p} {kids} v = (λ n. subst (Has ds (PrimT p) kids) n.2 (of_prim n.1), back)
    where
      back : {v : Value} → Has ds (PrimT p) kids v → Image atom (InSize (prim_size p)) v
      back (of_prim {n = n} x) = (n, x, refl)
      back (of_reference r) = elim r [ ]

  pub prim-number : (p : PrimType) {kids : Forest Node} {n : ℕ} → Number (InSize (prim_size p)) n → Number (Has ds (PrimT p) kids) n
  prim-number p x = number-same prim-has (number-image atom (λ m n e. cc) x)

-- ---- Opt and vec

-- Of the first of the types within.
abbrev pub FirstHas : List Definition → Forest Node → Value → Type 0
FirstHas ds end v = ⊥
FirstHas ds (tree t kids next) v = Has ds t.kind kids v

module _ {ds : List Definition} where
  opt-has : (types : Forest Node) (v : Value) → (Image present (FirstHas ds types) v ⊎ (v ≡ absent)) ↔ Has ds OptT types v
  opt-has types v = (there types, back)
    where
      there : (types : Forest Node) → Image present (FirstHas ds types) v ⊎ (v ≡ absent) → Has ds OptT types v
      there types (inr e) = rw e of_absent
      there end (inl w) = absurd w.1
      there (tree t kids next) (inl w) = rw (← w.2) (of_present w.1)

      back : {types : Forest Node} {v : Value} → Has ds OptT types v → Image present (FirstHas ds types) v ⊎ (v ≡ absent)
      back of_absent = inr refl
      back (of_present {v = w} x) = inl (w, x, refl)
      back (of_reference r) = elim r [ ]

  pub opt-number : (types : Forest Node) {n : ℕ} → Number (FirstHas ds types) n → Number (Has ds OptT types) (suc n)
  opt-number types {n} x =
      subst (Number (Has ds OptT types)) (add-one n)
      (number-same (opt-has types)
      (number-either (λ v w e. clash cc) (number-image present (λ v w e. cc) x) (number-only absent refl (λ v e. e))))

  -- A vec of a type that has none has one: no items.
  only-empty : {types : Forest Node} → ((v : Value) → FirstHas ds types v → ⊥) → {w : Value} → Has ds VecT types w → w ≡ items no_more
  only-empty h (of_items no_items) = refl
  only-empty h (of_items (item {v = v} x xs)) = absurd (h v x)
  only-empty h (of_reference r) = elim r [ ]

  pub vec-none : (types : Forest Node) → Number (FirstHas ds types) 0 → Number (Has ds VecT types) 1
  vec-none types x = number-only (items no_more) (of_items no_items) (λ w. only-empty (number-zero x))

-- ---- Records: a value of each type is one of the first and one of each other
abbrev pub pair_of : Value × Values → Values
pair_of p = also p.0 p.1

abbrev pub FieldsOf : List Definition → Node → Forest Node → Forest Node → Value × Values → Type 0
FieldsOf ds t kids next p = Has ds t.kind kids p.0 × HasFields ds next p.1

module _ {ds : List Definition} where
  pub fields-none : Number (HasFields ds end) 1
  fields-none = number-only no_more no_fields (λ vs. no-other)
    where
      no-other : {vs : Values} → HasFields ds end vs → vs ≡ no_more
      no-other no_fields = refl

  module _ {t : Node} {kids next : Forest Node} where
    pub fields-have : (vs : Values) → Image pair_of (FieldsOf ds t kids next) vs ↔ HasFields ds (tree t kids next) vs
    fields-have vs = (λ p. subst (HasFields ds (tree t kids next)) p.2 (field p.1.0 p.1.1), back)
      where
        back : {vs : Values} → HasFields ds (tree t kids next) vs → Image pair_of (FieldsOf ds t kids next) vs
        back (field {v = v} {vs = vs} x xs) = ((v, vs), (x, xs), refl)

    pub fields-more : {m n : ℕ} → Number (Has ds t.kind kids) m → Number (HasFields ds next) n → Number (HasFields ds (tree t kids next)) (m * n)
    fields-more x xs =
        number-same fields-have
        (number-image pair_of (λ p q e. let v : p.0 ≡ q.0 = cc in let vs : p.1 ≡ q.1 = cc in ap₂ (λ v vs. (v, vs)) v vs) (number-both xs x))

  -- Where one has none, there are none.
  pub no-fields : {f : Node} {kids types : Forest Node} → Beside f kids types → ((v : Value) → Has ds f.kind kids v → ⊥) →
      (vs : Values) → HasFields ds types vs → ⊥
  no-fields first h vs (field {v = v} x xs) = h v x
  no-fields (later b) h vs (field {vs = others} x xs) = no-fields b h others xs

  record-has : {types : Forest Node} (v : Value) → Image fields (HasFields ds types) v ↔ Has ds RecordT types v
  record-has {types} v = (λ x. subst (Has ds RecordT types) x.2 (of_fields x.1), back)
    where
      back : {v : Value} → Has ds RecordT types v → Image fields (HasFields ds types) v
      back (of_fields {vs = vs} x) = (vs, x, refl)
      back (of_reference r) = elim r [ ]

  pub fields-record : {types : Forest Node} {n : ℕ} → Number (HasFields ds types) n → Number (Has ds RecordT types) n
  fields-record x = number-same record-has (number-image fields (λ v w e. cc) x)

-- ---- Variants: a value of one of the types, with its place, is one of the first or of another
abbrev pub CaseOf : List Definition → Forest Node → ℕ × Value → Type 0
CaseOf ds types c = HasCase ds types c.0 c.1

abbrev this : Value → ℕ × Value
this v = (0, v)

abbrev after : ℕ × Value → ℕ × Value
after c = (suc c.0, c.1)

abbrev case_of : ℕ × Value → Value
case_of c = case c.0 c.1

same-pair : (c d : ℕ × Value) → c.0 ≡ d.0 → c.1 ≡ d.1 → c ≡ d
same-pair c d i v = ap₂ (λ i v. (i, v)) i v

module _ {ds : List Definition} where
  pub cases-none : Number (CaseOf ds end) 0
  cases-none = number-none (λ c x. elim x [ ])

  module _ {t : Node} {kids next : Forest Node} where
    cases-have : (c : ℕ × Value) → (Image this (Has ds t.kind kids) c ⊎ Image after (CaseOf ds next) c) ↔ CaseOf ds (tree t kids next) c
    cases-have c = (there, back)
      where
        there : Image this (Has ds t.kind kids) c ⊎ Image after (CaseOf ds next) c → CaseOf ds (tree t kids next) c
        there (inl v) = subst (CaseOf ds (tree t kids next)) v.2 (this_case v.1)
        there (inr d) = subst (CaseOf ds (tree t kids next)) d.2 (other_case d.1)

        back : {i : ℕ} {v : Value} → HasCase ds (tree t kids next) i v → Image this (Has ds t.kind kids) (i, v) ⊎ Image after (CaseOf ds next) (i, v)
        back (this_case {v = v} x) = inl (v, x, refl)
        back (other_case {i = j} {v = v} x) = inr ((j, v), x, refl)

    pub cases-more : {m n : ℕ} → Number (Has ds t.kind kids) m → Number (CaseOf ds next) n → Number (CaseOf ds (tree t kids next)) (m + n)
    cases-more x xs =
        number-same cases-have
        (number-either (λ c v d. let e : 0 ≡ suc d.0.0 = ap (λ c. c.0) (v.2 ∙ sym d.2) in omega arith)
        (number-image this (λ v w e. ap (λ c. c.1) e) x)
        (number-image after (λ c d e. let i : suc c.0 ≡ suc d.0 = ap (λ c. c.0) e in same-pair c d (omega arith) (ap (λ c. c.1) e)) xs))

  variant-has : {types : Forest Node} (v : Value) → Image case_of (CaseOf ds types) v ↔ Has ds VariantT types v
  variant-has {types} v = (λ x. subst (Has ds VariantT types) x.2 (of_case x.1), back)
    where
      back : {v : Value} → Has ds VariantT types v → Image case_of (CaseOf ds types) v
      back (of_case {i = i} {v = w} x) = ((i, w), x, refl)
      back (of_reference r) = elim r [ ]

  pub cases-variant : {types : Forest Node} {n : ℕ} → Number (CaseOf ds types) n → Number (Has ds VariantT types) n
  cases-variant x = number-same variant-has (number-image case_of (λ c d e. let i : c.0 ≡ d.0 = cc in let v : c.1 ≡ d.1 = cc in same-pair c d i v) x)
