-- How many values a name's definition has: the count that runs says so, for any definitions; and the question, what is given, and what is refused.
-- Assumes of a book that it fits, where that is said; one that was read from bytes does.
--     type-values-size, name-values-size  the number of each type, and of each name, is right
--     size-counts, counts-unique, ..      what a count says of it; there is one count, and of each type there is one
--     values-counts, values-exact         what is given counts the values of the name's definition, and it tells which number it is
--     values-none                         it is 0 exactly if emptiness names it
--     values-given, values-says, ..       the question on a book that passes
--     values-in-row, values-numbers       a refusal lies in its row; the rows that there are
--     values-bytes-in-row, ..             all on bytes
use mathlib.Core.Path.{◌≡◌, refl, sym, ap, subst, ◌∙◌}
use mathlib.Core.Logic.{◌↔◌, ◌⊎◌, inl, inr}
use mathlib.Core.Bool.{Bool, true, false, cond}
use mathlib.Core.List.{List, ◌++◌, map, Memᴰ}
use Prim.Native.Nat.{ℕ, ◌≤◌, ◌<◌}
use native.Mathlib.Omega.{arith}
use lib.Dec.{T, leb}
use lib.ListN.{length}
use Rattle.refusals.specs.declared.Refusal.{Refusal}
use Rattle.refusals.specs.declared.Refusal.TheVariants.{Unbound}
use Rattle.refusals.specs.declared.Count.{Count}
use Rattle.refusals.specs.declared.Count.TheVariants.{Exactly, Many}
use Rattle.refusals.specs.Verdict.{passes}
use Rattle.refusals.specs.Refusal.{number_of}
use Rattle.refusals.specs.Outcome.{Outcome, refused, given, asked}
use Rattle.refusals.proofs.Outcomes.{given-refused, same-given, same-refusal, after-passed, after-given, after-stops}
use Rattle.format.specs.Forest.{Forest, end, tree}
use Rattle.format.specs.Node.{prim_number, Kind, VarT, Node}
use Rattle.format.specs.Book.{Definition, Book}
use Rattle.format.specs.Fits.{every, Fits}
use Rattle.format.specs.Admission.{admitted, on_bytes, admission_rows, InRow, Source}
use Rattle.format.proofs.Admission.{asked-in-row, row-numbers}
use Rattle.format.proofs.Logic.{clash, le-says}
use Rattle.judgement.specs.Environment.{Found, missing, body, find_type, main_definitions}
use Rattle.judgement.specs.WellFormed.{defined_name, Defined}
use Rattle.judgement.specs.Check.{member, check}
use Rattle.judgement.proofs.Lookup.{listed-or-not, find-defined, missing-find, found-says}
use Rattle.judgement.proofs.Rows.{check-numbers}
use Rattle.listing.specs.Uses.{kept}
use Rattle.listing.specs.Room.{AfterCheck}
use Rattle.listing.specs.Empty.{Fills, one_true, prim_fills, kind_fills, each_fills, found_fills, rounds, empty_names}
use Rattle.listing.specs.Values.{Value, Has, HasName, Number, Endless, Counts, prim_size, capped, size_values, sum, product, first_of, kind_values, each_values, found_values, values_within, name_values, count_of, count_found, values, ValuesRow, values_rows, checked, unbound}
use Rattle.listing.proofs.Room.{after-check}
use Rattle.listing.proofs.Filling.{name-fills}
use Rattle.listing.proofs.Empty.{empty_names-exact}
use Rattle.listing.proofs.Numbers.{number-none, number-zero, number-same, number-unique}
use Rattle.listing.proofs.Sizes.{Claim, Size, definition, fills-has, has-fills, small-or-large, kind-onward, kind-most}
use Rattle.listing.proofs.Endless.{Onward, endless}
use Rattle.listing.proofs.Counting.{either, values-fill, each-of, type-right, name-fixed, names-right, names-most, names-filled}

-- ---- What the count says is so
module _ (ds : List Definition) where
  abbrev number : Kind → Forest Node → ℕ
  number k kids = kind_values (name_values ds) k (each_values (name_values ds) kids)

  -- What is left over goes on to what is left over, without end.
  abbrev Left : Kind → Forest Node → Type 0
  Left k kids = Fills ds k kids × (4294967295 < number k kids)

  left-onward : (k : Kind) (kids : Forest Node) → Left k kids → Onward ds Left k kids
  unfolding kind_values found_values
  left-onward (VarT m) kids s =
      go (member m (rounds ds (length ds))) (find_type ds m) refl (rw (← name-fixed ds m) s.1)
    where
      go : (b : Bool) (f : Found) → find_type ds m ≡ f → 4294967295 < cond b (found_values (name_values ds) f) 0 → Onward ds Left (VarT m) kids
      go false f e x = let z : ⊥ = omega arith in absurd z
      go true missing e x = let z : ⊥ = omega arith in absurd z
      go true (body end) e x = let z : ⊥ = omega arith in absurd z
      go true (body (tree t lids next)) e x = (s.0, inr (t.kind, lids, definition e, ((name-fills ds kids e).0 s.0, x)))
  left-onward k kids s = (
    s.0,
    elim (kind-onward {R = λ k kids n. n ≡ number k kids} (name_values ds) (λ m e. clash cc) (each-of ds (name_values ds) both kids) s.1) [
      | inl more ↦ inl more
      | inr p ↦ inr (p.0, p.1, p.3, part p.4 p.5)
    ],
  )
    where
      both : (k : Kind) (kids : Forest Node) → Claim (Has ds k kids) (number k kids) × (number k kids ≡ number k kids)
      both k kids = (type-right ds (name_values ds) (names-right ds) k kids, refl)

      part : {k : Kind} {kids : Forest Node} {n : ℕ} → 4294967295 < n → n ≡ number k kids → Left k kids
      part {k} {kids} h e = (values-fill ds (name_values ds) (names-filled ds) k kids (omega (arith, h, e)), omega (arith, h, e))

  -- So each type's number is right,
  pub type-values-size : (k : Kind) (kids : Forest Node) → Size (Has ds k kids) (number k kids)
  type-values-size k kids =
      record {
        exact = type-right ds (name_values ds) (names-right ds) k kids;
        many = λ h. endless ds Left left-onward k kids (values-fill ds (name_values ds) (names-filled ds) k kids (omega (arith, h)), h);
        most = kind-most (name_values ds) k (each_values (name_values ds) kids) (λ m e. names-most ds m);
      }

  -- and each name's.
  pub name-values-size : (m : ℕ) → Size (HasName ds m) (name_values ds m)
  unfolding kind_values
  name-values-size m = type-values-size (VarT m) end

-- ---- A count
module _ {P : Value → Type 0} where
  -- A size is what the count of it says.
  pub size-counts : {n : ℕ} → Size P n → Counts P (count_of n)
  unfolding count_of
  size-counts {n} x =
      either (Counts P) (leb n 4294967295) (λ t. let h = (le-says n 4294967295).0 t in (h, x.exact h))
      (λ no l few just. omega (arith, few, x.many (above no (small-or-large n)) l just.1))
    where
      above : (T (leb n 4294967295) → ⊥) → (n ≤ 4294967295) ⊎ (4294967295 < n) → 4294967295 < n
      above small (inl h) = absurd (small ((le-says n 4294967295).1 h))
      above small (inr h) = h

  -- A number and no end are never both: there is one count.
  pub never-both : {n : ℕ} → n ≤ 4294967295 → Number P n → Endless P → ⊥
  never-both h x e = e x.values (omega (arith, x.so_many)) x.just

pub counts-unique : (P : Value → Type 0) (c d : Count) → Counts P c → Counts P d → c ≡ d
counts-unique P (Exactly m) (Exactly n) x y = ap Exactly (number-unique x.1 y.1)
counts-unique P (Exactly m) Many x y = absurd (never-both x.0 x.1 y)
counts-unique P Many (Exactly n) x y = absurd (never-both y.0 y.1 x)
counts-unique P Many Many x y = refl

-- What holds of the same values has the same count.
pub counts-same : {P Q : Value → Type 0} → ((v : Value) → P v ↔ Q v) → (c : Count) → Counts P c → Counts Q c
counts-same same (Exactly n) x = (x.0, number-same same x.1)
counts-same same Many x = λ l few just. x l few (λ v i. (same v).1 (just.0 v i), λ v p. just.1 v ((same v).0 p))

-- Of each type there is one.
pub always-counts : (ds : List Definition) (k : Kind) (kids : Forest Node) → (c : Count) × Counts (Has ds k kids) c
always-counts ds k kids = (count_of (number ds k kids), size-counts (type-values-size ds k kids))

-- ---- The question on a book
module _ (b : Book) (n : ℕ) where
  abbrev ds : List Definition
  ds = main_definitions b

  found-counts : (f : Found) {c : Count} → count_found ds n f ≡ given c → (f ≡ missing → ⊥) × Counts (HasName ds n) c
  unfolding count_found
  found-counts missing e = given-refused e
  found-counts (body t) e = (λ f. clash cc, subst (Counts (HasName ds n)) (same-given e) (size-counts (name-values-size ds n)))

  -- What is given counts the values of a name that has a definition.
  pub values-counts : {c : Count} → values b n ≡ given c → Defined ds n × Counts (HasName ds n) c
  unfolding values
  values-counts e =
      let p = after-given (check b) _ e in
      let q = found-counts (find_type ds n) p.1 in
      ((found-says ds n).0 q.0, q.1)

  pub values-exact : {c : Count} → values b n ≡ given c →
      ((k : ℕ) → (c ≡ Exactly k) ↔ ((k ≤ 4294967295) × Number (HasName ds n) k)) × ((c ≡ Many) ↔ Endless (HasName ds n))
  values-exact {c} e =
      let x = (values-counts e).1 in (
        λ k. (λ f. subst (Counts (HasName ds n)) f x, λ y. counts-unique (HasName ds n) c (Exactly k) x y),
        (λ f. subst (Counts (HasName ds n)) f x, λ y. counts-unique (HasName ds n) c Many x y),
      )

  -- 0 exactly if emptiness names it.
  pub values-none : Fits b → {c : Count} → values b n ≡ given c → (c ≡ Exactly 0) ↔ Memᴰ n (empty_names b)
  values-none fits {c} e =
      let x = (values-exact e).0 0 in
      let m = empty_names-exact b fits n in (
        λ f. m.1 (record { defined = (values-counts e).0; unfilled = λ y. let v = fills-has y in number-zero (x.0 f).1 v.0 v.1 }),
        λ i. x.1 (omega arith, number-none (λ v y. (m.0 i).unfilled (has-fills y))),
      )

  module _ (passed : check b ≡ passes) where
    is-asked : values b n ≡ count_found ds n (find_type ds n)
    unfolding values
    is-asked = after-passed (check b) _ passed

    -- Never refused where the name has a definition.
    pub values-given : Defined ds n → (c : Count) × (values b n ≡ given c) × Counts (HasName ds n) c
    unfolding count_found
    values-given i =
        let d = find-defined ds n i in
        (count_of (name_values ds n), is-asked ∙ ap (count_found ds n) d.1, size-counts (name-values-size ds n))

    pub values-unbound : (values b n ≡ refused (Unbound n)) ↔ (Defined ds n → ⊥)
    unfolding count_found
    values-unbound = (λ e i. given-refused (sym e ∙ (values-given i).1), λ h. is-asked ∙ ap (count_found ds n) (missing-find ds n h))

    -- What is given is the count of its values.
    pub values-says : (c : Count) → (values b n ≡ given c) ↔ (Defined ds n × Counts (HasName ds n) c)
    values-says c = (λ e. values-counts e, λ x. let g = values-given x.0 in g.1 ∙ ap given (counts-unique (HasName ds n) g.0 c g.2 x.1))

-- ---- The check comes first
pub values-after : (n : ℕ) → AfterCheck (λ b. values b n)
unfolding values
values-after n b r e = after-stops (check b) _ e

-- ---- What is refused
pub values-in-row : (b : Book) → Fits b → (n : ℕ) {r : Refusal} → values b n ≡ refused r → ValuesRow b n r
unfolding values
values-in-row b fits n {r} e =
    after-check b fits _ (ValuesRow b n) (λ r. checked) (λ passed.
    elim (listed-or-not n (map defined_name (main_definitions b))) [
      | inl i ↦ given-refused (sym e ∙ (values-given b n passed i).1)
      | inr h ↦ subst (ValuesRow b n) (same-refusal (sym ((values-unbound b n passed).1 h) ∙ e)) (unbound (passed, h))
    ]) e

-- The rows that there are.
pub values-numbers : {b : Book} {n : ℕ} {r : Refusal} → ValuesRow b n r → Memᴰ (number_of r) values_rows
values-numbers {b} (checked {r = r} x) = check-numbers b r x
values-numbers (unbound x) = Memᴰ.tail (Memᴰ.head refl)

-- ---- On bytes
module _ (bs : Source) (n : ℕ) {r : Refusal} (e : on_bytes (λ b. values b n) bs ≡ refused r) where
  pub values-bytes-in-row : InRow bs (λ b. ValuesRow b n) r
  values-bytes-in-row = asked-in-row bs (λ b. values b n) (λ b. ValuesRow b n) (λ b fits. values-in-row b fits n) e

  pub values-bytes-numbers : Memᴰ (number_of r) (admission_rows ++ values_rows)
  values-bytes-numbers = row-numbers bs (λ b. ValuesRow b n) values_rows r (λ b. values-numbers) values-bytes-in-row

-- What is given counts the values that the name has in the book that was read.
pub values-bytes-counts : (bs : Source) (n : ℕ) {c : Count} → on_bytes (λ b. values b n) bs ≡ given c →
    (b : Book) × (admitted bs ≡ given b) × Defined (main_definitions b) n × Counts (HasName (main_definitions b) n) c
unfolding asked
values-bytes-counts bs n {c} = go (admitted bs) refl
  where
    go : (o : Outcome Book) → admitted bs ≡ o → asked (λ b. values b n) o ≡ given c →
        (b : Book) × (admitted bs ≡ given b) × Defined (main_definitions b) n × Counts (HasName (main_definitions b) n) c
    go (refused r) w e = given-refused e
    go (given b) w e = let x = values-counts b n e in (b, w, x.0, x.1)

-- ---- What the question computes by, said once: to unfold this is to unfold all that its `unfolding` line names
unfoldable pub values-computed : Book → ℕ → Outcome Count
unfolding
    prim_number member every one_true prim_fills kind_fills each_fills found_fills kept rounds prim_size capped size_values sum product first_of
    kind_values each_values found_values values_within name_values count_of count_found values
values-computed = values
