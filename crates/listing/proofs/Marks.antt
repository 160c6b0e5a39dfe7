-- The marks over a list of names: what is marked, and what is refused. Assumes that each name is defined once and that leaves have no
-- children, as in a book that fits and passes the check; and where it says so, that a walk has listed the names.
--     marked-listed, marked-on-circle,
--     circle-has-marked                   the marks over what a walk lists, and circles of references
--     marks-given, marks-unbound, ..      the question on a book
--     marks-in-row, marks-numbers         a refusal lies in its row; the rows that there are
--     marks-few, marks-most               no more entries than so many
--     marks-bytes-in-row, ..              all on bytes
use mathlib.Core.Path.{◌≡◌, refl, sym, ap, subst, ◌∙◌}
use mathlib.Core.Logic.{◌⊎◌, inl, inr, ⊎_elim, ◌↔◌, ite}
use mathlib.Core.List.Memᴰ
use mathlib.Core.List.{List, [], ◌∷◌, ◌++◌, map, Memᴰ}
use Prim.Native.Nat.{ℕ, suc, ◌+◌, ◌≤◌, ◌<◌}
use native.Mathlib.Nat.{le_refl}
use native.Mathlib.Decide.{ℕ_discrete, dec_le}
use native.Mathlib.Omega.{arith}
use lib.ListN.{length, length-map}
use Rattle.format.specs.Forest.{Forest}
use Rattle.format.specs.Node.{Node}
use Rattle.format.specs.Book.{Definition, Book}
use Rattle.format.specs.Fits.{Fits}
use Rattle.refusals.specs.declared.Refusal.{Refusal}
use Rattle.refusals.specs.declared.Refusal.TheVariants.{Unbound, Short}
use Rattle.std.specs.Prelude.{Err}
use Rattle.refusals.specs.Verdict.{passes}
use Rattle.judgement.specs.Environment.{main_definitions}
use Rattle.judgement.specs.Check.{check}
use Rattle.judgement.specs.WellFormed.{Defined, WellFormedDefinitions, defined_name}
use Rattle.judgement.specs.WellFormed as formed
use Rattle.format.proofs.Distinct.{pigeonhole, ascends-distinct}
use Rattle.judgement.proofs.Books.{main-definitions-fit}
use Rattle.judgement.proofs.Theorems.{check-typed}
use Rattle.judgement.proofs.Rows.{check-numbers}
use Rattle.listing.specs.Recursive.{Marks, marking, unbound, infer_rec, sorted}
use Rattle.refusals.specs.Outcome.{refused, given, after, fit}
use Rattle.listing.specs.Marks.{marked, marks_over, AtPlace, MarkedBy, MarksOver, AllDefined, FirstUnbound, MarksRow, marks_rows, checked, short}
use Rattle.listing.specs.References.{Refers, onward, Way, last, step, Circle}
use Rattle.listing.specs.Demand3.{Earlier, MarkedIn, Marked}
use Rattle.listing.proofs.Leaves.{LeafyBodies, kept-leafy}
use Rattle.listing.proofs.Places.{place, place-in, place-left, place-right, place-seam, earlier-one, earlier-place, place-earlier}
use Rattle.listing.proofs.Chases.{Listed}
use Rattle.format.proofs.Admission.{asked-row, row-numbers}
use Rattle.refusals.specs.Refusal.{number_of}
use Rattle.format.specs.Admission.{on_bytes, admission_rows, InRow, Source}
use Rattle.listing.specs.Chase.{walked}
use Rattle.listing.specs.Room.{EachOnce, ShortRow, AfterCheck, Most}
use Rattle.refusals.proofs.Outcomes.{given-refused, after-given, same-given, same-refusal, after-stops}
use Rattle.listing.proofs.Room.{after-check, fit-row, check-short, fit-most, bytes-most}
use Rattle.listing.proofs.Recursive.{defined-or-first, infer-marks, neither, infer-unbound, place-first, place-later, place-map, sorted-ascends, sorted-says}
use Rattle.listing.specs.Marks as rows
use Rattle.listing.proofs.List.{main-few}

-- ---- Marks by where names stand

-- a listed name, at its first place
first-place : {n : ℕ} (l : List ℕ) → Memᴰ n l → AtPlace l (λ xs u. (u ≡ n) × (Memᴰ n xs → ⊥))
first-place [] i = absurd (Memᴰ.not-nil i)
first-place {n} (u ∷ l) i = look (ℕ_discrete n u) (Memᴰ.cases_cons i) (first-place l)
  where
    look : Dec (n ≡ u) → (n ≡ u) ⊎ Memᴰ n l → (Memᴰ n l → AtPlace l (λ xs v. (v ≡ n) × (Memᴰ n xs → ⊥))) →
        AtPlace (u ∷ l) (λ xs v. (v ≡ n) × (Memᴰ n xs → ⊥))
    look (yes e) c below = place-first (sym e, Memᴰ.not-nil)
    look (no h) (inl e) below = absurd (h e)
    look (no h) (inr j) below = place-later (place-map (λ xs v x. (x.0, neither h x.1)) (below j))

-- two listed names at one place are one
place-same : {m n : ℕ} (l : List ℕ) → Memᴰ m l → Memᴰ n l → place l m ≡ place l n → m ≡ n
unfolding place
place-same [] i j e = absurd (Memᴰ.not-nil i)
place-same {m} {n} (u ∷ l) i j e =
    look (ℕ_discrete m u) (ℕ_discrete n u) (Memᴰ.cases_cons i) (Memᴰ.cases_cons j) e (place-same l)
  where
    look : (d : Dec (m ≡ u)) (c : Dec (n ≡ u)) → (m ≡ u) ⊎ Memᴰ m l → (n ≡ u) ⊎ Memᴰ n l →
        ite d 0 (suc (place l m)) ≡ ite c 0 (suc (place l n)) → (Memᴰ m l → Memᴰ n l → place l m ≡ place l n → m ≡ n) → m ≡ n
    look (yes p) (yes q) i j e below = p ∙ sym q
    look (yes p) (no k) i j e below = absurd (omega arith)
    look (no h) (yes q) i j e below = absurd (omega arith)
    look (no h) (no k) (inl p) j e below = absurd (h p)
    look (no h) (no k) (inr i) (inl q) e below = absurd (k q)
    look (no h) (no k) (inr i) (inr j) e below = below i j (omega arith)

-- A listed name refers to n, and n is not listed before it.
abbrev NotAfter : List Definition → List ℕ → ℕ → Type 0
NotAfter ds l n = (u : ℕ) × Memᴰ u l × Refers ds u n × (place l u ≤ place l n)

marked-not-after : (ds : List Definition) (l : List ℕ) (n : ℕ) → MarkedBy ds l n ↔ NotAfter ds l n
marked-not-after ds l n = (there, back)
  where
    there : MarkedBy ds l n → NotAfter ds l n
    there a =
        let xs = a.before in
        let rest = a.name ∷ a.following in (
          a.name,
          rw a.parts (Memᴰ.append_right xs (Memᴰ.head refl)),
          a.holds.0,
          rw a.parts (omega (arith, place-seam xs a.following a.name, place-right xs rest n a.holds.1)),
        )

    before : (xs ys : List ℕ) (u : ℕ) → l ≡ xs ++ (u ∷ ys) → (Memᴰ u xs → ⊥) → place l u ≤ place l n → Memᴰ n xs → ⊥
    before xs ys u e new h i =
        let k = place-in xs i in
        let p : place l n ≡ place xs n = rw e (place-left xs (u ∷ ys) n k) in
        let q : place l u ≡ length xs + place (u ∷ ys) u = rw e (place-right xs (u ∷ ys) u new) in
        omega arith

    back : NotAfter ds l n → MarkedBy ds l n
    back (u, i, r, h) =
        let a = first-place l i in
        let e = a.holds.0 in
        record {
          before = a.before;
          name = a.name;
          following = a.following;
          parts = a.parts;
          holds = (
            subst (λ (x : ℕ). Refers ds x n) (sym e) r,
            before a.before a.following a.name a.parts (λ j. a.holds.1 (Memᴰ.cast (sym e) j)) (rw (← e) at h),
          );
        }

-- ---- What a walk lists
module _ {ds : List Definition} {start : Forest Node} {seen out : List ℕ} (walked : Listed ds start seen out) where
  -- what a listed name refers to is listed
  pub closed : {u v : ℕ} → Memᴰ u out → Refers ds u v → Memᴰ v out
  closed {u} {v} i r = walked.complete v (onward (walked.sound u i) r)

  -- A name is marked exactly if it is listed and refers to itself or one listed earlier refers to it.
  pub marked-listed : (n : ℕ) → MarkedBy ds out n ↔ MarkedIn ds out n
  marked-listed n = (λ a. there ((marked-not-after ds out n).0 a), λ (i, x). (marked-not-after ds out n).1 (back i x))
    where
      there : NotAfter ds out n → MarkedIn ds out n
      there (u, i, r, h) = (closed i r, look (ℕ_discrete (place out u) (place out n)))
        where
          look : Dec (place out u ≡ place out n) → Refers ds n n ⊎ ((v : ℕ) × Earlier v n out × Refers ds v n)
          look (yes e) = inl (subst (λ (x : ℕ). Refers ds x n) (place-same out i (closed i r) e) r)
          look (no k) = inr (u, place-earlier out i (closed i r) (omega arith), r)

      back : Memᴰ n out → Refers ds n n ⊎ ((u : ℕ) × Earlier u n out × Refers ds u n) → NotAfter ds out n
      back i (inl r) = (n, i, r, le_refl (place out n))
      back i (inr (u, e, r)) = (u, earlier-one e, r, omega (arith, earlier-place walked.once e))

  -- Each marked name lies on a circle of references.
  pub marked-on-circle : (n : ℕ) → MarkedBy ds out n → (l : List ℕ) × Circle ds l × Memᴰ n l
  marked-on-circle n a = look ((marked-not-after ds out n).0 a)
    where
      look : NotAfter ds out n → (l : List ℕ) × Circle ds l × Memᴰ n l
      look (u, i, r, h) = ⊎_elim
          (λ k. absurd (omega arith))
          (λ (l, w). (n ∷ l, record { first = u; way = step r w }, Memᴰ.head refl))
          (walked.order u i n r)

  -- a marked name among l
  abbrev HasMarked : List ℕ → Type 0
  HasMarked l = (m : ℕ) × Memᴰ m l × MarkedBy ds out m

  -- a way comes to a marked name, or it goes back in the list
  way-back : {u w : ℕ} {l : List ℕ} → Way ds u l w → Memᴰ u out → HasMarked l ⊎ (place out w < place out u)
  way-back (last {m = u} {n = n} r) i = look (dec_le (place out u) (place out n))
    where
      look : Dec (place out u ≤ place out n) → HasMarked (n ∷ []) ⊎ (place out n < place out u)
      look (yes h) = inl (n, Memᴰ.head refl, (marked-not-after ds out n).1 (u, i, r, h))
      look (no h) = inr (omega arith)
  way-back (step {m = u} {k = k} {n = w} {l = l} r way) i = look (dec_le (place out u) (place out k)) (way-back way (closed i r))
    where
      look : Dec (place out u ≤ place out k) → HasMarked l ⊎ (place out w < place out k) → HasMarked (k ∷ l) ⊎ (place out w < place out u)
      look (yes h) c = inl (k, Memᴰ.head refl, (marked-not-after ds out k).1 (u, i, r, h))
      look (no h) (inl (m, j, p)) = inl (m, Memᴰ.tail j, p)
      look (no h) (inr p) = inr (omega arith)

  -- the end of a way that starts at a listed name, or comes to one, is listed
  way-listed : {u w : ℕ} {l : List ℕ} → Way ds u l w → Memᴰ u out → Memᴰ w out
  way-listed (last r) i = closed i r
  way-listed (step r way) i = way-listed way (closed i r)

  pub way-comes : {u w k : ℕ} {l : List ℕ} → Way ds u l w → Memᴰ k l → Memᴰ k out → Memᴰ w out
  way-comes (last r) i j = Memᴰ.cast (sym (Memᴰ.eq_of_singleton i)) j
  way-comes (step r way) i j =
      ⊎_elim (λ e. way-listed way (Memᴰ.cast (sym e) j)) (λ k. way-comes way k j) (Memᴰ.cases_cons i)

  -- Each circle of references of which a name is listed has a marked name.
  pub circle-has-marked : (l : List ℕ) → Circle ds l → (k : ℕ) → Memᴰ k l → Memᴰ k out → (m : ℕ) × Memᴰ m l × MarkedBy ds out m
  circle-has-marked l c k i j = ⊎_elim (λ m. m) (λ h. absurd (omega arith)) (way-back c.way (way-comes c.way i j))

  -- all that a way comes to from a listed name is listed
  way-all : {u w : ℕ} {l : List ℕ} → Way ds u l w → Memᴰ u out → (k : ℕ) → Memᴰ k l → Memᴰ k out
  way-all (last r) i k j = Memᴰ.cast (Memᴰ.eq_of_singleton j) (closed i r)
  way-all (step r way) i k j = ⊎_elim (λ e. Memᴰ.cast e (closed i r)) (way-all way (closed i r) k) (Memᴰ.cases_cons j)

  pub marks-in : (m : List ℕ) → MarksOver ds out m → Marked ds out m
  marks-in m g = record {
    exactly = λ n. (λ i. (marked-listed n).0 ((g.exact n).0 i), λ a. (g.exact n).1 ((marked-listed n).1 a));
    ascends = g.ascends;
    on_circle = λ n i.
        let a = (g.exact n).0 i in
        let c = marked-on-circle n a in
        let way = c.1.way in
        (c.0, c.1, c.2, way-all way (way-comes way c.2 ((marked-listed n).0 a).0));
    each_circle = λ l c k i j. let m = circle-has-marked l c k i j in (m.0, m.1, (g.exact m.0).1 m.2);
  }

-- ---- The question on a book
pub marks-refused : (b : Book) (l : List ℕ) (r : Refusal) → check b ≡ Err r → marks_over b l ≡ refused r
unfolding marks_over after
marks-refused b l r e = rw e

module _ (b : Book) (fits : Fits b) (passed : check b ≡ passes) where
  abbrev ds : List Definition
  ds = main_definitions b

  abbrev names : ℕ
  names = length b.names

  definitions : WellFormedDefinitions ds
  definitions = ((check-typed b fits).0 passed).0.definitions

  bodies-leafy : LeafyBodies ds
  unfolding main_definitions
  bodies-leafy = kept-leafy b fits _

  inferred : (l : List ℕ) → marks_over b l ≡ marked names (infer_rec ds l)
  unfolding marks_over after
  inferred l = rw passed

  -- A number outside the table has no definition.
  pub defined-below : (n : ℕ) → Defined ds n → n < names
  defined-below n i = let d = Memᴰ.of_map formed.defined_name ds i in rw (← d.2) ((main-definitions-fit b fits).exists d.0 d.1)

  -- what a definition refers to has one
  marked-defined : {l : List ℕ} {n : ℕ} → MarkedBy ds l n → Defined ds n
  marked-defined {l} {n} a = let r = a.holds.0 in (definitions.trees r.definition r.listed).bound n r.refers

  -- The marks are no more than there are definitions.
  pub few-marks : (l m : List ℕ) → MarksOver ds l m → length m ≤ length ds
  few-marks l m g =
      let p = pigeonhole (ascends-distinct m g.ascends) (map formed.defined_name ds) (λ n i. marked-defined ((g.exact n).0 i)) in
      omega (arith, length-map ds formed.defined_name, p)

  pub marks-given : (l : List ℕ) → AllDefined ds l → (m : List ℕ) × (marks_over b l ≡ given m) × MarksOver ds l m
  unfolding marked
  marks-given l all =
      let g = infer-marks ds definitions.once bodies-leafy l all in
      let set = g.set in (
        sorted set 0 names,
        inferred l ∙ ap (marked names) g.state,
        record {
          exact = λ n. (
            λ i. (g.exact n).0 ((sorted-says set 0 names n).0 i).0,
            λ a. (sorted-says set 0 names n).1 ((g.exact n).1 a, omega arith, omega (arith, defined-below n (marked-defined a))),
          );
          ascends = sorted-ascends set 0 names;
        },
      )

  pub marks-unbound : (l : List ℕ) (n : ℕ) → (marks_over b l ≡ refused (Unbound n)) ↔ FirstUnbound ds l n
  unfolding marked
  marks-unbound l n = (λ e. look (infer_rec ds l) refl (sym (inferred l) ∙ e), λ a. inferred l ∙ ap (marked names) (says.1 a))
    where
      says : (infer_rec ds l ≡ unbound n) ↔ FirstUnbound ds l n
      says = infer-unbound ds definitions.once bodies-leafy l n

      look : (s : Marks) → infer_rec ds l ≡ s → marked names s ≡ refused (Unbound n) → FirstUnbound ds l n
      look (marking seen set) q e = let z : ◌≡◌ {A = ℕ} 0 1 = cc in absurd (omega arith)
      look (unbound k) q e = let w : infer_rec ds l ≡ unbound n = cc in says.0 w

  -- Over what a walk listed.
  pub marks-listed : {start : Forest Node} {seen out : List ℕ} → Listed ds start seen out →
      (m : List ℕ) × (marks_over b out ≡ given m) × Marked ds out m × (length m ≤ 512)
  marks-listed {out = out} walked =
      let g = marks-given out (λ n i. walked.defined n (walked.sound n i)) in
      (g.0, g.1, marks-in walked g.0 g.2, omega (arith, few-marks out g.0 g.2, main-few b fits))

-- ---- The check comes first
pub marks-after : (l : List ℕ) → AfterCheck (λ b. marks_over b l)
unfolding marks_over
marks-after l b r e = after-stops (check b) _ e

-- ---- What is refused
module _ (b : Book) (fits : Fits b) (l : List ℕ) (places : ℕ) where
  pub marks-in-row : {r : Refusal} → fit places (marks_over b l) ≡ refused r → MarksRow b l places r
  unfolding marks_over
  marks-in-row = fit-row places (marks_over b l) _ (MarksRow b l places) own result (λ k x. short x)
    where
      own : (r : Refusal) → marks_over b l ≡ refused r → MarksRow b l places r
      own r e =
          after-check b fits _ (MarksRow b l places) (λ r. checked) (λ passed.
          elim (defined-or-first (main_definitions b) l) [
            | inl h ↦ given-refused (sym e ∙ (marks-given b fits passed l h).1)
            | inr h ↦
                let q = same-refusal (sym ((marks-unbound b fits passed l h.0).1 h.1) ∙ e) in
                subst (MarksRow b l places) q (rows.unbound (passed, h.1))
          ]) e

      result : (m : List ℕ) → marks_over b l ≡ given m → EachOnce (MarkedBy (main_definitions b) l) m
      result m e =
          let passed = (after-given (check b) _ e).0 in
          elim (defined-or-first (main_definitions b) l) [
            | inl h ↦
                let g = marks-given b fits passed l h in
                subst (EachOnce (MarkedBy (main_definitions b) l)) (same-given (sym g.1 ∙ e)) (ascends-distinct g.0 g.2.ascends, g.2.exact)
            | inr h ↦ given-refused (sym ((marks-unbound b fits passed l h.0).1 h.1) ∙ e)
          ]

-- The rows that there are.
pub marks-numbers : {b : Book} {l : List ℕ} {places : ℕ} {r : Refusal} → MarksRow b l places r → Memᴰ (number_of r) marks_rows
marks-numbers {b} (checked {r = r} x) = Memᴰ.tail (check-numbers b r x)
marks-numbers (rows.unbound x) = Memᴰ.tail (Memᴰ.tail (Memᴰ.head refl))
marks-numbers (short x) = Memᴰ.head refl

-- ---- How many entries there are at most
pub marks-few : (b : Book) → Fits b → (names l : List ℕ) → marks_over b names ≡ given l → length l ≤ 512
unfolding marks_over
marks-few b fits names l e =
    let passed = (after-given (check b) _ e).0 in
    elim (defined-or-first (main_definitions b) names) [
      | inl h ↦
          let g = marks-given b fits passed names h in
          omega (arith, few-marks b fits passed names g.0 g.2, main-few b fits, ap length (same-given (sym g.1 ∙ e)))
      | inr h ↦ given-refused (sym ((marks-unbound b fits passed names h.0).1 h.1) ∙ e)
    ]

marks-short : (b : Book) (l : List ℕ) {places k : ℕ} → MarksRow b l places (Short k) → ShortRow places (marks_over b l) (EachOnce (MarkedBy (main_definitions b) l)) k
marks-short b l (checked x) = absurd (check-short b x)
marks-short b l (short x) = x

pub marks-most : (b : Book) → Fits b → (l : List ℕ) → (places : ℕ) → Most 512 (fit places (marks_over b l))
marks-most b fits l places = fit-most 512 places (marks_over b l) (marks-few b fits l) (λ k e. marks-short b l (marks-in-row b fits l places e))

-- ---- On bytes
module _ (bs : Source) (places : ℕ) (l : List ℕ) {r : Refusal} (e : fit places (on_bytes (λ b. marks_over b l) bs) ≡ refused r) where
  pub marks-bytes-in-row : InRow bs (λ b. MarksRow b l places) r
  marks-bytes-in-row = asked-row bs places (λ b. marks_over b l) (λ b. MarksRow b l places) (λ b fits. marks-in-row b fits l places) e

  pub marks-bytes-numbers : Memᴰ (number_of r) (admission_rows ++ marks_rows)
  marks-bytes-numbers = row-numbers bs (λ b. MarksRow b l places) marks_rows r (λ b. marks-numbers) marks-bytes-in-row

pub marks-bytes-most : (bs : Source) (places : ℕ) (l : List ℕ) → Most 512 (fit places (on_bytes (λ b. marks_over b l) bs))
marks-bytes-most bs places l = bytes-most 512 places (λ b. marks_over b l) (λ b fits. marks-most b fits l places) bs
