-- Projection: the asked names are taken from the methods in order, each name by as many methods as ask for it and have it. Assumes nothing;
-- on books, that they fit and pass and have an actor.
--     member-times, without-times      how often a name stands in a list
--     left-times, taken-at, ..         what is left over, which positions are taken
--     lowest-listed, lowest-least      the lowest of a list
--     project-given, project-refused   when it is given, and what is refused
--     any-removal, swap-removes        order and removal do not matter: the Rust's `swap_remove` gives the same
--     project-positions, ..            all of this for the definition
--     project-says, project-absent, ..  on books; `sole-method-asked` is P10
--     project-in-row, project-numbers   a refusal lies in its row; the rows that there are
--     project-few, project-most         no more entries than so many
--     project-bytes-in-row, ..          all on bytes
use mathlib.Core.Path.{◌≡◌, refl, sym, ap, subst, ◌∙◌}
use mathlib.Core.Logic.{◌↔◌, ◌⊎◌, inl, inr, ⊎_elim}
use mathlib.Core.Bool.{Bool, true, false, cond, ◌||◌}
use mathlib.Core.List.Memᴰ
use mathlib.Core.List.{List, [], ◌∷◌, map, Memᴰ, ◌++◌}
use Prim.Native.Nat.{ℕ, zero, suc, ◌+◌, ◌-◌, ◌≤◌, ◌<◌, min}
use native.Mathlib.Decide.{ℕ_discrete, dec_le}
use native.Mathlib.Nat.{min-zero, min-le_left, min-le_right, min-eq_left, min-eq_right}
use native.Mathlib.Omega.{arith}
use borrow.Author.Tests.{eq-eqb, ne_eqb}
use lib.Dec.{T, eqb}
use lib.ListN.{length, get_or, take}
use Rattle.labels.specs.declared.Label.TheVariants.{Named}
use Rattle.format.specs.Forest.{Forest, end, tree, breadth, no_trees}
use Rattle.format.specs.Node.{FuncT, ServT, unlabelled, labelled, Node, label_value}
use Rattle.format.specs.Book.{Main, Book}
use Rattle.format.specs.Fits.{Fits}
use Rattle.refusals.specs.declared.Refusal.{Refusal}
use Rattle.refusals.specs.declared.Refusal.TheVariants.{Absent, Short}
use Rattle.judgement.specs.Environment.{keep, main_definitions, find_type, head_kind, head, is_func_kind, is_serv_kind, kids_of}
use Rattle.judgement.specs.Aliases.{link, chain_from, chain, alias_end, root_passes, as_func, as_service, methods_at}
use Rattle.judgement.specs.Actor.{is_service_import, service_imports, first_actor, main_actor, is_class_kind, is_class, below_class, class_arguments}
use Rattle.judgement.specs.Resolve.{resolve_with, resolve_actor}
use Rattle.judgement.specs.Check.{modes_verdict, kind_verdict, method_verdict, check_forest, member, once_verdict, bodies_verdict, each_name, circle_verdict, bodies_fit, decs_verdict, imports_verdict, resolve_verdict, check}
use Rattle.judgement.specs.Check as judged
use Rattle.format.specs.Labels.{keys_of, method_names}
use Rattle.format.specs.Distinct.{Ascends}
use Rattle.judgement.proofs.Lookup.{member-says}
use Rattle.format.proofs.Distinct.{ascends-unique}
use Rattle.listing.specs.Project.{without, Projection, take', project_from, lowest, left_over, projected, project, one, times, SameNames, Enough, LowestAbsent, name_at, Positions, PositionsOf, Removes, shrink, project_by, last_of, but_last, last_first, swap_remove, ProjectRow, project_rows, checked, no_actor, absent, short}
use Rattle.refusals.specs.Outcome.{refused, given, after, fit}
use Rattle.listing.specs.Room.{needs_actor, ShortRow, AfterCheck, Most}
use Rattle.listing.specs.Offers.{Interface}
use Rattle.listing.proofs.Interface.{interface-methods, passed-once, passed-interface}
use Rattle.listing.proofs.Room.{answered, actor-given, after-actor, fit-row, check-short, fit-most, bytes-most, check-stops}
use Rattle.format.proofs.Logic.{same-test}
use Rattle.format.proofs.Admission.{asked-row, row-numbers}
use Rattle.refusals.specs.Refusal.{number_of}
use Rattle.judgement.proofs.Rows.{check-numbers}
use Rattle.format.specs.Admission.{on_bytes, admission_rows, InRow, Source}
use Rattle.refusals.proofs.Outcomes.{given-refused, same-refusal, after-given, same-given}
use Rattle.listing.proofs.Demand3.{asked}
use Rattle.listing.proofs.Methods.{methods-few}
use Rattle.refusals.proofs.Verdicts.{both-pass}
use Rattle.refusals.specs.Verdict.{passes, and_then}

-- ---- How often a name stands in a list

pub one-same : (n m : ℕ) → n ≡ m → one n m ≡ 1
unfolding one
one-same n m e = rw (eq-eqb n m e)

pub one-other : (n m : ℕ) → (n ≡ m → ⊥) → one n m ≡ 0
unfolding one
one-other n m h = rw (ne_eqb n m h)

pub member-times : (n : ℕ) (l : List ℕ) → T (member n l) ↔ (0 < times n l)
unfolding member times
member-times n [] = (λ (t : ⊥). absurd t, λ h. omega arith)
member-times n (m ∷ l) = go (ℕ_discrete n m) (member-times n l)
  where
    go : Dec (n ≡ m) → T (member n l) ↔ (0 < times n l) → T (eqb n m || member n l) ↔ (0 < one n m + times n l)
    go (yes e) i = rw (eq-eqb n m e, one-same n m e) (λ t. omega arith, λ h. tt)
    go (no h) i = rw (ne_eqb n m h, one-other n m h) (λ t. omega (arith, i.0 t), λ g. i.1 (omega arith))

-- A list without its first n has n once less, and every other name as often.
pub without-times : (n : ℕ) (l : List ℕ) → 0 < times n l → (k : ℕ) → times k (without n l) ≡ times k l - one k n
unfolding without times
without-times n [] h k = absurd (omega arith)
without-times n (m ∷ l) h k = go (ℕ_discrete m n) (λ g. without-times n l g k)
  where
    go : Dec (m ≡ n) → (0 < times n l → times k (without n l) ≡ times k l - one k n) → times k (cond (eqb m n) l (m ∷ without n l)) ≡ one k m + times k l - one k n
    go (yes e) below = rw (eq-eqb m n e, e) (omega arith)
    go (no q) below =
        let b = below (omega (arith, one-other n m (λ e. q (sym e)))) in
        rw (ne_eqb m n q, times, b) (elim (ℕ_discrete k m) [
          | yes e ↦ omega (arith, one-other k n (λ f. q (sym e ∙ f)))
          | no g ↦ omega (arith, one-other k m g)
        ])

same-member : (n : ℕ) (xs ys : List ℕ) → SameNames xs ys → member n xs ≡ member n ys
same-member n xs ys s =
    let x = member-times n xs in
    let y = member-times n ys in
    same-test (member n xs) (member n ys) (λ t. y.1 (omega (arith, x.0 t, s n)), λ t. x.1 (omega (arith, y.0 t, s n)))

-- ---- Taking a name out of the asked ones, by whatever removal
pub shrink-times : (remove : ℕ → List ℕ → List ℕ) → Removes remove → (n : ℕ) (l : List ℕ) (k : ℕ) → times k (shrink remove n l) ≡ times k l - one k n
unfolding shrink
shrink-times remove removes n l k = go (member n l) (member-times n l)
  where
    go : (b : Bool) → T b ↔ (0 < times n l) → times k (cond b (remove n l) l) ≡ times k l - one k n
    go true i = removes n l (i.0 tt) k
    go false i =
        elim (ℕ_discrete k n) [
          | yes e ↦ rw e (omega (arith, i.1))
          | no h ↦ omega (arith, one-other k n h)
        ]

-- ---- Methods in order, by their names
pub project-by : (i : ℕ) (f : Forest Node) (asked : List ℕ) → project_from i f asked ≡ project_by without i (method_names f) asked
unfolding project_from project_by keys_of shrink
project-by i end asked = refl
project-by i (tree n kids next) asked =
    let name = label_value n.label in
    ap (take' (member name asked) i) (project-by (suc i) next (cond (member name asked) (without name asked) asked))

-- Position j from position i on, where `names` start: the methods before it that have its name are fewer than the times it is asked for.
pub record TakenAt (i : ℕ) (names asked : List ℕ) (j : ℕ) : Type 0 where
  pub place : ℕ
  pub position : j ≡ i + place
  pub exists : place < length names
  pub wanted : times (get_or names place 0) (take place names) < times (get_or names place 0) asked

take-left : (b : Bool) (i : ℕ) (p : Projection) → (take' b i p).left ≡ p.left
unfolding take'
take-left true i p = refl
take-left false i p = refl

take-says : (b : Bool) (i j : ℕ) (p : Projection) → Memᴰ j (take' b i p).taken ↔ ((T b × (j ≡ i)) ⊎ Memᴰ j p.taken)
unfolding take'
take-says true i j p = (λ m. ⊎_elim (λ (e : j ≡ i). inl (tt, e)) (λ k. inr k) (Memᴰ.cases_cons m), ⊎_elim (λ x. Memᴰ.head x.1) (λ m. Memᴰ.tail m))
take-says false i j p = (λ m. inr m, ⊎_elim (λ (x : ⊥ × (j ≡ i)). absurd x.0) (λ m. m))

times-map : (k : ℕ) (f g : ℕ → ℕ) (l : List ℕ) → ((j : ℕ) → Memᴰ j l → f j ≡ g j) → times k (map f l) ≡ times k (map g l)
unfolding times
times-map k f g [] h = refl
times-map k f g (j ∷ l) h = rw (h j (Memᴰ.head refl), times-map k f g l (λ i m. h i (Memᴰ.tail m)))

-- the lower of two counts, where one of them has one more
min-less : (a o b : ℕ) → (a ≡ 0) ⊎ (o ≡ 0) → min (a - o) b ≡ min a (o + b)
min-less a o b (inl e) = omega arith
min-less a o b (inr e) = omega arith

module _ (remove : ℕ → List ℕ → List ℕ) (removes : Removes remove) where
  pub left-times : (i : ℕ) (names asked : List ℕ) (k : ℕ) → times k (project_by remove i names asked).left ≡ times k asked - times k names
  unfolding project_by times
  left-times i [] asked k = omega arith
  left-times i (n ∷ names) asked k =
      let rest = shrink remove n asked in
      let p = project_by remove (suc i) names rest in
      ap (times k) (take-left (member n asked) i p) ∙ omega (arith, left-times (suc i) names rest k, shrink-times remove removes n asked k)

  pub taken-at : (i : ℕ) (names asked : List ℕ) (j : ℕ) → Memᴰ j (project_by remove i names asked).taken ↔ TakenAt i names asked j
  unfolding project_by times
  taken-at i [] asked j = (λ m. absurd (Memᴰ.not-nil m), λ x. absurd (omega (arith, x.exists)))
  taken-at i (n ∷ names) asked j =
      let rest = shrink remove n asked in
      let p = project_by remove (suc i) names rest in
      let t = take-says (member n asked) i j p in
      let below = taken-at (suc i) names rest j in
      (λ m. ⊎_elim (λ x. here x.0 x.1) (λ k. later (below.0 k)) (t.0 m), λ x. t.1 (back x.place x.position x.exists x.wanted below.1))
    where
      here : T (member n asked) → j ≡ i → TakenAt i (n ∷ names) asked j
      here m e = record { place = 0; position = omega arith; exists = omega arith; wanted = (member-times n asked).0 m }

      later : TakenAt (suc i) names (shrink remove n asked) j → TakenAt i (n ∷ names) asked j
      later x =
          let name = get_or names x.place 0 in
          record { place = suc x.place; position = omega (arith, x.position); exists = omega (arith, x.exists); wanted = omega (arith, x.wanted, shrink-times remove removes n asked name) }

      back : (k : ℕ) → j ≡ i + k → k < suc (length names) → times (get_or (n ∷ names) k 0) (take k (n ∷ names)) < times (get_or (n ∷ names) k 0) asked →
          (TakenAt (suc i) names (shrink remove n asked) j → Memᴰ j (project_by remove (suc i) names (shrink remove n asked)).taken) →
          (T (member n asked) × (j ≡ i)) ⊎ Memᴰ j (project_by remove (suc i) names (shrink remove n asked)).taken
      back zero e l w below = inl ((member-times n asked).1 w, omega arith)
      back (suc k) e l w below =
          inr (below record { place = k; position = omega arith; exists = omega arith; wanted = omega (arith, shrink-times remove removes n asked (get_or names k 0)) })

  pub taken-ascends : (i : ℕ) (names asked : List ℕ) → Ascends (project_by remove i names asked).taken
  unfolding project_by take'
  taken-ascends i [] asked = tt
  taken-ascends i (n ∷ names) asked =
      go (member n asked) (taken-ascends (suc i) names (shrink remove n asked)) (λ j. (taken-at (suc i) names (shrink remove n asked) j).0)
    where
      go : (b : Bool) → Ascends (project_by remove (suc i) names (shrink remove n asked)).taken →
          ((j : ℕ) → Memᴰ j (project_by remove (suc i) names (shrink remove n asked)).taken → TakenAt (suc i) names (shrink remove n asked) j) →
          Ascends (take' b i (project_by remove (suc i) names (shrink remove n asked))).taken
      go true a h = (λ j m. omega (arith, (h j m).position), a)
      go false a h = a

  -- of each name as many methods are taken as are asked for and there
  pub taken-times : (i : ℕ) (names asked : List ℕ) (k : ℕ) →
      times k (map (λ (j : ℕ). get_or names (j - i) 0) (project_by remove i names asked).taken) ≡ min (times k asked) (times k names)
  unfolding project_by take' times
  taken-times i [] asked k = sym (min-zero (times k asked))
  taken-times i (n ∷ names) asked k =
      let rest = shrink remove n asked in
      let taken = (project_by remove (suc i) names rest).taken in
      let at : ℕ → ℕ = λ (j : ℕ). get_or (n ∷ names) (j - i) 0 in
      let same : times k (map at taken) ≡ min (times k asked - one k n) (times k names) =
      times-map k at (λ (j : ℕ). get_or names (j - suc i) 0) taken (λ j m. later j ((taken-at (suc i) names rest j).0 m)) ∙ taken-times (suc i) names rest k
      ∙ ap (λ (t : ℕ). min t (times k names)) (shrink-times remove removes n asked k) in
      go (member n asked) (member-times n asked) same
    where
      later : (j : ℕ) → TakenAt (suc i) names (shrink remove n asked) j → get_or (n ∷ names) (j - i) 0 ≡ get_or names (j - suc i) 0
      later j x = let e : j - i ≡ suc (j - suc i) = omega (arith, x.position) in rw e

      go : (b : Bool) → T b ↔ (0 < times n asked) →
          times k (map (λ (j : ℕ). get_or (n ∷ names) (j - i) 0) (project_by remove (suc i) names (shrink remove n asked)).taken) ≡ min (times k asked - one k n) (times k names) →
          times k (map (λ (j : ℕ). get_or (n ∷ names) (j - i) 0) (take' b i (project_by remove (suc i) names (shrink remove n asked))).taken) ≡ min (times k asked) (one k n + times k names)
      go true h e = let z : i - i ≡ 0 = omega arith in rw (z, e) (omega (arith, some (h.0 tt)))
        where
          some : 0 < times n asked → one k n ≤ times k asked
          some l = elim (ℕ_discrete k n) [ yes q ↦ rw (one-same k n q, q) l | no q ↦ omega (arith, one-other k n q) ]
      go false h e = e ∙ min-less (times k asked) (one k n) (times k names) (none (λ l. h.1 l))
        where
          none : (0 < times n asked → ⊥) → (times k asked ≡ 0) ⊎ (one k n ≡ 0)
          none l = elim (ℕ_discrete k n) [ yes q ↦ inl (rw q (omega arith)) | no q ↦ inr (one-other k n q) ]

-- ---- The order of the asked names does not matter, nor which removal is used
module _ (remove remove' : ℕ → List ℕ → List ℕ) (removes : Removes remove) (removes' : Removes remove') where
  same-taken : (i : ℕ) (names xs ys : List ℕ) → SameNames xs ys → (project_by remove i names xs).taken ≡ (project_by remove' i names ys).taken
  unfolding project_by take'
  same-taken i [] xs ys s = refl
  same-taken i (n ∷ names) xs ys s =
      let shrunk : SameNames (shrink remove n xs) (shrink remove' n ys) = λ k.
      shrink-times remove removes n xs k ∙ ap (λ (t : ℕ). t - one k n) (s k) ∙ sym (shrink-times remove' removes' n ys k) in
      rw (same-member n xs ys s) (go (member n ys) (same-taken (suc i) names (shrink remove n xs) (shrink remove' n ys) shrunk))
    where
      go : (b : Bool) → (project_by remove (suc i) names (shrink remove n xs)).taken ≡ (project_by remove' (suc i) names (shrink remove' n ys)).taken →
          (take' b i (project_by remove (suc i) names (shrink remove n xs))).taken ≡ (take' b i (project_by remove' (suc i) names (shrink remove' n ys))).taken
      go true e = ap (λ (l : List ℕ). i ∷ l) e
      go false e = e

-- ---- The lowest left over
pub listed-times : (n : ℕ) (l : List ℕ) → Memᴰ n l ↔ (0 < times n l)
listed-times n l =
    let m = member-says n l in
    let t = member-times n l in
    (λ i. t.0 (m.1 i), λ h. m.0 (t.1 h))

pub lowest-least : (n : ℕ) (l : List ℕ) (m : ℕ) → Memᴰ m (n ∷ l) → lowest n l ≤ m
unfolding lowest
lowest-least n [] m i = omega (arith, Memᴰ.eq_of_singleton i)
lowest-least n (k ∷ l) m i = go (Memᴰ.cases_cons i) (lowest-least (min n k) l (min n k) (Memᴰ.head refl)) (λ h. lowest-least (min n k) l m (Memᴰ.tail h))
  where
    go : (m ≡ n) ⊎ Memᴰ m (k ∷ l) → lowest (min n k) l ≤ min n k → (Memᴰ m l → lowest (min n k) l ≤ m) → lowest (min n k) l ≤ m
    go (inl e) first rest = omega (arith, min-le_left n k)
    go (inr h) first rest = ⊎_elim (λ (e : m ≡ k). omega (arith, min-le_right n k)) rest (Memᴰ.cases_cons h)

pub lowest-listed : (n : ℕ) (l : List ℕ) → Memᴰ (lowest n l) (n ∷ l)
unfolding lowest
lowest-listed n [] = Memᴰ.head refl
lowest-listed n (k ∷ l) = go (Memᴰ.cases_cons (lowest-listed (min n k) l))
  where
    go : (lowest (min n k) l ≡ min n k) ⊎ Memᴰ (lowest (min n k) l) l → Memᴰ (lowest (min n k) l) (n ∷ k ∷ l)
    go (inl e) =
        elim (dec_le n k) [
          | yes h ↦ Memᴰ.head (e ∙ min-eq_left h)
          | no h ↦ Memᴰ.tail (Memᴰ.head (e ∙ min-eq_right {n = k} {m = n} (omega arith)))
        ]
    go (inr m) = Memᴰ.tail (Memᴰ.tail m)

absent-unique : {names asked : List ℕ} {n m : ℕ} → LowestAbsent names asked n → LowestAbsent names asked m → n ≡ m
absent-unique {n = n} {m = m} x y = omega (arith, x.least m y.short, y.least n x.short)

enough-absent : {names asked : List ℕ} {n : ℕ} {A : Type 0} → Enough names asked → LowestAbsent names asked n → A
enough-absent {n = n} e x = let z : ⊥ = omega (arith, e n, x.short) in absurd z

module _ (remove : ℕ → List ℕ → List ℕ) (removes : Removes remove) (i : ℕ) (names asked : List ℕ) where
  -- the positions are given, or the lowest left over is refused
  project-either : (Enough names asked × (projected (project_by remove i names asked) ≡ given (project_by remove i names asked).taken))
      ⊎ ((n : ℕ) × LowestAbsent names asked n × (projected (project_by remove i names asked) ≡ refused (Absent n)))
  unfolding projected left_over times
  project-either = let p = project_by remove i names asked in go p.left p.taken (left-times remove removes i names asked)
    where
      go : (left taken : List ℕ) → ((k : ℕ) → times k left ≡ times k asked - times k names) →
          (Enough names asked × (left_over left taken ≡ given taken)) ⊎ ((n : ℕ) × LowestAbsent names asked n × (left_over left taken ≡ refused (Absent n)))
      go [] taken h = inl (λ n. omega (arith, h n), refl)
      go (n ∷ l) taken h =
          let k = lowest n l in
          let most = (listed-times k (n ∷ l)).0 (lowest-listed n l) in
          inr (k, record { short = omega (arith, h k, most); least = λ m g. lowest-least n l m ((listed-times m (n ∷ l)).1 (omega (arith, h m))) }, refl)

  pub project-given : Enough names asked → projected (project_by remove i names asked) ≡ given (project_by remove i names asked).taken
  project-given e = ⊎_elim (λ x. x.1) (λ x. enough-absent e x.1) project-either

  pub project-refused : {n : ℕ} → LowestAbsent names asked n → projected (project_by remove i names asked) ≡ refused (Absent n)
  project-refused x = ⊎_elim (λ y. enough-absent y.0 x) (λ y. y.2 ∙ ap (λ (k : ℕ). refused (Absent k)) (absent-unique y.1 x)) project-either

  pub given-enough : {l : List ℕ} → projected (project_by remove i names asked) ≡ given l → Enough names asked
  given-enough e = ⊎_elim (λ x. x.0) (λ x. given-refused (sym x.2 ∙ e)) project-either

-- ---- `swap_remove` of the Rust
last-times : (k m : ℕ) (l : List ℕ) → one k (last_of m l) + times k (but_last m l) ≡ one k m + times k l
unfolding last_of but_last times
last-times k m [] = refl
last-times k m (j ∷ l) = omega (arith, last-times k j l)

last-first-times : (k : ℕ) (l : List ℕ) → times k (last_first l) ≡ times k l
unfolding last_first times
last-first-times k [] = refl
last-first-times k (m ∷ l) = last-times k m l

swap-times : (n k : ℕ) (l : List ℕ) → times k (swap_remove n l) ≡ times k (without n l)
unfolding swap_remove without times
swap-times n k [] = refl
swap-times n k (m ∷ l) = go (eqb m n) (swap-times n k l)
  where
    go : (b : Bool) → times k (swap_remove n l) ≡ times k (without n l) → times k (cond b (last_first l) (m ∷ swap_remove n l)) ≡ times k (cond b l (m ∷ without n l))
    go true e = last-first-times k l
    go false e = rw e

pub swap-removes : Removes swap_remove
swap-removes n l h k = swap-times n k l ∙ without-times n l h k

-- ---- The answer depends on how often each name is asked for, and on nothing else: not on their order, nor on the removal
pub any-removal : (remove remove' : ℕ → List ℕ → List ℕ) → Removes remove → Removes remove' → (i : ℕ) (names xs ys : List ℕ) → SameNames xs ys →
    projected (project_by remove i names xs) ≡ projected (project_by remove' i names ys)
any-removal remove remove' removes removes' i names xs ys s =
    elim (project-either remove removes i names xs) [
      | inl x ↦ x.1 ∙ ap given (same-taken remove remove' removes removes' i names xs ys s) ∙ sym (project-given remove' removes' i names ys (λ n. omega (arith, x.0 n, s n)))
      | inr x ↦ x.2 ∙ sym (project-refused remove' removes' i names ys record { short = omega (arith, x.1.short, s x.0); least = λ m h. x.1.least m (omega (arith, s m)) })
    ]

-- ---- The question
pub names-length : (f : Forest Node) → length (method_names f) ≡ breadth f
unfolding keys_of breadth
names-length end = refl
names-length (tree n kids next) = ap suc (names-length next)

pub positions-unique : {names asked l k : List ℕ} → Positions names asked l → Positions names asked k → l ≡ k
positions-unique {l = l} {k = k} x y = ascends-unique l k x.ascends y.ascends (λ j. (λ m. (y.says j).1 ((x.says j).0 m), λ m. (x.says j).1 ((y.says j).0 m)))

-- One or the other.
pub enough-or-absent : (names asked : List ℕ) → Enough names asked ⊎ ((n : ℕ) × LowestAbsent names asked n)
enough-or-absent names asked = elim (project-either without without-times 0 names asked) [ inl x ↦ inl x.0 | inr x ↦ inr (x.0, x.1) ]

module _ (f : Forest Node) (asked : List ℕ) where
  pub project-positions : Positions (method_names f) asked (project_from 0 f asked).taken
  project-positions =
      let names = method_names f in
      let p = project_by without 0 names asked in
      rw (project-by 0 f asked) (record {
        ascends = taken-ascends without without-times 0 names asked;
        says = λ j. (
          λ m. from-zero j ((taken-at without without-times 0 names asked j).0 m),
          λ h. (taken-at without without-times 0 names asked j).1 record { place = j; position = omega arith; exists = h.0; wanted = h.1 },
        );
        counts = λ k. times-map k (name_at names) (λ (j : ℕ). get_or names (j - 0) 0) p.taken (λ j m. let z : j ≡ j - 0 = omega arith in ap (name_at names) z) ∙ taken-times without without-times 0 names asked k;
      })
    where
      from-zero : (j : ℕ) → TakenAt 0 (method_names f) asked j →
          (j < length (method_names f)) × (times (name_at (method_names f) j) (take j (method_names f)) < times (name_at (method_names f) j) asked)
      from-zero j x = let e : x.place ≡ j = omega (arith, x.position) in (omega (arith, x.exists), rw e at x.wanted)

  pub projection-given : Enough (method_names f) asked → projected (project_from 0 f asked) ≡ given (project_from 0 f asked).taken
  projection-given = rw (project-by 0 f asked) (project-given without without-times 0 (method_names f) asked)

  pub projection-refused : {n : ℕ} → LowestAbsent (method_names f) asked n → projected (project_from 0 f asked) ≡ refused (Absent n)
  projection-refused = rw (project-by 0 f asked) (project-refused without without-times 0 (method_names f) asked)

  pub projection-enough : {l : List ℕ} → projected (project_from 0 f asked) ≡ given l → Enough (method_names f) asked
  projection-enough = rw (project-by 0 f asked) (given-enough without without-times 0 (method_names f) asked)

  -- the Rust's removal gives the same
  pub projection-swapped : projected (project_by swap_remove 0 (method_names f) asked) ≡ projected (project_from 0 f asked)
  projection-swapped =
      any-removal swap_remove without swap-removes without-times 0 (method_names f) asked asked (λ k. refl) ∙ ap projected (sym (project-by 0 f asked))

pub projection-order : (f : Forest Node) (xs ys : List ℕ) → SameNames xs ys → projected (project_from 0 f xs) ≡ projected (project_from 0 f ys)
projection-order f xs ys s =
    rw (project-by 0 f xs, project-by 0 f ys) (any-removal without without without-times without-times 0 (method_names f) xs ys s)

-- ---- On books
module _ (b : Book) (fits : Fits b) (passed : check b ≡ passes) (some : resolve_actor b ≡ end → ⊥)
    {arguments methods : Forest Node} (offers : Interface (main_definitions b) (resolve_actor b) arguments methods) where
  pub project-answered : (asked : List ℕ) → project b asked ≡ projected (project_from 0 methods asked)
  unfolding project
  project-answered asked =
      rw (interface-methods (main_definitions b) (passed-once b passed some fits) offers) (answered b passed some (projected (project_from 0 methods asked)))

  -- given exactly if no name is asked for more often than methods have it
  pub project-says : (asked : List ℕ) → ((l : List ℕ) × (project b asked ≡ given l)) ↔ Enough (method_names methods) asked
  project-says asked = (
    λ p. projection-enough methods asked (sym (project-answered asked) ∙ p.1),
    λ e. ((project_from 0 methods asked).taken, project-answered asked ∙ projection-given methods asked e),
  )

  pub project-given-positions : (asked l : List ℕ) → project b asked ≡ given l → Positions (method_names methods) asked l
  project-given-positions asked l e =
      let enough = (project-says asked).0 (l, e) in
      let g : given (project_from 0 methods asked).taken ≡ given l = sym (projection-given methods asked enough) ∙ sym (project-answered asked) ∙ e in
      let same : (project_from 0 methods asked).taken ≡ l = cc in
      subst (Positions (method_names methods) asked) same (project-positions methods asked)

  -- else the lowest name that is asked for too often is refused
  pub project-absent : (asked : List ℕ) {n : ℕ} → LowestAbsent (method_names methods) asked n → project b asked ≡ refused (Absent n)
  project-absent asked x = project-answered asked ∙ projection-refused methods asked x

  pub project-order : (xs ys : List ℕ) → SameNames xs ys → project b xs ≡ project b ys
  project-order xs ys s = project-answered xs ∙ projection-order methods xs ys s ∙ sym (project-answered ys)

-- ---- The check comes first
pub project-after : (l : List ℕ) → AfterCheck (λ b. project b l)
unfolding project
project-after l b r e = check-stops b _ e

-- ---- What is refused
module _ (b : Book) (fits : Fits b) (asked : List ℕ) (places : ℕ) where
  pub project-in-row : {r : Refusal} → fit places (project b asked) ≡ refused r → ProjectRow b asked places r
  unfolding project
  project-in-row = fit-row places (project b asked) (PositionsOf b asked) (ProjectRow b asked places) own result (λ k x. short x)
    where
      own : (r : Refusal) → project b asked ≡ refused r → ProjectRow b asked places r
      own r e =
          after-actor b fits _ (ProjectRow b asked places) (λ r. checked) no_actor (λ passed some.
          let x = passed-interface b passed some in
          elim (enough-or-absent (method_names x.0) asked) [
            | inl h ↦ given-refused (sym e ∙ ((project-says b fits passed some x.1 asked).1 h).1)
            | inr h ↦
                let q = same-refusal (sym (project-absent b fits passed some x.1 asked h.1) ∙ e) in
                subst (ProjectRow b asked places) q (absent (passed, class_arguments (resolve_actor b), x.0, x.1, h.1))
          ]) e

      result : (l : List ℕ) → project b asked ≡ given l → PositionsOf b asked l
      result l e =
          let p = actor-given b _ e in
          let x = passed-interface b p.0 p.1 in
          (class_arguments (resolve_actor b), x.0, x.1, project-given-positions b fits p.0 p.1 x.1 asked l e)

-- The rows that there are.
pub project-numbers : {b : Book} {asked : List ℕ} {places : ℕ} {r : Refusal} → ProjectRow b asked places r → Memᴰ (number_of r) project_rows
project-numbers {b} (checked {r = r} x) = Memᴰ.tail (Memᴰ.tail (Memᴰ.tail (check-numbers b r x)))
project-numbers (no_actor x) = Memᴰ.tail (Memᴰ.head refl)
project-numbers (absent x) = Memᴰ.head refl
project-numbers (short x) = Memᴰ.tail (Memᴰ.tail (Memᴰ.head refl))

-- ---- How many entries there are at most
-- each position is a method of the actor
taken-few : (i : ℕ) (f : Forest Node) (asked : List ℕ) → length (project_from i f asked).taken ≤ breadth f
unfolding project_from breadth take'
taken-few i end asked = omega arith
taken-few i (tree n kids next) asked =
    let name = label_value n.label in
    let rest : List ℕ = cond (member name asked) (without name asked) asked in
    go (member name asked) (project_from (suc i) next rest) (taken-few (suc i) next rest)
  where
    go : (c : Bool) (p : Projection) → length p.taken ≤ breadth next → length (take' c i p).taken ≤ suc (breadth next)
    go true p h = omega arith
    go false p h = omega arith

projected-few : (p : Projection) (l : List ℕ) → projected p ≡ given l → length l ≤ length p.taken
unfolding projected left_over
projected-few p l e = go p.left e
  where
    go : (left : List ℕ) → left_over left p.taken ≡ given l → length l ≤ length p.taken
    go [] e = omega (arith, ap length (same-given e))
    go (n ∷ left) e = given-refused e

pub project-few : (b : Book) → Fits b → (asked l : List ℕ) → project b asked ≡ given l → length l ≤ 4096
unfolding project
project-few b fits asked l e =
    let p = after-given (and_then (check b) (needs_actor (resolve_actor b))) _ e in
    let methods = methods_at (alias_end (main_definitions b) (below_class (resolve_actor b))) in
    omega (
      arith,
      projected-few (project_from 0 methods asked) l p.1,
      taken-few 0 methods asked,
      methods-few b fits (both-pass (check b) (needs_actor (resolve_actor b)) p.0).0,
    )

project-short : (b : Book) (asked : List ℕ) {places k : ℕ} → ProjectRow b asked places (Short k) → ShortRow places (project b asked) (PositionsOf b asked) k
project-short b asked (checked x) = absurd (check-short b x)
project-short b asked (short x) = x

pub project-most : (b : Book) → Fits b → (asked : List ℕ) → (places : ℕ) → Most 4096 (fit places (project b asked))
project-most b fits asked places = fit-most 4096 places (project b asked) (project-few b fits asked) (λ k e. project-short b asked (project-in-row b fits asked places e))

-- ---- On bytes
module _ (bs : Source) (places : ℕ) (asked : List ℕ) {r : Refusal} (e : fit places (on_bytes (λ b. project b asked) bs) ≡ refused r) where
  pub project-bytes-in-row : InRow bs (λ b. ProjectRow b asked places) r
  project-bytes-in-row = asked-row bs places (λ b. project b asked) (λ b. ProjectRow b asked places) (λ b fits. project-in-row b fits asked places) e

  pub project-bytes-numbers : Memᴰ (number_of r) (admission_rows ++ project_rows)
  project-bytes-numbers = row-numbers bs (λ b. ProjectRow b asked places) project_rows r (λ b. project-numbers) project-bytes-in-row

pub project-bytes-most : (bs : Source) (places : ℕ) (asked : List ℕ) → Most 4096 (fit places (on_bytes (λ b. project b asked) bs))
project-bytes-most bs places asked = bytes-most 4096 places (λ b. project b asked) (λ b fits. project-most b fits asked places) bs

-- ---- P10: `service : { m : () -> () }`, where m is the name 0
abbrev sole-method : Book
sole-method = record {
  names = (109 ∷ []) ∷ [];
  definitions = [];
  files = record {
    name = 0;
    role = Main;
    actor = tree (record { kind = ServT; label = unlabelled }) (tree (record { kind = FuncT 0 []; label = labelled (Named 0) }) end end) end;
  } ∷ [];
}

-- asked for twice, once and not at all
pub sole-method-asked : (project sole-method (0 ∷ 0 ∷ []) ≡ refused (Absent 0)) × (project sole-method (0 ∷ []) ≡ given (0 ∷ [])) × (project sole-method [] ≡ given [])
unfolding project after needs_actor no_trees check imports_verdict service_imports is_service_import decs_verdict once_verdict bodies_verdict each_name circle_verdict find_type bodies_fit resolve_verdict resolve_actor resolve_with main_actor first_actor main_definitions keep judged.actor_verdict check_forest kind_verdict modes_verdict method_verdict is_serv_kind is_func_kind is_class is_class_kind as_func as_service root_passes alias_end chain chain_from link head head_kind below_class kids_of methods_at project_from take' without member label_value projected left_over lowest
sole-method-asked = (refl, refl, refl)
