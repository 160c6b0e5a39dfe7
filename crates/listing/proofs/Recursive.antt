-- `infer_rec` over any list of names: what it marks, and where it stops. Assumes that each name is defined once and that leaves have no
-- children, as in a book that fits and passes the check.
--     place-first, place-later, ..        a list by its first name
--     go-each                             a definition is gone through by its references, one after the other
--     infer-marks, infer-unbound          the marks over any list, or its first name without definition
--     sorted-says, sorted-ascends         numbers of a set, ascending
--     sorted-last                         and one number more
use mathlib.Core.Path.{◌≡◌, refl, sym, ap, subst, ◌∙◌}
use mathlib.Core.Logic.{◌⊎◌, inl, inr, ⊎_elim, ⊎_map, ◌↔◌}
use mathlib.Core.Bool.{Bool, true, false, cond}
use mathlib.Core.List.Memᴰ
use mathlib.Core.List.{List, [], ◌∷◌, ◌++◌, append_assoc, map, Memᴰ}
use Prim.Native.Nat.{ℕ, zero, suc, ◌+◌, ◌≤◌, ◌<◌}
use native.Mathlib.Decide.{ℕ_discrete}
use native.Mathlib.Nat.{add-zero}
use native.Mathlib.Omega.{arith}
use lib.Dec.{T}
use lib.ListN.{length, length-append}
use Rattle.std.proofs.lemmas.List.Sums.{fold-append}
use Rattle.format.specs.Forest.{Forest, end, tree}
use Rattle.format.specs.Node.{Kind, PrimT, VarT, OptT, VecT, RecordT, VariantT, FuncT, ServT, ClassT, InitT, Node}
use Rattle.format.specs.Book.{Definition}
use Rattle.format.specs.References.{reference_of, references}
use Rattle.judgement.specs.Environment.{missing, body, find_type}
use Rattle.judgement.specs.Check.{member}
use Rattle.format.specs.Distinct.{Ascends, Distinct, none, more}
use Rattle.judgement.specs.WellFormed.{Defined}
use Rattle.judgement.specs.WellFormed as formed
use Rattle.judgement.proofs.Lookup.{member-says, listed-or-not, found-cases, FoundIn, find-body, found-defined, find-defined, find-missing, find-named}
use Rattle.listing.specs.Recursive.{Marks, marking, unbound, note, note_name, mark_arm, go, see, listed, infer_from, infer_rec, sorted}
use Rattle.listing.specs.Marks.{AtPlace, MarkedBy, AllDefined, FirstUnbound}
use Rattle.listing.specs.References.{Refers}
use Rattle.listing.proofs.Leaves.{each, Bare, Leafy, LeafyBodies}

-- ---- A list by its first name
no-place : {A : Type 0} {P : List ℕ → ℕ → Type 0} → AtPlace [] P → A
no-place a = let z = ap length a.parts ∙ length-append a.before (a.name ∷ a.following) in absurd (omega arith)

module _ {P : List ℕ → ℕ → Type 0} {u : ℕ} {l : List ℕ} where
  pub place-first : P [] u → AtPlace (u ∷ l) P
  place-first p = record { before = []; name = u; following = l; parts = refl; holds = p }

  pub place-later : AtPlace l (λ xs. P (u ∷ xs)) → AtPlace (u ∷ l) P
  place-later a =
      record { before = u ∷ a.before; name = a.name; following = a.following; parts = ap (λ (k : List ℕ). u ∷ k) a.parts; holds = a.holds }

  place-cons : AtPlace (u ∷ l) P → P [] u ⊎ AtPlace l (λ xs. P (u ∷ xs))
  place-cons a = cases a.before a.name a.following a.parts a.holds
    where
      cases : (xs : List ℕ) (n : ℕ) (ys : List ℕ) → u ∷ l ≡ xs ++ (n ∷ ys) → P xs n → P [] u ⊎ AtPlace l (λ zs. P (u ∷ zs))
      cases [] n ys e p = let q : n ≡ u = cc in inl (subst (P []) q p)
      cases (x ∷ xs) n ys e p =
          let q : x ≡ u = cc in
          let r : l ≡ xs ++ (n ∷ ys) = cc in
          inr (record { before = xs; name = n; following = ys; parts = r; holds = subst (λ (y : ℕ). P (y ∷ xs) n) q p })

pub place-map : {P Q : List ℕ → ℕ → Type 0} {l : List ℕ} → ((xs : List ℕ) (u : ℕ) → P xs u → Q xs u) → AtPlace l P → AtPlace l Q
place-map f a =
    record { before = a.before; name = a.name; following = a.following; parts = a.parts; holds = f a.before a.name a.holds }

-- Names that are listed in u ∷ l, or not.
module _ {u : ℕ} {l : List ℕ} where
  defined-cons : (ds : List Definition) → Defined ds u → AllDefined ds l → AllDefined ds (u ∷ l)
  defined-cons ds d h n i = ⊎_elim (λ (e : n ≡ u). Memᴰ.cast e d) (h n) (Memᴰ.cases_cons i)

  pub neither : {n : ℕ} → (n ≡ u → ⊥) → (Memᴰ n l → ⊥) → Memᴰ n (u ∷ l) → ⊥
  neither h k i = ⊎_elim h k (Memᴰ.cases_cons i)

-- ---- A definition is gone through by its references, one after the other
arm-each : (κ : Kind) (kids : Forest Node) → Bare κ kids → (s : Marks) → go kids s ≡ each note_name (references kids) s →
    mark_arm (go kids) κ s ≡ each note_name (reference_of κ ++ references kids) s
unfolding mark_arm reference_of references
arm-each (PrimT p) kids bare s below = rw bare
arm-each (VarT n) kids bare s below = rw bare
arm-each OptT kids bare s below = below
arm-each VecT kids bare s below = below
arm-each RecordT kids bare s below = below
arm-each VariantT kids bare s below = below
arm-each (FuncT a ms) kids bare s below = below
arm-each ServT kids bare s below = below
arm-each ClassT kids bare s below = below
arm-each InitT kids bare s below = below

pub go-each : (f : Forest Node) → Leafy f → (s : Marks) → go f s ≡ each note_name (references f) s
unfolding go references
go-each end leafy s = refl
go-each (tree n kids next) leafy s =
    let κ = n.kind in
    ap (go next) (arm-each κ kids leafy.0 s (go-each kids leafy.1 s))
    ∙ go-each next leafy.2 (each note_name (reference_of κ ++ references kids) s)
    ∙ sym (fold-append (λ s n. note_name n s) s (reference_of κ ++ references kids) (references next))
    ∙ ap (λ (l : List ℕ). each note_name l s) (append_assoc (reference_of κ) (references kids) (references next))

-- ---- What has been marked: p are the names gone through, Q is what is marked so far
record Noted (p : List ℕ) (Q : ℕ → Type 0) (s : Marks) : Type 0 where
  seen : List ℕ
  set : List ℕ
  state : s ≡ marking seen set
  known : (n : ℕ) → Memᴰ n seen ↔ (Memᴰ n p ⊎ Memᴰ n set)
  exact : (n : ℕ) → Memᴰ n set ↔ Q n
  once : Distinct set

nothing-noted : Noted [] (λ n. ⊥) (marking [] [])
nothing-noted = record {
  seen = [];
  set = [];
  state = refl;
  known = λ n. (inl, ⊎_elim (λ i. i) (λ i. i));
  exact = λ n. (Memᴰ.not-nil, λ (x : ⊥). absurd x);
  once = none;
}

-- the same marks, said otherwise
noted-as : {p : List ℕ} {Q R : ℕ → Type 0} {s : Marks} → ((n : ℕ) → Q n ↔ R n) → Noted p Q s → Noted p R s
noted-as f h = record {
  seen = h.seen;
  set = h.set;
  state = h.state;
  known = h.known;
  exact = λ n. (λ i. (f n).0 ((h.exact n).0 i), λ r. (h.exact n).1 ((f n).1 r));
  once = h.once;
}

-- More names are noted: those not gone through are marked.
abbrev OrIn : List ℕ → (ℕ → Type 0) → List ℕ → ℕ → Type 0
OrIn p Q vs n = Q n ⊎ (Memᴰ n vs × (Memᴰ n p → ⊥))

name-noted : {p : List ℕ} {Q : ℕ → Type 0} {s : Marks} (v : ℕ) → Noted p Q s → Noted p (OrIn p Q (v ∷ [])) (note_name v s)
unfolding note_name note
name-noted {p} {Q} {s} v h = look (member v h.seen) refl (member-says v h.seen)
  where
    alone : (n : ℕ) → Memᴰ n (v ∷ []) → n ≡ v
    alone n i = Memᴰ.eq_of_singleton i

    look : (b : Bool) → member v h.seen ≡ b → T b ↔ Memᴰ v h.seen → Noted p (OrIn p Q (v ∷ [])) (note_name v s)
    look true e says = record {
      seen = h.seen;
      set = h.set;
      state = rw (h.state, e);
      known = h.known;
      exact = λ n. (
        λ i. inl ((h.exact n).0 i),
        ⊎_elim (h.exact n).1 (λ x. ⊎_elim (λ i. absurd (x.1 i)) (λ i. i) ((h.known n).0 (Memᴰ.cast (alone n x.0) (says.0 tt)))),
      );
      once = h.once;
    }
    look false e says = record {
      seen = v ∷ h.seen;
      set = v ∷ h.set;
      state = rw (h.state, e);
      known = λ n. (
        λ i. ⊎_elim (λ (q : n ≡ v). inr (Memᴰ.head q)) (λ j. ⊎_map (λ k. k) Memᴰ.tail ((h.known n).0 j)) (Memᴰ.cases_cons i),
        ⊎_elim (λ i. Memᴰ.tail ((h.known n).1 (inl i)))
            (λ i. ⊎_elim (λ (q : n ≡ v). Memᴰ.head q) (λ j. Memᴰ.tail ((h.known n).1 (inr j))) (Memᴰ.cases_cons i)),
      );
      exact = λ n. (
        λ i. ⊎_elim
            (λ (q : n ≡ v). inr (Memᴰ.head q, λ j. says.1 ((h.known v).1 (inl (Memᴰ.cast (sym q) j)))))
            (λ j. inl ((h.exact n).0 j)) (Memᴰ.cases_cons i),
        ⊎_elim (λ q. Memᴰ.tail ((h.exact n).1 q)) (λ x. Memᴰ.head (alone n x.0)),
      );
      once = more (λ i. says.1 ((h.known v).1 (inr i))) h.once;
    }

all-noted : {p : List ℕ} {Q : ℕ → Type 0} {s : Marks} (vs : List ℕ) → Noted p Q s → Noted p (OrIn p Q vs) (each note_name vs s)
all-noted [] h = noted-as (λ n. (inl, ⊎_elim (λ q. q) (λ x. absurd (Memᴰ.not-nil x.0)))) h
all-noted {p} {Q} (v ∷ vs) h = noted-as (λ n. (join n, part n)) (all-noted {Q = OrIn p Q (v ∷ [])} vs (name-noted v h))
  where
    join : (n : ℕ) → OrIn p (OrIn p Q (v ∷ [])) vs n → OrIn p Q (v ∷ vs) n
    join n = ⊎_elim (⊎_elim inl (λ x. inr (Memᴰ.append_left vs x.0, x.1))) (λ x. inr (Memᴰ.tail x.0, x.1))

    part : (n : ℕ) → OrIn p Q (v ∷ vs) n → OrIn p (OrIn p Q (v ∷ [])) vs n
    part n = ⊎_elim (λ q. inl (inl q))
        (λ x. ⊎_elim (λ (e : n ≡ v). inl (inr (Memᴰ.head e, x.1))) (λ i. inr (i, x.1)) (Memᴰ.cases_cons x.0))

seen-noted : {p : List ℕ} {Q : ℕ → Type 0} {s : Marks} (u : ℕ) → Noted p Q s → Noted (u ∷ p) Q (see u s)
unfolding see
seen-noted u h = record {
  seen = u ∷ h.seen;
  set = h.set;
  state = rw h.state;
  known = λ n. (
    λ i. ⊎_elim (λ (e : n ≡ u). inl (Memᴰ.head e)) (λ j. ⊎_map Memᴰ.tail (λ k. k) ((h.known n).0 j)) (Memᴰ.cases_cons i),
    ⊎_elim (λ i. ⊎_elim (λ (e : n ≡ u). Memᴰ.head e) (λ j. Memᴰ.tail ((h.known n).1 (inl j))) (Memᴰ.cases_cons i))
        (λ i. Memᴰ.tail ((h.known n).1 (inr i))),
  );
  exact = h.exact;
  once = h.once;
}

-- ---- Any list

-- The marks, each once.
pub record Marking (ds : List Definition) (l : List ℕ) (s : Marks) : Type 0 where
  pub seen : List ℕ
  pub set : List ℕ
  pub state : s ≡ marking seen set
  pub exact : (n : ℕ) → Memᴰ n set ↔ MarkedBy ds l n
  pub once : Distinct set

module _ (ds : List Definition) (distinct : Distinct (map formed.defined_name ds)) (bodies : LeafyBodies ds) where
  found-refers : {t : Forest Node} (u n : ℕ) → find_type ds u ≡ body t → Memᴰ n (references t) ↔ Refers ds u n
  found-refers {t} u n e = (there (find-body ds u t e), back)
    where
      there : FoundIn ds u t → Memᴰ n (references t) → Refers ds u n
      there f i = record { definition = f.definition; listed = f.listed; named = f.of-name; refers = rw f.of-body i }

      back : Refers ds u n → Memᴰ n (references t)
      back r =
          let p = find-named ds distinct r.definition u r.listed r.named in
          let q : r.definition.body ≡ t = cc in
          rw q at r.refers

  -- A listed name: what its definition refers to is noted.
  abbrev OrRefers : List ℕ → (ℕ → Type 0) → ℕ → ℕ → Type 0
  OrRefers p Q u n = Q n ⊎ (Refers ds u n × (Memᴰ n p → ⊥))

  listed-noted : {p : List ℕ} {Q : ℕ → Type 0} {s : Marks} {t : Forest Node} (u : ℕ) → find_type ds u ≡ body t → Noted p Q s →
      Noted (u ∷ p) (OrRefers p Q u) (listed ds u (find_type ds u) s)
  unfolding listed
  listed-noted {p} {Q} {s} {t} u e h =
      let f = find-body ds u t e in
      let g = go-each t (rw f.of-body at (bodies f.definition f.listed)) s in
      let r : listed ds u (find_type ds u) s ≡ see u (each note_name (references t) s) = rw (e, ← g, h.state) in
      rw r (seen-noted u (noted-as (λ n. (
        ⊎_map (λ q. q) (λ x. ((found-refers u n e).0 x.0, x.1)),
        ⊎_map (λ q. q) (λ x. ((found-refers u n e).1 x.0, x.1)),
      )) (all-noted (references t) h)))

  -- What the places of l mark after those of p.
  abbrev After : List ℕ → List ℕ → ℕ → Type 0
  After p l n = AtPlace l (λ xs u. Refers ds u n × (Memᴰ n p → ⊥) × (Memᴰ n xs → ⊥))

  infer-noted : {p : List ℕ} {Q : ℕ → Type 0} {s : Marks} (l : List ℕ) → AllDefined ds l → Noted p Q s →
      (p' : List ℕ) × Noted p' (λ n. Q n ⊎ After p l n) (infer_from ds l s)
  unfolding infer_from
  infer-noted {p} [] all h = (p, noted-as (λ n. (inl, ⊎_elim (λ q. q) no-place)) h)
  infer-noted {p} {Q} (u ∷ l) all h =
      let f = find-defined ds u (all u (Memᴰ.head refl)) in
      let r = infer-noted {p = u ∷ p} {Q = OrRefers p Q u} l (λ n i. all n (Memᴰ.tail i)) (listed-noted u f.1 h) in
      (r.0, noted-as (λ n. (join n, part n)) r.1)
    where
      join : (n : ℕ) → OrRefers p Q u n ⊎ After (u ∷ p) l n → Q n ⊎ After p (u ∷ l) n
      join n = ⊎_elim
          (⊎_map (λ q. q) (λ x. place-first (x.0, x.1, Memᴰ.not-nil)))
          (λ a. inr (place-later (place-map
          (λ xs v x. (x.0, λ i. x.1 (Memᴰ.tail i), neither (λ e. x.1 (Memᴰ.head e)) x.2)) a)))

      part : (n : ℕ) → Q n ⊎ After p (u ∷ l) n → OrRefers p Q u n ⊎ After (u ∷ p) l n
      part n = ⊎_elim (λ q. inl (inl q)) (λ a. ⊎_map
          (λ x. inr (x.0, x.1))
          (place-map (λ xs v x. (x.0, neither (λ e. x.2 (Memᴰ.head e)) x.1, λ i. x.2 (Memᴰ.tail i)))) (place-cons a))

  -- Where all listed names have a definition, exactly those of `MarkedBy` are marked.
  pub infer-marks : (l : List ℕ) → AllDefined ds l → Marking ds l (infer_rec ds l)
  unfolding infer_rec
  infer-marks l all =
      let same : (n : ℕ) → (⊥ ⊎ After [] l n) ↔ MarkedBy ds l n = λ n. (
        ⊎_elim (λ (x : ⊥). absurd x) (place-map (λ xs u x. (x.0, x.2))),
        λ a. inr (place-map (λ xs u x. (x.0, Memᴰ.not-nil, x.1)) a),
      ) in
      let h = noted-as same (infer-noted l all nothing-noted).1 in
      record { seen = h.seen; set = h.set; state = h.state; exact = h.exact; once = h.once }

  infer-stops : (l : List ℕ) (m : ℕ) → infer_from ds l (unbound m) ≡ unbound m
  unfolding infer_from listed
  infer-stops [] m = refl
  infer-stops (u ∷ l) m = infer-stops l m

  infer-first : {p : List ℕ} {Q : ℕ → Type 0} {s : Marks} (l : List ℕ) (n : ℕ) → Noted p Q s → (infer_from ds l s ≡ unbound n) ↔ FirstUnbound ds l n
  unfolding infer_from listed
  infer-first [] n h = (λ e. let z : ◌≡◌ {A = ℕ} 0 1 = cc in absurd (omega arith), no-place)
  infer-first {p} {Q} {s} (u ∷ l) n h = look (found-cases (find_type ds u)) (λ t e. infer-first {p = u ∷ p} {Q = OrRefers p Q u} l n (listed-noted u e h))
    where
      look : (find_type ds u ≡ missing) ⊎ ((t : Forest Node) × (find_type ds u ≡ body t)) →
          ((t : Forest Node) → find_type ds u ≡ body t → (infer_from ds l (listed ds u (find_type ds u) s) ≡ unbound n) ↔ FirstUnbound ds l n) →
          (infer_from ds l (listed ds u (find_type ds u) s) ≡ unbound n) ↔ FirstUnbound ds (u ∷ l) n
      look (inl e) rest =
          let stopped : infer_from ds l (listed ds u (find_type ds u) s) ≡ unbound u = rw (e, h.state) (infer-stops l u) in (
            λ q. let w : u ≡ n = cc in place-first (w, rw w at (find-missing ds u e), λ m i. absurd (Memᴰ.not-nil i)),
            λ a. ⊎_elim (λ x. stopped ∙ ap unbound x.0) (λ b. absurd (find-missing ds u e (b.holds.2 u (Memᴰ.head refl)))) (place-cons a),
          )
      look (inr (t, e)) rest =
          let known = found-defined ds u t e in (
            λ q. place-later (place-map (λ xs v x. (x.0, x.1, defined-cons ds known x.2)) ((rest t e).0 q)),
            λ a. ⊎_elim
                (λ x. absurd (x.1 (Memᴰ.cast (sym x.0) known)))
                (λ b. (rest t e).1 (place-map (λ xs v x. (x.0, x.1, λ m i. x.2 m (Memᴰ.tail i))) b))
                (place-cons a),
          )

  -- Where one has none, the first such is told.
  pub infer-unbound : (l : List ℕ) (n : ℕ) → (infer_rec ds l ≡ unbound n) ↔ FirstUnbound ds l n
  unfolding infer_rec
  infer-unbound l n = infer-first l n nothing-noted

-- One of the two it is.
pub defined-or-first : (ds : List Definition) (l : List ℕ) → AllDefined ds l ⊎ ((n : ℕ) × FirstUnbound ds l n)
defined-or-first ds [] = inl (λ n i. absurd (Memᴰ.not-nil i))
defined-or-first ds (u ∷ l) = look (listed-or-not u (map formed.defined_name ds)) (defined-or-first ds l)
  where
    look : Defined ds u ⊎ (Defined ds u → ⊥) → AllDefined ds l ⊎ ((n : ℕ) × FirstUnbound ds l n) →
        AllDefined ds (u ∷ l) ⊎ ((n : ℕ) × FirstUnbound ds (u ∷ l) n)
    look (inr h) c = inr (u, place-first (refl, h, λ m i. absurd (Memᴰ.not-nil i)))
    look (inl h) (inl all) = inl (defined-cons ds h all)
    look (inl h) (inr (n, a)) = inr (n, place-later (place-map (λ xs v x. (x.0, x.1, defined-cons ds h x.2)) a))

-- ---- Ascending
pub sorted-says : (set : List ℕ) (n k x : ℕ) → Memᴰ x (sorted set n k) ↔ (Memᴰ x set × (n ≤ x) × (x < n + k))
unfolding sorted
sorted-says set n zero x = (λ i. absurd (Memᴰ.not-nil i), λ p. absurd (omega (arith, p.1, p.2)))
sorted-says set n (suc k) x = look (member n set) (member-says n set) (ℕ_discrete x n) (sorted-says set (suc n) k x)
  where
    -- the numbers after n
    further : {l : List ℕ} → Memᴰ x l ↔ (Memᴰ x set × (suc n ≤ x) × (x < suc n + k)) → (x ≡ n → ⊥) →
        Memᴰ x l ↔ (Memᴰ x set × (n ≤ x) × (x < n + suc k))
    further below h = (
      λ i. let p = below.0 i in (p.0, omega (arith, p.1), omega (arith, p.2)),
      λ p. below.1 (p.0, omega (arith, p.1), omega (arith, p.2)),
    )

    look : {l : List ℕ} (b : Bool) → T b ↔ Memᴰ n set → Dec (x ≡ n) → Memᴰ x l ↔ (Memᴰ x set × (suc n ≤ x) × (x < suc n + k)) →
        Memᴰ x (cond b (n ∷ l) l) ↔ (Memᴰ x set × (n ≤ x) × (x < n + suc k))
    look true says (yes e) below = (λ i. (Memᴰ.cast e (says.0 tt), omega arith, omega arith), λ p. Memᴰ.head e)
    look false says (yes e) below = (
      λ i. let p = below.0 i in absurd (omega (arith, p.1)),
      λ p. absurd (says.1 (Memᴰ.cast (sym e) p.0)),
    )
    look true says (no h) below =
        let f = further below h in
        (λ i. ⊎_elim (λ (e : x ≡ n). absurd (h e)) f.0 (Memᴰ.cases_cons i), λ p. Memᴰ.tail (f.1 p))
    look false says (no h) below = further below h

pub sorted-ascends : (set : List ℕ) (n k : ℕ) → Ascends (sorted set n k)
unfolding sorted
sorted-ascends set n zero = tt
sorted-ascends set n (suc k) = look (member n set) (sorted-ascends set (suc n) k)
  where
    look : (b : Bool) → Ascends (sorted set (suc n) k) → Ascends (cond b (n ∷ sorted set (suc n) k) (sorted set (suc n) k))
    look true a = (λ m i. omega (arith, ((sorted-says set (suc n) k m).0 i).1), a)
    look false a = a

-- A number, if it is in the set.
abbrev pub if_in : List ℕ → ℕ → List ℕ
if_in set n = cond (member n set) (n ∷ []) []

sorted-from : (set : List ℕ) (n k : ℕ) → sorted set n (suc k) ≡ sorted set n k ++ if_in set (n + k)
unfolding sorted
sorted-from set n zero = rw (add-zero n) refl
sorted-from set n (suc k) = look (member n set) (sorted-from set (suc n) k ∙ ap (λ (m : ℕ). sorted set (suc n) k ++ if_in set m) (omega arith))
  where
    last : List ℕ
    last = if_in set (n + suc k)

    look : (b : Bool) → sorted set (suc n) (suc k) ≡ sorted set (suc n) k ++ last →
        cond b (n ∷ sorted set (suc n) (suc k)) (sorted set (suc n) (suc k)) ≡ cond b (n ∷ sorted set (suc n) k) (sorted set (suc n) k) ++ last
    look true e = ap (λ (l : List ℕ). n ∷ l) e
    look false e = e

pub sorted-last : (set : List ℕ) (n : ℕ) → sorted set 0 (suc n) ≡ sorted set 0 n ++ if_in set n
sorted-last set n = sorted-from set 0 n ∙ ap (λ (m : ℕ). sorted set 0 n ++ if_in set m) (omega arith)
