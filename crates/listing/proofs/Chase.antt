-- The walk and the relations that say what it does. Assumes that each name is defined once and that leaves have no children.
--     chases-unique, misses-unique, not-both    what is seen and listed in the end, or where it stops, is determined
--     walk-says, stop-says                      the walk comes to its end, or stops, exactly as the relations say: its fuel is enough
--     walk-lists                                it lists what is reachable
--     walk-lost, lost-says                      it stops exactly if a reachable name has no definition
--     bound-walk                                where all names are bound it does not stop
--     listed-short                              no more names are listed than there are definitions
--     Answered, bound-answered, ..              what it answers
use mathlib.Core.Path.{◌≡◌, refl, sym, ap, subst, ◌∙◌}
use mathlib.Core.Logic.{◌↔◌}
use mathlib.Core.Bool.{Bool, true, false, cond, not}
use mathlib.Core.List.{List, [], ◌∷◌, map, Memᴰ}
use Prim.Native.Nat.{ℕ, zero, suc, ◌+◌, ◌≤◌, ◌<◌}
use native.Mathlib.Omega.{arith}
use lib.Dec.{T}
use lib.ListN.{length, length-map}
use Rattle.format.specs.Forest.{Forest}
use Rattle.format.specs.Node.{Node}
use Rattle.format.specs.Book.{Definition, Book}
use Rattle.format.specs.References.{references}
use Rattle.format.proofs.Logic.{is-true, is-false}
use Rattle.judgement.specs.Environment.{Found, missing, body, find_type, keep}
use Rattle.judgement.specs.Check.{member}
use Rattle.format.specs.Distinct.{Distinct, none, more}
use Rattle.judgement.specs.WellFormed.{defined_name, Defined, Bound}
use Rattle.format.proofs.Distinct.{pigeonhole}
use Rattle.judgement.proofs.Lookup.{member-says, find-body, find-missing, missing-find, find-named, listed-defined}
use Rattle.listing.specs.Chase.{Walk, going, unbound, push, chase, meet_name, visit, chase_types, walked}
use Rattle.listing.specs.References.{Reachable, direct, onward, Meets, again, anew, Chases, done, Lost, Lacks, itself, inside, Misses, now, later}
use Rattle.listing.specs.References as order
use Rattle.listing.proofs.Leaves.{each, chase-each, Leafy, LeafyBodies}
use Rattle.judgement.proofs.Each.{all-cons}
use Rattle.listing.proofs.Places.{nil-all}
use Rattle.listing.proofs.Chases.{Listed, Rules, by-chases, by-meets, meets-grows, chases-listed, misses-lost}
use Rattle.format.specs.Fits.{max_definitions, Fits}
use Rattle.format.proofs.Encoded.{fit-parts}
use Rattle.refusals.specs.declared.Refusal.TheVariants.{Unbound}
use Rattle.refusals.specs.Outcome.{Outcome, refused, given}
use Rattle.listing.specs.Room.{EachOnce}
use Rattle.refusals.proofs.Outcomes.{given-refused, same-given}

-- ---- The walk over names alone
module _ (ds : List Definition) where
  -- `visit`, where what a definition refers to stands for its body.
  unfoldable visit_names : ℕ → ℕ → Walk → Walk
  visit_names zero n w = w
  visit_names (suc k) n (unbound m) = unbound m
  visit_names (suc k) n (going seen out) = meet_name (λ t. each (visit_names k) (references t)) n (member n seen) (find_type ds n) seen out

  each-same : (f g : ℕ → Walk → Walk) → ((n : ℕ) (w : Walk) → f n w ≡ g n w) → (l : List ℕ) (w : Walk) → each f l w ≡ each g l w
  each-same f g h [] w = refl
  each-same f g h (n ∷ l) w = ap (each f l) (h n w) ∙ each-same f g h l (g n w)

  module _ (bodies : LeafyBodies ds) where
    visit-names : (k n : ℕ) (w : Walk) → visit k ds n w ≡ visit_names k n w
    unfolding visit visit_names meet_name
    visit-names zero n w = refl
    visit-names (suc k) n (unbound m) = refl
    visit-names (suc k) n (going s o) = go (member n s) (find_type ds n) refl (visit-names k)
      where
        go : (b : Bool) (x : Found) → find_type ds n ≡ x → ((m : ℕ) (w : Walk) → visit k ds m w ≡ visit_names k m w) →
            meet_name (chase (visit k ds)) n b x s o ≡ meet_name (λ t. each (visit_names k) (references t)) n b x s o
        go true x e below = refl
        go false missing e below = refl
        go false (body t) e below =
            let f = find-body ds n t e in
            ap (push n) (chase-each (visit k ds) t (subst Leafy f.of-body (bodies f.definition f.listed)) (going (n ∷ s) o)
            ∙ each-same (visit k ds) (visit_names k) below (references t) (going (n ∷ s) o))

    walk-names : (start : Forest Node) → Leafy start → chase_types ds start ≡ each (visit_names (suc (length ds))) (references start) (going [] [])
    unfolding chase_types
    walk-names start leafy =
        let k = suc (length ds) in
        chase-each (visit k ds) start leafy (going [] []) ∙ each-same (visit k ds) (visit_names k) (visit-names k) (references start) (going [] [])

  -- what was stopped stays so
  visit-stopped : (k n m : ℕ) → visit_names k n (unbound m) ≡ unbound m
  unfolding visit_names
  visit-stopped zero n m = refl
  visit-stopped (suc k) n m = refl

  each-stopped : (k : ℕ) (l : List ℕ) (m : ℕ) → each (visit_names k) l (unbound m) ≡ unbound m
  each-stopped k [] m = refl
  each-stopped k (n ∷ l) m = ap (each (visit_names k) l) (visit-stopped k n m) ∙ each-stopped k l m

  -- ---- From the walk to the relations

  -- What is seen: each name once, and all are defined.
  record Fresh (s : List ℕ) : Type 0 where
    unique : Distinct s
    defined : (n : ℕ) → Memᴰ n s → Defined ds n

  fresh-short : {s : List ℕ} → Fresh s → length s ≤ length ds
  fresh-short f = rw (length-map ds defined_name) at (pigeonhole f.unique (map defined_name ds) f.defined)

  fresh-cons : {d : Definition} {n : ℕ} {s : List ℕ} → (Memᴰ n s → ⊥) → Memᴰ d ds → d.name ≡ n → Fresh s → Fresh (n ∷ s)
  fresh-cons {n = n} {s = s} new i e f = record { unique = more new f.unique; defined = (all-cons {P = Defined ds} n s).0 (listed-defined i e, f.defined) }

  fresh-meets : {n : ℕ} {s o s' o' : List ℕ} → Meets ds n s o s' o' → Fresh s → Fresh s'
  fresh-meets = by-meets ds (λ n s o s' o'. Fresh s → Fresh s') (λ l s o s' o'. Fresh s → Fresh s')
      record {
        at-again = λ m f. f;
        at-anew = λ new i e c q f. q (fresh-cons new i e f);
        at-done = λ f. f;
        at-each = λ m p c q f. q (p f);
      }

  abbrev Met : ℕ → (s o : List ℕ) → Walk → Type 0
  Met n s o (going s' o') = Meets ds n s o s' o'
  Met n s o (unbound m) = Lacks ds n s o m

  abbrev Done : List ℕ → (s o : List ℕ) → Walk → Type 0
  Done l s o (going s' o') = Chases ds l s o s' o'
  Done l s o (unbound m) = Misses ds l s o m

  -- Fuel is enough: each name that is open was seen.
  abbrev Enough : ℕ → List ℕ → Type 0
  Enough k s = length ds < length s + k

  each-done : (k : ℕ) → ((n : ℕ) (s o : List ℕ) → Fresh s → Enough k s → Met n s o (visit_names k n (going s o))) →
      (l s o : List ℕ) → Fresh s → Enough k s → Done l s o (each (visit_names k) l (going s o))
  each-done k v [] s o f h = done
  each-done k v (n ∷ l) s o f h = next (visit_names k n (going s o)) (v n s o f h) (each-done k v l)
    where
      on : {s₁ o₁ : List ℕ} → Meets ds n s o s₁ o₁ → (w : Walk) → Done l s₁ o₁ w → Done (n ∷ l) s o w
      on m (going s₂ o₂) c = order.each m c
      on m (unbound u) x = later m x

      next : (w : Walk) → Met n s o w → ((s₁ o₁ : List ℕ) → Fresh s₁ → Enough k s₁ → Done l s₁ o₁ (each (visit_names k) l (going s₁ o₁))) →
          Done (n ∷ l) s o (each (visit_names k) l w)
      next (unbound u) x below = rw (each-stopped k l u) (now x)
      next (going s₁ o₁) m below = on m (each (visit_names k) l (going s₁ o₁)) (below s₁ o₁ (fresh-meets m f) (omega (arith, (meets-grows m).longer)))

  visit-met : (k n : ℕ) (s o : List ℕ) → Fresh s → Enough k s → Met n s o (visit_names k n (going s o))
  unfolding visit_names meet_name push
  visit-met zero n s o f h = absurd (omega (arith, fresh-short f))
  visit-met (suc k) n s o f h = go (member n s) (member-says n s) (find_type ds n) refl (visit-met k)
    where
      over : {d : Definition} → (Memᴰ n s → ⊥) → Memᴰ d ds → d.name ≡ n → (w : Walk) → Done (references d.body) (n ∷ s) o w → Met n s o (push n w)
      over new i e (going s' o') c = anew new i e c
      over new i e (unbound m) x = inside new i e x

      go : (b : Bool) → T b ↔ Memᴰ n s → (x : Found) → find_type ds n ≡ x →
          ((m : ℕ) (s₁ o₁ : List ℕ) → Fresh s₁ → Enough k s₁ → Met m s₁ o₁ (visit_names k m (going s₁ o₁))) →
          Met n s o (meet_name (λ t. each (visit_names k) (references t)) n b x s o)
      go true i x e below = again (i.0 tt)
      go false i missing e below = itself i.1 (find-missing ds n e)
      go false i (body t) e below =
          let x = find-body ds n t e in
          let w = each (visit_names k) (references t) (going (n ∷ s) o) in
          let c = each-done k below (references t) (n ∷ s) o (fresh-cons i.1 x.listed x.of-name f) (omega arith) in
          over i.1 x.listed x.of-name w (rw x.of-body c)

  -- ---- From the relations to the walk: with fuel for so many names, and with any more
  module _ (once : Distinct (map defined_name ds)) where
    abbrev Runs : (ℕ → Walk) → Walk → Type 0
    Runs f w = (h : ℕ) × ((k : ℕ) → h ≤ k → f k ≡ w)

    abbrev MeetsRun : ℕ → (s o s' o' : List ℕ) → Type 0
    MeetsRun n s o s' o' = Runs (λ k. visit_names k n (going s o)) (going s' o')

    abbrev ChasesRun : List ℕ → (s o s' o' : List ℕ) → Type 0
    ChasesRun l s o s' o' = Runs (λ k. each (visit_names k) l (going s o)) (going s' o')

    visit-again : (k n : ℕ) (s o : List ℕ) → Memᴰ n s → visit_names k n (going s o) ≡ going s o
    unfolding visit_names meet_name
    visit-again zero n s o i = refl
    visit-again (suc k) n s o i = rw (is-true (member n s) ((member-says n s).1 i))

    new-false : (n : ℕ) (s : List ℕ) → (Memᴰ n s → ⊥) → member n s ≡ false
    new-false n s new = is-false (member n s) (λ t. new ((member-says n s).0 t))

    visit-lacks : (n : ℕ) (s o : List ℕ) → (Memᴰ n s → ⊥) → (Defined ds n → ⊥) → Runs (λ k. visit_names k n (going s o)) (unbound n)
    unfolding visit_names meet_name
    visit-lacks n s o new h = (1, go)
      where
        go : (k : ℕ) → 1 ≤ k → visit_names k n (going s o) ≡ unbound n
        go zero l = absurd (omega arith)
        go (suc k) l = rw (new-false n s new, missing-find ds n h)

    -- one more for the name whose definition is gone through
    visit-over : {d : Definition} (n : ℕ) (s o : List ℕ) (w : Walk) → (Memᴰ n s → ⊥) → Memᴰ d ds → d.name ≡ n →
        Runs (λ k. each (visit_names k) (references d.body) (going (n ∷ s) o)) w → Runs (λ k. visit_names k n (going s o)) (push n w)
    unfolding visit_names meet_name
    visit-over {d} n s o w new i e r = (suc r.0, go)
      where
        go : (k : ℕ) → suc r.0 ≤ k → visit_names k n (going s o) ≡ push n w
        go zero l = absurd (omega arith)
        go (suc k) l = rw (new-false n s new, find-named ds once d n i e) (ap (push n) (r.1 k (omega arith)))

    each-on : (n : ℕ) (l s o : List ℕ) {v w : Walk} → Runs (λ k. visit_names k n (going s o)) v → Runs (λ k. each (visit_names k) l v) w →
        Runs (λ k. each (visit_names k) (n ∷ l) (going s o)) w
    each-on n l s o p q = (p.0 + q.0, λ k h. ap (each (visit_names k) l) (p.1 k (omega arith)) ∙ q.1 k (omega arith))

    run-rules : Rules ds MeetsRun ChasesRun
    unfolding push
    run-rules = record {
      at-again = λ {n} {s} {o} i. (0, λ k h. visit-again k n s o i);
      at-anew = λ {n} {s} {o} {s'} {o'} new i e c q. visit-over n s o (going s' o') new i e q;
      at-done = (0, λ k h. refl);
      at-each = λ {n} {l} {s} {o} m p c q. each-on n l s o p q;
    }

    chases-run : {l s o s' o' : List ℕ} → Chases ds l s o s' o' → ChasesRun l s o s' o'
    chases-run = by-chases ds MeetsRun ChasesRun run-rules

    misses-run : {l s o : List ℕ} {m : ℕ} → Misses ds l s o m → Runs (λ k. each (visit_names k) l (going s o)) (unbound m)
    unfolding push
    misses-run x = elim x as (λ n s o m x. Runs (λ k. visit_names k n (going s o)) (unbound m)) (λ l s o m x. Runs (λ k. each (visit_names k) l (going s o)) (unbound m)) [
      | itself {n = n} {seen = s} {out = o} new h ↦ visit-lacks n s o new h
      | inside {n = n} {m = m} {seen = s} {out = o} new i e (x → r) ↦ visit-over n s o (unbound m) new i e r
      | now {n = n} {m = m} {l = l} {seen = s} {out = o} (x → r) ↦ each-on n l s o r (0, λ k h. each-stopped k l m)
      | later {n = n} {l = l} {seen = s} {out = o} c (x → r) ↦ each-on n l s o (by-meets ds MeetsRun ChasesRun run-rules c) r
    ]

    -- two that run from the same come to the same
    runs-unique : {f : ℕ → Walk} {v w : Walk} → Runs f v → Runs f w → v ≡ w
    runs-unique p q = let k : ℕ = p.0 + q.0 in sym (p.1 k (omega arith)) ∙ q.1 k (omega arith)

    pub chases-unique : {l s o s₁ o₁ s₂ o₂ : List ℕ} → Chases ds l s o s₁ o₁ → Chases ds l s o s₂ o₂ → (s₁ ≡ s₂) × (o₁ ≡ o₂)
    chases-unique {s₁ = s₁} {o₁ = o₁} {s₂ = s₂} {o₂ = o₂} c d = let e : going s₁ o₁ ≡ going s₂ o₂ = runs-unique (chases-run c) (chases-run d) in (cc, cc)

    pub misses-unique : {l s o : List ℕ} {m n : ℕ} → Misses ds l s o m → Misses ds l s o n → m ≡ n
    misses-unique {m = m} {n = n} x y = let e : unbound m ≡ unbound n = runs-unique (misses-run x) (misses-run y) in cc

    pub not-both : {l s o s' o' : List ℕ} {m : ℕ} → Chases ds l s o s' o' → Misses ds l s o m → ⊥
    not-both {s' = s'} {o' = o'} {m = m} c x =
        let e : going s' o' ≡ unbound m = runs-unique (chases-run c) (misses-run x) in let z : ◌≡◌ {A = ℕ} 0 1 = cc in omega arith

-- ---- The walk from a start
pub listed-short : {ds : List Definition} {start : Forest Node} {seen out : List ℕ} → Listed ds start seen out → length out ≤ length ds
listed-short {ds} h = rw (length-map ds defined_name) at (pigeonhole h.once (map defined_name ds) (λ n i. h.defined n (h.sound n i)))

-- Where all names are bound, those that are reachable are defined.
pub bound-defined : {ds : List Definition} {start : Forest Node} {n : ℕ} → ((d : Definition) → Memᴰ d ds → Bound ds d.body) → Bound ds start →
    Reachable ds start n → Defined ds n
bound-defined {n = n} bodies bound (direct i) = bound n i
bound-defined {n = n} bodies bound (onward r h) = bodies h.definition h.listed n h.refers

module _ (ds : List Definition) (once : Distinct (map defined_name ds)) (bodies : LeafyBodies ds) (start : Forest Node) (leafy : Leafy start) where
  walk-done : Done ds (references start) [] [] (chase_types ds start)
  walk-done =
      rw (walk-names ds bodies start leafy)
      (each-done ds (suc (length ds)) (visit-met ds (suc (length ds))) (references start) [] [] (record { unique = none; defined = λ n. nil-all }) (omega arith))

  pub walk-says : (seen out : List ℕ) → (chase_types ds start ≡ going seen out) ↔ Chases ds (references start) [] [] seen out
  walk-says seen out = (λ e. rw e at walk-done, go (chase_types ds start) walk-done)
    where
      go : (w : Walk) → Done ds (references start) [] [] w → Chases ds (references start) [] [] seen out → w ≡ going seen out
      go (going s o) d c = let u = chases-unique ds once d c in rw (u.0, u.1)
      go (unbound m) x c = absurd (not-both ds once c x)

  pub stop-says : (n : ℕ) → (chase_types ds start ≡ unbound n) ↔ Misses ds (references start) [] [] n
  stop-says n = (λ e. rw e at walk-done, go (chase_types ds start) walk-done)
    where
      go : (w : Walk) → Done ds (references start) [] [] w → Misses ds (references start) [] [] n → w ≡ unbound n
      go (going s o) c x = absurd (not-both ds once c x)
      go (unbound m) x y = rw (misses-unique ds once x y)

  pub walk-lists : {seen out : List ℕ} → chase_types ds start ≡ going seen out → Listed ds start seen out
  walk-lists {seen} {out} e = chases-listed ds once start ((walk-says seen out).0 e)

  pub walk-lost : {n : ℕ} → chase_types ds start ≡ unbound n → Lost ds start n
  walk-lost {n} e = misses-lost ds start ((stop-says n).0 e) (λ m i. direct i)

  pub lost-says : ((n : ℕ) × (chase_types ds start ≡ unbound n)) ↔ ((n : ℕ) × Lost ds start n)
  lost-says = (λ p. (p.0, walk-lost p.1), λ p. go (chase_types ds start) refl p)
    where
      go : (w : Walk) → chase_types ds start ≡ w → ((n : ℕ) × Lost ds start n) → (n : ℕ) × (chase_types ds start ≡ unbound n)
      go (unbound m) e p = (m, e)
      go (going s o) e p = absurd (p.1.1 ((walk-lists e).defined p.0 p.1.0))

  pub bound-walk : ((d : Definition) → Memᴰ d ds → Bound ds d.body) → Bound ds start →
      (seen : List ℕ) × (out : List ℕ) × (chase_types ds start ≡ going seen out)
  bound-walk all bound = go (chase_types ds start) refl
    where
      go : (w : Walk) → chase_types ds start ≡ w → (seen : List ℕ) × (out : List ℕ) × (chase_types ds start ≡ going seen out)
      go (going s o) e = (s, o, e)
      go (unbound m) e = let x = walk-lost e in absurd (x.1 (bound-defined all bound x.0))

-- ---- What the walk answers
-- An outcome that lists what is reachable from a start: no more names than a book has definitions.
pub record Answered (ds : List Definition) (start : Forest Node) (o : Outcome (List ℕ)) : Type 0 where
  pub names : List ℕ
  pub seen : List ℕ
  pub answer : o ≡ given names
  pub listed : Listed ds start seen names
  pub short : length names ≤ max_definitions

walked-given : (w : Walk) {l : List ℕ} → walked w ≡ given l → (seen : List ℕ) × (w ≡ going seen l)
unfolding walked
walked-given (going s o) e = (s, cc)
walked-given (unbound n) e = given-refused e

pub walked-refused : (w : Walk) {n : ℕ} → walked w ≡ refused (Unbound n) → w ≡ unbound n
unfolding walked
walked-refused (going s o) {n} e = given-refused {r = Unbound n} (sym e)
walked-refused (unbound m) e = cc

module _ (ds : List Definition) (once : Distinct (map defined_name ds)) (bodies : LeafyBodies ds) (start : Forest Node) (leafy : Leafy start) where
  pub walked-listed : (l : List ℕ) → (walked (chase_types ds start) ≡ given l) ↔ ((seen : List ℕ) × Listed ds start seen l)
  unfolding walked
  walked-listed l = (
    λ e. let p = walked-given (chase_types ds start) e in (p.0, walk-lists ds once bodies start leafy p.1),
    λ p. ap walked ((walk-says ds once bodies start leafy p.0 l).1 p.1.chased),
  )

  pub walked-missed : (n : ℕ) → (walked (chase_types ds start) ≡ refused (Unbound n)) ↔ Misses ds (references start) [] [] n
  unfolding walked
  walked-missed n = (
    λ e. (stop-says ds once bodies start leafy n).0 (walked-refused (chase_types ds start) e),
    λ x. ap walked ((stop-says ds once bodies start leafy n).1 x),
  )

  pub going-answered : length ds ≤ max_definitions → {seen out : List ℕ} → chase_types ds start ≡ going seen out → Answered ds start (walked (chase_types ds start))
  unfolding walked
  going-answered few {seen} {out} e =
      let h = walk-lists ds once bodies start leafy e in
      record { names = out; seen = seen; answer = ap walked e; listed = h; short = omega (arith, listed-short h) }

  pub bound-answered : length ds ≤ max_definitions → ((d : Definition) → Memᴰ d ds → Bound ds d.body) → Bound ds start →
      Answered ds start (walked (chase_types ds start))
  bound-answered few all bound = going-answered few (bound-walk ds once bodies start leafy all bound).2

-- ---- How many definitions there are
pub keep-few : (test : Definition → Bool) (ds : List Definition) → length (keep test ds) + length (keep (λ d. not (test d)) ds) ≡ length ds
unfolding keep
keep-few test [] = refl
keep-few test (d ∷ ds) = go (test d) (keep-few test ds)
  where
    go : (c : Bool) → length (keep test ds) + length (keep (λ e. not (test e)) ds) ≡ length ds →
        length (cond c (d ∷ keep test ds) (keep test ds)) + length (cond (not c) (d ∷ keep (λ e. not (test e)) ds) (keep (λ e. not (test e)) ds)) ≡ suc (length ds)
    go true e = omega arith
    go false e = omega arith

pub kept-few : (b : Book) → Fits b → (test : Definition → Bool) → length (keep test b.definitions) ≤ max_definitions
kept-few b fits test = omega (arith, keep-few test b.definitions, (fit-parts fits).few_definitions)

-- A list of what is reachable has each once.
pub listed-once : {ds : List Definition} {start : Forest Node} {seen l : List ℕ} → Listed ds start seen l → EachOnce (Reachable ds start) l
listed-once x = (x.once, λ n. (x.sound n, x.complete n))

pub answered-few : {ds : List Definition} {start : Forest Node} {o : Outcome (List ℕ)} {l : List ℕ} → Answered ds start o → o ≡ given l → length l ≤ 512
answered-few a e = omega (arith, a.short, ap length (same-given (sym a.answer ∙ e)))
