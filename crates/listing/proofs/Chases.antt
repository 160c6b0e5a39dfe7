-- What the relation `Chases` lists, and where `Misses` stops. Assumes that each name is defined once.
--     Listed            what a list of names is that a walk gives
--     chases-listed     the list that a derivation gives
--     misses-lost       a stop is at a reachable name without definition
--     Rules, by-chases  induction over derivations; Grows: what was seen and listed stays so
use mathlib.Core.Path.{◌≡◌, refl, subst}
use mathlib.Core.Logic.{◌⊎◌, inl, inr, ⊎_elim, ◌↔◌}
use mathlib.Core.List.Memᴰ
use mathlib.Core.List.{List, [], ◌∷◌, ◌++◌, map, Memᴰ}
use Prim.Native.Nat.{ℕ, ◌≤◌, ◌<◌}
use native.Mathlib.Omega.{arith}
use lib.ListN.{length}
use Rattle.format.specs.Forest.{Forest}
use Rattle.format.specs.Node.{Node}
use Rattle.format.specs.Book.{Definition}
use Rattle.format.specs.References.{references}
use Rattle.judgement.specs.Environment.{body, find_type}
use Rattle.format.specs.Distinct.{Distinct, none}
use Rattle.judgement.specs.WellFormed.{defined_name, Defined}
use Rattle.judgement.proofs.Lookup.{find-named, listed-defined}
use Rattle.listing.specs.References.{Refers, Reachable, direct, onward, Way, last, step, Meets, again, anew, Chases, done, each, Reaches, Lost, itself, inside, Misses, now, later}
use Rattle.judgement.proofs.Each.{all-cons}
use Rattle.listing.proofs.Places.{nil-all, one-all, snoc-all, snoc-distinct, place, place-in, place-left, place-right}

-- `out` lists what is reachable from `start`, each name once, and each has a definition. It is made in the order of `Chases`, where in
-- the end just the listed names are seen. A name stands after what it refers to, unless that reaches it.
pub record Listed (ds : List Definition) (start : Forest Node) (seen out : List ℕ) : Type 0 where
  pub sound : (n : ℕ) → Memᴰ n out → Reachable ds start n
  pub complete : (n : ℕ) → Reachable ds start n → Memᴰ n out
  pub defined : (n : ℕ) → Reachable ds start n → Defined ds n
  pub once : Distinct out
  pub chased : Chases ds (references start) [] [] seen out
  pub same : (n : ℕ) → Memᴰ n seen ↔ Memᴰ n out
  pub order : (u : ℕ) → Memᴰ u out → (v : ℕ) → Refers ds u v → (place out v < place out u) ⊎ Reaches ds v u

pub way-snoc : {ds : List Definition} {u v w : ℕ} {l : List ℕ} → Way ds u l v → Refers ds v w → Way ds u (l ++ w ∷ []) w
way-snoc (last q) r = step q (last r)
way-snoc (step q w) r = step q (way-snoc w r)

-- ---- How a derivation goes on from what is seen and listed

-- Names are met: they are seen in the end. What was seen stays seen, what is seen anew is listed, what was listed stays so, and what was
-- seen before is not listed anew.
pub record Grows (l s o s' o' : List ℕ) : Type 0 where
  pub all : (x : ℕ) → Memᴰ x l → Memᴰ x s'
  pub keeps : (x : ℕ) → Memᴰ x s → Memᴰ x s'
  pub news : (x : ℕ) → Memᴰ x s' → Memᴰ x s ⊎ Memᴰ x o'
  pub lists : (x : ℕ) → Memᴰ x o → Memᴰ x o'
  pub fresh : (x : ℕ) → Memᴰ x s → Memᴰ x o' → Memᴰ x o
  pub longer : length s ≤ length s'

-- nothing changes
grows-not : {l s o : List ℕ} → ((x : ℕ) → Memᴰ x l → Memᴰ x s) → Grows l s o s o
grows-not h = record { all = h; keeps = λ x i. i; news = λ x i. inl i; lists = λ x i. i; fresh = λ x i j. j; longer = omega arith }

grows-on : {n : ℕ} {l s o s₁ o₁ s₂ o₂ : List ℕ} → Grows (n ∷ []) s o s₁ o₁ → Grows l s₁ o₁ s₂ o₂ → Grows (n ∷ l) s o s₂ o₂
grows-on {n} {l} {s₂ = s₂} g h = record {
  all = (all-cons {P = λ x. Memᴰ x s₂} n l).0 (h.keeps n (g.all n (Memᴰ.head refl)), h.all);
  keeps = λ x i. h.keeps x (g.keeps x i);
  news = λ x i. ⊎_elim (λ j. ⊎_elim inl (λ k. inr (h.lists x k)) (g.news x j)) inr (h.news x i);
  lists = λ x i. h.lists x (g.lists x i);
  fresh = λ x i j. g.fresh x i (h.fresh x (g.keeps x i) j);
  longer = omega (arith, g.longer, h.longer);
}

-- n is seen, what stands below it is met, and n is listed
grows-over : {n : ℕ} {l s o s' o' : List ℕ} → (Memᴰ n s → ⊥) → Grows l (n ∷ s) o s' o' → Grows (n ∷ []) s o s' (o' ++ n ∷ [])
grows-over {n} {l} {s} {o} {s'} {o'} new g = record {
  all = one-all (λ x. Memᴰ x s') n (g.keeps n (Memᴰ.head refl));
  keeps = λ x i. g.keeps x (Memᴰ.tail i);
  news = λ x i. ⊎_elim (λ j. ⊎_elim (λ e. inr (Memᴰ.append_right o' (Memᴰ.head e))) inl (Memᴰ.cases_cons j)) (λ j. inr (Memᴰ.append_left (n ∷ []) j)) (g.news x i);
  lists = λ x i. Memᴰ.append_left (n ∷ []) (g.lists x i);
  fresh = λ x i j. snoc-all (λ y. Memᴰ y s → Memᴰ y o) o' n (λ y k h. g.fresh y (Memᴰ.tail h) k) (λ h. absurd (new h)) x j i;
  longer = omega (arith, g.longer);
}

-- ---- Induction over derivations: P of each meeting, Q of each chase
module _ (ds : List Definition) (P : ℕ → (s o s' o' : List ℕ) → Type 0) (Q : List ℕ → (s o s' o' : List ℕ) → Type 0) where
  pub record Rules : Type 0 where
    pub at-again : {n : ℕ} {s o : List ℕ} → Memᴰ n s → P n s o s o
    pub at-anew : {n : ℕ} {s o s' o' : List ℕ} {d : Definition} → (Memᴰ n s → ⊥) → Memᴰ d ds → d.name ≡ n →
        Chases ds (references d.body) (n ∷ s) o s' o' → Q (references d.body) (n ∷ s) o s' o' → P n s o s' (o' ++ n ∷ [])
    pub at-done : {s o : List ℕ} → Q [] s o s o
    pub at-each : {n : ℕ} {l s o s₁ o₁ s₂ o₂ : List ℕ} → Meets ds n s o s₁ o₁ → P n s o s₁ o₁ → Chases ds l s₁ o₁ s₂ o₂ → Q l s₁ o₁ s₂ o₂ → Q (n ∷ l) s o s₂ o₂

  pub by-chases : Rules → {l s o s' o' : List ℕ} → Chases ds l s o s' o' → Q l s o s' o'
  by-chases r c = elim c as (λ n s o s' o' m. P n s o s' o') (λ l s o s' o' c. Q l s o s' o') [
    | again m ↦ r.at-again m
    | anew new i e (c → q) ↦ r.at-anew new i e c q
    | done ↦ r.at-done
    | each (m → p) (c → q) ↦ r.at-each m p c q
  ]

  pub by-meets : Rules → {n : ℕ} {s o s' o' : List ℕ} → Meets ds n s o s' o' → P n s o s' o'
  by-meets r m = elim m as (λ n s o s' o' m. P n s o s' o') (λ l s o s' o' c. Q l s o s' o') [
    | again m ↦ r.at-again m
    | anew new i e (c → q) ↦ r.at-anew new i e c q
    | done ↦ r.at-done
    | each (m → p) (c → q) ↦ r.at-each m p c q
  ]

module _ {ds : List Definition} where
  grows-rules : Rules ds (λ n s o s' o'. Grows (n ∷ []) s o s' o') Grows
  grows-rules = record {
    at-again = λ {n} {s} m. grows-not (one-all (λ x. Memᴰ x s) n m);
    at-anew = λ new i e c g. grows-over new g;
    at-done = grows-not (λ x. nil-all);
    at-each = λ m g c h. grows-on g h;
  }

  pub meets-grows : {n : ℕ} {s o s' o' : List ℕ} → Meets ds n s o s' o' → Grows (n ∷ []) s o s' o'
  meets-grows = by-meets ds (λ n s o s' o'. Grows (n ∷ []) s o s' o') Grows grows-rules

  pub chases-grows : {l s o s' o' : List ℕ} → Chases ds l s o s' o' → Grows l s o s' o'
  chases-grows = by-chases ds (λ n s o s' o'. Grows (n ∷ []) s o s' o') Grows grows-rules

module _ (ds : List Definition) (once : Distinct (map defined_name ds)) where
  -- what a name refers to stands in its definition
  pub refers-in : {d : Definition} {n x : ℕ} → Memᴰ d ds → d.name ≡ n → Refers ds n x → Memᴰ x (references d.body)
  refers-in {d} {n} {x} i e r =
      let f : find_type ds n ≡ body d.body = find-named ds once d n i e in
      let g : find_type ds n ≡ body r.definition.body = find-named ds once r.definition n r.listed r.named in
      let q : r.definition.body ≡ d.body = cc in
      subst (λ t. Memᴰ x (references t)) q r.refers

  module _ (start : Forest Node) where
    -- What holds of what is seen and listed at each step.
    record Good (s o : List ℕ) : Type 0 where
      seen : (n : ℕ) → Memᴰ n o → Memᴰ n s
      sound : (n : ℕ) → Memᴰ n o → Reachable ds start n
      defined : (n : ℕ) → Memᴰ n o → Defined ds n
      unique : Distinct o
      closed : (u : ℕ) → Memᴰ u o → (v : ℕ) → Refers ds u v → Memᴰ v s
      order : (u : ℕ) → Memᴰ u o → (v : ℕ) → Refers ds u v → (place o v < place o u) ⊎ Reaches ds v u

    -- A name may be met: what is seen and not yet listed reaches it.
    record Ready (s o : List ℕ) (n : ℕ) : Type 0 where
      reached : Reachable ds start n
      held : (g : ℕ) → Memᴰ g s → Memᴰ g o ⊎ Reaches ds g n

    ready-on : {l s o s' o' : List ℕ} {n : ℕ} → Grows l s o s' o' → Ready s o n → Ready s' o' n
    ready-on g r = record {
      reached = r.reached;
      held = λ x i. ⊎_elim (λ j. ⊎_elim (λ k. inl (g.lists x k)) inr (r.held x j)) inl (g.news x i);
    }

    -- a name's definition is gone through
    module _ {d : Definition} {n : ℕ} {s o : List ℕ} (new : Memᴰ n s → ⊥) (i : Memᴰ d ds) (e : d.name ≡ n) (g : Good s o) (r : Ready s o n) where
      refers : (x : ℕ) → Memᴰ x (references d.body) → Refers ds n x
      refers x j = record { definition = d; listed = i; named = e; refers = j }

      good-seen : Good (n ∷ s) o
      good-seen = record {
        seen = λ x j. Memᴰ.tail (g.seen x j);
        sound = g.sound;
        defined = g.defined;
        unique = g.unique;
        closed = λ u j v h. Memᴰ.tail (g.closed u j v h);
        order = g.order;
      }

      ready-inside : (x : ℕ) → Memᴰ x (references d.body) → Ready (n ∷ s) o x
      ready-inside x j = record {
        reached = onward r.reached (refers x j);
        held = (all-cons {P = λ y. Memᴰ y o ⊎ Reaches ds y x} n s).0
            (inr (x ∷ [], last (refers x j)), λ y k. ⊎_elim inl (λ w. inr (w.0 ++ x ∷ [], way-snoc w.1 (refers x j))) (r.held y k));
      }

      -- and then it is listed
      module _ {s' o' : List ℕ} (v : Grows (references d.body) (n ∷ s) o s' o') (h : Good s' o') where
        unlisted : Memᴰ n o' → ⊥
        unlisted j = new (g.seen n (v.fresh n (Memᴰ.head refl) j))

        abbrev After : ℕ → ℕ → Type 0
        After u x = (place (o' ++ n ∷ []) x < place (o' ++ n ∷ []) u) ⊎ Reaches ds x u

        earlier : (u x : ℕ) → Memᴰ u o' → (place o' x < place o' u) ⊎ Reaches ds x u → After u x
        earlier u x j (inr w) = inr w
        earlier u x j (inl l) = let k = place-in o' j in inl (rw (place-left o' (n ∷ []) x (omega arith), place-left o' (n ∷ []) u k) l)

        before : (x : ℕ) → Memᴰ x o' → After n x
        before x j = let k = place-in o' j in inl (rw (place-left o' (n ∷ []) x k, place-right o' (n ∷ []) n unlisted) (omega arith))

        at-end : (x : ℕ) → Refers ds n x → Memᴰ x (n ∷ s) ⊎ Memᴰ x o' → After n x
        at-end x k (inr j) = before x j
        at-end x k (inl j) =
            elim (Memᴰ.cases_cons j) [
              | inl q ↦ inr (n ∷ [], rw q (last (rw q at k)))
              | inr t ↦ ⊎_elim (λ m. before x (v.lists x m)) inr (r.held x t)
            ]

        good-listed : Good s' (o' ++ n ∷ [])
        good-listed = record {
          seen = snoc-all (λ x. Memᴰ x s') o' n h.seen (v.keeps n (Memᴰ.head refl));
          sound = snoc-all (Reachable ds start) o' n h.sound r.reached;
          defined = snoc-all (Defined ds) o' n h.defined (listed-defined i e);
          unique = snoc-distinct h.unique unlisted;
          closed = snoc-all (λ u. (x : ℕ) → Refers ds u x → Memᴰ x s') o' n h.closed (λ x k. v.all x (refers-in i e k));
          order = snoc-all (λ u. (x : ℕ) → Refers ds u x → After u x) o' n (λ u j x k. earlier u x j (h.order u j x k))
              (λ x k. at-end x k (v.news x (v.all x (refers-in i e k))));
        }

    good-chases : {l s o s' o' : List ℕ} → Chases ds l s o s' o' → Good s o → ((n : ℕ) → Memᴰ n l → Ready s o n) → Good s' o'
    good-chases = by-chases ds (λ n s o s' o'. Good s o → Ready s o n → Good s' o') (λ l s o s' o'. Good s o → ((n : ℕ) → Memᴰ n l → Ready s o n) → Good s' o')
        record {
          at-again = λ m g r. g;
          at-anew = λ new i e c q g r. good-listed new i e g r (chases-grows c) (q (good-seen new i e g r) (ready-inside new i e g r));
          at-done = λ g r. g;
          at-each = λ {n} m p c q g r. q (p g (r n (Memᴰ.head refl))) (λ x i. ready-on (meets-grows m) (r x (Memᴰ.tail i)));
        }

    pub chases-listed : {seen out : List ℕ} → Chases ds (references start) [] [] seen out → Listed ds start seen out
    chases-listed {seen} {out} c = record {
      sound = g.sound;
      complete = complete;
      defined = λ n r. g.defined n (complete n r);
      once = g.unique;
      chased = c;
      same = λ n. (out-of-seen n, g.seen n);
      order = g.order;
    }
      where
        v : Grows (references start) [] [] seen out
        v = chases-grows c

        g : Good seen out
        g = good-chases c (record { seen = λ x. nil-all; sound = λ x. nil-all; defined = λ x. nil-all; unique = none; closed = λ x. nil-all; order = λ x. nil-all })
            (λ n i. record { reached = direct i; held = λ x. nil-all })

        out-of-seen : (n : ℕ) → Memᴰ n seen → Memᴰ n out
        out-of-seen n i = ⊎_elim nil-all (λ j. j) (v.news n i)

        complete : (n : ℕ) → Reachable ds start n → Memᴰ n out
        complete n (direct i) = out-of-seen n (v.all n i)
        complete n (onward {m = m} r h) = out-of-seen n (g.closed m (complete m r) n h)

-- ---- A stop
module _ (ds : List Definition) (start : Forest Node) where
  pub misses-lost : {l s o : List ℕ} {m : ℕ} → Misses ds l s o m → ((n : ℕ) → Memᴰ n l → Reachable ds start n) → Lost ds start m
  misses-lost h = elim h as (λ n s o m x. Reachable ds start n → Lost ds start m) (λ l s o m x. ((n : ℕ) → Memᴰ n l → Reachable ds start n) → Lost ds start m) [
    | itself new lacking ↦ λ r. (r, lacking)
    | inside {n = n} {d = d} new i e (x → p) ↦ λ r. p (λ y j. onward r (record { definition = d; listed = i; named = e; refers = j }))
    | now {n = n} (x → p) ↦ λ r. p (r n (Memᴰ.head refl))
    | later c (x → p) ↦ λ r. p (λ n i. r n (Memᴰ.tail i))
  ]
