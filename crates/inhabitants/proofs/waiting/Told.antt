-- A node that has settled tells those that wait for it: each has one less to wait for. Assumes nothing.
--     Cleared, cleared-at, cleared-same      a table of links of which some are gone
--     drop-next                              nodes that are listed
--     less, more-ready, less-room            one node has one less to wait for, and is ready if that was the last
--     less-done                              who is done, or has yet to tell
--     told-by                                what is known stays known:
--     told-holder, told-first, told-next     whoever it is
use mathlib.Core.Path.{◌≡◌, refl, sym, ap, subst, ◌∙◌}
use mathlib.Core.Logic.{◌⊎◌, inl, inr}
use mathlib.Core.Bool.{cond}
use mathlib.Core.List.Memᴰ
use mathlib.Core.List.{List, [], ◌∷◌, ◌++◌, Memᴰ}
use Prim.Native.Nat.{ℕ, zero, suc, ◌+◌, ◌-◌, ◌≤◌, ◌<◌}
use native.Mathlib.Decide.{ℕ_discrete}
use native.Mathlib.Omega.{arith}
use borrow.Author.Tests.{eq-eqb, ne_eqb}
use lib.Dec.{eqb}
use lib.ListN.{length, get_or, set, drop, length-set, length-append}
use lib.Seq.{get_or-set_same, get_or-set_other, set-get_or}
use Rattle.format.proofs.Logic.{clash}
use Rattle.environment.specs.Tables.{Nodes}
use Rattle.inhabitants.specs.declared.waiting.Wait.{Wait}
use Rattle.inhabitants.specs.declared.waiting.Wait.TheVariants.{All, One, Definition}
use Rattle.inhabitants.specs.Waiting.{within, root_at, counts, holds, some_left}
use Rattle.inhabitants.proofs.waiting.Counts.{counts-less, left-less, left-same}
use Rattle.inhabitants.proofs.waiting.Places.{places-distinct, one-holder}
use Rattle.inhabitants.proofs.waiting.Known.{Linked, Silent, HeldIn, FirstIn, NextIn, SettledOr, NodeKnown, Known, node-same, node-ready}

-- ---- Tables of links of which some are gone
pub record Cleared (old new : List ℕ) : Type 0 where
  pub long : length new ≡ 4096
  pub same : (n : ℕ) → (get_or new n 0 ≡ 0) ⊎ (get_or new n 0 ≡ get_or old n 0)

pub cleared-same : (l : List ℕ) → length l ≡ 4096 → Cleared l l
cleared-same l h = record { long = h; same = λ n. inr refl }

pub cleared-at : (l : List ℕ) → length l ≡ 4096 → (x : ℕ) → x < 4096 → Cleared l (set l x 0)
cleared-at l h x b = record { long = length-set l x 0 ∙ h; same = λ n. go n (ℕ_discrete n x) }
  where
    go : (n : ℕ) → Dec (n ≡ x) → (get_or (set l x 0) n 0 ≡ 0) ⊎ (get_or (set l x 0) n 0 ≡ get_or l n 0)
    go n (yes e) = inl (ap (λ (m : ℕ). get_or (set l x 0) m 0) e ∙ get_or-set_same l x 0 0 (omega (arith, h)))
    go n (no d) = inr (get_or-set_other l x n 0 0 d)

module _ {old new : List ℕ} (c : Cleared old new) where
  was : (n m : ℕ) → get_or new n 0 ≡ suc m → get_or old n 0 ≡ suc m
  was n m e = go (c.same n)
    where
      go : (get_or new n 0 ≡ 0) ⊎ (get_or new n 0 ≡ get_or old n 0) → get_or old n 0 ≡ suc m
      go (inl z) = absurd (omega (arith, z, e))
      go (inr s) = sym s ∙ e

  still-none : (n : ℕ) → get_or old n 0 ≡ 0 → get_or new n 0 ≡ 0
  still-none n e = go (c.same n)
    where
      go : (get_or new n 0 ≡ 0) ⊎ (get_or new n 0 ≡ get_or old n 0) → get_or new n 0 ≡ 0
      go (inl z) = z
      go (inr s) = s ∙ e

-- ---- Lists of nodes
drop-more : {n : ℕ} (k : ℕ) (l m : List ℕ) → Memᴰ n (drop k l) → Memᴰ n (drop k (l ++ m))
drop-more zero l m i = Memᴰ.append_left m i
drop-more (suc k) [] m i = absurd (Memᴰ.not-nil i)
drop-more (suc k) (x ∷ l) m i = drop-more k l m i

drop-last : (k : ℕ) (l : List ℕ) (n : ℕ) → k ≤ length l → Memᴰ n (drop k (l ++ n ∷ []))
drop-last zero l n h = Memᴰ.append_right l (Memᴰ.head refl)
drop-last (suc k) [] n h = absurd (omega arith)
drop-last (suc k) (x ∷ l) n h = drop-last k l n (omega arith)

pub drop-next : {n : ℕ} (k : ℕ) (l : List ℕ) → k < length l → Memᴰ n (drop k l) → (n ≡ get_or l k 0) ⊎ Memᴰ n (drop (suc k) l)
drop-next k [] h i = absurd (omega arith)
drop-next zero (x ∷ l) h i = Memᴰ.cases_cons i
drop-next (suc k) (x ∷ l) h i = drop-next k l (omega arith) i

-- ---- One node has one less to wait for

-- how many each then waits for, and those that are ready
abbrev pub less : List ℕ → ℕ → List ℕ
less left q = set left q (get_or left q 0 - 1)

abbrev pub more-ready : List ℕ → ℕ → List ℕ → List ℕ
more-ready left q ready = cond (eqb (get_or left q 0) 1) (ready ++ q ∷ []) ready

module _ (left : List ℕ) (long : length left ≡ 4096) {q : ℕ} (b : q < 4096) where
  less-same : get_or (less left q) q 0 ≡ get_or left q 0 - 1
  less-same = get_or-set_same left q (get_or left q 0 - 1) 0 (omega (arith, long))

  less-other : (n : ℕ) → (n ≡ q → ⊥) → get_or (less left q) n 0 ≡ get_or left n 0
  less-other n d = get_or-set_other left q n (get_or left q 0 - 1) 0 d

  stays : (n : ℕ) → get_or left n 0 ≡ 0 → get_or (less left q) n 0 ≡ 0
  stays n e = go (ℕ_discrete n q)
    where
      go : Dec (n ≡ q) → get_or (less left q) n 0 ≡ 0
      go (yes p) =
          let z : get_or left q 0 ≡ 0 = ap (λ (m : ℕ). get_or left m 0) (sym p) ∙ e in
          ap (λ (m : ℕ). get_or (less left q) m 0) p ∙ omega (arith, less-same, z)
      go (no d) = less-other n d ∙ e

  -- one that waited for one does no more
  told-one : {H W : Type 0} → SettledOr (get_or left q 0) H W → get_or (less left q) q 0 ≡ 0
  told-one (inl z) = omega (arith, less-same, z.0)
  told-one (inr s) = omega (arith, less-same, s.0)

  fewer : (n : ℕ) → get_or (less left q) n 0 ≡ 0 → (get_or left n 0 ≡ 0) ⊎ ((n ≡ q) × (get_or left q 0 ≡ 1))
  fewer n e = go (ℕ_discrete n q) (ℕ_discrete (get_or left q 0) 1)
    where
      go : Dec (n ≡ q) → Dec (get_or left q 0 ≡ 1) → (get_or left n 0 ≡ 0) ⊎ ((n ≡ q) × (get_or left q 0 ≡ 1))
      go (yes p) (yes o) = inr (p, o)
      go (yes p) (no d) =
          let z : get_or (less left q) q 0 ≡ 0 = ap (λ (m : ℕ). get_or (less left q) m 0) (sym p) ∙ e in
          inl (ap (λ (m : ℕ). get_or left m 0) p ∙ omega (arith, less-same, z, d))
      go (no d) o = inl (sym (less-other n d) ∙ e)

  module _ (ready : List ℕ) where
    is-more : get_or left q 0 ≡ 1 → more-ready left q ready ≡ ready ++ q ∷ []
    is-more o = rw (eq-eqb (get_or left q 0) 1 o) refl

    no-more : (get_or left q 0 ≡ 1 → ⊥) → more-ready left q ready ≡ ready
    no-more d = rw (ne_eqb (get_or left q 0) 1 d) refl

    -- there is room for it
    pub less-room : length ready + counts some_left left ≤ 4096 → length (more-ready left q ready) + counts some_left (less left q) ≤ 4096
    less-room room = go (ℕ_discrete (get_or left q 0) 1) (ℕ_discrete (get_or left q 0) 0)
      where
        inside : q < length left
        inside = omega (arith, b, long)

        go : Dec (get_or left q 0 ≡ 1) → Dec (get_or left q 0 ≡ 0) → length (more-ready left q ready) + counts some_left (less left q) ≤ 4096
        go (yes o) z =
            omega (
              arith,
              room,
              ap length (is-more o),
              length-append ready (q ∷ []),
              left-less left q (get_or left q 0 - 1) inside (λ z. omega (arith, z, o)) (omega (arith, o)),
            )
        go (no d) (yes z) =
            let e : less left q ≡ left = ap (set left q) (omega (arith, z)) ∙ set-get_or left q 0 in
            omega (arith, room, ap length (no-more d), ap (counts some_left) e)
        go (no d) (no z) =
            omega (arith, room, ap length (no-more d), left-same left q (get_or left q 0 - 1) inside z (λ e. d (omega (arith, z, e))))

    module _ {told : ℕ} (here : told ≤ length ready) where
      listed-more : {n : ℕ} → Memᴰ n (drop told ready) → Memᴰ n (drop told (more-ready left q ready))
      listed-more {n} i = go (ℕ_discrete (get_or left q 0) 1)
        where
          go : Dec (get_or left q 0 ≡ 1) → Memᴰ n (drop told (more-ready left q ready))
          go (yes o) = rw (is-more o) (drop-more told ready (q ∷ []) i)
          go (no d) = rw (no-more d) i

      listed-it : {n : ℕ} → n ≡ q → get_or left q 0 ≡ 1 → Memᴰ n (drop told (more-ready left q ready))
      listed-it p o = rw (is-more o) (Memᴰ.cast p (drop-last told ready q here))

      -- one that settles by it is one that has yet to tell
      pub less-done : {P P' : Type 0} (n : ℕ) → (P → P') → (get_or left n 0 ≡ 0 → P ⊎ Memᴰ n (drop told ready)) →
          get_or (less left q) n 0 ≡ 0 → P' ⊎ Memᴰ n (drop told (more-ready left q ready))
      less-done {P} {P'} n keeps before e = go (fewer n e)
        where
          still : P ⊎ Memᴰ n (drop told ready) → P' ⊎ Memᴰ n (drop told (more-ready left q ready))
          still (inl p) = inl (keeps p)
          still (inr i) = inr (listed-more i)

          go : (get_or left n 0 ≡ 0) ⊎ ((n ≡ q) × (get_or left q 0 ≡ 1)) → P' ⊎ Memᴰ n (drop told (more-ready left q ready))
          go (inl z) = still (before z)
          go (inr s) = inr (listed-it s.0 s.1)

module _ {w : ℕ → Wait} {D : ℕ → Type 0} {ns roots : List ℕ} {table nodes told : ℕ} (x : Nodes ns table nodes) {left holder first next ready : List ℕ}
    (k : Known w D ns roots nodes 0 told left holder first next ready) (here : told ≤ length ready) where
  module _ {q : ℕ} (inside : q < nodes) {holder' first' next' : List ℕ} (hs : Cleared holder holder') (fs : Cleared first first')
      (xs : Cleared next next') (node : (n : ℕ) → n < nodes → NodeKnown w D ns roots (less left q) holder' first' next' n) where
    small : q < 4096
    small = omega (arith, x.few_nodes)

    silent : (n : ℕ) → Silent holder first next n → Silent holder' first' next' n
    silent n t = record { holder-none = still-none hs n t.holder-none; first-none = still-none fs n t.first-none; next-none = still-none xs n t.next-none }

    tells : (n : ℕ) → n < nodes → get_or (less left q) n 0 ≡ 0 → Memᴰ n (drop told (more-ready left q ready)) ⊎ Silent holder' first' next' n
    tells n h e = swap (less-done left k.left_long small ready here n (silent n) (λ z. swap (k.tells n (omega arith) h z)) e)
      where
        swap : {P Q : Type 0} → P ⊎ Q → Q ⊎ P
        swap (inl p) = inr p
        swap (inr q) = inl q

    listed : (n : ℕ) → Memᴰ n (more-ready left q ready) → (n < nodes) × (get_or (less left q) n 0 ≡ 0)
    listed n i = go (ℕ_discrete (get_or left q 0) 1)
      where
        old : Memᴰ n ready → (n < nodes) × (get_or (less left q) n 0 ≡ 0)
        old j = let r = k.listed n j in (r.1, stays left k.left_long small n r.2)

        one-of : get_or left q 0 ≡ 1 → Memᴰ n ready ⊎ Memᴰ n (q ∷ []) → (n < nodes) × (get_or (less left q) n 0 ≡ 0)
        one-of o (inl j) = old j
        one-of o (inr j) =
            let p : n ≡ q = Memᴰ.eq_of_singleton j in
            (omega arith, ap (λ (m : ℕ). get_or (less left q) m 0) p ∙ omega (arith, less-same left k.left_long small, o))

        go : Dec (get_or left q 0 ≡ 1) → (n < nodes) × (get_or (less left q) n 0 ≡ 0)
        go (yes o) = one-of o (Memᴰ.append_cases ready (subst (Memᴰ n) (is-more left k.left_long small ready o) i))
        go (no d) = old (subst (Memᴰ n) (no-more left k.left_long small ready d) i)

    pub told-by : Known w D ns roots nodes 0 told (less left q) holder' first' next' (more-ready left q ready)
    told-by =
        record {
          left_long = length-set left q (get_or left q 0 - 1) ∙ k.left_long;
          holder_long = hs.long;
          first_long = fs.long;
          next_long = xs.long;
          before = λ n h. absurd (omega arith);
          node = λ n _ h. node n h;
          held = λ c n e. k.held c n (was hs c n e);
          firsts = λ r n e. k.firsts r n (was fs r n e);
          nexts = λ m n e. k.nexts m n (was xs m n e);
          tells = λ n _ h e. tells n h e;
          listed = λ n i. let r = listed n i in (omega arith, r.0, r.1);
          room = omega (arith, less-room left k.left_long small ready (omega (arith, k.room)));
        }

-- ---- Whom a node tells
module _ {w : ℕ → Wait} {D : ℕ → Type 0} {ns roots : List ℕ} {table nodes told : ℕ} (x : Nodes ns table nodes) {left holder first next ready : List ℕ}
    (k : Known w D ns roots nodes 0 told left holder first next ready) (here : told ≤ length ready)
    {n : ℕ} (inside : n < nodes) (zero : get_or left n 0 ≡ 0) (done : D n) where
  below : n < 4096
  below = omega (arith, x.few_nodes)

  -- ---- the node that holds it
  module _ {q : ℕ} (link : get_or holder n 0 ≡ suc q) where
    h : HeldIn w ns nodes 0 n q
    h = k.held n q link

    q-small : q < 4096
    q-small = omega (arith, h.exists, x.few_nodes)

    abbrev holder' : List ℕ
    holder' = set holder n 0

    gone : get_or holder' n 0 ≡ 0
    gone = get_or-set_same holder n 0 0 (omega (arith, below, k.holder_long))

    left-there : (c : ℕ) → (c ≡ n → ⊥) → get_or holder' c 0 ≡ get_or holder c 0
    left-there c d = get_or-set_other holder n c 0 0 d

    fewer-held : suc (counts (holds holder' q) (within ns q)) ≡ counts (holds holder q) (within ns q)
    fewer-held =
        counts-less (holds holder q) (holds holder' q) (within ns q) (places-distinct (x.tree q h.exists).whole) n h.inside
        (ap (λ (z : ℕ). eqb z (suc q)) link ∙ eq-eqb (suc q) (suc q) refl)
        (ap (λ (z : ℕ). eqb z (suc q)) gone ∙ ne_eqb 0 (suc q) (λ z. omega (arith, z)))
        (λ c d. ap (λ (z : ℕ). eqb z (suc q)) (sym (left-there c d)))

    known : NodeKnown w D ns roots left holder first next q
    known = k.node q (omega arith) h.exists

    -- it holds one less
    itself : NodeKnown w D ns roots (less left q) holder' first next q
    itself =
        record {
          nothing = λ e. absurd (other e (λ z. clash cc) (λ z. clash cc) h.types);
          ever = λ e. absurd (other e (λ z. clash cc) (λ z. clash cc) h.types);
          all = λ e. omega (arith, less-same left k.left_long q-small, known.all e, fewer-held);
          others = λ e c i. others c i (known.others e c i) (ℕ_discrete c n);
          one = λ e. inl (told-one left k.left_long q-small (known.one e), (n, h.inside, done));
          names = λ e. absurd (other e (λ z. clash cc) (λ z. clash cc) h.types);
          unbound = λ e. absurd (other e (λ z. clash cc) (λ z. clash cc) h.types);
        }
      where
        other : {v : Wait} → w q ≡ v → (w q ≡ All → ⊥) → (w q ≡ One → ⊥) → (w q ≡ All) ⊎ (w q ≡ One) → ⊥
        other e c d (inl z) = c z
        other e c d (inr z) = d z

        others : (c : ℕ) → Memᴰ c (within ns q) → (get_or holder c 0 ≡ suc q) ⊎ D c → Dec (c ≡ n) → (get_or holder' c 0 ≡ suc q) ⊎ D c
        others c i (inr z) d = inr z
        others c i (inl f) (yes p) = inr (subst D (sym p) done)
        others c i (inl f) (no d) = inl (left-there c d ∙ f)

    -- and no other node holds what it did
    node : (m : ℕ) → m < nodes → NodeKnown w D ns roots (less left q) holder' first next m
    node m l = go (ℕ_discrete m q)
      where
        other : (m ≡ q → ⊥) → (c : ℕ) → Memᴰ c (within ns m) → c ≡ n → ⊥
        other d c i p = d (one-holder (x.tree m l).whole (x.tree q h.exists).whole (Memᴰ.cast (sym p) i) h.inside)

        go : Dec (m ≡ q) → NodeKnown w D ns roots (less left q) holder' first next m
        go (yes p) = subst (NodeKnown w D ns roots (less left q) holder' first next) (sym p) itself
        go (no d) = node-same (less-other left k.left_long q-small m d) (λ c i. left-there c (other d c i)) (λ t. t) (k.node m (omega arith) l)

    pub told-holder : Known w D ns roots nodes 0 told (less left q) holder' first next (more-ready left q ready)
    told-holder = told-by x k here h.exists (cleared-at holder k.holder_long n below) (cleared-same first k.first_long) (cleared-same next k.next_long) node

  -- ---- a row that is a name, whose definition is done
  module _ {q : ℕ} (exists : q < nodes) (name : w q ≡ Definition) (some : root_at ns roots q ≡ 65535 → ⊥) (root-done : D (root_at ns roots q))
      {first' next' : List ℕ} (fs : Cleared first first') (xs : Cleared next next')
      (linked : (m : ℕ) → (m ≡ q → ⊥) → Linked first next (root_at ns roots m) m → Linked first' next' (root_at ns roots m) m) where
    row-small : q < 4096
    row-small = omega (arith, exists, x.few_nodes)

    row-node : (m : ℕ) → m < nodes → NodeKnown w D ns roots (less left q) holder first' next' m
    row-node m l = go (ℕ_discrete m q)
      where
        known : NodeKnown w D ns roots left holder first next q
        known = k.node q (omega arith) exists

        itself : NodeKnown w D ns roots (less left q) holder first' next' q
        itself =
            record {
              nothing = λ e. clash cc;
              ever = λ e. clash cc;
              all = λ e. clash cc;
              others = λ e. clash cc;
              one = λ e. clash cc;
              names = λ e some. inl (told-one left k.left_long row-small (known.names e some), root-done);
              unbound = λ e r. absurd (some r);
            }

        go : Dec (m ≡ q) → NodeKnown w D ns roots (less left q) holder first' next' m
        go (yes p) = subst (NodeKnown w D ns roots (less left q) holder first' next') (sym p) itself
        go (no d) = node-same (less-other left k.left_long row-small m d) (λ c i. refl) (linked m d) (k.node m (omega arith) l)

    told-row : Known w D ns roots nodes 0 told (less left q) holder first' next' (more-ready left q ready)
    told-row = told-by x k here exists (cleared-same holder k.holder_long) fs xs row-node

  -- the first row that is the name whose definition it is
  pub told-first : {q : ℕ} → get_or first n 0 ≡ suc q → Known w D ns roots nodes 0 told (less left q) holder (set first n 0) next (more-ready left q ready)
  told-first {q} link =
      told-row f.exists f.name (λ z. omega (arith, below, sym f.root-is ∙ z)) (subst D (sym f.root-is) done)
      (cleared-at first k.first_long n below) (cleared-same next k.next_long) linked
    where
      f : FirstIn w ns roots nodes 0 n q
      f = k.firsts n q link

      linked : (m : ℕ) → (m ≡ q → ⊥) → Linked first next (root_at ns roots m) m → Linked (set first n 0) next (root_at ns roots m) m
      linked m d (inr y) = inr y
      linked m d (inl e) =
          inl
          (get_or-set_other first n (root_at ns roots m) 0 0 (λ p. d (omega (arith, sym e ∙ ap (λ (j : ℕ). get_or first j 0) p ∙ link))) ∙ e)

  -- the next row of the same name
  pub told-next : {q : ℕ} → get_or next n 0 ≡ suc q → Known w D ns roots nodes 0 told (less left q) holder first (set next n 0) (more-ready left q ready)
  told-next {q} link =
      told-row f.exists f.name (λ z. has.0 (f.same ∙ z)) (subst D f.same has.1)
      (cleared-same first k.first_long) (cleared-at next k.next_long n below) linked
    where
      f : NextIn w ns roots nodes 0 n q
      f = k.nexts n q link

      has : (root_at ns roots n ≡ 65535 → ⊥) × D (root_at ns roots n)
      has = (node-ready zero (k.node n (omega arith) inside)).name f.name-before

      linked : (m : ℕ) → (m ≡ q → ⊥) → Linked first next (root_at ns roots m) m → Linked first (set next n 0) (root_at ns roots m) m
      linked m d (inl e) = inl e
      linked m d (inr (j, l, e)) =
          inr
          (j, l, get_or-set_other next n j 0 0 (λ p. d (omega (arith, sym e ∙ ap (λ (i : ℕ). get_or next i 0) p ∙ link))) ∙ e)
