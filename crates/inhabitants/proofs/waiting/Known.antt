-- What is known while it is found out which nodes settle: w is what each node waits for, D what is known of one that is done, that is, of one that
-- has settled and of which its caller has made sure. Definitions, and what stays where nothing is written that they speak of. Assumes nothing.
--     Known, KnownOf                the nodes from `from` on are entered, and the first `told` of those that are ready have told it
--     AllDone, DoneOf               those that have settled are done; all but those that have yet to tell
--     Ready, ready-has              what a node that has settled has
--     node-same                     what is known of a node where tables change
--     known-more                    what is known where more is done
use mathlib.Core.Path.{◌≡◌, refl, sym, ap, ◌∙◌}
use mathlib.Core.Bool.{false}
use mathlib.Core.Logic.{◌⊎◌, inl, inr}
use mathlib.Core.List.{List, Memᴰ}
use Prim.Native.Nat.{ℕ, suc, ◌+◌, ◌≤◌, ◌<◌}
use native.Mathlib.Omega.{arith}
use borrow.Author.Tests.{eq-eqb}
use lib.Dec.{eqb}
use lib.ListN.{length, get_or, drop}
use Rattle.std.proofs.lemmas.Bool.{false≢true}
use Rattle.format.specs.Layout.{row_at}
use Rattle.environment.specs.Tables.{Nodes, Roots}
use Rattle.environment.specs.declared.scope.Scope.{Scope}
use Rattle.inhabitants.specs.declared.waiting.Wait.{Wait}
use Rattle.inhabitants.specs.declared.waiting.Wait.TheVariants.{Nothing, Ever, All, One, Definition}
use Rattle.inhabitants.specs.declared.waiting.Waiting.{Waiting}
use Rattle.inhabitants.specs.Waiting.{within, root_at, counts, holds, some_left}
use Rattle.inhabitants.proofs.waiting.Counts.{counts-same, counts-none}
use Rattle.inhabitants.proofs.waiting.Places.{place-inside}

-- ---- Links

-- A node that is a name is linked to its definition: this has it as the first that waits, or an earlier row of the same name as the next.
abbrev pub Linked : (first next : List ℕ) (root n : ℕ) → Type 0
Linked first next root n = (get_or first root 0 ≡ suc n) ⊎ ((m : ℕ) × (m < n) × (get_or next m 0 ≡ suc n))

-- Nobody waits for a node.
pub record Silent (holder first next : List ℕ) (n : ℕ) : Type 0 where
  pub holder-none : get_or holder n 0 ≡ 0
  pub first-none : get_or first n 0 ≡ 0
  pub next-none : get_or next n 0 ≡ 0

-- A node has settled, and has something; or it waits for one.
abbrev pub SettledOr : (left : ℕ) (Has Waits : Type 0) → Type 0
SettledOr left Has Waits = ((left ≡ 0) × Has) ⊎ ((left ≡ 1) × Waits)

-- ---- What is known

module _ (w : ℕ → Wait) where
  -- Node c is held by node n, which is entered and waits for the types within it,
  pub record HeldIn (ns : List ℕ) (nodes from c n : ℕ) : Type 0 where
    pub entered : from ≤ n
    pub exists : n < nodes
    pub inside : Memᴰ c (within ns n)
    pub types : (w n ≡ All) ⊎ (w n ≡ One)

  -- row n is the name whose definition is at a root,
  pub record FirstIn (ns roots : List ℕ) (nodes from root n : ℕ) : Type 0 where
    pub entered : from ≤ n
    pub exists : n < nodes
    pub name : w n ≡ Definition
    pub root-is : root_at ns roots n ≡ root

  -- and row n the same name as an earlier one.
  pub record NextIn (ns roots : List ℕ) (nodes from m n : ℕ) : Type 0 where
    pub entered : from ≤ m
    pub later : m < n
    pub exists : n < nodes
    pub name-before : w m ≡ Definition
    pub name : w n ≡ Definition
    pub same : root_at ns roots m ≡ root_at ns roots n

module _ (w : ℕ → Wait) (D : ℕ → Type 0) where
  -- What the tables say of a node that is entered, by what it waits for. Of the types within it, it waits for those that it holds, and its others are
  -- done, if it waits for all; if for one, one is done or it holds all. A name whose definition is not done is linked to it, if it has one.
  pub record NodeKnown (ns roots left holder first next : List ℕ) (n : ℕ) : Type 0 where
    pub nothing : w n ≡ Nothing → get_or left n 0 ≡ 0
    pub ever : w n ≡ Ever → get_or left n 0 ≡ 0 → ⊥
    pub all : w n ≡ All → get_or left n 0 ≡ counts (holds holder n) (within ns n)
    pub others : w n ≡ All → (c : ℕ) → Memᴰ c (within ns n) → (get_or holder c 0 ≡ suc n) ⊎ D c
    pub one : w n ≡ One → SettledOr (get_or left n 0) ((c : ℕ) × Memᴰ c (within ns n) × D c) ((c : ℕ) → Memᴰ c (within ns n) → get_or holder c 0 ≡ suc n)
    pub names :
        w n ≡ Definition → (root_at ns roots n ≡ 65535 → ⊥) → SettledOr (get_or left n 0) (D (root_at ns roots n)) (Linked first next (root_at ns roots n) n)
    pub unbound : w n ≡ Definition → root_at ns roots n ≡ 65535 → get_or left n 0 ≡ 0 → ⊥

  -- The nodes from `from` on are entered, and the first `told` of those that are ready have told all that wait for them.
  pub record Known (ns roots : List ℕ) (nodes from told : ℕ) (left holder first next ready : List ℕ) : Type 0 where
    pub left_long : length left ≡ 4096
    pub holder_long : length holder ≡ 4096
    pub first_long : length first ≡ 4096
    pub next_long : length next ≡ 4096
    pub before : (n : ℕ) → n < from → get_or left n 0 ≡ 0
    pub node : (n : ℕ) → from ≤ n → n < nodes → NodeKnown ns roots left holder first next n
    -- links lead from a node to those that wait for it
    pub held : (c n : ℕ) → get_or holder c 0 ≡ suc n → HeldIn w ns nodes from c n
    pub firsts : (root n : ℕ) → get_or first root 0 ≡ suc n → FirstIn w ns roots nodes from root n
    pub nexts : (m n : ℕ) → get_or next m 0 ≡ suc n → NextIn w ns roots nodes from m n
    -- nobody waits for a node that has settled, unless it has yet to tell
    pub tells : (n : ℕ) → from ≤ n → n < nodes → get_or left n 0 ≡ 0 → Memᴰ n (drop told ready) ⊎ Silent holder first next n
    pub listed : (n : ℕ) → Memᴰ n ready → (from ≤ n) × (n < nodes) × (get_or left n 0 ≡ 0)
    pub room : length ready + counts some_left left + from ≤ 4096

  -- What a node that has settled has.
  pub record Ready (ns roots : List ℕ) (n : ℕ) : Type 0 where
    pub not-ever : w n ≡ Ever → ⊥
    pub all : w n ≡ All → (c : ℕ) → Memᴰ c (within ns n) → D c
    pub one : w n ≡ One → (c : ℕ) × Memᴰ c (within ns n) × D c
    pub name : w n ≡ Definition → (root_at ns roots n ≡ 65535 → ⊥) × D (root_at ns roots n)

-- In a scope, of the tables of the code.
pub record KnownOf (s : Scope) (w : ℕ → Wait) (D : ℕ → Type 0) (from told : ℕ) (f : Waiting) : Type 0 where
  pub known : Known w D s.rows.now s.roots.now s.nodes from told f.left f.holder f.first f.next f.ready.items

-- Those that have settled are done: of the nodes from `from` on all,
abbrev pub AllDone : Scope → (ℕ → Type 0) → (from : ℕ) → Waiting → Type 0
AllDone s D from f = (m : ℕ) → from ≤ m → m < s.nodes → get_or f.left m 0 ≡ 0 → D m

-- and where all are entered all but those that have yet to tell.
abbrev pub DoneOf : Scope → (ℕ → Type 0) → (told : ℕ) → Waiting → Type 0
DoneOf s D told f = (m : ℕ) → m < s.nodes → get_or f.left m 0 ≡ 0 → D m ⊎ Memᴰ m (drop told f.ready.items)

-- ---- Of one node
settled-or : {v v' : ℕ} {H H' W W' : Type 0} → v' ≡ v → (H → H') → (W → W') → SettledOr v H W → SettledOr v' H' W'
settled-or same f g (inl z) = inl (same ∙ z.0, f z.1)
settled-or same f g (inr z) = inr (same ∙ z.0, g z.1)

settled-has : {v : ℕ} {H W : Type 0} → v ≡ 0 → SettledOr v H W → H
settled-has z (inl h) = h.1
settled-has z (inr h) = absurd (omega (arith, z, h.0))

module _ {w : ℕ → Wait} {D : ℕ → Type 0} {ns roots : List ℕ} {n : ℕ} where
  module _ {left left' holder holder' first first' next next' : List ℕ} (same : get_or left' n 0 ≡ get_or left n 0) where
    pub node-same : ((c : ℕ) → Memᴰ c (within ns n) → get_or holder' c 0 ≡ get_or holder c 0) →
        (Linked first next (root_at ns roots n) n → Linked first' next' (root_at ns roots n) n) →
        NodeKnown w D ns roots left holder first next n → NodeKnown w D ns roots left' holder' first' next' n
    node-same kept linked k =
        record {
          nothing = λ e. same ∙ k.nothing e;
          ever = λ e z. k.ever e (sym same ∙ z);
          all = λ e. same ∙ k.all e ∙ counts-same (holds holder n) (holds holder' n) (within ns n) still;
          others = λ e c i. others c i (k.others e c i);
          one = λ e. settled-or same (λ h. h) (λ all c i. kept c i ∙ all c i) (k.one e);
          names = λ e some. settled-or same (λ h. h) linked (k.names e some);
          unbound = λ e r z. k.unbound e r (sym same ∙ z);
        }
      where
        still : (c : ℕ) → Memᴰ c (within ns n) → holds holder n c ≡ holds holder' n c
        still c i = ap (λ (z : ℕ). eqb z (suc n)) (sym (kept c i))

        others : (c : ℕ) → Memᴰ c (within ns n) → (get_or holder c 0 ≡ suc n) ⊎ D c → (get_or holder' c 0 ≡ suc n) ⊎ D c
        others c i (inl f) = inl (kept c i ∙ f)
        others c i (inr d) = inr d

  -- what a node that has settled waited for
  pub node-ready : {left holder first next : List ℕ} → get_or left n 0 ≡ 0 → NodeKnown w D ns roots left holder first next n → Ready w D ns roots n
  node-ready {left} {holder} z k =
      record {
        not-ever = λ e. k.ever e z;
        all = λ e c i. all (counts-none (holds holder n) (within ns n) (sym (k.all e) ∙ z) c i) (k.others e c i);
        one = λ e. settled-has z (k.one e);
        name = λ e. let some = λ (r : root_at ns roots n ≡ 65535). k.unbound e r z in (some, settled-has z (k.names e some));
      }
    where
      all : {c : ℕ} → holds holder n c ≡ false → (get_or holder c 0 ≡ suc n) ⊎ D c → D c
      all {c} e (inl f) = absurd (false≢true (sym e ∙ eq-eqb (get_or holder c 0) (suc n) f))
      all e (inr d) = d

  -- where more is done
  module _ {E : ℕ → Type 0} {table nodes : ℕ} (x : Nodes ns table nodes) (bound : Roots roots nodes)
      (more : (m : ℕ) → m < nodes → D m → E m) (inside : n < nodes) where
    node-more : {left holder first next : List ℕ} → NodeKnown w D ns roots left holder first next n → NodeKnown w E ns roots left holder first next n
    node-more {holder = holder} k =
        record {
          nothing = k.nothing;
          ever = k.ever;
          all = k.all;
          others = λ e c i. others c i (k.others e c i);
          one = λ e. settled-or refl (λ h. (h.0, h.1, type h.0 h.1 h.2)) (λ all. all) (k.one e);
          names = λ e some. settled-or refl (more (root_at ns roots n) (bound.node (row_at ns n).value some)) (λ q. q) (k.names e some);
          unbound = k.unbound;
        }
      where
        type : (c : ℕ) → Memᴰ c (within ns n) → D c → E c
        type c i d = let r = place-inside (x.tree n inside).whole i in more c (omega (arith, r.1, (x.tree n inside).ends)) d

        others : (c : ℕ) → Memᴰ c (within ns n) → (get_or holder c 0 ≡ suc n) ⊎ D c → (get_or holder c 0 ≡ suc n) ⊎ E c
        others c i (inl f) = inl f
        others c i (inr d) = inr (type c i d)

-- ---- Of all
module _ {s : Scope} {w : ℕ → Wait} {D : ℕ → Type 0} {from told : ℕ} {f : Waiting} where
  pub known-more : {E : ℕ → Type 0} → ((m : ℕ) → m < s.nodes → D m → E m) → KnownOf s w D from told f → KnownOf s w E from told f
  known-more more r =
      let k = r.known in
      record {
        known =
            record {
              left_long = k.left_long;
              holder_long = k.holder_long;
              first_long = k.first_long;
              next_long = k.next_long;
              before = k.before;
              node = λ n l h. node-more s.whole s.bound more h (k.node n l h);
              held = k.held;
              firsts = k.firsts;
              nexts = k.nexts;
              tells = k.tells;
              listed = k.listed;
              room = k.room;
            };
      }

  pub ready-has : {n : ℕ} → KnownOf s w D from told f → from ≤ n → n < s.nodes → get_or f.left n 0 ≡ 0 → Ready w D s.rows.now s.roots.now n
  ready-has {n} k l h z = node-ready z (k.known.node n l h)
