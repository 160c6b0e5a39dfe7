-- All nodes are entered, and all that are ready have told it: what settles then. Assumes nothing.
--     Settles, settles          a node by what it waits for
use mathlib.Core.Path.{◌≡◌, sym, ap, ◌∙◌}
use mathlib.Core.Logic.{◌⊎◌, inl, inr}
use mathlib.Core.Bool.{false}
use mathlib.Core.List.Memᴰ
use mathlib.Core.List.{List, [], ◌∷◌, Memᴰ}
use Prim.Native.Nat.{ℕ, zero, suc, ◌≤◌, ◌<◌}
use native.Mathlib.Omega.{arith}
use borrow.Author.Tests.{ne_eqb}
use lib.Dec.{eqb}
use lib.ListN.{length, get_or, drop}
use Rattle.format.specs.Layout.{row_at}
use Rattle.environment.specs.Tables.{Nodes, Roots}
use Rattle.environment.specs.declared.scope.Scope.{Scope}
use Rattle.inhabitants.specs.declared.waiting.Wait.{Wait}
use Rattle.inhabitants.specs.declared.waiting.Wait.TheVariants.{Nothing, All, One, Definition}
use Rattle.inhabitants.specs.declared.waiting.Waiting.{Waiting}
use Rattle.inhabitants.specs.Waiting.{within, root_at, holds}
use Rattle.inhabitants.proofs.waiting.Counts.{none-counts}
use Rattle.inhabitants.proofs.waiting.Places.{place-inside}
use Rattle.inhabitants.proofs.waiting.Known.{Linked, Silent, SettledOr, Known, KnownOf}

-- In the end a node has settled if what it waits for has.
pub record Settles (w : ℕ → Wait) (ns roots left : List ℕ) (n : ℕ) : Type 0 where
  pub nothing : w n ≡ Nothing → get_or left n 0 ≡ 0
  pub all : w n ≡ All → ((c : ℕ) → Memᴰ c (within ns n) → get_or left c 0 ≡ 0) → get_or left n 0 ≡ 0
  pub one : w n ≡ One → (c : ℕ) → Memᴰ c (within ns n) → get_or left c 0 ≡ 0 → get_or left n 0 ≡ 0
  pub name : w n ≡ Definition → (root_at ns roots n ≡ 65535 → ⊥) → get_or left (root_at ns roots n) 0 ≡ 0 → get_or left n 0 ≡ 0

pub none-left : {n : ℕ} (k : ℕ) (l : List ℕ) → length l ≤ k → Memᴰ n (drop k l) → ⊥
none-left zero [] h i = Memᴰ.not-nil i
none-left (suc k) [] h i = Memᴰ.not-nil i
none-left zero (x ∷ l) h i = omega (arith, h)
none-left (suc k) (x ∷ l) h i = none-left k l (omega (arith, h)) i

module _ {w : ℕ → Wait} {D : ℕ → Type 0} {ns roots : List ℕ} {table nodes told : ℕ} (x : Nodes ns table nodes) (bound : Roots roots nodes)
    {left holder first next ready : List ℕ} (k : Known w D ns roots nodes 0 told left holder first next ready) (told-it : length ready ≤ told) where
  silent : (n : ℕ) → n < nodes → get_or left n 0 ≡ 0 → Silent holder first next n
  silent n h e = go (k.tells n (omega arith) h e)
    where
      go : Memᴰ n (drop told ready) ⊎ Silent holder first next n → Silent holder first next n
      go (inl i) = absurd (none-left told ready told-it i)
      go (inr s) = s

  -- a node that has settled is held by none
  not-held : {n : ℕ} → n < nodes → (c : ℕ) → Memᴰ c (within ns n) → get_or left c 0 ≡ 0 → get_or holder c 0 ≡ 0
  not-held {n} h c i z =
      let r = place-inside (x.tree n h).whole i in
      let s = silent c (omega (arith, r.1, (x.tree n h).ends)) z in
      s.holder-none

  all-told : (n : ℕ) → n < nodes → w n ≡ All → ((c : ℕ) → Memᴰ c (within ns n) → get_or left c 0 ≡ 0) → get_or left n 0 ≡ 0
  all-told n h e all = (k.node n (omega arith) h).all e ∙ none-counts (holds holder n) (within ns n) (λ c i. none c i)
    where
      none : (c : ℕ) → Memᴰ c (within ns n) → holds holder n c ≡ false
      none c i = ap (λ (j : ℕ). eqb j (suc n)) (not-held h c i (all c i)) ∙ ne_eqb 0 (suc n) (λ y. omega (arith, y))

  one-told : (n : ℕ) → n < nodes → w n ≡ One → (c : ℕ) → Memᴰ c (within ns n) → get_or left c 0 ≡ 0 → get_or left n 0 ≡ 0
  one-told n h e c i z = go ((k.node n (omega arith) h).one e)
    where
      go : SettledOr (get_or left n 0) ((c : ℕ) × Memᴰ c (within ns n) × D c) ((c : ℕ) → Memᴰ c (within ns n) → get_or holder c 0 ≡ suc n) →
          get_or left n 0 ≡ 0
      go (inl y) = y.0
      go (inr y) = absurd (omega (arith, sym (y.1 c i) ∙ not-held h c i z))

  -- by the order of rows: an earlier one of the same name waits if this one does
  name-told : (b n : ℕ) → n < b → n < nodes → w n ≡ Definition → (root_at ns roots n ≡ 65535 → ⊥) → get_or left (root_at ns roots n) 0 ≡ 0 → get_or left n 0 ≡ 0
  name-told zero n l h e some z = absurd (omega arith)
  name-told (suc b) n l h e some z = go ((k.node n (omega arith) h).names e some) (name-told b)
    where
      root : ℕ
      root = root_at ns roots n

      go : SettledOr (get_or left n 0) (D root) (Linked first next root n) →
          ((m : ℕ) → m < b → m < nodes → w m ≡ Definition → (root_at ns roots m ≡ 65535 → ⊥) → get_or left (root_at ns roots m) 0 ≡ 0 → get_or left m 0 ≡ 0) →
          get_or left n 0 ≡ 0
      go (inl y) ih = y.0
      go (inr (o, inl q)) ih = let s = silent root (bound.node (row_at ns n).value some) z in absurd (omega (arith, sym q ∙ s.first-none))
      go (inr (o, inr (m, u, q))) ih =
          let i = k.nexts m n q in
          let b : m < nodes = omega (arith, u, h) in
          let told = ih m (omega (arith, l, u)) b i.name-before (λ y. some (sym i.same ∙ y)) (ap (λ (j : ℕ). get_or left j 0) i.same ∙ z) in
          let s = silent m b told in
          absurd (omega (arith, sym q ∙ s.next-none))

pub settles : {s : Scope} {w : ℕ → Wait} {D : ℕ → Type 0} {told : ℕ} {f : Waiting} → KnownOf s w D 0 told f → length f.ready.items ≤ told →
    (n : ℕ) → n < s.nodes → Settles w s.rows.now s.roots.now f.left n
settles {s} r all n h =
    let k = r.known in
    record {
      nothing = λ e. (k.node n (omega arith) h).nothing e;
      all = λ e. all-told s.whole s.bound k all n h e;
      one = λ e. one-told s.whole s.bound k all n h e;
      name = λ e. name-told s.whole s.bound k all (suc n) n (omega arith) h e;
    }
