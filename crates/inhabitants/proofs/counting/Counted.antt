-- The numbers of all nodes: what is known while nodes are entered, and while those that are counted tell it. Assumes nothing.
--     WaitFor, Right                  what each node waits for, and that its number is right
--     Numbers                         the table: right, or many where a node fills and is not counted
--     counted-now, others-stay        one node more is counted
--     Entering, entering-start, ..    the loop that enters
--     Telling, telling-start, ..      the loop that tells
use mathlib.Core.Path.{◌≡◌, sym, ap, subst, ◌∙◌}
use mathlib.Core.Logic.{◌⊎◌, inl, inr}
use mathlib.Core.Bool.{cond}
use mathlib.Core.List.{List, Memᴰ}
use Prim.Native.Nat.{ℕ, ◌+◌, ◌-◌, ◌≤◌, ◌<◌}
use native.Mathlib.Decide.{ℕ_discrete}
use native.Mathlib.Omega.{arith}
use borrow.Author.Tests.{eq-eqb, ne_eqb}
use lib.Dec.{eqb}
use lib.ListN.{length, get_or, drop, replicate, length-set, length-replicate}
use lib.Seq.{get_or-set_same, get_or-set_other}
use Rattle.format.specs.Book.{Definition}
use Rattle.std.proofs.lemmas.List.{get_or-replicate}
use Rattle.environment.specs.Tables.{Binds}
use Rattle.environment.specs.declared.scope.Scope.{Scope}
use Rattle.inhabitants.specs.declared.waiting.Wait.{Wait}
use Rattle.inhabitants.specs.declared.waiting.Waiting.{Waiting}
use Rattle.inhabitants.specs.Waiting.{IsNew, EnteredAs, CanTell, TurnedAs}
use Rattle.inhabitants.specs.Filling.{FillingOf}
use Rattle.inhabitants.specs.Counting.{counting_wait, number_at, node_values, CountedAs}
use Rattle.inhabitants.proofs.waiting.Known.{KnownOf, AllDone, DoneOf, Ready, ready-has, known-more}
use Rattle.inhabitants.proofs.waiting.Entered.{begun, entered, entered-same}
use Rattle.inhabitants.proofs.waiting.Turn.{turn-of, turned, turned-done}
use Rattle.inhabitants.proofs.waiting.Places.{place-inside}
use Rattle.inhabitants.proofs.counting.Waits.{wait-none, wait-by, after-name, after-parts}
use Rattle.inhabitants.proofs.counting.Numbered.{none-valued, some-valued, part-counted}

-- What each node waits for, by the table that tells which nodes fill.
abbrev pub WaitFor : Scope → Waiting → ℕ → Wait
WaitFor s f = counting_wait f.left s.rows.now

-- A node's number is right.
pub record Right (s : Scope) (numbers : List ℕ) (n : ℕ) : Type 0 where
  pub right : (ds : List Definition) → Binds s.rows.now s.roots.now ds → get_or numbers n 0 ≡ node_values s.rows.now ds n

-- The table: those from `from` on are right, or many and they fill; those before are many.
pub record Numbers (s : Scope) (f : Waiting) (from : ℕ) (numbers : List ℕ) : Type 0 where
  pub long : length numbers ≡ 4096
  pub blank : (m : ℕ) → m < from → m < 4096 → get_or numbers m 0 ≡ 4294967296
  pub state : (m : ℕ) → from ≤ m → m < s.nodes → Right s numbers m ⊎ ((get_or numbers m 0 ≡ 4294967296) × (get_or f.left m 0 ≡ 0))

pub numbers-start : (s : Scope) (f : Waiting) (numbers : List ℕ) → numbers ≡ replicate 4096 4294967296 → Numbers s f s.nodes numbers
numbers-start s f numbers e =
    record {
      long = rw e (length-replicate {A = ℕ} 4096 4294967296);
      blank = λ m h l. rw e (get_or-replicate 4096 m 4294967296 0 l);
      state = λ m h l. absurd (omega arith);
    }

-- ---- One node more is counted
module _ (s : Scope) (f : Waiting) (fills : FillingOf s f) {n : ℕ} (inside : n < s.nodes) (old new : List ℕ)
    (is : CountedAs f.left s.rows.now s.roots.now n old new) (long : length old ≡ 4096) where
  -- the others stay
  pub others-stay : (m : ℕ) → (m ≡ n → ⊥) → get_or new m 0 ≡ get_or old m 0
  others-stay m d = ap (λ (l : List ℕ). get_or l m 0) is ∙ get_or-set_other old n m _ 0 d

  number-is : get_or new n 0 ≡ cond (eqb (get_or f.left n 0) 0) (number_at s.rows.now s.roots.now old n) 0
  number-is = ap (λ (l : List ℕ). get_or l n 0) is ∙ get_or-set_same old n _ 0 (omega (arith, inside, long, s.whole.few_nodes))

  pub counted-now : (state : (m : ℕ) → n < m → m < s.nodes → Right s old m ⊎ ((get_or old m 0 ≡ 4294967296) × (get_or f.left m 0 ≡ 0))) →
      Ready (WaitFor s f) (Right s old) s.rows.now s.roots.now n → Right s new n
  counted-now state r = record { right = λ ds b. by-filling ds b (ℕ_discrete (get_or f.left n 0) 0) }
    where
      test : (ds : List Definition) → Binds s.rows.now s.roots.now ds → (c : ℕ) → n < c → c < s.nodes → eqb (get_or old c 0) 0 ≡ eqb (node_values s.rows.now ds c) 0
      test ds b c h l = elim (state c h l) [
        | inl x ↦ ap (λ (v : ℕ). eqb v 0) (x.right ds b)
        | inr x ↦ rw (x.0) (sym (ne_eqb (node_values s.rows.now ds c) 0 (some-valued ds _ _ ((fills c l ds b).0 x.1))))
      ]

      by-filling : (ds : List Definition) → Binds s.rows.now s.roots.now ds → Dec (get_or f.left n 0 ≡ 0) → get_or new n 0 ≡ node_values s.rows.now ds n
      by-filling ds b (yes z) =
          let by = wait-by f.left s.rows.now n (eq-eqb (get_or f.left n 0) 0 z) in
          number-is ∙ rw (eq-eqb (get_or f.left n 0) 0 z)
          (part-counted s ds b old inside ((fills n inside ds b).0 z)
          (λ k. let q = r.name (by ∙ after-name k) in (q.0, q.1.right ds b))
          (λ p c i. let q = r.all (by ∙ after-parts p) c i in q.right ds b)
          (λ k c i. let w = s.whole.tree n inside in let p = place-inside w.whole i in test ds b c p.0 (omega (arith, p.1, w.ends))))
      by-filling ds b (no d) =
          number-is ∙ rw (ne_eqb (get_or f.left n 0) 0 d)
          (sym (none-valued ds _ _ (λ x. d ((fills n inside ds b).1 x))))

-- what is right of the others stays so
module _ (s : Scope) {n : ℕ} {old new : List ℕ} (same : (m : ℕ) → (m ≡ n → ⊥) → get_or new m 0 ≡ get_or old m 0) where
  stays-right : {m : ℕ} → (m ≡ n → ⊥) → Right s old m → Right s new m
  stays-right {m} d x = record { right = λ ds b. same m d ∙ x.right ds b }

  more-right : Right s new n → (m : ℕ) → m < s.nodes → Right s old m → Right s new m
  more-right now m h x = go (ℕ_discrete m n)
    where
      go : Dec (m ≡ n) → Right s new m
      go (yes e) = subst (Right s new) (sym e) now
      go (no d) = stays-right d x

-- ---- The loop that enters
pub record Entering (s : Scope) (f : Waiting) (from : ℕ) (g : Waiting) (numbers : List ℕ) : Type 0 where
  pub known : KnownOf s (WaitFor s f) (Right s numbers) from 0 g
  pub all-right : AllDone s (Right s numbers) from g
  pub table : Numbers s f from numbers

pub entering-start : (s : Scope) (f g : Waiting) (numbers : List ℕ) → IsNew g → numbers ≡ replicate 4096 4294967296 → Entering s f s.nodes g numbers
entering-start s f g numbers new e =
    record { known = begun new; all-right = λ m h l z. absurd (omega arith); table = numbers-start s f numbers e }

module _ (s : Scope) (f : Waiting) (fills : FillingOf s f) {n : ℕ} (inside : n < s.nodes) {g h : Waiting} {old : List ℕ} (e : Entering s f (n + 1) g old)
    {wait : Wait} (w : wait ≡ WaitFor s f n) (as-entered : EnteredAs s.rows.now s.roots.now n wait g h) where
  step : EnteredAs s.rows.now s.roots.now n (WaitFor s f n) g h
  step = subst (λ (v : Wait). EnteredAs s.rows.now s.roots.now n v g h) w as-entered

  now-known : KnownOf s (WaitFor s f) (Right s old) n 0 h
  now-known = entered e.known e.all-right inside step

  behind-right : (m : ℕ) → n < m → m < s.nodes → get_or h.left m 0 ≡ 0 → Right s old m
  behind-right m l b z = e.all-right m (omega arith) b (sym (entered-same e.known e.all-right inside step m l) ∙ z)

  -- one that has settled is counted at once
  pub entering-settled : get_or h.left n 0 ≡ 0 → {new : List ℕ} → CountedAs f.left s.rows.now s.roots.now n old new → Entering s f n h new
  entering-settled z {new} is =
      let ready = ready-has now-known (omega arith) inside z in
      let now = counted-now s f fills inside old new is e.table.long (λ m l b. e.table.state m (omega arith) b) ready in
      let same = others-stay s f fills inside old new is e.table.long in
      record {
        known = known-more (more-right s same now) now-known;
        all-right = λ m l b y. right same now m l b y (ℕ_discrete m n);
        table = record {
          long = rw is (length-set old n _ ∙ e.table.long);
          blank = λ m l b. same m (λ q. omega (arith, q)) ∙ e.table.blank m (omega arith) b;
          state = λ m l b. state same now m l b (ℕ_discrete m n);
        };
      }
    where
      right : ((m : ℕ) → (m ≡ n → ⊥) → get_or new m 0 ≡ get_or old m 0) → Right s new n → (m : ℕ) → n ≤ m → m < s.nodes → get_or h.left m 0 ≡ 0 → Dec (m ≡ n) → Right s new m
      right same now m l b y (yes q) = subst (Right s new) (sym q) now
      right same now m l b y (no d) = stays-right s same d (behind-right m (omega (arith, d)) b y)

      state : ((m : ℕ) → (m ≡ n → ⊥) → get_or new m 0 ≡ get_or old m 0) → Right s new n → (m : ℕ) → n ≤ m → m < s.nodes → Dec (m ≡ n) →
          Right s new m ⊎ ((get_or new m 0 ≡ 4294967296) × (get_or f.left m 0 ≡ 0))
      state same now m l b (yes q) = inl (subst (Right s new) (sym q) now)
      state same now m l b (no d) = elim (e.table.state m (omega (arith, d)) b) [
        | inl x ↦ inl (stays-right s same d x)
        | inr x ↦ inr (same m d ∙ x.0, x.1)
      ]

  -- another fills
  pub entering-waits : (get_or h.left n 0 ≡ 0 → ⊥) → Entering s f n h old
  entering-waits d =
      record {
        known = now-known;
        all-right = λ m l b y. right m l b y (ℕ_discrete m n);
        table = record {
          long = e.table.long;
          blank = λ m l b. e.table.blank m (omega arith) b;
          state = λ m l b. state m l b (ℕ_discrete m n);
        };
      }
    where
      right : (m : ℕ) → n ≤ m → m < s.nodes → get_or h.left m 0 ≡ 0 → Dec (m ≡ n) → Right s old m
      right m l b y (yes q) = absurd (d (ap (λ (i : ℕ). get_or h.left i 0) (sym q) ∙ y))
      right m l b y (no p) = behind-right m (omega (arith, p)) b y

      filled : get_or f.left n 0 ≡ 0
      filled = go (ℕ_discrete (get_or f.left n 0) 0)
        where
          go : Dec (get_or f.left n 0 ≡ 0) → get_or f.left n 0 ≡ 0
          go (yes z) = z
          go (no p) = absurd (d ((now-known.known.node n (omega arith) inside).nothing (wait-none f.left s.rows.now n (ne_eqb (get_or f.left n 0) 0 p))))

      state : (m : ℕ) → n ≤ m → m < s.nodes → Dec (m ≡ n) → Right s old m ⊎ ((get_or old m 0 ≡ 4294967296) × (get_or f.left m 0 ≡ 0))
      state m l b (yes q) =
          inr (e.table.blank m (omega (arith, q)) (omega (arith, b, s.whole.few_nodes)), ap (λ (i : ℕ). get_or f.left i 0) q ∙ filled)
      state m l b (no p) = e.table.state m (omega (arith, p)) b

-- the same where the node that is entered is the one before
module _ (s : Scope) (f : Waiting) (fills : FillingOf s f) {n : ℕ} (some : 0 < n) (few : n ≤ s.nodes) {g h : Waiting} {old : List ℕ} (e : Entering s f n g old)
    {wait : Wait} (w : wait ≡ WaitFor s f (n - 1)) (into : EnteredAs s.rows.now s.roots.now (n - 1) wait g h) where
  before : Entering s f (n - 1 + 1) g old
  before = let q : n ≡ n - 1 + 1 = omega arith in subst (λ (m : ℕ). Entering s f m g old) q e

  pub enters-settled : get_or h.left (n - 1) 0 ≡ 0 → {new : List ℕ} → CountedAs f.left s.rows.now s.roots.now (n - 1) old new → Entering s f (n - 1) h new
  enters-settled = entering-settled s f fills (omega arith) before w into

  pub enters-waits : (get_or h.left (n - 1) 0 ≡ 0 → ⊥) → Entering s f (n - 1) h old
  enters-waits = entering-waits s f fills (omega arith) before w into

-- ---- The loop that tells
pub record Telling (s : Scope) (f : Waiting) (told : ℕ) (g : Waiting) (numbers : List ℕ) : Type 0 where
  pub known : KnownOf s (WaitFor s f) (Right s numbers) 0 told g
  pub few : told ≤ length g.ready.items
  pub right-or : DoneOf s (Right s numbers) told g
  pub table : Numbers s f 0 numbers

pub telling-start : {s : Scope} {f g : Waiting} {numbers : List ℕ} {n : ℕ} → n ≡ 0 → Entering s f n g numbers → Telling s f 0 g numbers
telling-start {s} {f} {g} {numbers} z e =
    let x : Entering s f 0 g numbers = subst (λ (m : ℕ). Entering s f m g numbers) z e in
    record { known = x.known; few = omega arith; right-or = λ m b y. inl (x.all-right m (omega arith) b y); table = x.table }

module _ (s : Scope) (f : Waiting) (fills : FillingOf s f) {told n : ℕ} {g : Waiting} {old : List ℕ} (t : Telling s f told g old)
    (some : told < length g.ready.items) (here : n ≡ get_or g.ready.items told 0) where
  turn : CanTell n g × (n < s.nodes) × (get_or g.left n 0 ≡ 0)
  turn = turn-of t.known some here

  pub telling-inside : n < s.nodes
  telling-inside = turn.1

  pub telling-can : CanTell n g
  telling-can = turn.0

  pub telling-next : {new : List ℕ} → CountedAs f.left s.rows.now s.roots.now n old new → {h : Waiting} → TurnedAs n g h → Telling s f (told + 1) h new
  telling-next {new} is {h} tells =
      let ready = ready-has t.known (omega arith) turn.1 turn.2 in
      let now = counted-now s f fills turn.1 old new is t.table.long (λ m l b. t.table.state m (omega arith) b) ready in
      let same = others-stay s f fills turn.1 old new is t.table.long in
      let known = known-more (more-right s same now) t.known in
      let next = turned known some here now tells in
      record {
        known = next.0;
        few = next.1;
        right-or = turned-done known some here now tells (λ m b y. done same now m b (t.right-or m b y));
        table = record {
          long = rw is (length-set old n _ ∙ t.table.long);
          blank = λ m l b. absurd (omega arith);
          state = λ m l b. state same now m b (t.table.state m (omega arith) b);
        };
      }
    where
      done : ((m : ℕ) → (m ≡ n → ⊥) → get_or new m 0 ≡ get_or old m 0) → Right s new n → (m : ℕ) → m < s.nodes →
          Right s old m ⊎ Memᴰ m (drop told g.ready.items) → Right s new m ⊎ Memᴰ m (drop told g.ready.items)
      done same now m b (inl x) = inl (more-right s same now m b x)
      done same now m b (inr i) = inr i

      state : ((m : ℕ) → (m ≡ n → ⊥) → get_or new m 0 ≡ get_or old m 0) → Right s new n → (m : ℕ) → m < s.nodes →
          Right s old m ⊎ ((get_or old m 0 ≡ 4294967296) × (get_or f.left m 0 ≡ 0)) → Right s new m ⊎ ((get_or new m 0 ≡ 4294967296) × (get_or f.left m 0 ≡ 0))
      state same now m b (inl x) = inl (more-right s same now m b x)
      state same now m b (inr x) = go (ℕ_discrete m n)
        where
          go : Dec (m ≡ n) → Right s new m ⊎ ((get_or new m 0 ≡ 4294967296) × (get_or f.left m 0 ≡ 0))
          go (yes q) = inl (subst (Right s new) (sym q) now)
          go (no d) = inr (same m d ∙ x.0, x.1)
