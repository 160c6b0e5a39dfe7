-- A turn of the loop in which a node tells those that wait for it, step by step. Assumes nothing.
--     told-room                                 where one is told, there is room for the next
--     can-tell                                  what `tell_all` asks
--     holder-told, first-told, next-told        the three steps
--     turn-of, turned, turned-done              the turn of a node, and what is known after it
use mathlib.Core.Path.{◌≡◌, refl, sym, ap, subst, ◌∙◌}
use mathlib.Core.Logic.{◌⊎◌, inl, inr}
use mathlib.Core.Bool.{Bool, true, false, cond}
use mathlib.Core.List.{List, [], ◌∷◌, ◌++◌, Memᴰ}
use Prim.Native.Nat.{ℕ, zero, suc, ◌+◌, ◌-◌, ◌≤◌, ◌<◌}
use native.Mathlib.Omega.{arith}
use lib.Dec.{eqb}
use lib.ListN.{length, get_or, set, drop, length-set, get_or-append, length-append}
use lib.Seq.{get_or-set_same, set-get_or}
use Rattle.environment.specs.declared.scope.Scope.{Scope}
use Rattle.environment.proofs.Links.{listed-at}
use Rattle.inhabitants.specs.declared.waiting.Wait.{Wait}
use Rattle.inhabitants.specs.declared.waiting.Waiting.{Waiting}
use Rattle.inhabitants.specs.Waiting.{Room, OneLess, ToldAs, CanTell, TurnedAs}
use Rattle.inhabitants.proofs.waiting.Known.{Silent, Known, KnownOf, DoneOf}
use Rattle.inhabitants.proofs.waiting.Told.{less, more-ready, less-room, less-done, drop-next, told-holder, told-first, told-next}

-- Where one is told, there is room for the next.
pub told-room : (v : ℕ) {g h : Waiting} → v ≤ 4096 → Room g → ToldAs v g h → Room h
told-room zero b r u = subst Room (sym u) r
told-room (suc q) {g} b r u =
    record {
      long = rw u.left (length-set g.left q (get_or g.left q 0 - 1) ∙ r.long);
      few = rw (u.left, u.ready) (less-room g.left r.long (omega arith) g.ready.items r.few);
    }

-- a link is one more than a node, or 0
small : (s : Scope) (v : ℕ) → ((q : ℕ) → v ≡ suc q → q < s.nodes) → v ≤ 4096
small s zero h = omega arith
small s (suc q) h = omega (arith, h q refl, s.whole.few_nodes)

can-tell : {s : Scope} {w : ℕ → Wait} {D : ℕ → Type 0} {told : ℕ} {f : Waiting} → KnownOf s w D 0 told f → (n : ℕ) → CanTell n f
can-tell {s} {f = f} r n =
    let k = r.known in
    record {
      room = record { long = k.left_long; few = omega (arith, k.room) };
      holder = small s (get_or f.holder n 0) (λ q e. let h = k.held n q e in h.exists);
      first = small s (get_or f.first n 0) (λ q e. let h = k.firsts n q e in h.exists);
      next = small s (get_or f.next n 0) (λ q e. let h = k.nexts n q e in h.exists);
    }

-- It is the turn of node n, which was begun in the state `start`: those that were done then still are, but those that have yet to tell.
record Turn (s : Scope) (w : ℕ → Wait) (D : ℕ → Type 0) (told n : ℕ) (start f : Waiting) : Type 0 where
  turn-known : KnownOf s w D 0 told f
  few : told < length f.ready.items
  here : get_or f.ready.items told 0 ≡ n
  still : DoneOf s D told start → DoneOf s D told f

module _ {s : Scope} {w : ℕ → Wait} {D : ℕ → Type 0} {told n : ℕ} {start f : Waiting} (t : Turn s w D told n start f) (done : D n) where
  abbrev Before : (holder first next : List ℕ) → Waiting
  Before holder first next = record { left = f.left; holder = holder; first = first; next = next; ready = f.ready }

  known : Known w D s.rows.now s.roots.now s.nodes 0 told f.left f.holder f.first f.next f.ready.items
  known = t.turn-known.known

  exists : (n < s.nodes) × (get_or f.left n 0 ≡ 0)
  exists =
      let r = known.listed (get_or f.ready.items told 0) (listed-at f.ready.items told 0 t.few) in
      subst (λ (m : ℕ). (m < s.nodes) × (get_or f.left m 0 ≡ 0)) t.here (r.1, r.2)

  here-before : told ≤ length f.ready.items
  here-before = omega (arith, t.few)

  -- one that settles is listed behind those that have
  further : (q : ℕ) {l : List ℕ} → l ≡ more-ready f.left q f.ready.items → (told < length l) × (get_or l told 0 ≡ n)
  further q e = go (eqb (get_or f.left q 0) 1) e
    where
      go : (b : Bool) {l : List ℕ} → l ≡ cond b (f.ready.items ++ q ∷ []) f.ready.items → (told < length l) × (get_or l told 0 ≡ n)
      go true e = rw e (omega (arith, t.few, length-append f.ready.items (q ∷ [])), get_or-append f.ready.items (q ∷ []) 0 told t.few ∙ t.here)
      go false e = rw e (t.few, t.here)

  -- where there is no link, all stays
  none : {h : Waiting} {holder first next : List ℕ} → holder ≡ f.holder → first ≡ f.first → next ≡ f.next → h ≡ Before holder first next →
      Turn s w D told n start h
  none {h} b c d u =
      record {
        turn-known = record { known = rw (u, b, c, d) known };
        few = rw u t.few;
        here = rw u t.here;
        still = λ all. rw u (t.still all);
      }

  stepped : {q : ℕ} {g h : Waiting} → q < s.nodes → g.left ≡ f.left → g.ready ≡ f.ready → OneLess q g h →
      Known w D s.rows.now s.roots.now s.nodes 0 told (less f.left q) g.holder g.first g.next (more-ready f.left q f.ready.items) → Turn s w D told n start h
  stepped {q} {g} {h} b left ready o k =
      let more : h.ready.items ≡ more-ready f.left q f.ready.items = rw (← left, ← ready) o.ready in
      let r = further q more in
      record {
        turn-known = record { known = rw (o.left, left, o.holder, o.first, o.next, more) k };
        few = r.0;
        here = r.1;
        still = λ all m l. rw (o.left, left, more) (less-done f.left known.left_long below f.ready.items here-before m (λ d. d) (t.still all m l));
      }
    where
      below : q < 4096
      below = omega (arith, b, s.whole.few_nodes)

  -- ---- The steps
  holder-told : (v : ℕ) {h : Waiting} → get_or f.holder n 0 ≡ v → ToldAs v (Before (set f.holder n 0) f.first f.next) h → Turn s w D told n start h
  holder-told zero e u = none (ap (set f.holder n) (sym e) ∙ set-get_or f.holder n 0) refl refl u
  holder-told (suc q) e u = stepped (known.held n q e).exists refl refl u (told-holder s.whole known here-before exists.0 exists.1 done e)

  first-told : (v : ℕ) {h : Waiting} → get_or f.first n 0 ≡ v → ToldAs v (Before f.holder (set f.first n 0) f.next) h → Turn s w D told n start h
  first-told zero e u = none refl (ap (set f.first n) (sym e) ∙ set-get_or f.first n 0) refl u
  first-told (suc q) e u = stepped (known.firsts n q e).exists refl refl u (told-first s.whole known here-before exists.0 exists.1 done e)

  next-told : (v : ℕ) {h : Waiting} → get_or f.next n 0 ≡ v → ToldAs v (Before f.holder f.first (set f.next n 0)) h → Turn s w D told n start h
  next-told zero e u = none refl refl (ap (set f.next n) (sym e) ∙ set-get_or f.next n 0) u
  next-told (suc q) e u = stepped (known.nexts n q e).exists refl refl u (told-next s.whole known here-before exists.0 exists.1 done e)

-- The tables of links that `tell` leaves alone.
pub told-links : (v : ℕ) (g h : Waiting) → ToldAs v g h → (h.holder ≡ g.holder) × (h.first ≡ g.first) × (h.next ≡ g.next)
told-links zero g h u = (ap (λ (f : Waiting). f.holder) u, ap (λ (f : Waiting). f.first) u, ap (λ (f : Waiting). f.next) u)
told-links (suc q) g h u = (u.holder, u.first, u.next)

-- ---- One node more has told all
module _ {w : ℕ → Wait} {D : ℕ → Type 0} {ns roots : List ℕ} {nodes told : ℕ} {left holder first next ready : List ℕ} where
  told-all : Known w D ns roots nodes 0 told left holder first next ready → told < length ready → Silent holder first next (get_or ready told 0) →
      Known w D ns roots nodes 0 (suc told) left holder first next ready
  told-all k b s =
      record {
        left_long = k.left_long;
        holder_long = k.holder_long;
        first_long = k.first_long;
        next_long = k.next_long;
        before = k.before;
        node = k.node;
        held = k.held;
        firsts = k.firsts;
        nexts = k.nexts;
        tells = λ n l h e. tells n (k.tells n l h e);
        listed = k.listed;
        room = k.room;
      }
    where
      tells : (n : ℕ) → Memᴰ n (drop told ready) ⊎ Silent holder first next n → Memᴰ n (drop (suc told) ready) ⊎ Silent holder first next n
      tells n (inr t) = inr t
      tells n (inl i) = go (drop-next told ready b i)
        where
          go : (n ≡ get_or ready told 0) ⊎ Memᴰ n (drop (suc told) ready) → Memᴰ n (drop (suc told) ready) ⊎ Silent holder first next n
          go (inl p) = inr (subst (Silent holder first next) (sym p) s)
          go (inr j) = inl j

module _ {s : Scope} {w : ℕ → Wait} {D : ℕ → Type 0} {told n : ℕ} {f : Waiting} where
  begins : KnownOf s w D 0 told f → told < length f.ready.items → n ≡ get_or f.ready.items told 0 → Turn s w D told n f f
  begins k b e = record { turn-known = k; few = b; here = sym e; still = λ d. d }

  pub turn-of : KnownOf s w D 0 told f → told < length f.ready.items → n ≡ get_or f.ready.items told 0 →
      CanTell n f × (n < s.nodes) × (get_or f.left n 0 ≡ 0)
  turn-of k b e =
      let r = k.known.listed (get_or f.ready.items told 0) (listed-at f.ready.items told 0 b) in
      (can-tell k n, rw e r.1, rw e r.2)

  module _ {g : Waiting} (k : KnownOf s w D 0 told f) (b : told < length f.ready.items) (e : n ≡ get_or f.ready.items told 0) (done : D n)
      (u : TurnedAs n f g) where
    one : Turn s w D told n f u.holder-told
    one = holder-told (begins k b e) done (get_or f.holder n 0) refl u.told-holder

    two : Turn s w D told n f u.first-told
    two = first-told one done (get_or u.holder-told.first n 0) refl u.told-first

    three : Turn s w D told n f g
    three = next-told two done (get_or u.first-told.next n 0) refl u.told-next

    -- all of its links are gone
    silent : Silent g.holder g.first g.next n
    silent =
        let x = told-links _ _ _ u.told-holder in
        let y = told-links _ _ _ u.told-first in
        let z = told-links _ _ _ u.told-next in
        record {
          holder-none = ap (λ (l : List ℕ). get_or l n 0) (z.0 ∙ y.0 ∙ x.0) ∙ none-at f.holder k.known.holder_long;
          first-none = ap (λ (l : List ℕ). get_or l n 0) (z.1 ∙ y.1) ∙ none-at u.holder-told.first one.turn-known.known.first_long;
          next-none = ap (λ (l : List ℕ). get_or l n 0) z.2 ∙ none-at u.first-told.next two.turn-known.known.next_long;
        }
      where
        none-at : (l : List ℕ) → length l ≡ 4096 → get_or (set l n 0) n 0 ≡ 0
        none-at l long = let r = turn-of k b e in get_or-set_same l n 0 0 (omega (arith, r.1, s.whole.few_nodes, long))

    one-more : suc told ≡ told + 1
    one-more = omega arith

    pub turned : KnownOf s w D 0 (told + 1) g × (told + 1 ≤ length g.ready.items)
    turned = (
      subst (λ (m : ℕ). KnownOf s w D 0 m g) one-more
          (record { known = told-all three.turn-known.known three.few (subst (Silent g.holder g.first g.next) (sym three.here) silent) }),
      omega (arith, three.few),
    )

    pub turned-done : DoneOf s D told f → DoneOf s D (told + 1) g
    turned-done all m l z = subst (λ (j : ℕ). D m ⊎ Memᴰ m (drop j g.ready.items)) one-more (go (three.still all m l z))
      where
        go : D m ⊎ Memᴰ m (drop told g.ready.items) → D m ⊎ Memᴰ m (drop (suc told) g.ready.items)
        go (inl d) = inl d
        go (inr i) = last (drop-next told g.ready.items three.few i)
          where
            last : (m ≡ get_or g.ready.items told 0) ⊎ Memᴰ m (drop (suc told) g.ready.items) → D m ⊎ Memᴰ m (drop (suc told) g.ready.items)
            last (inl p) = inl (subst D (sym (p ∙ three.here)) done)
            last (inr j) = inr j
