-- What a node holds of the types within it: those that wait. Assumes nothing.
--     does-wait, no-wait, waits-not, waits-for      whether a node waits, by its entry
--     some-settled, none-settled                    one of some nodes has settled, or all wait
--     held-long, held-other, held-some              the table of links once they are held
--     HoldLeft, hold-start, ..                      the loop of `hold`: what is done to the first types, and what is left, come to what is to be done
use mathlib.Core.Path.{◌≡◌, refl, sym, ap, ◌∙◌}
use mathlib.Core.Logic.{◌⊎◌, inl, inr}
use mathlib.Core.Bool.{Bool, true, false, cond, true≢false}
use mathlib.Core.List.Memᴰ
use mathlib.Core.List.{List, [], ◌∷◌, Memᴰ}
use Prim.Native.Nat.{ℕ, suc, ◌+◌, ◌≤◌, ◌<◌}
use native.Mathlib.Decide.{ℕ_discrete}
use native.Mathlib.Omega.{arith}
use borrow.Author.Tests.{eq-eqb, ne_eqb}
use lib.ListN.{length, get_or, set, length-set}
use lib.Seq.{get_or-set_same, get_or-set_other}
use Rattle.std.proofs.lemmas.Bool.{false≢true}
use Rattle.format.specs.Layout.{row_at}
use Rattle.inhabitants.specs.declared.waiting.Waiting.{Waiting}
use Rattle.inhabitants.specs.declared.waiting.Held.{Held}
use Rattle.inhabitants.specs.Waiting.{counts, waits, held_by, one_settled, HeldAs, places_in}
use Rattle.inhabitants.proofs.waiting.Places.{places-on, places-done}
use Rattle.format.proofs.Rows.{opens}
use Rattle.book.specs.declared.walks.Siblings.{Siblings}
use Rattle.book.specs.declared.read.Node.{Node}
use Rattle.book.specs.Walks.{Over, NextTree}
use Rattle.book.proofs.Walking.{whole, here, at}

-- ---- Whether a node waits
pub does-wait : (left : List ℕ) (n : ℕ) → (get_or left n 0 ≡ 0 → ⊥) → waits left n ≡ true
does-wait left n h = rw (ne_eqb (get_or left n 0) 0 h) refl

pub no-wait : (left : List ℕ) (n : ℕ) → get_or left n 0 ≡ 0 → waits left n ≡ false
no-wait left n h = rw (eq-eqb (get_or left n 0) 0 h) refl

pub waits-not : (left : List ℕ) (n : ℕ) → waits left n ≡ false → get_or left n 0 ≡ 0
waits-not left n e = go (ℕ_discrete (get_or left n 0) 0)
  where
    go : Dec (get_or left n 0 ≡ 0) → get_or left n 0 ≡ 0
    go (yes z) = z
    go (no d) = absurd (true≢false (sym (does-wait left n d) ∙ e))

pub waits-for : (left : List ℕ) (n : ℕ) → waits left n ≡ true → get_or left n 0 ≡ 0 → ⊥
waits-for left n e z = false≢true (sym (no-wait left n z) ∙ e)

-- one of these nodes has settled, or all wait
pub some-settled : (left : List ℕ) (l : List ℕ) → one_settled left l ≡ true → (c : ℕ) × Memᴰ c l × (waits left c ≡ false)
unfolding one_settled
some-settled left [] e = absurd (false≢true e)
some-settled left (c ∷ l) e = go (waits left c) refl e (some-settled left l)
  where
    go : (b : Bool) → waits left c ≡ b → cond b (one_settled left l) true ≡ true → (one_settled left l ≡ true → (d : ℕ) × Memᴰ d l × (waits left d ≡ false)) →
        (d : ℕ) × Memᴰ d (c ∷ l) × (waits left d ≡ false)
    go false f e ih = (c, Memᴰ.head refl, f)
    go true f e ih = let r = ih e in (r.0, Memᴰ.tail r.1, r.2)

pub none-settled : (left : List ℕ) (l : List ℕ) → one_settled left l ≡ false → (c : ℕ) → Memᴰ c l → waits left c ≡ true
unfolding one_settled
none-settled left [] e c i = absurd (Memᴰ.not-nil i)
none-settled left (d ∷ l) e c i = go (waits left d) refl e (Memᴰ.cases_cons i) (λ h. none-settled left l h c)
  where
    go : (b : Bool) → waits left d ≡ b → cond b (one_settled left l) true ≡ false → (c ≡ d) ⊎ Memᴰ c l → (one_settled left l ≡ false → Memᴰ c l → waits left c ≡ true) → waits left c ≡ true
    go false f e j ih = absurd (true≢false e)
    go true f e (inl p) ih = ap (waits left) p ∙ f
    go true f e (inr j) ih = ih e j

-- ---- What a node holds
module _ (left : List ℕ) (mark : ℕ) where
  pub held-long : (l holder : List ℕ) → length (held_by left mark l holder) ≡ length holder
  unfolding held_by
  held-long [] holder = refl
  held-long (c ∷ l) holder = held-long l (cond (waits left c) (set holder c mark) holder) ∙ go (waits left c)
    where
      go : (b : Bool) → length (cond b (set holder c mark) holder) ≡ length holder
      go true = length-set holder c mark
      go false = refl

  -- one that is none of them, or that does not wait, is held as before
  pub held-other : (l holder : List ℕ) (n : ℕ) → (Memᴰ n l → waits left n ≡ true → ⊥) → get_or (held_by left mark l holder) n 0 ≡ get_or holder n 0
  unfolding held_by
  held-other [] holder n h = refl
  held-other (c ∷ l) holder n h =
      held-other l (cond (waits left c) (set holder c mark) holder) n (λ i. h (Memᴰ.tail i)) ∙ go (waits left c) refl (ℕ_discrete n c)
    where
      go : (b : Bool) → waits left c ≡ b → Dec (n ≡ c) → get_or (cond b (set holder c mark) holder) n 0 ≡ get_or holder n 0
      go false e d = refl
      go true e (yes p) = absurd (h (Memᴰ.head p) (ap (waits left) p ∙ e))
      go true e (no d) = get_or-set_other holder c n mark 0 d

  -- one that is held by the node stays so
  held-again : (l holder : List ℕ) (n : ℕ) → get_or holder n 0 ≡ mark → n < length holder → get_or (held_by left mark l holder) n 0 ≡ mark
  unfolding held_by
  held-again [] holder n e b = e
  held-again (c ∷ l) holder n e b = held-again l (cond (waits left c) (set holder c mark) holder) n (same (waits left c) (ℕ_discrete n c)) (long (waits left c))
    where
      same : (x : Bool) → Dec (n ≡ c) → get_or (cond x (set holder c mark) holder) n 0 ≡ mark
      same false d = e
      same true (yes p) = ap (λ (m : ℕ). get_or (set holder c mark) m 0) p ∙ get_or-set_same holder c mark 0 (omega (arith, b, p))
      same true (no d) = get_or-set_other holder c n mark 0 d ∙ e

      long : (x : Bool) → n < length (cond x (set holder c mark) holder)
      long true = omega (arith, b, length-set holder c mark)
      long false = b

  -- one that waits is held
  pub held-some : (l holder : List ℕ) (n : ℕ) → n < length holder → Memᴰ n l → waits left n ≡ true → get_or (held_by left mark l holder) n 0 ≡ mark
  unfolding held_by
  held-some [] holder n b i e = absurd (Memᴰ.not-nil i)
  held-some (c ∷ l) holder n b i e = go (ℕ_discrete n c) (Memᴰ.cases_cons i) (λ h. held-again l h n) (held-some l)
    where
      go : Dec (n ≡ c) → (n ≡ c) ⊎ Memᴰ n l → ((h : List ℕ) → get_or h n 0 ≡ mark → n < length h → get_or (held_by left mark l h) n 0 ≡ mark)
          → ((h : List ℕ) (n : ℕ) → n < length h → Memᴰ n l → waits left n ≡ true → get_or (held_by left mark l h) n 0 ≡ mark)
          → get_or (held_by left mark l (cond (waits left c) (set holder c mark) holder)) n 0 ≡ mark
      go (yes p) j again ih =
          rw (sym (ap (waits left) p) ∙ e)
          (again (set holder c mark) (ap (λ (m : ℕ). get_or (set holder c mark) m 0) p ∙ get_or-set_same holder c mark 0 (omega (arith, b, p))) (omega (arith, b, length-set holder c mark)))
      go (no d) (inl p) again ih = absurd (d p)
      go (no d) (inr j) again ih = ih (cond (waits left c) (set holder c mark) holder) n (omega (arith, b, long (waits left c))) j e
        where
          long : (x : Bool) → length (cond x (set holder c mark) holder) ≡ length holder
          long true = length-set holder c mark
          long false = refl

-- ---- The loop

-- Of the types from `at` on, in a scope's rows.
pub record HoldLeft (ns : List ℕ) (until n : ℕ) (l : List ℕ) (old now : Waiting) (held : Held) (at : ℕ) : Type 0 where
  pub left : now.left ≡ old.left
  pub first : now.first ≡ old.first
  pub next : now.next ≡ old.next
  pub ready : now.ready ≡ old.ready
  pub few : held.open ≤ at
  pub holder : held_by old.left (suc n) (places_in ns at until) now.holder ≡ held_by old.left (suc n) l old.holder
  pub open' : held.open + counts (waits old.left) (places_in ns at until) ≡ counts (waits old.left) l
  pub settles : cond held.settles true (one_settled old.left (places_in ns at until)) ≡ one_settled old.left l

pub hold-start : (ns : List ℕ) (until n at : ℕ) (f : Waiting) {held : Held} → held.open ≡ 0 → held.settles ≡ false → HoldLeft ns until n (places_in ns at until) f f held at
hold-start ns until n at f {held} o p =
    record {
      left = refl;
      first = refl;
      next = refl;
      ready = refl;
      few = omega (arith, o);
      holder = refl;
      open' = omega (arith, o);
      settles = rw p refl;
    }

module _ {ns : List ℕ} {until n : ℕ} {l : List ℕ} {old now : Waiting} {held : Held} {s t : Siblings} {c : ℕ} {node : Node}
    (o : Over ns until s) (h : HoldLeft ns until n l old now held s.at) (x : NextTree s c node t) where
  abbrev rest : ℕ
  rest = s.at + (row_at ns s.at).size

  goes-on : places_in ns s.at until ≡ s.at ∷ places_in ns rest until
  goes-on = places-on (opens (whole o) (here o x))

  further : suc s.at ≤ t.at
  further = let one = (opens (whole o) (here o x)).here.one in omega (arith, at o x, one)

  left-at : get_or old.left s.at 0 ≡ get_or now.left c 0
  left-at = ap (λ (z : List ℕ). get_or z s.at 0) (sym h.left) ∙ ap (λ (i : ℕ). get_or now.left i 0) (sym x.place)

  -- the first of them, and the rest
  by-holder : held_by old.left (suc n) (places_in ns s.at until) now.holder
      ≡ held_by old.left (suc n) (places_in ns rest until) (cond (waits old.left s.at) (set now.holder s.at (suc n)) now.holder)
  unfolding held_by
  by-holder = ap (λ (m : List ℕ). held_by old.left (suc n) m now.holder) goes-on

  by-open : counts (waits old.left) (places_in ns s.at until)
      ≡ cond (waits old.left s.at) (suc (counts (waits old.left) (places_in ns rest until))) (counts (waits old.left) (places_in ns rest until))
  unfolding counts
  by-open = ap (counts (waits old.left)) goes-on

  by-settles : one_settled old.left (places_in ns s.at until) ≡ cond (waits old.left s.at) (one_settled old.left (places_in ns rest until)) true
  unfolding one_settled
  by-settles = ap (one_settled old.left) goes-on

  -- one that has settled is passed over
  pub hold-settled : {held' : Held} → get_or now.left c 0 ≡ 0 → held'.open ≡ held.open → held'.settles ≡ true → HoldLeft ns until n l old now held' t.at
  hold-settled {held'} z p q =
      record {
        left = h.left;
        first = h.first;
        next = h.next;
        ready = h.ready;
        few = omega (arith, h.few, p, further);
        holder = rw (at o x) (passed-holder ∙ h.holder);
        open' = rw (at o x, p) (passed-open ∙ h.open');
        settles = rw (q) (passed-settles ∙ h.settles);
      }
    where
      no : waits old.left s.at ≡ false
      no = rw (eq-eqb (get_or old.left s.at 0) 0 (left-at ∙ z)) refl

      passed-holder : held_by old.left (suc n) (places_in ns rest until) now.holder ≡ held_by old.left (suc n) (places_in ns s.at until) now.holder
      passed-holder = sym (by-holder ∙ ap (λ (b : Bool). held_by old.left (suc n) (places_in ns rest until) (cond b (set now.holder s.at (suc n)) now.holder)) no)

      passed-open : held.open + counts (waits old.left) (places_in ns rest until) ≡ held.open + counts (waits old.left) (places_in ns s.at until)
      passed-open = ap (λ (z : ℕ). held.open + z) (sym (by-open ∙ ap (λ (b : Bool). cond b (suc (counts (waits old.left) (places_in ns rest until))) (counts (waits old.left) (places_in ns rest until))) no))

      passed-settles : true ≡ cond held.settles true (one_settled old.left (places_in ns s.at until))
      passed-settles = sym (ap (cond held.settles true) (by-settles ∙ ap (λ (b : Bool). cond b (one_settled old.left (places_in ns rest until)) true) no) ∙ either held.settles)
        where
          either : (b : Bool) → cond b true true ≡ true
          either true = refl
          either false = refl

  -- one that waits is held
  pub hold-waiting : {now' : Waiting} {held' : Held} → (get_or now.left c 0 ≡ 0 → ⊥) → now'.left ≡ now.left → now'.first ≡ now.first → now'.next ≡ now.next → now'.ready ≡ now.ready →
      now'.holder ≡ set now.holder c (n + 1) → held'.open ≡ held.open + 1 → held'.settles ≡ held.settles → HoldLeft ns until n l old now' held' t.at
  hold-waiting {now'} {held'} d a b e f g p q =
      record {
        left = a ∙ h.left;
        first = b ∙ h.first;
        next = e ∙ h.next;
        ready = f ∙ h.ready;
        few = omega (arith, h.few, p, further);
        holder = rw (at o x, g, x.place, one-more) (taken-holder ∙ h.holder);
        open' = rw (at o x) (omega (arith, p, taken-open, h.open'));
        settles = rw (at o x, q) (taken-settles ∙ h.settles);
      }
    where
      one-more : n + 1 ≡ suc n
      one-more = omega arith

      yes' : waits old.left s.at ≡ true
      yes' = rw (ne_eqb (get_or old.left s.at 0) 0 (λ z. d (sym left-at ∙ z))) refl

      taken-holder : held_by old.left (suc n) (places_in ns rest until) (set now.holder s.at (suc n)) ≡ held_by old.left (suc n) (places_in ns s.at until) now.holder
      taken-holder = sym (by-holder ∙ ap (λ (b : Bool). held_by old.left (suc n) (places_in ns rest until) (cond b (set now.holder s.at (suc n)) now.holder)) yes')

      taken-open : suc (counts (waits old.left) (places_in ns rest until)) ≡ counts (waits old.left) (places_in ns s.at until)
      taken-open = sym (by-open ∙ ap (λ (b : Bool). cond b (suc (counts (waits old.left) (places_in ns rest until))) (counts (waits old.left) (places_in ns rest until))) yes')

      taken-settles : cond held.settles true (one_settled old.left (places_in ns rest until)) ≡ cond held.settles true (one_settled old.left (places_in ns s.at until))
      taken-settles = ap (cond held.settles true) (sym (by-settles ∙ ap (λ (b : Bool). cond b (one_settled old.left (places_in ns rest until)) true) yes'))

pub hold-end : {ns : List ℕ} {until n at : ℕ} {l : List ℕ} {old now : Waiting} {held : Held} → HoldLeft ns until n l old now held at → until ≤ at → HeldAs n l old now held
unfolding held_by counts one_settled
hold-end {ns} {until} {n} {at} {l} {old} {now} {held} h e =
    let z = places-done ns e in
    record {
      left = h.left;
      holder = sym (ap (λ (m : List ℕ). held_by old.left (suc n) m now.holder) z) ∙ h.holder;
      first = h.first;
      next = h.next;
      ready = h.ready;
      open' = omega (arith, ap (counts (waits old.left)) z, h.open');
      settles = alone held.settles ∙ sym (ap (λ (m : List ℕ). cond held.settles true (one_settled old.left m)) z) ∙ h.settles;
    }
  where
    alone : (b : Bool) → b ≡ cond b true false
    alone true = refl
    alone false = refl
