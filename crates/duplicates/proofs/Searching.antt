-- The digital search tree: a number that stands before is found along the links, and a place is linked in where it does not. Assumes nothing.
--     way-kept, way-on, way-leaves   ways under more links, one link longer, and past their first place
--     tree-start                     the tree of the first place
--     Search                         the loop of `meet`: search-on goes one link on, search-end links the place in
use mathlib.Core.Path.{◌≡◌, refl, sym, ap, subst, ◌∙◌}
use mathlib.Core.List.{List}
use mathlib.Core.Logic.{◌⊎◌, inl, inr}
use Prim.Native.Nat.{ℕ, ◌+◌, ◌*◌, ◌/◌, ◌%◌, ◌≤◌, ◌<◌}
use native.Mathlib.Nat.{mod-lt}
use native.Mathlib.Decide.{ℕ_discrete}
use native.Mathlib.Omega.{arith}
use lib.ListN.{length, get_or, set, length-set, length-replicate, replicate}
use lib.Seq.{get_or-set_same, get_or-set_other}
use Rattle.format.proofs.References.{everywhere}
use Rattle.duplicates.specs.Duplicate.{StandsBefore}
use Rattle.duplicates.specs.Tree.{linked, Way, stop, step, Tree}
use Rattle.duplicates.proofs.Places.{place-of}

-- ---- Ways
way-kept : {links more : List ℕ} {a r b s : ℕ} → ((p : ℕ) → 0 < get_or links p 0 → get_or more p 0 ≡ get_or links p 0) → Way links a r b s → Way more a r b s
way-kept keeps stop = stop
way-kept {more = more} keeps (step {a = a} {r = r} {b = b} {s = s} h w) =
    let e = keeps (2 * a + r % 2) h in
    step {a = a} {r = r} (rw e h) (subst (λ (m : ℕ). Way more m (r / 2) b s) (sym e) (way-kept keeps w))

way-on : {links : List ℕ} {a r b s : ℕ} → Way links a r b s → 0 < linked links b s → Way links a r (linked links b s) (s / 2)
way-on stop h = step h stop
way-on (step g w) h = step g (way-on w h)

way-leaves : {links : List ℕ} {a r b s : ℕ} → Way links a r b s → (a ≡ b → ⊥) → (0 < linked links a r) × Way links (linked links a r) (r / 2) b s
way-leaves stop apart = absurd (apart refl)
way-leaves (step h w) apart = (h, w)

-- ---- The tree of the first place
none-linked : (size p : ℕ) → get_or {A = ℕ} (replicate size 0) p 0 ≡ 0
none-linked size p = everywhere size p 0

pub tree-start : (ks : List ℕ) (size : ℕ) → 2 * length ks ≤ size → Tree ks (replicate size 0) 1
tree-start ks size room =
    record {
      room = omega (arith, length-replicate {A = ℕ} size 0);
      some = omega arith;
      later = λ a r h. let z = none-linked size (2 * a + r % 2) in absurd (omega arith);
      below = λ p. let z = none-linked size p in omega arith;
      ways = λ i h. let e : i ≡ 0 = omega arith in subst (λ (j : ℕ). (s : ℕ) × Way (replicate size 0) 0 (get_or ks j 0) j s) (sym e) (get_or ks 0 0, stop);
    }

-- ---- The loop of `meet`
pub record Search (ks links : List ℕ) (n at rest : ℕ) : Type 0 where
  pub tree : Tree ks links n
  pub inside : at < n
  pub come : Way links 0 (get_or ks n 0) at rest
  pub ahead : (i : ℕ) → i < n → get_or ks i 0 ≡ get_or ks n 0 → (s : ℕ) × Way links at rest i s

pub search-start : {ks links : List ℕ} {n : ℕ} → Tree ks links n → Search ks links n 0 (get_or ks n 0)
search-start {links = links} t =
    record {
      tree = t;
      inside = t.some;
      come = stop;
      ahead = λ i h e. subst (λ (k : ℕ). (s : ℕ) × Way links 0 k i s) e (t.ways i h);
    }

module _ {ks links : List ℕ} {n at rest : ℕ} (x : Search ks links n at rest) where
  abbrev place : ℕ
  place = 2 * at + rest % 2

  place-small : n < length ks → place < length links
  place-small h = omega (arith, x.inside, x.tree.room, mod-lt rest {m = 2} (omega arith))

  module _ (other : get_or ks at 0 ≡ get_or ks n 0 → ⊥) where
    leaves : (i : ℕ) → i < n → get_or ks i 0 ≡ get_or ks n 0 → (0 < linked links at rest) × ((s : ℕ) × Way links (linked links at rest) (rest / 2) i s)
    leaves i h e =
        let w = x.ahead i h e in
        let l = way-leaves w.1 (λ q. other (ap (λ (j : ℕ). get_or ks j 0) q ∙ e)) in
        (l.0, (w.0, l.1))

    pub search-on : 0 < linked links at rest → Search ks links n (linked links at rest) (rest / 2)
    search-on h =
        record {
          tree = x.tree;
          inside = x.tree.below place;
          come = way-on x.come h;
          ahead = λ i l e. (leaves i l e).1;
        }

    module _ (free : linked links at rest ≡ 0) (few : n < length ks) where
      abbrev more : List ℕ
      more = set links place n

      new : StandsBefore ks n → ⊥
      new m = let p = place-of ks n m in let l = (leaves p.0 p.1 p.2).0 in omega arith

      here : get_or more place 0 ≡ n
      here = get_or-set_same links place n 0 (place-small few)

      -- what stands at a place of the links now
      now-at : (p : ℕ) → ((p ≡ place) × (get_or more p 0 ≡ n)) ⊎ (get_or more p 0 ≡ get_or links p 0)
      now-at p = go (ℕ_discrete p place)
        where
          go : Dec (p ≡ place) → ((p ≡ place) × (get_or more p 0 ≡ n)) ⊎ (get_or more p 0 ≡ get_or links p 0)
          go (yes e) = inl (e, ap (λ (q : ℕ). get_or more q 0) e ∙ here)
          go (no d) = inr (get_or-set_other links place p n 0 d)

      kept : {a r b s : ℕ} → Way links a r b s → Way more a r b s
      kept = way-kept (λ p h. elim (now-at p) [ inl q ↦ let z : get_or links p 0 ≡ 0 = ap (λ (j : ℕ). get_or links j 0) q.0 ∙ free in absurd (omega arith) | inr e ↦ e ])

      pub search-end : (StandsBefore ks n → ⊥) × Tree ks more (n + 1)
      search-end = (
        new,
        record {
          room = rw (length-set links place n) x.tree.room;
          some = omega arith;
          later = λ a r h. elim (now-at (2 * a + r % 2)) [
            | inl q ↦ omega (arith, x.inside, mod-lt rest {m = 2} (omega arith), mod-lt r {m = 2} (omega arith))
            | inr e ↦ let z = x.tree.later a r (rw e at h) in rw e z
          ];
          below = λ p. elim (now-at p) [ inl q ↦ omega arith | inr e ↦ let z = x.tree.below p in omega arith ];
          ways = λ i h. ways i h (ℕ_discrete i n);
        },
      )
        where
          ways : (i : ℕ) → i < n + 1 → Dec (i ≡ n) → (s : ℕ) × Way more 0 (get_or ks i 0) i s
          ways i h (yes e) =
              subst (λ (j : ℕ). (s : ℕ) × Way more 0 (get_or ks j 0) j s) (sym e)
              (rest / 2, subst (λ (j : ℕ). Way more 0 (get_or ks n 0) j (rest / 2)) here (way-on (kept x.come) (rw here (omega (arith, x.tree.some)))))
          ways i h (no d) = let w = x.tree.ways i (omega arith) in (w.0, kept w.1)
