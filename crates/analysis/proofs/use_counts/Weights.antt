-- Amounts of nodes, each so many times. Assumes nothing.
--     weighed-more, weighed-alone, ..     more for a node; one node alone; the nodes from one on; none
--     raised, raised-.., weighed-raised   one more for the node where a chain ends
use mathlib.Core.Path.{◌≡◌, refl, ap, subst, ◌∙◌}
use mathlib.Core.List.{List, [], ◌∷◌}
use Prim.Native.Nat.{ℕ, zero, suc, ◌+◌, ◌*◌, ◌≤◌, ◌<◌}
use native.Mathlib.Nat.{add-zero, zero-add, add-mul, zero-mul}
use native.Mathlib.Numerals.{add-one}
use native.Mathlib.Decide.{ℕ_discrete}
use native.Mathlib.Omega.{arith}
use lib.ListN.{length, get_or, set, drop, length-set}
use lib.Seq.{drop-cons}
use Rattle.std.proofs.lemmas.List.{get_or-drop, get_or-set_other}
use Rattle.std.proofs.lemmas.Grind.{get_or-set_at}
use Rattle.std.specs.Prelude.{Option, Some, None, IfSome}
use Rattle.judgement.specs.Aliases.{End}
use Rattle.environment.specs.Tables.{EndAt}
use Rattle.analysis.specs.Reaching.{KeptFrom}
use Rattle.analysis.specs.Tallies.{Amount, end_tally, node_tally, weighed}
use Rattle.analysis.proofs.BookNodes.{ends-nowhere, ends-there}

-- ---- Nodes, each so many times, by what a node amounts to
module _ (of : ℕ → Amount → ℕ) (g : Amount) where
  -- more for a node
  more-from : (n : ℕ) (w : List ℕ) (f k : ℕ) → f < length w → weighed of n (set w f (get_or w f 0 + k)) g ≡ weighed of n w g + k * of (n + f) g
  unfolding weighed
  more-from n [] f k h = absurd (omega arith)
  more-from n (times ∷ w) zero k h = rw (add-zero n) (omega (arith, add-mul times k (of n g)))
  more-from n (times ∷ w) (suc f) k h =
      let on : suc n + f ≡ n + suc f = omega arith in
      let rest = more-from (suc n) w f k (omega arith) in
      let same = ap (λ (j : ℕ). k * of j g) on in
      omega (arith, rest, same)

  pub weighed-more : (w : List ℕ) (f k : ℕ) → f < length w → weighed of 0 (set w f (get_or w f 0 + k)) g ≡ weighed of 0 w g + k * of f g
  weighed-more w f k h = more-from 0 w f k h ∙ ap (λ (j : ℕ). weighed of 0 w g + k * of j g) (zero-add f)

  -- one node alone
  alone-from : (n : ℕ) (w : List ℕ) (f : ℕ) → get_or w f 0 * of (n + f) g ≤ weighed of n w g
  unfolding weighed
  alone-from n [] f = omega (arith, zero-mul (of (n + f) g))
  alone-from n (times ∷ w) zero = rw (add-zero n) (omega arith)
  alone-from n (times ∷ w) (suc f) =
      let on : suc n + f ≡ n + suc f = omega arith in
      let rest = alone-from (suc n) w f in
      let same = ap (λ (j : ℕ). get_or w f 0 * of j g) on in
      omega (arith, rest, same)

  pub weighed-alone : (w : List ℕ) (f : ℕ) → get_or w f 0 * of f g ≤ weighed of 0 w g
  weighed-alone w f = subst (λ (j : ℕ). get_or w f 0 * of j g ≤ weighed of 0 w g) (zero-add f) (alone-from 0 w f)

  -- those from a node on: it, and those after it
  pub weighed-drop : (w : List ℕ) (f : ℕ) → f < length w → weighed of f (drop f w) g ≡ get_or w f 0 * of f g + weighed of (f + 1) (drop (f + 1) w) g
  unfolding weighed
  weighed-drop w f h = rw (add-one f, drop-cons w f 0 h) refl

  -- none of any
  pub weighed-none : (n : ℕ) (w : List ℕ) → ((i : ℕ) → get_or w i 0 ≡ 0) → weighed of n w g ≡ 0
  unfolding weighed
  weighed-none n [] h = refl
  weighed-none n (times ∷ w) h =
      let none : times ≡ 0 = h 0 in
      let rest = weighed-none (suc n) w (λ i. h (suc i)) in
      rw none (omega (arith, rest))

  pub weighed-past : (f : ℕ) (w : List ℕ) → ((i : ℕ) → f ≤ i → get_or w i 0 ≡ 0) → weighed of f (drop f w) g ≡ 0
  weighed-past f w h = weighed-none f (drop f w) (λ i. get_or-drop f w i 0 ∙ h (f + i) (omega arith))

-- ---- At the end of a chain
-- One more for the node there, where there is one.
abbrev pub raised : Option ℕ → List ℕ → List ℕ
raised None w = w
raised (Some f) w = set w f (get_or w f 0 + 1)

pub raised-length : (o : Option ℕ) (w : List ℕ) → length (raised o w) ≡ length w
raised-length None w = refl
raised-length (Some f) w = length-set w f (get_or w f 0 + 1)

pub raised-most : (o : Option ℕ) (w : List ℕ) → IfSome o (λ f. f < length w) → (i : ℕ) → get_or (raised o w) i 0 ≤ get_or w i 0 + 1
raised-most None w h i = omega arith
raised-most (Some f) w h i =
    elim (ℕ_discrete i f) [
      | yes z ↦ rw (get_or-set_at w f i (get_or w f 0 + 1) 0 z h, z) (omega arith)
      | no z ↦ rw (get_or-set_other w f i (get_or w f 0 + 1) 0 z) (omega arith)
    ]

pub raised-kept : (o : Option ℕ) (w : List ℕ) (n : ℕ) → IfSome o (λ f. f < n) → KeptFrom n w (raised o w)
raised-kept None w n h = record { kept = λ i l. refl }
raised-kept (Some f) w n h = record { kept = λ i l. get_or-set_other w f i (get_or w f 0 + 1) 0 (λ z. absurd (omega arith)) }

pub weighed-raised : (ns : List ℕ) (g : Amount) (o : Option ℕ) (x : End) → EndAt ns o x → (w : List ℕ) → IfSome o (λ f. f < length w) →
    weighed (node_tally ns) 0 (raised o w) g ≡ weighed (node_tally ns) 0 w g + end_tally g x
unfolding end_tally
weighed-raised ns g None x q w h = rw (ends-nowhere ns x q).1 (omega arith)
weighed-raised ns g (Some f) x q w h = rw (ends-there ns f x q) (omega (arith, weighed-more (node_tally ns) g w f 1 h))
