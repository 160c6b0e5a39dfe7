-- The verdict on hashes by the first duplicate among them. Assumes nothing.
--     by_labels, by-labels     the verdict by the labels alone
--     none-twice, first-twice  it is that of the first duplicate
use mathlib.Core.Path.{◌≡◌, refl, sym, ap, subst, ◌∙◌}
use mathlib.Core.Bool.{Bool, true, false, not}
use mathlib.Core.List.Memᴰ
use mathlib.Core.List.{List, [], ◌∷◌, ◌++◌, map, append-nil, Memᴰ}
use mathlib.Core.Logic.{inl, inr, ⊎_elim}
use Prim.Native.Nat.{ℕ, zero, suc, ◌<◌}
use native.Mathlib.Omega.{arith}
use lib.ListN.{length, get_or, take}
use Rattle.std.specs.Prelude.{All, Err, ◌⊎◌}
use Rattle.std.proofs.lemmas.List.{length-map}
use Rattle.format.specs.Forest.{Forest, end, tree}
use Rattle.format.specs.Node.{Node, label_value}
use Rattle.format.specs.Distinct.{Distinct}
use Rattle.format.proofs.Logic.{is-true}
use Rattle.format.proofs.Distinct.{distinct-head, distinct-tail, pigeonhole}
use Rattle.refusals.specs.declared.Refusal as refusal
use Rattle.refusals.specs.Verdict.{Verdict, passes, and_then, unless}
use Rattle.judgement.specs.Check.{member, hashes_verdict}
use Rattle.judgement.proofs.Lookup.{member-says}
use Rattle.book.specs.Tables.{HashesAgree}
use Rattle.duplicates.specs.Duplicate.{FirstDuplicate}
use Rattle.environment.proofs.Links.{listed-at}
use Rattle.syntax.specs.Hashed.{labels_of}
use Rattle.syntax.specs.Gathering.{GathersAs}

-- ---- The verdict by the labels alone
module _ (hs : List ℕ) where
  abbrev hash : ℕ → ℕ
  hash v = get_or hs v 0

  by_labels : List ℕ → List ℕ → Verdict
  by_labels seen [] = passes
  by_labels seen (v ∷ vs) = and_then (unless (not (member (hash v) seen)) (refusal.Refusal.SameHash v)) (by_labels (hash v ∷ seen) vs)

  by-labels : (names : List (List ℕ)) → HashesAgree hs names → (seen : List ℕ) (f : Forest Node) → hashes_verdict names seen f ≡ by_labels seen (labels_of f)
  unfolding hashes_verdict labels_of by_labels
  by-labels names a seen end = refl
  by-labels names a seen (tree n kids next) =
      rw (← a (label_value n.label)) (ap (and_then (unless (not (member (hash (label_value n.label)) seen)) (refusal.Refusal.SameHash (label_value n.label)))) (by-labels names a (hash (label_value n.label) ∷ seen) next))

  -- one that is not seen, and one that is
  not-member : {x : ℕ} {seen : List ℕ} → (Memᴰ x seen → ⊥) → member x seen ≡ false
  not-member {x} {seen} n = go (member x seen) refl
    where
      go : (b : Bool) → member x seen ≡ b → b ≡ false
      go false e = refl
      go true e = absurd (n ((member-says x seen).0 (rw e tt)))

  goes-on : (v : ℕ) (seen : List ℕ) → (Memᴰ (hash v) seen → ⊥) → (vs : List ℕ) → by_labels seen (v ∷ vs) ≡ by_labels (hash v ∷ seen) vs
  unfolding by_labels
  goes-on v seen n vs = rw (not-member n) refl

  none-twice : (seen vs : List ℕ) → Distinct (map hash vs) → ((x : ℕ) → Memᴰ x (map hash vs) → Memᴰ x seen → ⊥) → by_labels seen vs ≡ passes
  unfolding by_labels
  none-twice seen [] d n = refl
  none-twice seen (v ∷ vs) d n =
      goes-on v seen (n (hash v) (Memᴰ.head refl)) vs
      ∙ none-twice (hash v ∷ seen) vs (distinct-tail d)
      (λ x m k. ⊎_elim (λ (e : x ≡ hash v). distinct-head d (Memᴰ.cast (sym e) m)) (n x (Memᴰ.tail m)) (Memᴰ.cases_cons k))

  first-twice : (seen vs rest : List ℕ) (r : ℕ) → r < length vs → Distinct (take r (map hash vs)) → ((x : ℕ) → Memᴰ x (take r (map hash vs)) → Memᴰ x seen → ⊥) →
      (Memᴰ (get_or (map hash vs) r 0) seen) ⊎ (Memᴰ (get_or (map hash vs) r 0) (take r (map hash vs))) →
      by_labels seen (vs ++ rest) ≡ Err (refusal.Refusal.SameHash (get_or vs r 0))
  unfolding by_labels
  first-twice seen [] rest r h d n a = absurd (omega arith)
  first-twice seen (v ∷ vs) rest zero h d n a =
      let m : Memᴰ (hash v) seen = ⊎_elim (λ m. m) (λ m. absurd (Memᴰ.not-nil m)) a in
      rw (is-true _ ((member-says (hash v) seen).1 m)) refl
  first-twice seen (v ∷ vs) rest (suc r) h d n a =
      goes-on v seen (n (hash v) (Memᴰ.head refl)) (vs ++ rest)
      ∙ first-twice (hash v ∷ seen) vs rest r (omega arith) (distinct-tail d)
      (λ x m k. ⊎_elim (λ (e : x ≡ hash v). distinct-head d (Memᴰ.cast (sym e) m)) (n x (Memᴰ.tail m)) (Memᴰ.cases_cons k))
      (⊎_elim (λ m. inl (Memᴰ.tail m)) (λ m. ⊎_elim (λ e. inl (Memᴰ.head e)) inr (Memᴰ.cases_cons m)) a)

-- ---- The verdict on what is gathered
module _ (hs : List ℕ) (size : length hs ≡ 1024) where
  in-table : (vs : List ℕ) → All (λ v. v < 1024) vs → (x : ℕ) → Memᴰ x (map (hash hs) vs) → Memᴰ x hs
  in-table [] s x m = absurd (Memᴰ.not-nil m)
  in-table (v ∷ vs) s x m =
      ⊎_elim (λ (e : x ≡ hash hs v). Memᴰ.cast e (listed-at hs v 0 (let z = s 0 0 (omega arith) in omega (arith, size, z))))
      (in-table vs (λ i d h. s (suc i) d (omega arith)) x) (Memᴰ.cases_cons m)

  module _ (names : List (List ℕ)) (a : HashesAgree hs names) (f : Forest Node) {ms : List ℕ} (g : GathersAs (labels_of f) ms) {made : List ℕ} (is : made ≡ map (hash hs) ms) where
    pub no-duplicate : Distinct made → passes ≡ hashes_verdict names [] f
    no-duplicate d =
        sym
        (by-labels hs names a [] f ∙ ap (by_labels hs []) whole
        ∙ none-twice hs [] ms once (λ x m k. absurd (Memᴰ.not-nil k)))
      where
        once : Distinct (map (hash hs) ms)
        once = subst Distinct is d

        -- 1,025 hashes of 1,024 names are not distinct
        whole : labels_of f ≡ ms
        whole =
            ⊎_elim (λ (e : g.rest ≡ []). sym g.parts ∙ ap (λ (l : List ℕ). ms ++ l) e ∙ append-nil ms)
            (λ (e : length ms ≡ 1025). absurd (omega (arith, pigeonhole once hs (in-table ms g.small), length-map ms (hash hs), size, e))) g.most

    pub duplicate : {r : ℕ} → FirstDuplicate made r → Err (refusal.Refusal.SameHash (get_or ms r 0)) ≡ hashes_verdict names [] f
    duplicate {r} d =
        let e = rw is at d in
        sym
        (by-labels hs names a [] f ∙ ap (by_labels hs []) (sym g.parts)
        ∙ first-twice hs [] ms g.rest r (omega (arith, e.inside, length-map ms (hash hs))) e.distinct (λ x m k. absurd (Memᴰ.not-nil k)) (inr e.again))
