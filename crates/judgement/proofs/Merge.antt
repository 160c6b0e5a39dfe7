-- The verdict on the merge of an init file's definitions with main's. Assumes that the book fits, that each of the two defines a name once,
-- and that the names exist.
--     merge-say     it passes, or 11: the lowest name that both define and not as the same
--     agree-says    no name of the kind: what both define is the same
use mathlib.Core.Path.{◌≡◌, refl, sym, subst, subst₂, ◌∙◌}
use mathlib.Core.Logic.{◌↔◌}
use mathlib.Core.Bool.{Bool, true, false}
use mathlib.Core.List.{map, Memᴰ}
use Prim.Native.Nat.{ℕ, ◌<◌}
use lib.Dec.{T}
use lib.ListN.{length}
use Rattle.format.specs.declared.Place.TheVariants.{Root}
use Rattle.format.specs.Forest.{Forest}
use Rattle.format.specs.Node.{Node}
use Rattle.format.specs.Book.{Definition, Book}
use Rattle.format.specs.Fits.{Fits}
use Rattle.refusals.specs.declared.Refusal.TheVariants.{Differs}
use Rattle.refusals.specs.Verdict.{Verdict, passes}
use Rattle.judgement.specs.Environment.{main_definitions, init_definitions, Found, missing, body, find_type, same_forest}
use Rattle.judgement.specs.Check.{same_verdict, merge_verdict}
use Rattle.format.specs.Distinct.{Distinct}
use Rattle.judgement.specs.WellFormed.{defined_name}
use Rattle.judgement.specs.Same.{Same}
use Rattle.judgement.specs.Rows.{Disagree}
use Rattle.refusals.proofs.Verdicts.{passed-refused}
use Rattle.judgement.proofs.Lookup.{find-body, find-named, find-missing, listed-defined, keep-says}
use Rattle.judgement.proofs.Same.{definitions-same}
use Rattle.judgement.proofs.Says.{Says, says-unless, says-as}
use Rattle.judgement.proofs.Each.{says-names}

-- a test that does not fail
holds : (t : Bool) → ((T t → ⊥) → ⊥) → T t
holds true h = tt
holds false h = h (λ z. z)

module _ (b : Book) (fits : Fits b) where
  -- the test on two definitions
  same-definitions : (d e : Definition) → Memᴰ d (init_definitions b) → Memᴰ e (main_definitions b) →
      T (same_forest b.names Root d.body e.body) ↔ Same b.names Root d.body e.body
  unfolding init_definitions main_definitions
  same-definitions d e p q = definitions-same b fits d e ((keep-says _ b.definitions d).0 p).0 ((keep-says _ b.definitions e).0 q).0

  -- What both files define is the same.
  abbrev pub Agree : Type 0
  Agree = (d e : Definition) → Memᴰ d (init_definitions b) → Memᴰ e (main_definitions b) → d.name ≡ e.name → Same b.names Root d.body e.body

  pub agree-says : ((n : ℕ) → Disagree b n → ⊥) ↔ Agree
  agree-says = (
    λ h d e p q s.
        let i = same-definitions d e p q in
        i.0 (holds (same_forest b.names Root d.body e.body) (λ k. h d.name (d, e, p, q, refl, sym s, λ x. k (i.1 x)))),
    λ h n z. z.6 (h z.0 z.1 z.2 z.3 (z.4 ∙ sym z.5)),
  )

  abbrev verdict_on : ℕ → Verdict
  verdict_on n = same_verdict b.names n (find_type (init_definitions b) n) (find_type (main_definitions b) n)

  -- of this name and with these bodies
  disagree-on : (init : Distinct (map defined_name (init_definitions b))) (main : Distinct (map defined_name (main_definitions b))) (n : ℕ) (t u : Forest Node) →
      find_type (init_definitions b) n ≡ body t → find_type (main_definitions b) n ≡ body u → (T (same_forest b.names Root t u) → ⊥) ↔ Disagree b n
  disagree-on init main n t u p q = (there, back)
    where
      there : (T (same_forest b.names Root t u) → ⊥) → Disagree b n
      there h =
          let x = find-body (init_definitions b) n t p in
          let y = find-body (main_definitions b) n u q in (
            x.definition,
            y.definition,
            x.listed,
            y.listed,
            x.of-name,
            y.of-name,
            λ k. h (subst₂ (λ (v w : Forest Node). T (same_forest b.names Root v w)) x.of-body y.of-body ((same-definitions x.definition y.definition x.listed y.listed).1 k)),
          )

      back : Disagree b n → T (same_forest b.names Root t u) → ⊥
      back z k =
          let e : body z.0.body ≡ body t = sym (find-named (init_definitions b) init z.0 n z.2 z.4) ∙ p in
          let f : body z.1.body ≡ body u = sym (find-named (main_definitions b) main z.1 n z.3 z.5) ∙ q in
          let e' : t ≡ z.0.body = cc in
          let f' : u ≡ z.1.body = cc in
          z.6 ((same-definitions z.0 z.1 z.2 z.3).0 (subst₂ (λ (v w : Forest Node). T (same_forest b.names Root v w)) e' f' k))

  module _ (init : Distinct (map defined_name (init_definitions b))) (main : Distinct (map defined_name (main_definitions b))) where
    same-say : (n : ℕ) → Says (verdict_on n) (Disagree b n → ⊥) (λ r. (r ≡ Differs n) × Disagree b n)
    unfolding same_verdict
    same-say n = go (find_type (init_definitions b) n) (find_type (main_definitions b) n) refl refl
      where
        -- a name that one of the two lacks
        lacks : (Disagree b n → ⊥) → Says passes (Disagree b n → ⊥) (λ r. (r ≡ Differs n) × Disagree b n)
        lacks h = record { passed = (λ e. h, λ g. refl); refused = λ r. (λ e. passed-refused e, λ x. absurd (h x.1)) }

        go : (f g : Found) → find_type (init_definitions b) n ≡ f → find_type (main_definitions b) n ≡ g →
            Says (same_verdict b.names n f g) (Disagree b n → ⊥) (λ r. (r ≡ Differs n) × Disagree b n)
        go missing g p q = lacks (λ z. find-missing (init_definitions b) n p (listed-defined z.2 z.4))
        go (body t) missing p q = lacks (λ z. find-missing (main_definitions b) n q (listed-defined z.3 z.5))
        go (body t) (body u) p q =
            let same = same_forest b.names Root t u in
            let i = disagree-on init main n t u p q in
            says-as (says-unless same (Differs n) (λ s. s, λ s. s)) (λ s z. i.1 z s, λ h. holds same (λ k. h (i.0 k))) (λ r. (λ x. (x.0, i.0 x.1), λ x. (x.0, i.1 x.1)))

    pub merge-say : ((d : Definition) → Memᴰ d (init_definitions b) → d.name < length b.names) →
        Says (merge_verdict b.names (init_definitions b) (main_definitions b)) ((n : ℕ) → Disagree b n → ⊥)
        (λ r. (n : ℕ) × (r ≡ Differs n) × Disagree b n × ((m : ℕ) → m < n → Disagree b m → ⊥))
    unfolding merge_verdict
    merge-say exists = says-names verdict_on Differs (Disagree b) same-say (length b.names) (λ n z. subst (λ m. m < length b.names) z.4 (exists z.0 z.2))
