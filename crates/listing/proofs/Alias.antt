-- The alias chain of one name: what is given, and what is refused. Assumes that each name is defined once, as in a book that passes the check,
-- and of a book that it fits; one that was read from bytes does.
--     across-last                      the last name that is crossed, whose definition is the end
--     of-ends, from-crossed            `alias_of` gives the names that are crossed, and no other
--     alias-only                       there is one answer
--     alias-given, alias-says, ..      the question on a book
--     alias-in-row, alias-numbers      a refusal lies in its row; the rows that there are
--     alias-most, alias-few            how many names are crossed, and which the last may be
--     alias-bytes-in-row, ..           all on bytes
use mathlib.Core.Path.{◌≡◌, refl, sym, ap, subst, ◌∙◌}
use mathlib.Core.Logic.{◌↔◌, inl, inr}
use mathlib.Core.List.Memᴰ
use mathlib.Core.List.{List, [], ◌∷◌, ◌++◌, map, Memᴰ}
use Prim.Native.Nat.{ℕ, ◌≤◌, ◌<◌}
use native.Mathlib.Omega.{arith}
use lib.ListN.{length, length-append}
use Rattle.refusals.specs.declared.Refusal.{Refusal}
use Rattle.refusals.specs.declared.Refusal.TheVariants.{Unbound}
use Rattle.refusals.specs.Verdict.{passes}
use Rattle.refusals.specs.declared.Crossed.{Crossed}
use Rattle.refusals.specs.Refusal.{number_of}
use Rattle.refusals.specs.Outcome.{Outcome, refused, given, asked}
use Rattle.refusals.proofs.Outcomes.{given-refused, same-given, same-refusal, after-passed, after-given, after-stops}
use Rattle.format.specs.Forest.{Forest}
use Rattle.format.specs.Node.{Node}
use Rattle.format.specs.Book.{Definition, Book}
use Rattle.format.specs.Fits.{Fits}
use Rattle.format.specs.Distinct.{Distinct}
use Rattle.format.specs.Admission.{admitted, on_bytes, admission_rows, InRow, Source}
use Rattle.format.proofs.Encoded.{fit-parts}
use Rattle.format.proofs.Admission.{admitted-fits, asked-in-row, row-numbers}
use Rattle.judgement.specs.Environment.{main_definitions, named, head_kind, head}
use Rattle.judgement.specs.Aliases.{Chain, ends, chain, alias_end, alias_length, name_type}
use Rattle.judgement.specs.Check.{check}
use Rattle.judgement.specs.WellFormed.{defined_name, Defined, WellFormedDefinitions}
use Rattle.judgement.specs.WellFormed as formed
use Rattle.judgement.specs.Meaning.{Across}
use Rattle.judgement.specs.Meaning as meaning
use Rattle.judgement.proofs.Lookup.{FoundIn, listed-or-not}
use Rattle.judgement.proofs.Chains.{leads-end}
use Rattle.judgement.proofs.Lengths.{crossed-most, crosses-ends, across-chain, crossed-missing, crossed-first}
use Rattle.judgement.proofs.Books.{main-definitions-fit}
use Rattle.judgement.proofs.Theorems.{check-typed}
use Rattle.judgement.proofs.Rows.{check-numbers}
use Rattle.listing.specs.Room.{AfterCheck}
use Rattle.listing.specs.Alias.{last_of, crossed_by, alias_of, alias, CrossedFrom, AliasRow, alias_rows, checked, unbound}
use Rattle.listing.proofs.Room.{after-check}
use Rattle.listing.proofs.List.{main-few}

-- ---- The last of the names that are crossed
last-parts : (m : ℕ) (ms : List ℕ) → (xs : List ℕ) × (m ∷ ms ≡ xs ++ (last_of m ms ∷ []))
unfolding last_of
last-parts m [] = ([], refl)
last-parts m (k ∷ ms) = let p = last-parts k ms in (m ∷ p.0, ap (λ (l : List ℕ). m ∷ l) p.1)

last-append : (m : ℕ) (xs : List ℕ) (k : ℕ) → last_of m (xs ++ (k ∷ [])) ≡ k
unfolding last_of
last-append m [] k = refl
last-append m (x ∷ xs) k = last-append x xs k

same-crossed : {c d : Crossed} → c.names ≡ d.names → c.last ≡ d.last → c ≡ d
same-crossed e f = λ i. record { names = e i; last = f i }

-- so many names with that one at their end
crossed-parts : (n : ℕ) (before : List ℕ) (c : Crossed) → c.names ≡ length (before ++ (c.last ∷ [])) → crossed_by n (before ++ (c.last ∷ [])) ≡ given c
unfolding crossed_by last_of
crossed-parts n [] c e = ap given (same-crossed (sym e) refl)
crossed-parts n (m ∷ xs) c e = ap given (same-crossed (sym e) (last-append m xs c.last))

pub across-last : {ds : List Definition} {m : ℕ} {ms : List ℕ} {t u : Forest Node} → Across ds (m ∷ ms) t u → FoundIn ds (last_of m ms) u
unfolding last_of
across-last (meaning.onward {d = d} h i e meaning.here) = record { definition = d; listed = i; of-name = e; of-body = refl }
across-last (meaning.onward h i e (meaning.onward {n = n} {ns = ns} {d = d} h' i' e' a)) = across-last {m = n} {ms = ns} (meaning.onward {d = d} h' i' e' a)

-- ---- From a name
module _ (ds : List Definition) (n : ℕ) where
  is-name : head (name_type n) ≡ named n
  unfolding head head_kind
  is-name = refl

  -- a chain that ends
  pub of-ends : (u : Forest Node) → alias_end ds (name_type n) ≡ ends u → Defined ds n → (c : Crossed) × (alias_of ds n ≡ given c) × CrossedFrom ds n c
  unfolding alias_of crossed_by
  of-ends u e d =
      let (ms, f) = crossed-first ds (name_type n) n is-name d in
      let (way, stops) = crosses-ends ds (name_type n) u e in
      let a = subst (λ (l : List ℕ). Across ds l (name_type n) u) f way in
      let x = across-last a in
      let p = last-parts n ms in (
        record { names = length (n ∷ ms); last = last_of n ms },
        ap (crossed_by n) f,
        record {
          crossed = n ∷ ms;
          before = p.0;
          parts = p.1;
          count = refl;
          definition = x.definition;
          listed = x.listed;
          of-last = x.of-name;
          across = rw x.of-body a;
          no-name = ap head x.of-body ∙ stops;
        },
      )

  pub of-unbound : (Defined ds n → ⊥) → alias_of ds n ≡ refused (Unbound n)
  unfolding alias_of crossed_by
  of-unbound h = ap (crossed_by n) (crossed-missing ds (name_type n) n is-name h)

  module _ (once : Distinct (map defined_name ds)) where
    from-chain : {c : Crossed} (x : CrossedFrom ds n c) → (chain ds (name_type n)).crossed ≡ x.crossed
    from-chain x = ap (λ (c : Chain). c.crossed) (across-chain ds once x.across x.no-name)

    pub from-crossed : {c : Crossed} → CrossedFrom ds n c → alias_of ds n ≡ given c
    unfolding alias_of
    from-crossed {c} x = ap (crossed_by n) (from-chain x ∙ x.parts) ∙ crossed-parts n x.before c (x.count ∙ ap length x.parts)

    pub alias-only : {c c' : Crossed} → CrossedFrom ds n c → CrossedFrom ds n c' → c ≡ c'
    alias-only x y = same-given (sym (from-crossed x) ∙ from-crossed y)

    -- no more names than there are definitions
    from-few : {c : Crossed} → CrossedFrom ds n c → c.names ≤ length ds
    unfolding alias_length
    from-few x = omega (arith, x.count, ap length (from-chain x), crossed-most ds (name_type n))

-- ---- The question on a book
module _ (b : Book) (fits : Fits b) (passed : check b ≡ passes) (n : ℕ) where
  abbrev ds : List Definition
  ds = main_definitions b

  definitions : WellFormedDefinitions ds
  definitions = ((check-typed b fits).0 passed).0.definitions

  is-asked : alias b n ≡ alias_of ds n
  unfolding alias
  is-asked = after-passed (check b) _ passed

  -- Never refused where the name has a definition.
  pub alias-given : Defined ds n → (c : Crossed) × (alias b n ≡ given c) × CrossedFrom ds n c
  alias-given i =
      let d = Memᴰ.of_map defined_name ds i in
      let s = definitions.chains d.0 d.1 in
      let e = leads-end ds definitions.once (formed.onward {u = s.type} (is-name ds n) d.1 d.2 s.leads) in
      let g = of-ends ds n s.type e i in
      (g.0, is-asked ∙ g.1, g.2)

  pub alias-unbound : (alias b n ≡ refused (Unbound n)) ↔ (Defined ds n → ⊥)
  alias-unbound = (λ e i. given-refused (sym e ∙ (alias-given i).1), λ h. is-asked ∙ of-unbound ds n h)

  -- What is given is the names that are crossed and the last of them.
  pub alias-says : (c : Crossed) → (alias b n ≡ given c) ↔ CrossedFrom ds n c
  alias-says c = (go, λ x. is-asked ∙ from-crossed ds n definitions.once x)
    where
      go : alias b n ≡ given c → CrossedFrom ds n c
      go e =
          elim (listed-or-not n (map defined_name ds)) [
            | inl i ↦ let g = alias-given i in subst (CrossedFrom ds n) (same-given (sym g.1 ∙ e)) g.2
            | inr h ↦ given-refused (sym (alias-unbound.1 h) ∙ e)
          ]

-- ---- The check comes first
pub alias-after : (n : ℕ) → AfterCheck (λ b. alias b n)
unfolding alias
alias-after n b r e = after-stops (check b) _ e

-- ---- What is refused
pub alias-in-row : (b : Book) → Fits b → (n : ℕ) {r : Refusal} → alias b n ≡ refused r → AliasRow b n r
unfolding alias
alias-in-row b fits n {r} e =
    after-check b fits _ (AliasRow b n) (λ r. checked) (λ passed.
    elim (listed-or-not n (map defined_name (main_definitions b))) [
      | inl i ↦ given-refused (sym e ∙ (alias-given b fits passed n i).1)
      | inr h ↦ subst (AliasRow b n) (same-refusal (sym ((alias-unbound b fits passed n).1 h) ∙ e)) (unbound (passed, h))
    ]) e

-- The rows that there are.
pub alias-numbers : {b : Book} {n : ℕ} {r : Refusal} → AliasRow b n r → Memᴰ (number_of r) alias_rows
alias-numbers {b} (checked {r = r} x) = check-numbers b r x
alias-numbers (unbound x) = Memᴰ.tail (Memᴰ.head refl)

-- ---- How many names are crossed at most, and that the last is a name of the book
abbrev pub FewCrossed : Crossed → Type 0
FewCrossed c = (1 ≤ c.names) × (c.names ≤ 512) × (c.last < 1024)

module _ (b : Book) (fits : Fits b) (n : ℕ) {c : Crossed} (e : alias b n ≡ given c) where
  pub alias-most : (1 ≤ c.names) × (c.names ≤ length (main_definitions b)) × (c.last < length b.names)
  unfolding alias
  alias-most =
      let passed = (after-given (check b) _ e).0 in
      let x = (alias-says b fits passed n c).0 e in (
        omega (arith, x.count, ap length x.parts, length-append x.before (c.last ∷ [])),
        from-few (main_definitions b) n (definitions b fits passed n).once x,
        rw (← x.of-last) ((main-definitions-fit b fits).exists x.definition x.listed),
      )

  pub alias-few : FewCrossed c
  alias-few = let m = alias-most in (m.0, omega (arith, m.1, main-few b fits), omega (arith, m.2, (fit-parts fits).few_names))

-- ---- On bytes
module _ (bs : Source) (n : ℕ) {r : Refusal} (e : on_bytes (λ b. alias b n) bs ≡ refused r) where
  pub alias-bytes-in-row : InRow bs (λ b. AliasRow b n) r
  alias-bytes-in-row = asked-in-row bs (λ b. alias b n) (λ b. AliasRow b n) (λ b fits. alias-in-row b fits n) e

  pub alias-bytes-numbers : Memᴰ (number_of r) (admission_rows ++ alias_rows)
  alias-bytes-numbers = row-numbers bs (λ b. AliasRow b n) alias_rows r (λ b. alias-numbers) alias-bytes-in-row

pub alias-bytes-most : (bs : Source) (n : ℕ) {c : Crossed} → on_bytes (λ b. alias b n) bs ≡ given c → FewCrossed c
unfolding asked
alias-bytes-most bs n {c} = go (admitted bs) refl
  where
    go : (o : Outcome Book) → admitted bs ≡ o → asked (λ b. alias b n) o ≡ given c → FewCrossed c
    go (refused r) w e = given-refused e
    go (given b) w e = alias-few b (admitted-fits bs w) n e
