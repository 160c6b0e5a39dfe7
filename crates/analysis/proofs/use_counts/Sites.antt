-- Amounts of all sites of an actor. Assumes nothing; of what walks list, that each walk goes on and lists a name once.
--     tally-sites    the class's arguments, and the methods' arguments and results, site by site
--     times-once     how often a walk lists a name
--     times-uses     from all sites: as often as the row of the name has entries
--     stops-none     none of these walks stops
use mathlib.Core.Path.{◌≡◌, refl, sym, ap, ap₂, subst, ◌∙◌}
use mathlib.Core.Bool.{Bool, true, false, cond, ◌||◌}
use mathlib.Core.List.{List, [], ◌∷◌, ◌++◌, Memᴰ}
use Prim.Native.Nat.{ℕ, zero, suc, ◌+◌}
use native.Mathlib.Omega.{arith}
use borrow.Author.Tests.{eqb-true}
use lib.Dec.{eqb}
use lib.ListN.{length}
use Rattle.std.specs.List.{sum_by, count_by}
use Rattle.std.proofs.lemmas.List.Sums.{sum_by-cons, sum_by-append}
use Rattle.format.specs.Forest.{Forest, end, tree}
use Rattle.format.specs.Node.{Kind, PrimT, VarT, OptT, VecT, RecordT, VariantT, FuncT, ServT, ClassT, InitT, Node}
use Rattle.format.specs.Book.{Definition}
use Rattle.format.specs.Distinct.{Distinct, none, more}
use Rattle.format.proofs.Logic.{is-false}
use Rattle.judgement.specs.Environment.{is_func_kind}
use Rattle.judgement.specs.Aliases.{End, unbound, circle, ends, alias_end}
use Rattle.judgement.specs.Check.{member}
use Rattle.judgement.proofs.Lookup.{member-says}
use Rattle.listing.specs.Chase.{going}
use Rattle.listing.specs.Sites.{Site, class_sites, func_sites, kind_sites, end_sites, method_sites}
use Rattle.listing.specs.Offers.{site}
use Rattle.listing.specs.Uses.{is_listed, uses_at}
use Rattle.listing.proofs.Uses.{EachSite, WalkListed}
use Rattle.analysis.specs.Tallies.{Amount, times_in, times_listed, stopped, stops, tally, end_tally, method_tally}

-- ---- Site by site
module _ (f : Amount) where
  abbrev of_site : Site → ℕ
  of_site s = f s.type

  -- a site more, as a tree more
  one-more : (s : Site) (l : List Site) {a : ℕ} → sum_by of_site l ≡ a → sum_by of_site (s ∷ l) ≡ f s.type + a
  one-more s l e = sum_by-cons of_site s l ∙ ap (λ (a : ℕ). f s.type + a) e

  class-tally : (i : ℕ) (g : Forest Node) → sum_by of_site (class_sites i g) ≡ tally f g
  unfolding class_sites tally
  class-tally i end = refl
  class-tally i (tree n kids next) = one-more (site 65535 0 i (tree n kids end)) (class_sites (suc i) next) (class-tally (suc i) next)

  func-tally : (m a i : ℕ) (g : Forest Node) → sum_by of_site (func_sites m a i g) ≡ tally f g
  unfolding func_sites tally
  func-tally m zero i end = refl
  func-tally m (suc a) i end = refl
  func-tally m zero i (tree n kids next) = one-more (site m 1 i (tree n kids end)) (func_sites m zero (suc i) next) (func-tally m zero (suc i) next)
  func-tally m (suc zero) i (tree n kids next) = one-more (site m 0 i (tree n kids end)) (func_sites m zero 0 next) (func-tally m zero 0 next)
  func-tally m (suc (suc a)) i (tree n kids next) = one-more (site m 0 i (tree n kids end)) (func_sites m (suc a) (suc i) next) (func-tally m (suc a) (suc i) next)

  kind-tally : (m : ℕ) (κ : Kind) (kids : Forest Node) → sum_by of_site (kind_sites m κ kids) ≡ cond (is_func_kind κ) (tally f kids) 0
  unfolding kind_sites is_func_kind
  kind-tally m (PrimT p) kids = refl
  kind-tally m (VarT n) kids = refl
  kind-tally m OptT kids = refl
  kind-tally m VecT kids = refl
  kind-tally m RecordT kids = refl
  kind-tally m VariantT kids = refl
  kind-tally m (FuncT a ms) kids = func-tally m a 0 kids
  kind-tally m ServT kids = refl
  kind-tally m ClassT kids = refl
  kind-tally m InitT kids = refl

  end-tally : (m : ℕ) (e : End) → sum_by of_site (end_sites m e) ≡ end_tally f e
  unfolding end_sites end_tally
  end-tally m (unbound n) = refl
  end-tally m circle = refl
  end-tally m (ends end) = refl
  end-tally m (ends (tree n kids next)) = kind-tally m n.kind kids

  method-tally : (ds : List Definition) (m : ℕ) (g : Forest Node) → sum_by of_site (method_sites ds m g) ≡ method_tally f ds g
  unfolding method_sites tally
  method-tally ds m end = refl
  method-tally ds m (tree n kids next) =
      sum_by-append of_site (end_sites m (alias_end ds (tree n kids end))) (method_sites ds (suc m) next)
      ∙ ap₂ (λ (a b : ℕ). a + b) (end-tally m (alias_end ds (tree n kids end))) (method-tally ds (suc m) next)

  pub tally-sites : (ds : List Definition) (arguments methods : Forest Node) →
      tally f arguments + method_tally f ds methods ≡ sum_by (λ s. f s.type) (class_sites 0 arguments ++ method_sites ds 0 methods)
  tally-sites ds arguments methods =
      sym (sum_by-append of_site (class_sites 0 arguments) (method_sites ds 0 methods) ∙ ap₂ (λ (a b : ℕ). a + b) (class-tally 0 arguments) (method-tally ds 0 methods))

-- ---- How often a name is listed
times-once : (n : ℕ) (seen : List ℕ) {out : List ℕ} → Distinct out → times_in n (going seen out) ≡ cond (member n out) 1 0
unfolding times_in member
times-once n seen none = refl
times-once n seen {out = m ∷ out} (more new d) =
    sum_by-cons (λ (x : ℕ). cond (eqb n x) 1 0) m out ∙ go (eqb n m) refl (times-once n seen d)
  where
    go : (b : Bool) → eqb n m ≡ b → count_by (eqb n) out ≡ cond (member n out) 1 0 → cond b 1 0 + count_by (eqb n) out ≡ cond (b || member n out) 1 0
    go true e k =
        let no : member n out ≡ false = is-false (member n out) (λ t. new (subst (λ (k : ℕ). Memᴰ k out) (eqb-true n m e) ((member-says n out).0 t))) in
        omega (arith, rw no at k)
    go false e k = omega (arith, k)

-- from sites, where each walk goes on and lists a name once
module _ (ds : List Definition) where
  abbrev Lists : List Site → Type 0
  Lists all = EachSite (WalkListed ds) all

  others : {s : Site} {all : List Site} → Lists (s ∷ all) → Lists all
  others h r m = h r (Memᴰ.tail m)

  pub times-uses : (n : ℕ) (all : List Site) → Lists all → sum_by (λ s. times_listed ds n s.type) all ≡ length (uses_at ds n all)
  unfolding times_listed uses_at is_listed
  times-uses n [] h = refl
  times-uses n (s ∷ all) h =
      let w = h s (Memᴰ.head refl) in
      sum_by-cons (λ (r : Site). times_listed ds n r.type) s all
      ∙ rw w.2 (ap (λ (k : ℕ). k + sum_by (λ r. times_listed ds n r.type) all) (times-once n w.0 w.3.once) ∙ go (member n w.1) (times-uses n all (others h)))
    where
      go : (b : Bool) → sum_by (λ r. times_listed ds n r.type) all ≡ length (uses_at ds n all) →
          cond b 1 0 + sum_by (λ r. times_listed ds n r.type) all ≡ length (cond b (s.entry ∷ uses_at ds n all) (uses_at ds n all))
      go true e = omega (arith, e)
      go false e = omega (arith, e)

  pub stops-none : (all : List Site) → Lists all → sum_by (λ s. stops ds s.type) all ≡ 0
  unfolding stops stopped
  stops-none [] h = refl
  stops-none (s ∷ all) h =
      let w = h s (Memᴰ.head refl) in
      sum_by-cons (λ (r : Site). stops ds r.type) s all ∙ rw w.2 (omega (arith, stops-none all (others h)))
