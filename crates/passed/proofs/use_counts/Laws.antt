-- The uses of listed names in a book that passed, as the code counts them. Assumes nothing.
--     offering         what is asked of a book and its actor
--     listed-small     each listed name has a place in a table
--     counts-are       what was counted is the question's
--     short, hand-all  what is handed over
use mathlib.Core.Path.{◌≡◌, refl, sym, ap, ap₂, ◌∙◌}
use mathlib.Core.List.{List, [], ◌∷◌, ◌++◌, map, Memᴰ}
use Prim.Native.Nat.{ℕ, suc, ◌≤◌, ◌<◌}
use native.Mathlib.Omega.{arith}
use lib.ListN.{length, get_or, drop, length-map}
use Rattle.std.specs.Prelude.{sum, sum_by}
use Rattle.std.specs.Prelude.{Ok, Err}
use Rattle.format.specs.Forest.{end, count}
use Rattle.format.specs.Book.{Definition, trees}
use Rattle.format.specs.Layout.{siblings, nodes_part}
use Rattle.judgement.specs.Environment.{main_definitions}
use Rattle.judgement.specs.Resolve.{resolve_actor}
use Rattle.book.specs.declared.kinds.Contents.{Contents}
use Rattle.book.specs.Reading.{Admitted}
use Rattle.book.proofs.Opened.{nodes-count}
use Rattle.environment.proofs.Links.{listed-at}
use Rattle.syntax.specs.Interfaces.{methods_in}
use Rattle.syntax.specs.declared.interface.Interface.{Interface}
use Rattle.typing.specs.declared.prog.Passed.{Passed}
use Rattle.typing.specs.Passing.{PassedAs}
use Rattle.typing.proofs.prog.Book.{fits}
use Rattle.environment.specs.declared.scope.Scope.{Scope}
use Rattle.refusals.specs.declared.Refusal.TheVariants.{Short}
use Rattle.refusals.specs.declared.UseCounts.{UseCounts}
use Rattle.refusals.specs.Outcome.{given}
use Rattle.refusals.specs.Handed.{use_counts_answer, UseCountsAs}
use Rattle.refusals.proofs.Handed.{hands-short, hands-long}
use Rattle.listing.specs.Sites.{Site, sites}
use Rattle.listing.specs.List.{list}
use Rattle.listing.specs.Uses.{uses_of}
use Rattle.listing.specs.UseCounts.{use_count, counts_of, use_counts}
use Rattle.listing.proofs.List.{list-answered}
use Rattle.listing.proofs.Uses.{EachSite, WalkListed, passed-listed}
use Rattle.listing.proofs.UseCounts.{use-counts-given, use-count-few, counts-length}
use Rattle.refusals.proofs.Outcomes.{same-given}
use Rattle.analysis.specs.Tallies.{Amount, stops, times_listed, offered_tally, Offering}
use Rattle.std.proofs.lemmas.List.Sums.{sum_by-cons}
use Rattle.listing.proofs.Uses.{sites-few}
use Rattle.analysis.specs.Tallies.{each_type}
use Rattle.analysis.proofs.use_counts.ByWalk.{each-type-most}
use Rattle.analysis.proofs.use_counts.Sites.{tally-sites, times-uses, stops-none}
use Rattle.passed.specs.UseCounts.{SmallNames, counts_in, CountsHanded}
use Rattle.passed.proofs.list.Laws.{counted}
use Rattle.passed.proofs.uses.Laws.{names-small, offer-in, sites-are}

-- Types are no more than sites.
types-few : (all : List Site) → sum_by (λ s. each_type s.type) all ≤ length all
types-few [] = omega arith
types-few (s ∷ all) = omega (arith, sum_by-cons (λ (s : Site). each_type s.type) s all, each-type-most s.type, types-few all)

module _ {bs : List ℕ} {c : Contents} {a : Admitted bs c} {roots ends' : List ℕ} {p : Passed} (x : PassedAs a roots ends' p) (some : resolve_actor a.book ≡ end → ⊥) where
  abbrev rows : List ℕ
  rows = nodes_part bs

  abbrev ds : List Definition
  ds = main_definitions a.book

  abbrev i : Interface
  i = p.interface

  abbrev all : List Site
  all = sites ds (resolve_actor a.book)

  walks : EachSite (WalkListed ds) all
  walks = passed-listed a.book (fits x) x.passed

  -- ---- What an actor offers, by its arguments and results
  by-sites : (f : Amount) → offered_tally rows ds i.from i.until i.services f ≡ sum_by (λ s. f s.type) all
  by-sites f =
      tally-sites f ds (siblings rows i.from i.until) (methods_in rows i.services) ∙ ap (λ (l : List Site). sum_by (λ s. f s.type) l) (sym (sites-are x some))

  uses-tally : (n : ℕ) → offered_tally rows ds i.from i.until i.services (times_listed ds n) ≡ use_count ds (resolve_actor a.book) n
  unfolding use_count uses_of
  uses-tally n = by-sites (times_listed ds n) ∙ times-uses ds n all walks

  offering : Offering rows roots ends' (count (trees a.book)) i.from i.until i.services
  offering =
      record {
        offer = offer-in x some;
        counted = counted x;
        chains = x.chains;
        goes_on = by-sites (stops ds) ∙ stops-none ds all walks;
        room = λ n h. omega (arith, uses-tally n, use-count-few a.book (fits x) x.passed some n);
        types_room = omega (arith, by-sites each_type, types-few all, sites-few a.book (fits x) x.passed some);
      }

  -- the same of a scope of the book, and what is promised of it
  module _ (s : Scope) (here : s.rows.now ≡ rows) (table : s.roots.now ≡ roots) (many : s.nodes ≡ c.nodes) where
    pub offering-here : Offering s.rows.now s.roots.now ends' s.nodes i.from i.until i.services
    offering-here = rw (here, table, many, nodes-count a) offering

    pub counted-here : (counts : List ℕ) →
        ((y : Offering s.rows.now s.roots.now ends' s.nodes i.from i.until i.services) (n : ℕ) → n < 1024 →
        get_or counts n 0 ≡ offered_tally s.rows.now y.counted.ds i.from i.until i.services (times_listed y.counted.ds n)) →
        (n : ℕ) → n < 1024 → get_or counts n 0 ≡ use_count ds (resolve_actor a.book) n
    unfolding offering
    counted-here counts h n k = (rw (here, table, many, nodes-count a) at h) offering n k ∙ uses-tally n

  -- ---- The list
  module _ {listed : List ℕ} (e : list a.book ≡ given listed) where
    pub listed-small : SmallNames listed × (length listed ≤ 512)
    listed-small =
        let w = list-answered a.book (fits x) x.passed some in
        let are : w.names ≡ listed = same-given (sym w.answer ∙ e) in
        let small : (n : ℕ) → Memᴰ n w.names → n < 1024 = λ n m. names-small x n (w.listed.defined n (w.listed.sound n m)) in
        let all : SmallNames w.names × (length w.names ≤ 512) = (λ k h. small (get_or w.names k 0) (listed-at w.names k 0 h), w.short) in
        rw are at all

    -- what was counted
    module _ (counts : List ℕ) (h : (n : ℕ) → n < 1024 → get_or counts n 0 ≡ use_count ds (resolve_actor a.book) n) where
      counts-of : (l : List ℕ) → ((k : ℕ) → k < length l → get_or l k 0 < 1024) → counts_in counts l ≡ map (use_count ds (resolve_actor a.book)) l
      counts-of [] s = refl
      counts-of (n ∷ l) s = ap₂ (λ (k : ℕ) (r : List ℕ). k ∷ r) (h n (s 0 (omega arith))) (counts-of l (λ k m. s (suc k) (omega arith)))

      counts-are : use_counts a.book ≡ given (counts_in counts listed)
      unfolding counts_of
      counts-are = use-counts-given a.book e ∙ ap given (sym (counts-of listed listed-small.0))

      pub hand-all : {old new : List ℕ} {r : UseCounts} → length listed ≤ length old → CountsHanded listed counts old new r → UseCountsAs (use_counts a.book) old new (Ok r)
      unfolding use_counts_answer
      hand-all {old} {new} {r} k y =
          let l = counts_in counts listed in
          let long : length l ≡ length listed = length-map listed (λ n. get_or counts n 0) in
          let is : ◌≡◌ {A = UseCounts} r (record { listed = length l; total = sum l }) = λ j. record { listed = (y.listed ∙ sym long) j; total = y.total j } in
          rw (counts-are, is) (hands-long use_counts_answer l (omega (arith, long)) (y.left ∙ ap (λ (m : ℕ). l ++ drop m old) (sym long)))

    pub short : {old : List ℕ} → length old < length listed → UseCountsAs (use_counts a.book) old old (Err (Short (length listed)))
    unfolding use_counts_answer
    short {old} h =
        let l = counts_of a.book listed in
        let long : length l ≡ length listed = counts-length a.book listed in
        rw (use-counts-given a.book e, sym long) (hands-short use_counts_answer l (omega (arith, long)) refl)
