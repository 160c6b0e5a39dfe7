-- How many uses each listed definition has: what is given, what is refused, and the same total from the other side. Assumes nothing of what is
-- refused alike; elsewhere of a book that it fits, as one that was read from bytes does.
--     turned-given, fit-turned, ..           another question's answer, turned
--     use-counts-given, use-counts-from, ..  the numbers come from the list
--     refused-alike, given-alike, so-many    in as many places it is refused as the list is, and given with as many numbers as that has names
--     use-counts-in-row, use-counts-few      so the rows are the list's, and there are no more numbers
--     use-counts-bytes-in-row, ..            all on bytes
--     uses-length                            the uses of a name: so many sites list it
--     use-counts-say, use-counts-answered    what is given; a book that passes and has an actor
--     total-from-offered, total-is-sum       the sum is the total from the other side, and no other is
--     counts-sent                            what a caller has in hand
--     sharing-counts, ..                     examples
use mathlib.Core.Path.{◌≡◌, refl, sym, ap, subst, ◌∙◌}
use mathlib.Core.Logic.{◌↔◌}
use mathlib.Core.Bool.{Bool, true, false, cond}
use mathlib.Core.List.{List, [], ◌∷◌, ◌++◌, map, Memᴰ}
use Prim.Native.Nat.{ℕ, ◌≤◌}
use native.Mathlib.Omega.{arith}
use lib.Dec.{T, leb}
use lib.ListN.{length, length-map}
use Rattle.std.specs.List.{sum, sum_by, count_by}
use Rattle.std.proofs.lemmas.List.Sums.{sum-map}
use Rattle.refusals.specs.declared.Refusal.{Refusal}
use Rattle.refusals.specs.declared.Refusal.TheVariants.{Short}
use Rattle.refusals.specs.Refusal.{number_of}
use Rattle.refusals.specs.Verdict.{passes}
use Rattle.refusals.specs.Outcome.{Outcome, refused, given, asked, fit}
use Rattle.refusals.proofs.Outcomes.{given-refused, same-given, same-refusal}
use Rattle.labels.specs.declared.Label.TheVariants.{Named}
use Rattle.format.specs.Forest.{Forest, end, beside}
use Rattle.format.specs.Node.{Nat, PrimT, VarT, OptT, FuncT, ServT, ClassT, Node}
use Rattle.format.specs.Book.{Definition, Book}
use Rattle.format.specs.Fits.{Fits}
use Rattle.format.specs.Admission.{admitted, on_bytes, admission_rows, InRow, Source}
use Rattle.format.proofs.Admission.{admitted-fits, asked-is}
use Rattle.judgement.specs.Environment.{main_definitions}
use Rattle.judgement.specs.Resolve.{resolve_actor}
use Rattle.judgement.specs.Check.{check}
use Rattle.judgement.specs.Actor.{all_but_last, class_arguments, below_class}
use Rattle.judgement.specs.Aliases.{methods_at}
use Rattle.listing.specs.Chase.{chase_types}
use Rattle.listing.specs.Sites.{Site, class_sites, func_sites, kind_sites, end_sites, method_sites, type_of, sites}
use Rattle.listing.specs.Offers.{Interface}
use Rattle.listing.specs.Room.{AfterCheck, Most}
use Rattle.listing.specs.List.{list, ListRow, list_rows}
use Rattle.listing.specs.Uses.{is_listed, uses_at, uses_of, kept, entry_of}
use Rattle.listing.specs.UseCounts.{use_count, counts_of, use_counts, CountsGiven, Together, FromOffered, TotalOf, CountsSent}
use Rattle.listing.specs.Demand3.{Gives}
use Rattle.listing.proofs.Chases.{Listed}
use Rattle.listing.proofs.Interface.{passed-once, passed-functions, passed-interface}
use Rattle.listing.proofs.Sites.{sites-are, methods-listed}
use Rattle.listing.proofs.Delivered.{gives, counts-delivered, counts-kept}
use Rattle.listing.proofs.List.{list-says, list-in-row, list-few, list-after, list-answered, list-bytes-in-row, list-bytes-numbers, list-bytes-most}
use Rattle.listing.proofs.Uses.{uses-kept, uses-answered, uses-few, sites-reach, passed-walks}
use Rattle.listing.proofs.DefUse.{sharing}
use Rattle.listing.proofs.Totals.{kept-count, counted-either-way, listed_from, together-unique, together-made}
use Rattle.listing.proofs.Examples.{fitting, drafted, plain, field, name, type, service, book}

-- ---- Another question's answer, turned
module _ {A B : Type 0} (turn : A → B) where
  abbrev turned : Outcome A → Outcome B
  turned = asked (λ a. given (turn a))

  turned-given : (o : Outcome A) {c : B} → (turned o ≡ given c) ↔ ((a : A) × (o ≡ given a) × (c ≡ turn a))
  unfolding asked
  turned-given (refused r) = (λ e. given-refused e, λ p. given-refused p.1)
  turned-given (given a) = (λ e. (a, refl, same-given (sym e)), λ p. ap given (ap turn (same-given p.1) ∙ sym p.2))

  turned-refused : (o : Outcome A) {r : Refusal} → (turned o ≡ refused r) ↔ (o ≡ refused r)
  unfolding asked
  turned-refused (refused s) = (λ e. ap refused (same-refusal e), λ e. ap refused (same-refusal e))
  turned-refused (given a) = (λ e. given-refused (sym e), λ e. given-refused (sym e))

-- A list in so many places, if it is turned into one that is as long.
fit-turned : {A B : Type 0} (turn : List A → List B) → ((l : List A) → length (turn l) ≡ length l) → (places : ℕ) (o : Outcome (List A)) →
    fit places (turned turn o) ≡ turned turn (fit places o)
unfolding fit asked
fit-turned turn long places (refused r) = refl
fit-turned turn long places (given l) = rw (long l) (go (leb (length l) places))
  where
    go : (c : Bool) → cond c (given (turn l)) (refused (Short (length l))) ≡ turned turn (cond c (given l) (refused (Short (length l))))
    go true = refl
    go false = refl

-- ---- The numbers come from the list
module _ (b : Book) where
  pub counts-length : (l : List ℕ) → length (counts_of b l) ≡ length l
  unfolding counts_of
  counts-length l = length-map l (use_count (main_definitions b) (resolve_actor b))

  pub use-counts-given : {l : List ℕ} → list b ≡ given l → use_counts b ≡ given (counts_of b l)
  unfolding use_counts asked
  use-counts-given e = rw e

  pub use-counts-refused : {r : Refusal} → list b ≡ refused r → use_counts b ≡ refused r
  unfolding use_counts asked
  use-counts-refused e = rw e

  pub use-counts-from : {counts : List ℕ} → (use_counts b ≡ given counts) ↔ ((l : List ℕ) × (list b ≡ given l) × (counts ≡ counts_of b l))
  unfolding use_counts
  use-counts-from = turned-given (counts_of b) (list b)

  fit-counts : (places : ℕ) → fit places (use_counts b) ≡ turned (counts_of b) (fit places (list b))
  unfolding use_counts
  fit-counts places = fit-turned (counts_of b) counts-length places (list b)

  -- In as many places it is refused as the list is,
  pub refused-alike : (places : ℕ) (r : Refusal) → (fit places (use_counts b) ≡ refused r) ↔ (fit places (list b) ≡ refused r)
  refused-alike places r = rw (fit-counts places) (turned-refused (counts_of b) (fit places (list b)))

  pub given-alike : (places : ℕ) {counts : List ℕ} → (fit places (use_counts b) ≡ given counts) ↔ ((l : List ℕ) × (fit places (list b) ≡ given l) × (counts ≡ counts_of b l))
  given-alike places = rw (fit-counts places) (turned-given (counts_of b) (fit places (list b)))

-- and given so many numbers as that has names.
abbrev pub SoMany : ℕ → Outcome (List ℕ) → Type 0
SoMany k o = (l : List ℕ) × (o ≡ given l) × (length l ≡ k)

pub so-many : (b : Book) (places k : ℕ) → SoMany k (fit places (use_counts b)) ↔ SoMany k (fit places (list b))
so-many b places k = (
  λ p. let x = (given-alike b places).0 p.1 in (x.0, x.1, sym (counts-length b x.0) ∙ ap length (sym x.2) ∙ p.2),
  λ p. (counts_of b p.0, (given-alike b places).1 (p.0, p.1, refl), counts-length b p.0 ∙ p.2),
)

pub use-counts-after : AfterCheck use_counts
use-counts-after b r e = use-counts-refused b (list-after b r e)

-- ---- What is refused, and how many numbers there are at most
module _ (b : Book) (fits : Fits b) where
  pub use-counts-in-row : (places : ℕ) {r : Refusal} → fit places (use_counts b) ≡ refused r → ListRow b places r
  use-counts-in-row places {r} e = list-in-row b fits places ((refused-alike b places r).0 e)

  pub use-counts-few : (counts : List ℕ) → use_counts b ≡ given counts → length counts ≤ 512
  use-counts-few counts e = let x = (use-counts-from b).0 e in omega (arith, list-few b fits x.0 x.1, counts-length b x.0, ap length x.2)

-- ---- On bytes
module _ (bs : Source) (places : ℕ) where
  pub bytes-refused-alike : (r : Refusal) → (fit places (on_bytes use_counts bs) ≡ refused r) ↔ (fit places (on_bytes list bs) ≡ refused r)
  unfolding asked
  bytes-refused-alike r = go (admitted bs)
    where
      go : (o : Outcome Book) → (fit places (asked use_counts o) ≡ refused r) ↔ (fit places (asked list o) ≡ refused r)
      go (refused s) = (λ e. e, λ e. e)
      go (given b) = refused-alike b places r

  pub bytes-so-many : (k : ℕ) → SoMany k (fit places (on_bytes use_counts bs)) ↔ SoMany k (fit places (on_bytes list bs))
  unfolding asked
  bytes-so-many k = go (admitted bs)
    where
      go : (o : Outcome Book) → SoMany k (fit places (asked use_counts o)) ↔ SoMany k (fit places (asked list o))
      go (refused s) = (λ p. p, λ p. p)
      go (given b) = so-many b places k

  pub use-counts-bytes-in-row : {r : Refusal} → fit places (on_bytes use_counts bs) ≡ refused r → InRow bs (λ b. ListRow b places) r
  use-counts-bytes-in-row {r} e = list-bytes-in-row bs places ((bytes-refused-alike r).0 e)

  pub use-counts-bytes-numbers : {r : Refusal} → fit places (on_bytes use_counts bs) ≡ refused r → Memᴰ (number_of r) (admission_rows ++ list_rows)
  use-counts-bytes-numbers {r} e = list-bytes-numbers bs places ((bytes-refused-alike r).0 e)

  pub use-counts-bytes-most : Most 512 (fit places (on_bytes use_counts bs))
  use-counts-bytes-most =
      let m = list-bytes-most bs places in
      record {
        entries = λ counts e. let x = (bytes-so-many (length counts)).0 (counts, e, refl) in omega (arith, m.entries x.0 x.1, x.2);
        needed = λ k e. m.needed k ((bytes-refused-alike (Short k)).0 e);
      }

-- ---- What is given

-- The uses of a name are so many of the arguments and results.
pub uses-length : (ds : List Definition) (n : ℕ) (all : List Site) → length (uses_at ds n all) ≡ count_by (λ s. is_listed n (chase_types ds s.type)) all
uses-length ds n all =
    ap length (uses-kept ds n all) ∙ length-map (kept (λ s. is_listed n (chase_types ds s.type)) all) entry_of
    ∙ kept-count (λ s. is_listed n (chase_types ds s.type)) all

module _ (b : Book) (fits : Fits b) where
  -- Each number is that of the entries which the answer to `uses` has.
  pub use-counts-say : (counts : List ℕ) → (use_counts b ≡ given counts) ↔ CountsGiven b counts
  unfolding counts_of use_count
  use-counts-say counts = (
    λ e.
        let x = (use-counts-from b).0 e in
        let s = (list-says b fits x.0).0 x.1 in
        record {
          names = x.0;
          listed = x.1;
          row = uses_of (main_definitions b) (resolve_actor b);
          rows = uses-answered b fits s.0 s.1;
          counts-are = x.2;
        },
    λ c.
        let s = (list-says b fits c.names).0 c.listed in
        (use-counts-from b).1 (c.names, c.listed, c.counts-are ∙ ap (λ f. map f c.names) (λ i n. length (same-given (sym (c.rows n) ∙ uses-answered b fits s.0 s.1 n) i))),
  )

  module _ (passed : check b ≡ passes) (some : resolve_actor b ≡ end → ⊥) where
    -- A book that passes and has an actor is answered, and with a list that is long enough not refused.
    pub use-counts-answered : (counts : List ℕ) × Gives (use_counts b) counts × CountsGiven b counts × (length counts ≤ 512)
    use-counts-answered =
        let a = list-answered b fits passed some in
        let e = use-counts-given b a.answer in
        let counts = counts_of b a.names in
        (counts, gives (use_counts b) e, (use-counts-say counts).0 e, use-counts-few b fits counts e)

    -- No name has more.
    pub use-count-few : (n : ℕ) → use_count (main_definitions b) (resolve_actor b) n ≤ 16781313
    unfolding use_count
    use-count-few n = uses-few b fits n (uses_of (main_definitions b) (resolve_actor b) n) (uses-answered b fits passed some n)

-- ---- The same total from the other side
module _ (b : Book) (fits : Fits b) {counts : List ℕ} (e : use_counts b ≡ given counts) where
  abbrev ds : List Definition
  ds = main_definitions b

  abbrev all : List Site
  all = sites ds (resolve_actor b)

  -- name by name, and site by site
  either-way : (l : List ℕ) → sum (counts_of b l) ≡ sum_by (λ s. listed_from ds l s.type) all
  unfolding counts_of use_count uses_of
  either-way l =
      sum-map (use_count ds (resolve_actor b)) l ∙ ap (λ f. sum_by f l) (λ i n. uses-length ds n all i)
      ∙ counted-either-way (λ n (s : Site). is_listed n (chase_types ds s.type)) l all

  -- the list that it is asked of
  asked-of : (check b ≡ passes) × (resolve_actor b ≡ end → ⊥) × ((l : List ℕ) × (counts ≡ counts_of b l) × ((seen : List ℕ) × Listed ds (resolve_actor b) seen l))
  asked-of = let x = (use-counts-from b).0 e in let p = (list-says b fits x.0).0 x.1 in (p.0, p.1, (x.0, x.2, p.2))

  offered-sum : Together ds all (sum counts)
  offered-sum =
      let p = asked-of in
      let x = p.2 in
      let walked = x.2.1 in
      subst (Together ds all) (sym (ap sum x.1 ∙ either-way x.0))
      (together-made ds x.0 walked.once (λ n m. walked.defined n (walked.sound n m)) all
      (λ s m. (passed-walks b fits p.0 s m, λ n r. walked.complete n (sites-reach ds (resolve_actor b) s m n r))))

  -- Adding for every class argument of the actor, method argument and method result the number of definitions reachable from it gives the sum, and
  -- nothing else.
  pub total-from-offered : {arguments methods : Forest Node} → Interface ds (resolve_actor b) arguments methods → (total : ℕ) →
      FromOffered ds arguments methods total ↔ (total ≡ sum counts)
  total-from-offered {arguments} {methods} x total =
      let p = asked-of in
      let once = passed-once b p.0 p.1 fits in
      let ms = methods-listed ds methods (passed-functions b p.0 p.1 fits x) 0 in (
        λ y. together-unique y.together (subst (λ (l : List Site). Together ds l (sum counts)) (sites-are ds once x y.in_order) offered-sum),
        λ q. record {
          of_methods = ms.0;
          in_order = ms.1;
          together = subst (λ (l : List Site). Together ds l total) (sites-are ds once x ms.1) (subst (Together ds all) (sym q) offered-sum);
        },
      )

  pub total-is-sum : TotalOf b (sum counts)
  total-is-sum =
      let p = asked-of in
      let x = passed-interface b p.0 p.1 in
      record { offers = (class_arguments (resolve_actor b), x.0, x.1); exactly = total-from-offered }

-- ---- What a caller has in hand
pub counts-sent : (bytes : Source) (b : Book) → admitted bytes ≡ given b → check b ≡ passes → (resolve_actor b ≡ end → ⊥) → CountsSent bytes b
counts-sent bytes b read passed some =
    let fits = admitted-fits bytes read in
    let a = use-counts-answered b fits passed some in
    let is = asked-is bytes use_counts read ∙ a.1.0 in
    record {
      counts = a.0;
      is-given = a.2;
      total = total-is-sum b fits a.1.0;
      few = a.3;
      enough = counts-delivered (on_bytes use_counts bytes) is;
      short = counts-kept (on_bytes use_counts bytes) is;
    }

-- ---- Examples, by computation: what is given, and its total
unfoldable pub counts-computed : Book → Outcome (List ℕ)
unfolding
    drafted type_of class_sites func_sites kind_sites end_sites method_sites sites all_but_last class_arguments below_class methods_at is_listed uses_at
    uses_of use_count counts_of use_counts asked beside
counts-computed = use_counts

abbrev Counts : Book → List ℕ → ℕ → Type 0
Counts b counts total = (use_counts b ≡ given counts) × TotalOf b total

counts : (b : Book) → T (fitting b) → {counts : List ℕ} → use_counts b ≡ given counts → Counts b counts (sum counts)
unfolding fitting
counts b fits e = (e, total-is-sum b fits e)

-- type a = opt b; type b = nat; service : { a : (b, a) -> (); b : () -> (a) }. The list is b and a.
pub sharing-counts : Counts sharing (3 ∷ 2 ∷ []) 5
unfolding fitting counts-computed
sharing-counts = counts sharing tt refl

-- type a = func (b) -> (); type b = nat; service : { a : a; b : a }. The list is b and a, and a method's own function is no use.
abbrev pub shared : Book
shared =
    book (type 0 1 (plain (FuncT 1 []) (name 2)) ∷ (type 0 2 (plain (PrimT Nat) end) ∷ []))
    (plain ServT (field (Named 1) (VarT 1) (field (Named 2) (VarT 1) end)))

pub shared-counts : Counts shared (2 ∷ 0 ∷ []) 2
unfolding fitting counts-computed
shared-counts = counts shared tt refl

-- type a = opt b; type b = nat; service : (a) -> { z : (b) -> () }. The list is b and a.
abbrev pub with_argument : Book
with_argument =
    book (type 0 1 (plain OptT (name 2)) ∷ (type 0 2 (plain (PrimT Nat) end) ∷ []))
    (plain ClassT (beside (name 1) (service 3 (name 2))))

pub argument-counts : Counts with_argument (2 ∷ 1 ∷ []) 3
unfolding fitting counts-computed
argument-counts = counts with_argument tt refl

-- type a = nat; service : { z : () -> () }
abbrev pub unused : Book
unused = book (type 0 1 (plain (PrimT Nat) end) ∷ []) (service 3 end)

pub unused-counts : Counts unused [] 0
unfolding fitting counts-computed
unused-counts = counts unused tt refl
