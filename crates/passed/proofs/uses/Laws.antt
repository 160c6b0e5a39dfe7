-- The uses of a name in a book that passed, as the code has them. Assumes nothing.
--     names-small, outside      a name with a definition is in the table; a number outside it
--     uses-lacks                17
--     offer-in, sites-are       what the interface offers
--     uses-handed               the entries that are put are those of the question
--     hands-short, hands-given  what is handed over
use mathlib.Core.Path.{◌≡◌, refl, sym, ap, ap₂, subst, ◌∙◌}
use mathlib.Core.Bool.{Bool}
use mathlib.Core.List.Memᴰ
use mathlib.Core.List.{List, [], ◌∷◌, ◌++◌, map, Memᴰ}
use Prim.Native.Nat.{ℕ, zero, suc, ◌*◌, ◌/◌, ◌≤◌, ◌<◌}
use native.Mathlib.Decide.{dec_lt}
use native.Mathlib.Omega.{arith}
use lib.Dec.{leb, le→leb, leb→le}
use lib.ListN.{length, get_or, drop}
use Rattle.format.specs.Forest.{Forest, end, count}
use Rattle.format.specs.Node.{Node}
use Rattle.format.specs.Book.{Definition, Book, trees}
use Rattle.refusals.specs.Lists.{flat}
use Rattle.format.specs.Layout.{siblings, nodes_part, definitions_part}
use Rattle.format.proofs.Logic.{is-true, is-false, same-test}
use Rattle.refusals.specs.declared.Refusal.TheVariants.{Short, NoActor}
use Rattle.judgement.specs.Environment.{main_definitions}
use Rattle.judgement.specs.Resolve.{resolve_actor}
use Rattle.judgement.specs.WellFormed.{Defined}
use Rattle.judgement.proofs.Lookup.{find-missing}
use Rattle.environment.specs.Tables.{found_at}
use Rattle.syntax.specs.Interfaces.{methods_in, InterfaceAs}
use Rattle.refusals.specs.Handed.{Answer, Use, numbers, answer_of, uses_left, UsesAs}
use Rattle.listing.specs.Sites.{Site, class_sites, method_sites, sites}
use Rattle.listing.specs.References.{Reachable}
use Rattle.listing.specs.Uses.{kept, entry_of, uses}
use Rattle.refusals.specs.Outcome.{Outcome, refused, given, fit}
use Rattle.listing.proofs.Uses.{passed-walks, uses-row, uses-answered, uses-undefined}
use Rattle.analysis.specs.Reaching.{ReachAs, NearAs, NearestAs}
use Rattle.analysis.specs.Entries.{uses_by, OfferIn, Offered, Puts}
use Rattle.syntax.specs.declared.interface.Interface.{Interface}
use Rattle.analysis.proofs.def_use.Entries.{puts-all}
use Rattle.std.specs.Prelude.{Ok, Err}
use Rattle.passed.specs.Uses.{UsesHanded}
use Rattle.typing.specs.declared.prog.Passed.{Passed}
use Rattle.typing.specs.Passing.{PassedAs}
use Rattle.typing.proofs.prog.Book.{fits, tabled}
use Rattle.book.specs.declared.kinds.Contents.{Contents}
use Rattle.book.specs.Reading.{Admitted}
use Rattle.book.proofs.Opened.{nodes-count, definitions-count}
use Rattle.passed.proofs.Asking.{lacks-actor, uses-as}
use Rattle.passed.proofs.uses.Sites.{followed, used_by, used-says, used-hits, kept-same}

module _ {bs : List ℕ} {c : Contents} {a : Admitted bs c} {roots ends' : List ℕ} {p : Passed} (x : PassedAs a roots ends' p) where
  abbrev rows : List ℕ
  rows = nodes_part bs

  abbrev b : Book
  b = a.book

  abbrev ds : List Definition
  ds = main_definitions b

  pub names-small : (m : ℕ) → Defined ds m → m < 1024
  unfolding found_at
  names-small m d = go (dec_lt m 1024)
    where
      beyond : (l : List ℕ) (n : ℕ) → length l ≤ n → get_or l n 65535 ≡ 65535
      beyond [] n k = refl
      beyond (x ∷ l) zero k = absurd (omega arith)
      beyond (x ∷ l) (suc n) k = beyond l n (omega arith)

      go : Dec (m < 1024) → m < 1024
      go (yes k) = k
      go (no k) = absurd (find-missing ds m ((tabled x).0 m ∙ rw (beyond roots m (omega (arith, x.checked.table.long)))) d)

  pub uses-lacks : (n : ℕ) → resolve_actor b ≡ end → uses b n ≡ refused NoActor
  unfolding uses
  uses-lacks n h = lacks-actor x _ h

  module _ (some : resolve_actor b ≡ end → ⊥) where
    pub outside : (n : ℕ) → 1024 ≤ n → uses b n ≡ given []
    outside n h = uses-undefined b (fits x) x.passed some n (λ d. omega (arith, names-small n d))

    abbrev i : Interface
    i = p.interface

    abbrev offers : InterfaceAs rows (count (trees b)) ds (resolve_actor b) i
    offers = x.offers some

    abbrev pub offer-in : OfferIn rows ends' (count (trees b)) i.from i.until i.services
    offer-in = record {
      names = _;
      book = x.all.nodes;
      table = x.checked.ended;
      arguments = offers.arguments.whole;
      inside = offers.arguments.inside;
      few = offers.few;
      service = λ k h. (offers.service k 0 h).0;
    }

    abbrev pub offered_sites : List Site
    offered_sites = class_sites 0 (siblings rows i.from i.until) ++ method_sites ds 0 (methods_in rows i.services)

    pub sites-are : sites ds (resolve_actor b) ≡ offered_sites
    unfolding sites
    sites-are =
        let same = followed ds (resolve_actor b) offers.serves in
        ap₂ (λ (f g : Forest Node). class_sites 0 f ++ method_sites ds 0 g) (same.0 ∙ sym offers.arguments.are) (same.1 ∙ sym offers.methods)

    abbrev pub offered : {flags near : List ℕ} → NearAs rows flags (count (trees b)) near → Offered rows ends' near i.from i.until i.services
    offered {flags} table = record { nodes = _; offer = offer-in; definitions = ds; used = used_by flags; known = record { chains = x.chains; hits = used-hits x.all.nodes table } }

    module _ {n : ℕ} (few : n < 1024) {flags near : List ℕ} (reach : ReachAs ds (n ∷ []) flags) (table : NearAs rows flags (count (trees b)) near) where
      uses-are : uses b n ≡ given (uses_by (used_by flags) offered_sites)
      unfolding uses_by
      uses-are =
          let row = uses-row ds (resolve_actor b) (passed-walks b (fits x) x.passed) n in
          let test : Site → Bool = λ s. used_by flags s.type in
          let same : (s : Site) → Memᴰ s (sites ds (resolve_actor b)) → row.used s ≡ test s = λ s m.
          let u = used-says reach names-small s.type (λ k i r. omega (arith, Memᴰ.eq_of_singleton i)) in
          let v = row.says s m in
          same-test (row.used s) (test s) (λ t. u.1 (n, Memᴰ.head refl, v.0 t), λ t. let y = u.0 t in v.1 (subst (Reachable ds s.type) (Memᴰ.eq_of_singleton y.1) y.2)) in
          uses-answered b (fits x) x.passed some n
          ∙ ap given
          (row.row-is ∙ ap (map entry_of) (kept-same row.used test (sites ds (resolve_actor b)) same) ∙ ap (λ (l : List Site). map entry_of (kept test l)) sites-are)

      -- so what is handed over is the question's
      pub uses-handed : {old new : List ℕ} {r : Answer} → UsesHanded rows ends' near i old new r → UsesAs (uses b n) old new r
      uses-handed h = uses-as uses-are (h.handed (offered table))

  -- ---- As the code has it
  pub main-within : p.main ≤ c.definitions
  main-within = omega (arith, x.within, definitions-count a)

  module _ (some : resolve_actor b ≡ end → ⊥) {wanted near : List ℕ} (t : NearestAs rows (definitions_part bs) c.nodes p.main wanted near) where
    pub reached : ReachAs ds wanted t.flags
    reached = subst (λ (l : List Definition). ReachAs l wanted t.flags) (sym x.definitions) t.reach

    pub first-rows : NearAs rows t.flags (count (trees b)) near
    first-rows = subst (λ (k : ℕ). NearAs rows t.flags k near) (nodes-count a) t.first

    pub offered-here : {ns : List ℕ} → ns ≡ rows → Offered ns ends' near p.interface.from p.interface.until p.interface.services
    offered-here here =
        subst (λ (l : List ℕ). Offered l ends' near p.interface.from p.interface.until p.interface.services) (sym here) (offered some first-rows)

  module _ (some : resolve_actor b ≡ end → ⊥) {n : ℕ} (few : n < 1024) {near : List ℕ} (t : NearestAs rows (definitions_part bs) c.nodes p.main (n ∷ []) near)
      {ns : List ℕ} (here : ns ≡ rows) where
    pub uses-here : {old new : List ℕ} {r : Answer} → UsesHanded ns ends' near p.interface old new r → UsesAs (uses b n) old new r
    uses-here {old} {new} {r} h =
        uses-handed some few (reached some t) (first-rows some t) (subst (λ (l : List ℕ). UsesHanded l ends' near p.interface old new r) here h)

-- ---- What is handed over
module _ {o : Outcome (List Use)} {es : List Use} (is : o ≡ given es) {old : List ℕ} where
  pub uses-short : length old / 3 < length es → UsesAs o old old (Err (Short (length es)))
  unfolding fit answer_of uses_left
  uses-short h =
      let short = is-false (leb (length es) (length old / 3)) (λ t. omega (arith, leb→le (length es) (length old / 3) t)) in
      record { answer = rw (is, short); left = rw (is, short) }

  pub uses-given : {new : List ℕ} → length es ≤ length old / 3 → new ≡ flat numbers es ++ drop (3 * length es) old → UsesAs o old new (Ok (length es))
  unfolding fit answer_of uses_left
  uses-given h e =
      let long = is-true (leb (length es) (length old / 3)) (le→leb (length es) (length old / 3) h) in
      record { answer = rw (is, long); left = rw (is, long) e }

pub uses-nothing : {o : Outcome (List Use)} {old : List ℕ} → o ≡ given [] → UsesAs o old old (Ok 0)
unfolding fit answer_of uses_left flat
uses-nothing {old = old} e = uses-given e (omega arith) refl

-- counted first, into a list without places, and then written
module _ {es : List Use} {places needed : ℕ} {none left : List ℕ} (first : Puts places 0 es none left needed) where
  counted-is : needed ≡ length es
  counted-is = omega (arith, first.counted)

  module _ {old : List ℕ} where
    pub hands-short : length old / 3 < needed → UsesAs (given es) old old (Err (Short needed))
    hands-short h = subst (λ (k : ℕ). UsesAs (given es) old old (Err (Short k))) (sym counted-is) (uses-short refl (rw counted-is at h))

    pub hands-given : {new : List ℕ} {written : ℕ} → needed ≤ length old / 3 → Puts (length old / 3) 0 es old new written → UsesAs (given es) old new (Ok written)
    hands-given {new} {written} h second =
        let w : written ≡ length es = omega (arith, second.counted) in
        let all = puts-all second (omega arith) (omega (arith, w, counted-is, h)) in
        subst (λ (k : ℕ). UsesAs (given es) old new (Ok k)) (sym w) (uses-given refl (rw counted-is at h) (all ∙ rw w refl))
