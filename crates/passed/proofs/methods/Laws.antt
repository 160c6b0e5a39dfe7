-- The methods of a book that passed which use one of some names, as the code has them. Assumes nothing.
--     methods-lacks                        17
--     by-says, by-ascends                  the positions that pass a test
--     asked-small                          a name that is reachable from a method's arguments and results has a flag
--     positions-are                        those that pass the test of flags are the question's
--     few-methods, methods-here            what is asked of who finds them, and what is handed over
--     names-here, names-none               the names of all methods
use mathlib.Core.Path.{◌≡◌, refl, sym, ap, subst, ◌∙◌}
use mathlib.Core.Logic.{◌↔◌, ◌⊎◌, inl, inr, ⊎_elim}
use mathlib.Core.Bool.{Bool, true, false, cond}
use mathlib.Core.List.Memᴰ
use mathlib.Core.List.{List, [], ◌∷◌, map, Memᴰ}
use Prim.Native.Nat.{ℕ, zero, suc, ◌+◌, ◌≤◌, ◌<◌}
use native.Mathlib.Decide.{dec_lt}
use native.Mathlib.Omega.{arith}
use lib.Dec.{T}
use Rattle.format.specs.Forest.{Forest, end, tree, breadth, first_tree, other_trees, after_trees}
use Rattle.format.specs.Node.{Node}
use Rattle.format.specs.Book.{Definition, Book}
use Rattle.format.specs.Occurs.{first, later}
use Rattle.format.specs.Distinct.{Distinct, Ascends}
use Rattle.format.specs.Labels.{keys_of, method_names}
use Rattle.format.specs.Layout.{nodes_part, definitions_part}
use Rattle.format.specs.References.{references, reference_of}
use Rattle.refusals.specs.declared.Refusal.TheVariants.{NoActor}
use Rattle.refusals.specs.Outcome.{given, refused}
use Rattle.refusals.specs.Handed.{Answer, Use, HandedAs}
use Rattle.refusals.proofs.Outcomes.{same-given}
use Rattle.judgement.specs.Environment.{main_definitions, is_func_kind, head}
use Rattle.judgement.specs.Aliases.{alias_end, methods_at}
use Rattle.judgement.specs.Actor.{class_arguments, below_class, is_class}
use Rattle.judgement.specs.Resolve.{resolve_actor}
use Rattle.judgement.specs.WellFormed.{defined_name}
use Rattle.judgement.proofs.Chains.{stops, run-end}
use Rattle.syntax.specs.Interfaces.{methods_in}
use Rattle.book.specs.declared.kinds.Contents.{Contents}
use Rattle.book.specs.Reading.{Admitted}
use Rattle.typing.specs.declared.prog.Passed.{Passed}
use Rattle.typing.specs.Passing.{PassedAs}
use Rattle.typing.proofs.prog.Book.{fits}
use Rattle.listing.specs.References.{Reachable, direct}
use Rattle.listing.specs.Offers.{Function, Interface, Functions, tree_number}
use Rattle.listing.specs.Uses.{uses_of}
use Rattle.listing.specs.Methods.{methods_using, methods, Changes, Changing, offered_names}
use Rattle.listing.proofs.Interface.{function-end, passed-once, passed-interface, passed-functions, interface-methods}
use Rattle.listing.proofs.Methods.{methods-few}
use Rattle.listing.proofs.Uses.{uses-answered, reach-on}
use Rattle.listing.proofs.MethodsUsing.{using-says, changes-say, methods-changing, changing-unique, methods-answered}
use Rattle.analysis.specs.Reaching.{ReachAs, NearestAs}
use Rattle.analysis.specs.Entries.{Test, Offered}
use Rattle.analysis.specs.Methods.{end_passes, positions_by}
use Rattle.passed.proofs.Asking.{lacks-actor, handed-as}
use Rattle.passed.proofs.uses.Laws.{names-small, outside, offered, reached, first-rows}
use Rattle.passed.proofs.uses.Sites.{used_by, used-says}

-- ---- The positions of methods that pass a test
module _ (used : Test) (ds : List Definition) where
  -- the method at the i-th place does
  abbrev PassesAt : ℕ → Forest Node → ℕ → Type 0
  PassesAt m f p = (i : ℕ) × (i < breadth f) × (p ≡ m + i) × T (end_passes used (alias_end ds (tree_number i f)))

  by-says : (m : ℕ) (f : Forest Node) (p : ℕ) → Memᴰ p (positions_by used ds m f) ↔ PassesAt m f p
  unfolding positions_by breadth after_trees other_trees first_tree
  by-says m end p = (λ i. absurd (Memᴰ.not-nil i), λ x. absurd (omega (arith, x.1)))
  by-says m (tree n kids next) p = go (end_passes used (alias_end ds (tree n kids end))) refl (by-says (suc m) next p)
    where
      after : PassesAt (suc m) next p → PassesAt m (tree n kids next) p
      after x = (suc x.0, omega (arith, x.1), omega (arith, x.2), x.3)

      back : (b : Bool) → end_passes used (alias_end ds (tree n kids end)) ≡ b → (i : ℕ) → i < suc (breadth next) → p ≡ m + i → T (end_passes used (alias_end ds (tree_number i (tree n kids next)))) →
          ((T b) × (p ≡ m)) ⊎ PassesAt (suc m) next p
      back b e zero h q t = inl (subst T e t, omega arith)
      back b e (suc i) h q t = inr (i, omega arith, omega arith, t)

      go : (b : Bool) → end_passes used (alias_end ds (tree n kids end)) ≡ b → Memᴰ p (positions_by used ds (suc m) next) ↔ PassesAt (suc m) next p →
          Memᴰ p (cond b (m ∷ positions_by used ds (suc m) next) (positions_by used ds (suc m) next)) ↔ PassesAt m (tree n kids next) p
      go true e below = (
        λ i. ⊎_elim (λ (q : p ≡ m). (0, omega arith, omega arith, subst T (sym e) tt)) (λ j. after (below.0 j)) (Memᴰ.cases_cons i),
        λ x. ⊎_elim (λ y. Memᴰ.head y.1) (λ y. Memᴰ.tail (below.1 y)) (back true e x.0 x.1 x.2 x.3),
      )
      go false e below = (λ i. after (below.0 i), λ x. ⊎_elim (λ y. absurd y.0) below.1 (back false e x.0 x.1 x.2 x.3))

  by-ascends : (m : ℕ) (f : Forest Node) → Ascends (positions_by used ds m f)
  unfolding positions_by
  by-ascends m end = tt
  by-ascends m (tree n kids next) = go (end_passes used (alias_end ds (tree n kids end))) (by-ascends (suc m) next)
    where
      go : (b : Bool) → Ascends (positions_by used ds (suc m) next) → Ascends (cond b (m ∷ positions_by used ds (suc m) next) (positions_by used ds (suc m) next))
      go true a = (λ p i. let x = (by-says (suc m) next p).0 i in omega (arith, x.2), a)
      go false a = a

  -- of a function its arguments and results are tested with it
  passes-function : Distinct (map defined_name ds) → {t kids : Forest Node} {a : ℕ} (f : Function ds t a kids) → end_passes used (alias_end ds t) ≡ used (tree f.node kids end)
  unfolding end_passes is_func_kind
  passes-function once f = rw (function-end ds once f, f.function) refl

-- A function refers to what its arguments and results do, and to nothing else.
function-refers : {ds : List Definition} {t kids : Forest Node} {a : ℕ} (f : Function ds t a kids) (m : ℕ) → Memᴰ m (references (tree f.node kids end)) ↔ Memᴰ m (references kids)
unfolding references reference_of
function-refers {kids = kids} f m = rw f.function (
  λ i. ⊎_elim (λ j. j) (λ j. absurd (Memᴰ.not-nil j)) (Memᴰ.append_cases (references kids) i),
  Memᴰ.append_left [],
)

function-reaches : {ds : List Definition} {t kids : Forest Node} {a : ℕ} (f : Function ds t a kids) (m : ℕ) → Reachable ds (tree f.node kids end) m ↔ Reachable ds kids m
function-reaches f m = (reach-on (λ k i. direct ((function-refers f k).0 i)), reach-on (λ k i. direct ((function-refers f k).1 i)))

-- each method leads to one
function-number : (ds : List Definition) (f : Forest Node) → Functions ds f → (i : ℕ) → i < breadth f → (a : ℕ) × (kids : Forest Node) × Function ds (tree_number i f) a kids
unfolding breadth after_trees other_trees first_tree
function-number ds end h i l = absurd (omega arith)
function-number ds (tree n kids next) h zero l = h n kids first
function-number ds (tree n kids next) h (suc i) l = function-number ds next (λ m lids o. h m lids (later o)) i (omega arith)

module _ {bs : List ℕ} {c : Contents} {a : Admitted bs c} {roots ends' : List ℕ} {p : Passed} (x : PassedAs a roots ends' p) where
  abbrev b : Book
  b = a.book

  abbrev ds : List Definition
  ds = main_definitions b

  abbrev actor : Forest Node
  actor = resolve_actor b

  pub methods-lacks : (asked : List ℕ) → actor ≡ end → methods b asked ≡ refused NoActor
  unfolding methods
  methods-lacks asked h = lacks-actor x _ h

  module _ (some : actor ≡ end → ⊥) where
    offer : (methods : Forest Node) × Interface ds actor (class_arguments actor) methods
    offer = passed-interface b x.passed some

    once : Distinct (map defined_name ds)
    once = passed-once b x.passed some (fits x)

    abbrev found : Forest Node
    found = methods_in (nodes_part bs) p.interface.services

    found-are : found ≡ methods_at (alias_end ds (below_class actor))
    found-are = (x.offers some).methods

    found-offer : found ≡ offer.0
    found-offer = found-are ∙ interface-methods ds once offer.1

    -- they are no more than a book has nodes
    pub few-methods : breadth found ≤ 4096
    few-methods = omega (arith, methods-few b (fits x) x.passed, ap breadth found-are)

    -- What a method's function leads to has a place in the table of flags: a number outside has no uses.
    asked-small : {i : ℕ} {kids : Forest Node} {e n : ℕ} → i < breadth offer.0 → Function ds (tree_number i offer.0) e kids → Reachable ds kids n → n < 1024
    asked-small {i} {kids} {e} {n} h f r = go (dec_lt n 1024)
      where
        unused : 1024 ≤ n → uses_of ds actor n ≡ []
        unused k = same-given (sym (uses-answered b (fits x) x.passed some n) ∙ outside x some n k)

        go : Dec (n < 1024) → n < 1024
        go (yes k) = k
        go (no k) =
            let change : Changes ds offer.0 (n ∷ []) i = record { exists = h; arguments = e; kids = kids; function = f; name = n; is-asked = Memᴰ.head refl; reached = r } in
            let u = ((using-says ds actor (n ∷ []) i).0 ((changes-say b (fits x) x.passed some offer.1 (n ∷ []) i).1 change)).1 in
            absurd (Memᴰ.not-nil (subst (λ (l : List Use). Memᴰ u.2 l) (unused (omega arith)) (subst (λ (m : ℕ). Memᴰ u.2 (uses_of ds actor m)) (Memᴰ.eq_of_singleton u.1) u.3)))

    method-function : (i : ℕ) → i < breadth offer.0 → (e : ℕ) × (kids : Forest Node) × Function ds (tree_number i offer.0) e kids
    method-function = function-number ds offer.0 (passed-functions b x.passed some (fits x) offer.1)

    module _ {wanted flags : List ℕ} (reach : ReachAs ds wanted flags) where
      -- the test of a method's function
      passes-says : (i : ℕ) → i < breadth offer.0 → {kids : Forest Node} {e : ℕ} (f : Function ds (tree_number i offer.0) e kids) →
          T (end_passes (used_by flags) (alias_end ds (tree_number i offer.0))) ↔ ((n : ℕ) × Memᴰ n wanted × Reachable ds kids n)
      passes-says i h {kids} f =
          let u = used-says reach (names-small x) (tree f.node kids end) (λ n m r. asked-small h f ((function-reaches f n).0 r)) in
          let e = passes-function (used_by flags) ds once f in (
            λ t. let y = u.0 (subst T e t) in (y.0, y.1, (function-reaches f y.0).0 y.2),
            λ y. subst T (sym e) (u.1 (y.0, y.1, (function-reaches f y.0).1 y.2)),
          )

      changing : Changing ds offer.0 wanted (positions_by (used_by flags) ds 0 offer.0)
      changing = record {
        ascends = by-ascends (used_by flags) ds 0 offer.0;
        exactly = λ q.
            let says = by-says (used_by flags) ds 0 offer.0 q in (
              λ m. let y = says.0 m in there q y.0 y.1 (omega (arith, y.2)) y.3,
              λ y. says.1 (q, y.exists, omega arith, (passes-says q y.exists y.function).1 (y.name, y.is-asked, y.reached)),
            );
      }
        where
          there : (q i : ℕ) → i < breadth offer.0 → i ≡ q → T (end_passes (used_by flags) (alias_end ds (tree_number i offer.0))) → Changes ds offer.0 wanted q
          there q i h e t =
              let f = method-function i h in
              let y = (passes-says i h f.2).0 t in
              subst (Changes ds offer.0 wanted) e record { exists = h; arguments = f.0; kids = f.1; function = f.2; name = y.0; is-asked = y.1; reached = y.2 }

      positions-are : positions_by (used_by flags) ds 0 found ≡ methods_using ds actor wanted
      positions-are =
          ap (positions_by (used_by flags) ds 0) found-offer ∙ changing-unique changing (methods-changing b (fits x) x.passed some offer.1 wanted)

    -- the names of the methods that are found
    pub names-here : method_names found ≡ offered_names b
    names-here = ap method_names found-are

  -- ---- As the code has it: what is found is the question's, and so is what is handed over
  module _ (some : actor ≡ end → ⊥) {wanted near : List ℕ} (t : NearestAs (nodes_part bs) (definitions_part bs) c.nodes p.main wanted near)
      {ns : List ℕ} (here : ns ≡ nodes_part bs) {positions : List ℕ} where
    positions-found : ((y : Offered ns ends' near p.interface.from p.interface.until p.interface.services) →
        positions ≡ positions_by y.used y.definitions 0 (methods_in ns p.interface.services)) → positions ≡ methods_using ds actor wanted
    positions-found h =
        subst (λ (l : List ℕ). (y : Offered l ends' near p.interface.from p.interface.until p.interface.services) →
        positions ≡ positions_by y.used y.definitions 0 (methods_in l p.interface.services)) here h (offered x some (first-rows x some t))
        ∙ positions-are some (reached x some t)

    pub methods-here : ((y : Offered ns ends' near p.interface.from p.interface.until p.interface.services) →
        positions ≡ positions_by y.used y.definitions 0 (methods_in ns p.interface.services)) →
        {old new : List ℕ} {r : Answer} → HandedAs (given positions) old new r → HandedAs (methods b wanted) old new r
    methods-here h handed = handed-as (methods-answered b x.passed some wanted ∙ ap given (sym (positions-found h))) handed

  -- of none
  pub names-none : actor ≡ end → [] ≡ offered_names b
  unfolding keys_of below_class is_class head methods_at
  names-none h = rw (h, run-end ds (stops {t = end} refl)) refl
