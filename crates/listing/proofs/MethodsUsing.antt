-- Which methods change with some definitions: what is given, by the answers to `uses` and by references, and what is refused. Assumes nothing of
-- what is refused alike and of unions; elsewhere of a book that it fits, as one that was read from bytes does.
--     positions-say, ..                      the positions of methods
--     any-says, using-says                   the test of a position, and what it keeps
--     forest-reaches                         what is reachable from trees beside each other is reachable from one of them
--     methods-answered                       a book that passes and has an actor is answered
--     changes-say, methods-changing, ..      by references: the methods from whose arguments and results an asked name is reachable
--     methods-say, methods-given             what is given, and that a book that passes and has an actor gives it whatever is asked
--     asked-alike, unused-add-nothing        only which names are asked matters, and only those that have uses
--     union-of-both, union-of-single         unions of answers
--     refused-whatever-asked, none-asked     the refusal is the book's; nothing asked
--     methods-in-row, methods-most, ..       a refusal lies in its row; the rows that there are; no more than 4,096 positions
--     methods-bytes-in-row, ..               all on bytes
--     methods-sent                           what a caller has in hand
--     apart-methods, ..                      examples
use mathlib.Core.Path.{◌≡◌, refl, sym, ap, subst, ◌∙◌}
use mathlib.Core.Logic.{◌↔◌, ◌⊎◌, inl, inr, ⊎_elim, ⊎_map}
use mathlib.Core.Bool.{Bool, true, false, ◌||◌}
use mathlib.Core.List.Memᴰ
use mathlib.Core.List.{List, [], ◌∷◌, ◌++◌, Memᴰ}
use Prim.Native.Nat.{ℕ, zero, suc, ◌+◌, ◌-◌, ◌≤◌, ◌<◌}
use native.Mathlib.Decide.{ℕ_discrete, dec_lt}
use native.Mathlib.Omega.{arith}
use lib.Dec.{T, eqb}
use lib.ListN.{length}
use Rattle.std.specs.Prelude.{Ok, Err}
use Rattle.labels.specs.declared.Label.TheVariants.{Named}
use Rattle.refusals.specs.Handed.{Use}
use Rattle.refusals.specs.Outcome.{Outcome, given, refused, after, fit}
use Rattle.refusals.specs.declared.Refusal.{Refusal}
use Rattle.refusals.specs.declared.Refusal.TheVariants.{Short, NoActor}
use Rattle.refusals.specs.Refusal.{number_of}
use Rattle.refusals.specs.Verdict.{Verdict, passes, and_then}
use Rattle.refusals.proofs.Outcomes.{given-refused, same-given, same-refusal}
use Rattle.format.specs.Forest.{Forest, end, tree, breadth, first_tree, other_trees, after_trees}
use Rattle.format.specs.Node.{Nat, PrimT, VarT, FuncT, ServT, Node}
use Rattle.format.specs.Book.{Definition, Book}
use Rattle.format.specs.Fits.{Fits}
use Rattle.format.specs.Distinct.{Ascends}
use Rattle.format.specs.References.{references}
use Rattle.format.specs.References as refer
use Rattle.format.specs.Admission.{admitted, on_bytes, admission_rows, InRow, Source}
use Rattle.format.proofs.Logic.{eq-says}
use Rattle.format.proofs.Distinct.{ascends-unique}
use Rattle.format.proofs.Admission.{admitted-fits, asked-is, asked-row, row-numbers}
use Rattle.judgement.specs.Environment.{main_definitions}
use Rattle.judgement.specs.Aliases.{alias_end, methods_at}
use Rattle.judgement.specs.Actor.{class_arguments, below_class}
use Rattle.judgement.specs.Resolve.{resolve_actor}
use Rattle.judgement.specs.Check.{check}
use Rattle.judgement.proofs.Rows.{check-numbers}
use Rattle.listing.specs.References.{Reachable, direct}
use Rattle.listing.specs.References as reach
use Rattle.listing.specs.Sites.{Site}
use Rattle.listing.specs.Offers.{Function, Interface, tree_number, FunctionSite, argument, result, SiteOf, of_class, of_method}
use Rattle.listing.specs.Uses.{uses_of, uses, kept}
use Rattle.listing.specs.Room.{needs_actor, ShortRow, AfterCheck, Most}
use Rattle.listing.specs.Demand3.{Gives}
use Rattle.listing.specs.Methods.{has_method, any_uses, positions, methods_using, methods, MethodsGiven, Changes, Changing, MethodsOf, UnionOf, UnionOfSingle, MethodsSent, MethodsRow, methods_rows, checked, no_actor, short}
use Rattle.listing.proofs.Delivered.{gives, handed-delivers}
use Rattle.listing.proofs.Interface.{passed-once, passed-interface, interface-methods}
use Rattle.listing.proofs.Methods.{methods-few}
use Rattle.listing.proofs.Room.{answered, actor-given, after-actor, fit-row, check-short, fit-most, bytes-most, check-stops}
use Rattle.listing.proofs.Uses.{kept-says, kept-ascends, kept-length, uses-answered, uses-say, reach-on}
use Rattle.listing.proofs.Examples.{plain, field, name, type, book}
use Rattle.listing.proofs.DefUse.{method, sharing}
use Rattle.listing.proofs.UseCounts.{shared, with_argument, counts-computed}

-- ---- The positions of methods
pub positions-say : (i p : ℕ) (f : Forest Node) → Memᴰ p (positions i f) ↔ ((i ≤ p) × (p < i + breadth f))
unfolding positions breadth
positions-say i p end = (λ m. absurd (Memᴰ.not-nil m), λ h. absurd (omega (arith, h.0, h.1)))
positions-say i p (tree n kids next) =
    let below = positions-say (suc i) p next in (
      λ m. ⊎_elim (λ (e : p ≡ i). (omega arith, omega arith)) (λ k. let x = below.0 k in (omega (arith, x.0), omega (arith, x.1))) (Memᴰ.cases_cons m),
      λ h. elim (ℕ_discrete p i) [
        | yes e ↦ Memᴰ.head e
        | no k ↦ Memᴰ.tail (below.1 (omega (arith, h.0), omega (arith, h.1)))
      ],
    )

pub positions-ascend : (i : ℕ) (f : Forest Node) → Ascends (positions i f)
unfolding positions
positions-ascend i end = tt
positions-ascend i (tree n kids next) = (λ p m. ((positions-say (suc i) p next).0 m).0, positions-ascend (suc i) next)

pub positions-length : (i : ℕ) (f : Forest Node) → length (positions i f) ≡ breadth f
unfolding positions breadth
positions-length i end = refl
positions-length i (tree n kids next) = ap suc (positions-length (suc i) next)

-- ---- The test of a position
or-says : (a b : Bool) → T (a || b) ↔ (T a ⊎ T b)
or-says true b = (λ t. inl tt, λ x. tt)
or-says false b = (inr, ⊎_elim (λ t. absurd t) (λ t. t))

has-says : (p : ℕ) (us : List Use) → T (has_method p us) ↔ ((u : Use) × Memᴰ u us × (u.method ≡ p))
unfolding has_method
has-says p [] = (λ (t : ⊥). absurd t, λ x. absurd (Memᴰ.not-nil x.1))
has-says p (u ∷ us) =
    let either = or-says (eqb p u.method) (has_method p us) in
    let same = eq-says p u.method in
    let below = has-says p us in (
      λ t. ⊎_elim (λ h. (u, Memᴰ.head refl, sym (same.0 h))) (λ h. let x = below.0 h in (x.0, Memᴰ.tail x.1, x.2)) (either.0 t),
      λ x. either.1 (elim (Memᴰ.cases_cons x.1) [
        | inl e ↦ inl (same.1 (sym x.2 ∙ ap (λ (v : Use). v.method) e))
        | inr m ↦ inr (below.1 (x.0, m, x.2))
      ]),
    )

-- Some asked name has an entry of the method.
abbrev pub UsedBy : (ℕ → List Use) → List ℕ → ℕ → Type 0
UsedBy row asked p = (n : ℕ) × Memᴰ n asked × (u : Use) × Memᴰ u (row n) × (u.method ≡ p)

module _ (ds : List Definition) (actor : Forest Node) where
  pub any-says : (asked : List ℕ) (p : ℕ) → T (any_uses ds actor asked p) ↔ UsedBy (uses_of ds actor) asked p
  unfolding any_uses
  any-says [] p = (λ (t : ⊥). absurd t, λ x. absurd (Memᴰ.not-nil x.1))
  any-says (n ∷ asked) p =
      let either = or-says (has_method p (uses_of ds actor n)) (any_uses ds actor asked p) in
      let own = has-says p (uses_of ds actor n) in
      let below = any-says asked p in (
        λ t. ⊎_elim (λ h. let x = own.0 h in (n, Memᴰ.head refl, x.0, x.1, x.2)) (λ h. let x = below.0 h in (x.0, Memᴰ.tail x.1, x.2, x.3, x.4)) (either.0 t),
        λ x. either.1 (elim (Memᴰ.cases_cons x.1) [
          | inl e ↦ inl (own.1 (x.2, subst (λ (k : ℕ). Memᴰ x.2 (uses_of ds actor k)) e x.3, x.4))
          | inr m ↦ inr (below.1 (x.0, m, x.2, x.3, x.4))
        ]),
      )

  abbrev offered : Forest Node
  offered = methods_at (alias_end ds (below_class actor))

  -- what is kept
  pub using-says : (asked : List ℕ) (p : ℕ) → Memᴰ p (methods_using ds actor asked) ↔ ((p < breadth offered) × UsedBy (uses_of ds actor) asked p)
  unfolding methods_using
  using-says asked p =
      let k = kept-says (any_uses ds actor asked) (positions 0 offered) p in
      let q = positions-say 0 p offered in
      let a = any-says asked p in (
        λ m. let x = k.0 m in (omega (arith, (q.0 x.0).1), a.0 x.1),
        λ x. k.1 (q.1 (omega arith, omega (arith, x.0)), a.1 x.1),
      )

  pub using-ascends : (asked : List ℕ) → Ascends (methods_using ds actor asked)
  unfolding methods_using
  using-ascends asked = kept-ascends (any_uses ds actor asked) (positions 0 offered) (positions-ascend 0 offered)

  pub using-length : (asked : List ℕ) → length (methods_using ds actor asked) ≤ breadth offered
  unfolding methods_using
  using-length asked = omega (arith, kept-length (any_uses ds actor asked) (positions 0 offered), positions-length 0 offered)

-- ---- What is reachable from trees beside each other is reachable from one of them
forest-refers : (f : Forest Node) (n : ℕ) → Memᴰ n (references f) ↔ ((i : ℕ) × (i < breadth f) × Memᴰ n (references (tree_number i f)))
unfolding references breadth after_trees other_trees first_tree
forest-refers end n = (λ m. absurd (Memᴰ.not-nil m), λ x. absurd (omega (arith, x.1)))
forest-refers (tree k kids next) n =
    let own = refer.reference_of k.kind in
    let below = forest-refers next n in (
      λ m. ⊎_elim (λ a. first (Memᴰ.append_left (references kids ++ []) a))
          (λ a. ⊎_elim (λ c. first (Memᴰ.append_right own (Memᴰ.append_left [] c))) (λ c. let x = below.0 c in (suc x.0, omega (arith, x.1), x.2)) (Memᴰ.append_cases (references kids) a)) (Memᴰ.append_cases own m),
      λ x. back x.0 x.1 x.2 below.1,
    )
  where
    first : Memᴰ n (refer.reference_of k.kind ++ (references kids ++ [])) → (i : ℕ) × (i < suc (breadth next)) × Memᴰ n (references (tree_number i (tree k kids next)))
    first m = (0, omega arith, m)

    back : (i : ℕ) → i < suc (breadth next) → Memᴰ n (references (tree_number i (tree k kids next))) →
        ((j : ℕ) × (j < breadth next) × Memᴰ n (references (tree_number j next)) → Memᴰ n (references next)) →
        Memᴰ n (refer.reference_of k.kind ++ (references kids ++ references next))
    back zero h m below =
        ⊎_elim (Memᴰ.append_left (references kids ++ references next))
        (λ a. Memᴰ.append_right (refer.reference_of k.kind) (⊎_elim (Memᴰ.append_left (references next)) (λ z. absurd (Memᴰ.not-nil z)) (Memᴰ.append_cases (references kids) a)))
        (Memᴰ.append_cases (refer.reference_of k.kind) m)
    back (suc i) h m below = Memᴰ.append_right (refer.reference_of k.kind) (Memᴰ.append_right (references kids) (below (i, omega arith, m)))

pub forest-reaches : (ds : List Definition) (f : Forest Node) (n : ℕ) → Reachable ds f n ↔ ((i : ℕ) × (i < breadth f) × Reachable ds (tree_number i f) n)
forest-reaches ds f n = (there, λ x. reach-on (λ k m. direct ((forest-refers f k).1 (x.0, x.1, m))) x.2)
  where
    there : {k : ℕ} → Reachable ds f k → (i : ℕ) × (i < breadth f) × Reachable ds (tree_number i f) k
    there {k} (direct m) = let x = (forest-refers f k).0 m in (x.0, x.1, direct x.2)
    there (reach.onward r h) = let x = there r in (x.0, x.1, reach.onward x.2 h)

-- ---- The arguments and results of a function, by their places among its children
-- One of them, as a site.
record PlacedSite (kids : Forest Node) (m : ℕ) (s : Site) : Type 0 where
  place : ℕ
  exists : place < breadth kids
  of-method : s.entry.method ≡ m
  type-is : s.type ≡ tree_number place kids

site-placed : {m a : ℕ} {kids : Forest Node} {s : Site} → FunctionSite m a kids s → PlacedSite kids m s
site-placed (argument i small exists e) = record { place = i; exists = exists; of-method = ap (λ (x : Site). x.entry.method) e; type-is = ap (λ (x : Site). x.type) e }
site-placed {a = a} (result i exists e) = record { place = a + i; exists = exists; of-method = ap (λ (x : Site). x.entry.method) e; type-is = ap (λ (x : Site). x.type) e }

placed-site : (m a : ℕ) (kids : Forest Node) (i : ℕ) → i < breadth kids → (s : Site) × FunctionSite m a kids s × (s.entry.method ≡ m) × (s.type ≡ tree_number i kids)
placed-site m a kids i h =
    elim (dec_lt i a) [
      | yes small ↦ (_, argument i small h refl, refl, refl)
      | no large ↦ let e : a + (i - a) ≡ i = omega arith in (_, result (i - a) (omega arith) refl, refl, ap (λ (j : ℕ). tree_number j kids) e)
    ]

-- ---- On books
-- A book that passes and has an actor is answered.
pub methods-answered : (b : Book) → check b ≡ passes → (resolve_actor b ≡ end → ⊥) → (asked : List ℕ) →
    methods b asked ≡ given (methods_using (main_definitions b) (resolve_actor b) asked)
unfolding methods
methods-answered b passed some asked = answered b passed some (given (methods_using (main_definitions b) (resolve_actor b) asked))

-- What is given says that the book passed and has an actor, and is that list.
given-is : (b : Book) (asked : List ℕ) {l : List ℕ} → methods b asked ≡ given l →
    (check b ≡ passes) × (resolve_actor b ≡ end → ⊥) × (methods_using (main_definitions b) (resolve_actor b) asked ≡ l)
unfolding methods
given-is b asked e = let p = actor-given b _ e in (p.0, p.1, same-given (sym (methods-answered b p.0 p.1 asked) ∙ e))

-- There is one such list.
pub changing-unique : {ds : List Definition} {methods : Forest Node} {asked k l : List ℕ} → Changing ds methods asked k → Changing ds methods asked l → k ≡ l
changing-unique {k = k} {l = l} x y = ascends-unique k l x.ascends y.ascends (λ p. (λ m. (y.exactly p).1 ((x.exactly p).0 m), λ m. (x.exactly p).1 ((y.exactly p).0 m)))

module _ (b : Book) (fits : Fits b) (passed : check b ≡ passes) (some : resolve_actor b ≡ end → ⊥)
    {arguments methods : Forest Node} (offers : Interface (main_definitions b) (resolve_actor b) arguments methods) where
  abbrev ds : List Definition
  ds = main_definitions b

  same-methods : methods_at (alias_end ds (below_class (resolve_actor b))) ≡ methods
  same-methods = interface-methods ds (passed-once b passed some fits) offers

  few-methods : breadth methods ≤ 4096
  few-methods = omega (arith, methods-few b fits passed, ap breadth same-methods)

  -- By references: those from whose arguments and results an asked name is reachable, and no other.
  pub changes-say : (asked : List ℕ) (p : ℕ) → Memᴰ p (methods_using ds (resolve_actor b) asked) ↔ Changes ds methods asked p
  changes-say asked p = (there, back)
    where
      there : Memᴰ p (methods_using ds (resolve_actor b) asked) → Changes ds methods asked p
      there m =
          let x = (using-says ds (resolve_actor b) asked p).0 m in
          let within : p < breadth methods = omega (arith, x.0, ap breadth same-methods) in
          let u = x.1 in
          let y = (uses-say b fits passed some offers u.0 u.2).0 u.3 in
          go within u.0 u.1 (ap (λ (v : Use). v.method) y.2 ∙ u.4) y.1 y.3
        where
          go : p < breadth methods → (n : ℕ) → Memᴰ n asked → {s : Site} → s.entry.method ≡ p → SiteOf ds arguments methods s → Reachable ds s.type n →
              Changes ds methods asked p
          go within n i e (of_class k h q) r = absurd (omega (arith, within, few-methods, e, ap (λ (x : Site). x.entry.method) q))
          go within n i {s} e (of_method {m = m} {a = a} {kids = kids} h f y) r =
              let z = site-placed y in
              let same : m ≡ p = sym z.of-method ∙ e in
              record {
                exists = within;
                arguments = a;
                kids = kids;
                function = subst (λ (k : ℕ). Function ds (tree_number k methods) a kids) same f;
                name = n;
                is-asked = i;
                reached = (forest-reaches ds kids n).1 (z.place, z.exists, subst (λ (t : Forest Node). Reachable ds t n) z.type-is r);
              }

      back : Changes ds methods asked p → Memᴰ p (methods_using ds (resolve_actor b) asked)
      back c =
          let x = (forest-reaches ds c.kids c.name).0 c.reached in
          let s = placed-site p c.arguments c.kids x.0 x.1 in
          let r = subst (λ (t : Forest Node). Reachable ds t c.name) (sym s.3) x.2 in
          let used = (uses-say b fits passed some offers c.name s.0.entry).1 (s.0, of_method c.exists c.function s.1, refl, r) in
          (using-says ds (resolve_actor b) asked p).1 (omega (arith, c.exists, ap breadth same-methods), (c.name, c.is-asked, s.0.entry, used, s.2))

  pub methods-changing : (asked : List ℕ) → Changing ds methods asked (methods_using ds (resolve_actor b) asked)
  methods-changing asked = record { ascends = using-ascends ds (resolve_actor b) asked; exactly = changes-say asked }

-- ---- What is given
module _ (b : Book) (fits : Fits b) (asked : List ℕ) where
  abbrev rows : ℕ → List Use
  rows = uses_of (main_definitions b) (resolve_actor b)

  -- By the answers to `uses`: an entry is of a method that there is, or of the class.
  using-entries : check b ≡ passes → (resolve_actor b ≡ end → ⊥) → (p : ℕ) →
      Memᴰ p (methods_using (main_definitions b) (resolve_actor b) asked)
      ↔ ((p ≡ 65535 → ⊥) × (n : ℕ) × Memᴰ n asked × (u : Use) × Memᴰ u (rows n) × (u.method ≡ p))
  using-entries passed some p =
      let ds = main_definitions b in
      let x = passed-interface b passed some in
      let same = interface-methods ds (passed-once b passed some fits) x.1 in
      let say = using-says ds (resolve_actor b) asked p in
      let few = methods-few b fits passed in (
        λ m. let y = say.0 m in let u = y.1 in (λ e. omega (arith, y.0, few), u.0, u.1, u.2, u.3, u.4),
        λ y. let z = (uses-say b fits passed some x.1 y.1 y.3).0 y.4 in
            say.1 (omega (arith, go y.0 (ap (λ (v : Use). v.method) z.2 ∙ y.5) z.1, ap breadth same), (y.1, y.2, y.3, y.4, y.5)),
      )
    where
      go : {arguments methods : Forest Node} → (p ≡ 65535 → ⊥) → {s : Site} → s.entry.method ≡ p → SiteOf (main_definitions b) arguments methods s → p < breadth methods
      go other e (of_class i h q) = absurd (other (sym e ∙ ap (λ (x : Site). x.entry.method) q))
      go other e (of_method h f y) = omega (arith, h, e, (site-placed y).of-method)

  pub methods-say : (l : List ℕ) → (methods b asked ≡ given l) ↔ MethodsGiven b asked l
  unfolding uses
  methods-say l = (
    λ e.
        let p = given-is b asked e in
        subst (MethodsGiven b asked) p.2 (record {
          row = rows;
          rows = uses-answered b fits p.0 p.1;
          ascends = using-ascends (main_definitions b) (resolve_actor b) asked;
          exactly = using-entries p.0 p.1;
        }),
    λ g.
        let p = actor-given b _ (g.rows 0) in
        let same : rows ≡ g.row = λ i n. same-given (sym (uses-answered b fits p.0 p.1 n) ∙ g.rows n) i in
        let say = subst (λ (row : ℕ → List Use). (q : ℕ) → Memᴰ q (methods_using (main_definitions b) (resolve_actor b) asked)
        ↔ ((q ≡ 65535 → ⊥) × (n : ℕ) × Memᴰ n asked × (u : Use) × Memᴰ u (row n) × (u.method ≡ q))) same (using-entries p.0 p.1) in
        methods-answered b p.0 p.1 asked
        ∙ ap given (ascends-unique _ l (using-ascends (main_definitions b) (resolve_actor b) asked) g.ascends
        (λ q. (λ m. (g.exactly q).1 ((say q).0 m), λ m. (say q).1 ((g.exactly q).0 m)))),
  )

  -- by references
  pub methods-of : (l : List ℕ) → methods b asked ≡ given l → MethodsOf b asked l
  methods-of l e =
      let p = given-is b asked e in
      let x = passed-interface b p.0 p.1 in
      (class_arguments (resolve_actor b), x.0, x.1, subst (Changing (main_definitions b) x.0 asked) p.2 (methods-changing b fits p.0 p.1 x.1 asked))

  pub methods-using-few : (l : List ℕ) → methods b asked ≡ given l → length l ≤ 4096
  methods-using-few l e =
      let p = given-is b asked e in
      omega (arith, ap length p.2, using-length (main_definitions b) (resolve_actor b) asked, methods-few b fits p.0)

  pub methods-using-fewer : {arguments methods' : Forest Node} → Interface (main_definitions b) (resolve_actor b) arguments methods' →
      (l : List ℕ) → methods b asked ≡ given l → length l ≤ breadth methods'
  methods-using-fewer x l e =
      let p = given-is b asked e in
      let offered = interface-methods (main_definitions b) (passed-once b p.0 p.1 fits) x in
      omega (arith, ap length p.2, using-length (main_definitions b) (resolve_actor b) asked, ap breadth offered)

  -- A book that passes and has an actor is answered whatever is asked, and with a list that is long enough not refused.
  pub methods-given : check b ≡ passes → (resolve_actor b ≡ end → ⊥) → (l : List ℕ) × Gives (methods b asked) l × MethodsGiven b asked l × (length l ≤ 4096)
      × ((arguments methods' : Forest Node) → Interface (main_definitions b) (resolve_actor b) arguments methods' → length l ≤ breadth methods')
  methods-given passed some =
      let e = methods-answered b passed some asked in
      let l = methods_using (main_definitions b) (resolve_actor b) asked in
      (l, gives (methods b asked) e, (methods-say l).0 e, methods-using-few l e, λ arguments methods' x. methods-using-fewer x l e)

-- ---- Only which names are asked matters, and only those that have uses
module _ (ds : List Definition) (actor : Forest Node) where
  -- all of the single answers
  pub one-by-one : (asked : List ℕ) (p : ℕ) → Memᴰ p (methods_using ds actor asked) ↔ ((n : ℕ) × Memᴰ n asked × Memᴰ p (methods_using ds actor (n ∷ [])))
  one-by-one asked p = (
    λ m. let x = (using-says ds actor asked p).0 m in
        let u = x.1 in (u.0, u.1, (using-says ds actor (u.0 ∷ []) p).1 (x.0, (u.0, Memᴰ.head refl, u.2, u.3, u.4))),
    λ y. let x = (using-says ds actor (y.0 ∷ []) p).0 y.2 in
        let u = x.1 in (using-says ds actor asked p).1 (x.0, (u.0, Memᴰ.cast (Memᴰ.eq_of_singleton u.1) y.1, u.2, u.3, u.4)),
  )

  using-more : (k l : List ℕ) → ((n : ℕ) → Memᴰ n k → Memᴰ n l ⊎ (uses_of ds actor n ≡ [])) → (p : ℕ) → Memᴰ p (methods_using ds actor k) → Memᴰ p (methods_using ds actor l)
  using-more k l h p m =
      let x = (using-says ds actor k p).0 m in
      let u = x.1 in
      elim (h u.0 u.1) [
        | inl i ↦ (using-says ds actor l p).1 (x.0, (u.0, i, u.2, u.3, u.4))
        | inr e ↦ absurd (Memᴰ.not-nil (subst (λ (row : List Use). Memᴰ u.2 row) e u.3))
      ]

  using-same : (k l : List ℕ) → ((n : ℕ) → Memᴰ n k → Memᴰ n l ⊎ (uses_of ds actor n ≡ [])) → ((n : ℕ) → Memᴰ n l → Memᴰ n k ⊎ (uses_of ds actor n ≡ [])) →
      methods_using ds actor k ≡ methods_using ds actor l
  using-same k l g h =
      ascends-unique (methods_using ds actor k) (methods_using ds actor l) (using-ascends ds actor k) (using-ascends ds actor l)
      (λ p. (using-more k l g p, using-more l k h p))

  using-both : (k l : List ℕ) (p : ℕ) → Memᴰ p (methods_using ds actor (k ++ l)) ↔ (Memᴰ p (methods_using ds actor k) ⊎ Memᴰ p (methods_using ds actor l))
  using-both k l p = (
    λ m. let x = (one-by-one (k ++ l) p).0 m in
        elim (Memᴰ.append_cases k x.1) [
          | inl i ↦ inl ((one-by-one k p).1 (x.0, i, x.2))
          | inr i ↦ inr ((one-by-one l p).1 (x.0, i, x.2))
        ],
    ⊎_elim (using-more k (k ++ l) (λ n i. inl (Memᴰ.append_left l i)) p) (using-more l (k ++ l) (λ n i. inl (Memᴰ.append_right k i)) p),
  )

  using-none : methods_using ds actor [] ≡ []
  using-none = ascends-unique (methods_using ds actor []) [] (using-ascends ds actor []) tt (λ p. (
    λ m. absurd (Memᴰ.not-nil ((one-by-one [] p).0 m).1),
    λ m. absurd (Memᴰ.not-nil m),
  ))

module _ (b : Book) where
  -- in whatever order and however often they are asked
  pub asked-alike : {k l : List ℕ} → ((n : ℕ) → Memᴰ n k ↔ Memᴰ n l) → methods b k ≡ methods b l
  unfolding methods
  asked-alike {k} {l} h =
      ap (λ (x : List ℕ). after (and_then (check b) (needs_actor (resolve_actor b))) (given x))
      (using-same (main_definitions b) (resolve_actor b) k l (λ n i. inl ((h n).0 i)) (λ n i. inl ((h n).1 i)))

  pub unused-add-nothing : {k l : List ℕ} → ((n : ℕ) → Memᴰ n l → Memᴰ n k ⊎ (uses b n ≡ given [])) → methods b (k ++ l) ≡ methods b k
  unfolding methods uses after
  unused-add-nothing {k} {l} h = go (and_then (check b) (needs_actor (resolve_actor b))) h
    where
      go : (v : Verdict) → ((n : ℕ) → Memᴰ n l → Memᴰ n k ⊎ (after v (given (uses_of (main_definitions b) (resolve_actor b) n)) ≡ given [])) →
          after v (given (methods_using (main_definitions b) (resolve_actor b) (k ++ l))) ≡ after v (given (methods_using (main_definitions b) (resolve_actor b) k))
      go (Err r) h = refl
      go (Ok u) h =
          ap given (using-same (main_definitions b) (resolve_actor b) (k ++ l) k
          (λ n i. ⊎_elim (λ m. inl m) (λ m. ⊎_map (λ j. j) (λ e. same-given e) (h n m)) (Memᴰ.append_cases k i))
          (λ n i. inl (Memᴰ.append_left l i)))

  -- Refused is the book, whatever is asked of it.
  pub refused-whatever-asked : (k l : List ℕ) {r : Refusal} → (methods b k ≡ refused r) ↔ (methods b l ≡ refused r)
  unfolding methods after
  refused-whatever-asked k l {r} = let v = and_then (check b) (needs_actor (resolve_actor b)) in (go v _ _, go v _ _)
    where
      go : (v : Verdict) (x y : List ℕ) → after v (given x) ≡ refused r → after v (given y) ≡ refused r
      go (Ok u) x y e = given-refused (sym e)
      go (Err s) x y e = ap refused (same-refusal e)

  -- Nothing asked, nothing given.
  pub none-asked : check b ≡ passes → (resolve_actor b ≡ end → ⊥) → methods b [] ≡ given []
  none-asked passed some = methods-answered b passed some [] ∙ ap given (using-none (main_definitions b) (resolve_actor b))

  -- ---- Unions
  pub union-of-both : (k l : List ℕ) {x y : List ℕ} → methods b k ≡ given x → methods b l ≡ given y → (both : List ℕ) × (methods b (k ++ l) ≡ given both) × UnionOf x y both
  union-of-both k l {x} {y} e f =
      let p = given-is b k e in
      let q = given-is b l f in
      let ds = main_definitions b in
      let actor = resolve_actor b in (
        methods_using ds actor (k ++ l),
        methods-answered b p.0 p.1 (k ++ l),
        record { ascends = using-ascends ds actor (k ++ l); exactly = rw (sym p.2, sym q.2) (using-both ds actor k l) },
      )

  pub union-of-single : (asked l : List ℕ) → (methods b asked ≡ given l) ↔ UnionOfSingle b asked l
  union-of-single asked l = (
    λ e.
        let p = given-is b asked e in
        subst (UnionOfSingle b asked) p.2 (record {
          single = λ n. methods_using (main_definitions b) (resolve_actor b) (n ∷ []);
          singles = λ n. methods-answered b p.0 p.1 (n ∷ []);
          ascends = using-ascends (main_definitions b) (resolve_actor b) asked;
          exactly = one-by-one (main_definitions b) (resolve_actor b) asked;
        }),
    λ x.
        let p = given-is b (0 ∷ []) (x.singles 0) in
        let same : (n : ℕ) → methods_using (main_definitions b) (resolve_actor b) (n ∷ []) ≡ x.single n = λ n. (given-is b (n ∷ []) (x.singles n)).2 in
        let one = one-by-one (main_definitions b) (resolve_actor b) asked in
        methods-answered b p.0 p.1 asked
        ∙ ap given (ascends-unique _ l (using-ascends (main_definitions b) (resolve_actor b) asked) x.ascends (λ q. (
          λ m. let y = (one q).0 m in (x.exactly q).1 (y.0, y.1, subst (λ (k : List ℕ). Memᴰ q k) (same y.0) y.2),
          λ m. let y = (x.exactly q).0 m in (one q).1 (y.0, y.1, subst (λ (k : List ℕ). Memᴰ q k) (sym (same y.0)) y.2),
        ))),
  )

-- ---- The check comes first
pub methods-after : (asked : List ℕ) → AfterCheck (λ b. methods b asked)
unfolding methods
methods-after asked b r e = check-stops b _ e

-- ---- What is refused
module _ (b : Book) (fits : Fits b) (asked : List ℕ) (places : ℕ) where
  pub methods-in-row : {r : Refusal} → fit places (methods b asked) ≡ refused r → MethodsRow b asked places r
  unfolding methods
  methods-in-row = fit-row places (methods b asked) (MethodsOf b asked) (MethodsRow b asked places) own (methods-of b fits asked) (λ k x. short x)
    where
      own : (r : Refusal) → methods b asked ≡ refused r → MethodsRow b asked places r
      own r e = after-actor b fits _ (MethodsRow b asked places) (λ r. checked) no_actor (λ passed some. given-refused (sym e ∙ methods-answered b passed some asked)) e

-- The rows that there are.
pub methods-numbers : {b : Book} {asked : List ℕ} {places : ℕ} {r : Refusal} → MethodsRow b asked places r → Memᴰ (number_of r) methods_rows
methods-numbers {b} (checked {r = r} x) = Memᴰ.tail (Memᴰ.tail (check-numbers b r x))
methods-numbers (no_actor x) = Memᴰ.head refl
methods-numbers (short x) = Memᴰ.tail (Memᴰ.head refl)

-- ---- How many positions there are at most
methods-short : (b : Book) (asked : List ℕ) {places k : ℕ} → MethodsRow b asked places (Short k) → ShortRow places (methods b asked) (MethodsOf b asked) k
methods-short b asked (checked x) = absurd (check-short b x)
methods-short b asked (short x) = x

pub methods-most : (b : Book) → Fits b → (asked : List ℕ) (places : ℕ) → Most 4096 (fit places (methods b asked))
methods-most b fits asked places = fit-most 4096 places (methods b asked) (methods-using-few b fits asked) (λ k e. methods-short b asked (methods-in-row b fits asked places e))

-- ---- On bytes
module _ (bs : Source) (places : ℕ) (asked : List ℕ) {r : Refusal} (e : fit places (on_bytes (λ b. methods b asked) bs) ≡ refused r) where
  pub methods-bytes-in-row : InRow bs (λ b. MethodsRow b asked places) r
  methods-bytes-in-row = asked-row bs places (λ b. methods b asked) (λ b. MethodsRow b asked places) (λ b fits. methods-in-row b fits asked places) e

  pub methods-bytes-numbers : Memᴰ (number_of r) (admission_rows ++ methods_rows)
  methods-bytes-numbers = row-numbers bs (λ b. MethodsRow b asked places) methods_rows r (λ b. methods-numbers) methods-bytes-in-row

pub methods-bytes-most : (bs : Source) (places : ℕ) (asked : List ℕ) → Most 4096 (fit places (on_bytes (λ b. methods b asked) bs))
methods-bytes-most bs places asked = bytes-most 4096 places (λ b. methods b asked) (λ b fits. methods-most b fits asked places) bs

-- ---- What a caller has in hand
pub methods-sent : (bytes : Source) (b : Book) → admitted bytes ≡ given b → check b ≡ passes → (resolve_actor b ≡ end → ⊥) → (asked : List ℕ) → MethodsSent bytes b asked
methods-sent bytes b read passed some asked =
    let fits = admitted-fits bytes read in
    let a = methods-given b fits asked passed some in
    record {
      positions = a.0;
      is-given = a.2;
      few = a.3;
      fewer = a.4 _ _;
      sent = handed-delivers (on_bytes (λ c. methods c asked) bytes) (asked-is bytes (λ c. methods c asked) read ∙ a.1.0);
    }

-- ---- Examples, by computation
unfoldable pub methods-computed : Book → List ℕ → Outcome (List ℕ)
unfolding counts-computed kept has_method any_uses positions methods_using methods
methods-computed = methods

-- type a = nat; type b = nat; service : { a : (a) -> (); b : (b) -> () }. Each is used by one method, and both by both, in whatever order and however
-- often they are asked; nothing asked gives none, and neither does a number outside the table or the class's.
abbrev pub apart : Book
apart =
    book (type 0 1 (plain (PrimT Nat) end) ∷ (type 0 2 (plain (PrimT Nat) end) ∷ []))
    (plain ServT (method 1 1 (name 1) (method 2 1 (name 2) end)))

pub apart-methods : (methods apart (1 ∷ []) ≡ given (0 ∷ [])) × (methods apart (2 ∷ []) ≡ given (1 ∷ [])) × (methods apart (2 ∷ 1 ∷ []) ≡ given (0 ∷ 1 ∷ []))
    × (methods apart (1 ∷ 2 ∷ 1 ∷ []) ≡ given (0 ∷ 1 ∷ [])) × (methods apart (1 ∷ 1 ∷ []) ≡ given (0 ∷ []))
unfolding methods-computed
apart-methods = (refl, refl, refl, refl, refl)

pub apart-none : (methods apart [] ≡ given []) × (methods apart (9 ∷ []) ≡ given []) × (methods apart (9 ∷ 2 ∷ []) ≡ given (1 ∷ [])) × (methods apart (65535 ∷ []) ≡ given [])
unfolding methods-computed
apart-none = (refl, refl, refl, refl)

-- type a = opt b; type b = nat; service : { a : (b, a) -> (); b : () -> (a) }: a result is a use, and b is reached by a
pub sharing-methods : (methods sharing (1 ∷ []) ≡ given (0 ∷ 1 ∷ [])) × (methods sharing (2 ∷ []) ≡ given (0 ∷ 1 ∷ []))
unfolding methods-computed
sharing-methods = (refl, refl)

-- type a = func (b) -> (); type b = nat; service : { a : a; b : a }: a method's own function is no use
pub shared-methods : (methods shared (1 ∷ []) ≡ given []) × (methods shared (2 ∷ []) ≡ given (0 ∷ 1 ∷ []))
unfolding methods-computed
shared-methods = (refl, refl)

-- type a = func (service { "" : a }) -> (); service : { "" : a }: but it is among its own arguments
abbrev pub own_argument : Book
own_argument =
    book (type 0 1 (plain (FuncT 1 []) (plain ServT (field (Named 0) (VarT 1) end))) ∷ [])
    (plain ServT (field (Named 0) (VarT 1) end))

pub own-methods : methods own_argument (1 ∷ []) ≡ given (0 ∷ [])
unfolding methods-computed
own-methods = refl

-- type a = opt b; type b = nat; service : (a) -> { z : (b) -> () }: the class's arguments are no method's
pub argument-methods : (methods with_argument (1 ∷ []) ≡ given []) × (methods with_argument (1 ∷ 2 ∷ []) ≡ given (0 ∷ []))
unfolding methods-computed
argument-methods = (refl, refl)

-- type a = nat, and no actor
pub actorless-methods : methods (book (type 0 1 (plain (PrimT Nat) end) ∷ []) end) [] ≡ refused NoActor
unfolding methods-computed
actorless-methods = refl
