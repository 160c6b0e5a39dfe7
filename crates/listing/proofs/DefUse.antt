-- The whole map of `chase_def_use`: its rows are what the question of uses answers. Assumes nothing of a map but that its names ascend,
-- which pushes keep; on books, that they fit and pass and, where the actor is named, that they have one.
--     push-same, push-other, ..      a push adds one use to one name
--     pushes-row                     a walk that lists each name once adds one use to each listed name
--     row-found, key-says            reading a map
--     sites-come                     over the sites a map is made, and each row is what `uses_at` gives
--     actor-chase                    the Rust goes through the sites, where an actor is one and its methods are functions
--     mapped-is                      there is one such map
--     sites-made, def-use-made       it is made of every book that fits and passes
--     def-use-answers                its rows are the answers
--     def-use-whole                  all of it
--     sharing-map, no-map, ..        examples
use mathlib.Core.Path.{◌≡◌, refl, sym, ap, ap₂, subst, ◌∙◌}
use mathlib.Core.Logic.{◌↔◌, ◌⊎◌, inl, inr, ⊎_elim}
use mathlib.Core.Bool.{Bool, true, false, cond, ◌||◌}
use mathlib.Core.List.Memᴰ
use mathlib.Core.List.{List, [], ◌∷◌, ◌++◌, map, append-nil, append_assoc, Memᴰ}
use Prim.Native.Nat.{ℕ, suc, ◌<◌}
use native.Mathlib.Omega.{arith}
use native.Mathlib.Decide.{ℕ_discrete}
use lib.Dec.{ltb, eqb}
use borrow.Author.Tests.{eqb-true, eqb-false, ltb-true, ltb-false, eq-eqb, ne_eqb}
use Rattle.labels.specs.declared.Label.TheVariants.{Named}
use Rattle.format.specs.Forest.{Forest, end, tree, beside}
use Rattle.format.specs.Node.{Nat, PrimT, OptT, FuncT, ServT, labelled, Node}
use Rattle.format.specs.Book.{Definition, Book}
use Rattle.format.specs.Fits.{Fits}
use Rattle.format.proofs.Logic.{is-false}
use Rattle.refusals.specs.Verdict.{passes}
use Rattle.judgement.specs.Environment.{main_definitions, is_func_kind, is_serv_kind}
use Rattle.judgement.specs.Aliases.{End, ends, alias_end, root_passes, methods_at}
use Rattle.judgement.specs.Aliases as aliases
use Rattle.judgement.specs.Actor.{is_class, all_but_last, class_arguments, below_class}
use Rattle.judgement.specs.Resolve.{resolve_actor}
use Rattle.judgement.specs.Check.{member, check}
use Rattle.format.specs.Occurs.{first, later}
use Rattle.format.specs.Distinct.{Distinct, Ascends}
use Rattle.judgement.specs.WellFormed.{defined_name}
use Rattle.judgement.specs.Meaning.{Serves}
use Rattle.judgement.proofs.Chains.{leads-end}
use Rattle.format.proofs.Distinct.{distinct-head, distinct-tail, ascends-unique}
use Rattle.judgement.proofs.Lookup.{member-says, listed-or-not}
use Rattle.listing.specs.Chase.{push, arm, chase, meet_name, visit, chase_types}
use Rattle.refusals.specs.Handed.{Use}
use Rattle.listing.specs.Sites.{Site, class_sites, func_sites, kind_sites, end_sites, method_sites, type_of, sites}
use Rattle.listing.specs.Uses.{is_listed, uses_at, uses_of, uses, RowOf}
use Rattle.listing.specs.DefUse.{MapEntry, uses_for, push_use, push_uses, DefUse, made, unbound, circle, no_service, no_function, on_made, push_walk, chase_sites, failed, chase_method, chase_methods, chase_service, chase_actor, chase_def_use, row_name, FromSite, Mapped, row_for}
use Rattle.refusals.specs.Outcome.{given}
use Rattle.listing.specs.Offers.{Function, Interface, Functions}
use Rattle.listing.proofs.Interface.{function-end, interface-serves, interface-end, none-serves, passed-interface, passed-once, passed-functions}
use Rattle.listing.proofs.Examples.{fitting, checked, plain, name, type, book}
use Rattle.listing.proofs.Uses.{EachSite, row-says, WalkListed, listed-lists, uses-row, passed-listed, uses-answered}

-- A name that is no key has no uses.
absent-none : (n : ℕ) (rows : List MapEntry) → (Memᴰ n (map row_name rows) → ⊥) → uses_for n rows ≡ []
unfolding uses_for
absent-none n [] h = refl
absent-none n (r ∷ rows) h = rw (ne_eqb n r.name (λ e. h (Memᴰ.head e))) (absent-none n rows (λ m. h (Memᴰ.tail m)))

-- No row is without uses.
abbrev pub Filled : List MapEntry → Type 0
Filled rows = (r : MapEntry) → Memᴰ r rows → r.uses ≡ [] → ⊥

filled-cons : (r : MapEntry) (rows : List MapEntry) → (r.uses ≡ [] → ⊥) → Filled rows → Filled (r ∷ rows)
filled-cons r rows h f q m = ⊎_elim (λ (e : q ≡ r). subst (λ (x : MapEntry). x.uses ≡ [] → ⊥) (sym e) h) (f q) (Memᴰ.cases_cons m)

-- ---- One use more
module _ (u : Use) (n : ℕ) where
  push-cons : (P : List MapEntry → Type 0) (r : MapEntry) (rows : List MapEntry) →
      (n ≡ r.name → P (record { name = r.name; uses = r.uses ++ (u ∷ []) } ∷ rows)) →
      (n < r.name → P (record { name = n; uses = u ∷ [] } ∷ (r ∷ rows))) →
      (r.name < n → P (r ∷ push_use u n rows)) → P (push_use u n (r ∷ rows))
  unfolding push_use
  push-cons P r rows = go (eqb n r.name) refl (ltb n r.name) refl
    where
      go : (b : Bool) → eqb n r.name ≡ b → (c : Bool) → ltb n r.name ≡ c →
          (n ≡ r.name → P (record { name = r.name; uses = r.uses ++ (u ∷ []) } ∷ rows)) →
          (n < r.name → P (record { name = n; uses = u ∷ [] } ∷ (r ∷ rows))) →
          (r.name < n → P (r ∷ push_use u n rows)) →
          P (cond b (record { name = r.name; uses = r.uses ++ (u ∷ []) } ∷ rows) (cond c (record { name = n; uses = u ∷ [] } ∷ (r ∷ rows)) (r ∷ push_use u n rows)))
      go true e c f same below above = same (eqb-true n r.name e)
      go false e true f same below above = below (ltb-true n r.name f)
      go false e false f same below above = above (let ne = eqb-false n r.name e in let le = ltb-false n r.name f in omega (arith, ne, le))

  push-names : (rows : List MapEntry) (k : ℕ) → Memᴰ k (map row_name (push_use u n rows)) → (k ≡ n) ⊎ Memᴰ k (map row_name rows)
  unfolding push_use
  push-names [] k = λ m. ⊎_elim (λ (e : k ≡ n). inl e) (λ z. inr z) (Memᴰ.cases_cons m)
  push-names (r ∷ rows) k =
      let rest = push-names rows k in
      push-cons (λ q. Memᴰ k (map row_name q) → (k ≡ n) ⊎ Memᴰ k (map row_name (r ∷ rows))) r rows
      (λ e m. inr m)
      (λ h m. Memᴰ.cases_cons m)
      (λ h m. ⊎_elim (λ (e : k ≡ r.name). inr (Memᴰ.head e)) (λ z. ⊎_elim (λ (e : k ≡ n). inl e) (λ y. inr (Memᴰ.tail y)) (rest z)) (Memᴰ.cases_cons m))

  push-ascends : (rows : List MapEntry) → Ascends (map row_name rows) → Ascends (map row_name (push_use u n rows))
  unfolding push_use
  push-ascends [] h = (λ m i. absurd (Memᴰ.not-nil i), tt)
  push-ascends (r ∷ rows) h =
      let rest = push-ascends rows h.1 in
      push-cons (λ q. Ascends (map row_name q)) r rows
      (λ e. h)
      (λ l. (λ m i. ⊎_elim (λ (e : m ≡ r.name). omega (arith, e)) (λ j. omega (arith, h.0 m j)) (Memᴰ.cases_cons i), h))
      (λ l. (λ m i. ⊎_elim (λ (e : m ≡ n). omega (arith, e)) (h.0 m) (push-names rows m i), rest))

  snoc-some : (l : List Use) → l ++ (u ∷ []) ≡ [] → ⊥
  snoc-some [] e = let z : ◌≡◌ {A = ℕ} 0 1 = cc in omega arith
  snoc-some (v ∷ l) e = let z : ◌≡◌ {A = ℕ} 0 1 = cc in omega arith

  push-same : (rows : List MapEntry) → Ascends (map row_name rows) → uses_for n (push_use u n rows) ≡ uses_for n rows ++ (u ∷ [])
  unfolding push_use uses_for
  push-same [] h = rw (eq-eqb n n refl)
  push-same (r ∷ rows) h =
      let rest = push-same rows h.1 in
      push-cons (λ q. uses_for n q ≡ uses_for n (r ∷ rows) ++ (u ∷ [])) r rows
      (λ e. rw (eq-eqb n r.name e))
      (λ l. rw (eq-eqb n n refl, ne_eqb n r.name (λ e. omega (arith, e)), absent-none n rows (λ i. omega (arith, h.0 n i))))
      (λ l. rw (ne_eqb n r.name (λ e. omega (arith, e))) rest)

  push-other : (k : ℕ) → (k ≡ n → ⊥) → (rows : List MapEntry) → uses_for k (push_use u n rows) ≡ uses_for k rows
  unfolding push_use uses_for
  push-other k ne [] = rw (ne_eqb k n ne)
  push-other k ne (r ∷ rows) =
      let rest = push-other k ne rows in
      push-cons (λ q. uses_for k q ≡ uses_for k (r ∷ rows)) r rows
      (λ e. rw (ne_eqb k r.name (λ f. ne (f ∙ sym e))))
      (λ l. rw (ne_eqb k n ne))
      (λ l. ap (cond (eqb k r.name) r.uses) rest)

  push-filled : (rows : List MapEntry) → Filled rows → Filled (push_use u n rows)
  unfolding push_use
  push-filled [] h = filled-cons record { name = n; uses = u ∷ [] } [] (snoc-some []) h
  push-filled (r ∷ rows) h =
      let later : Filled rows = λ q m. h q (Memᴰ.tail m) in
      let rest = push-filled rows later in
      push-cons Filled r rows
      (λ e. filled-cons record { name = r.name; uses = r.uses ++ (u ∷ []) } rows (snoc-some r.uses) later)
      (λ l. filled-cons record { name = n; uses = u ∷ [] } (r ∷ rows) (snoc-some []) h)
      (λ l. filled-cons r (push_use u n rows) (h r (Memᴰ.head refl)) rest)

-- ---- The uses of the names that one walk lists

-- What stands of every map that is made.
pub record Kept (rows : List MapEntry) : Type 0 where
  pub ascends : Ascends (map row_name rows)
  pub filled : Filled rows

none-kept : Kept []
none-kept = record { ascends = tt; filled = λ r m. absurd (Memᴰ.not-nil m) }

pushes-keep : (u : Use) (l : List ℕ) (rows : List MapEntry) → Kept rows → Kept (push_uses u l rows)
unfolding push_uses
pushes-keep u [] rows k = k
pushes-keep u (n ∷ l) rows k =
    pushes-keep u l (push_use u n rows) record { ascends = push-ascends u n rows k.ascends; filled = push-filled u n rows k.filled }

-- Since the walk lists each name once, a listed name has one use more.
pub pushes-row : (u : Use) (n : ℕ) (l : List ℕ) → Distinct l → (rows : List MapEntry) → Ascends (map row_name rows) →
    uses_for n (push_uses u l rows) ≡ uses_for n rows ++ cond (member n l) (u ∷ []) []
unfolding push_uses member
pushes-row u n [] d rows h = sym (append-nil (uses_for n rows))
pushes-row u n (k ∷ l) d rows h =
    go (ℕ_discrete n k) (pushes-row u n l (distinct-tail d) (push_use u k rows) (push-ascends u k rows h))
  where
    go : Dec (n ≡ k) → uses_for n (push_uses u l (push_use u k rows)) ≡ uses_for n (push_use u k rows) ++ cond (member n l) (u ∷ []) [] →
        uses_for n (push_uses u l (push_use u k rows)) ≡ uses_for n rows ++ cond (eqb n k || member n l) (u ∷ []) []
    go (yes e) rest =
        let new = is-false (member n l) (λ t. distinct-head d (subst (λ (j : ℕ). Memᴰ j l) e ((member-says n l).0 t))) in
        let one = subst (λ (j : ℕ). uses_for n (push_use u j rows) ≡ uses_for n rows ++ (u ∷ [])) e (push-same u n rows h) in
        rest ∙ ap₂ (λ (a : List Use) (b : Bool). a ++ cond b (u ∷ []) []) one new ∙ append-nil (uses_for n rows ++ (u ∷ []))
        ∙ ap (λ (b : Bool). uses_for n rows ++ cond (b || member n l) (u ∷ []) []) (sym (eq-eqb n k e))
    go (no h) rest =
        rest ∙ ap (λ (a : List Use). a ++ cond (member n l) (u ∷ []) []) (push-other u k n h rows)
        ∙ ap (λ (b : Bool). uses_for n rows ++ cond (b || member n l) (u ∷ []) []) (sym (ne_eqb n k h))

-- ---- Reading a map
-- a key's row is the one found
pub row-found : (rows : List MapEntry) → Ascends (map row_name rows) → (r : MapEntry) → Memᴰ r rows → uses_for r.name rows ≡ r.uses
unfolding uses_for
row-found [] h r m = absurd (Memᴰ.not-nil m)
row-found (q ∷ rows) h r m =
    let rest = row-found rows h.1 r in
    ⊎_elim (λ (e : r ≡ q). rw (eq-eqb r.name q.name (ap row_name e)) (ap (λ (x : MapEntry). x.uses) (sym e)))
    (λ i. rw (ne_eqb r.name q.name (λ e. omega (arith, h.0 r.name (Memᴰ.map row_name i), e))) (rest i)) (Memᴰ.cases_cons m)

-- the keys are the names with uses
pub key-says : {rows : List MapEntry} → Kept rows → (n : ℕ) → Memᴰ n (map row_name rows) ↔ (uses_for n rows ≡ [] → ⊥)
key-says {rows} k n = (there, back)
  where
    there : Memᴰ n (map row_name rows) → uses_for n rows ≡ [] → ⊥
    there m e =
        let f = Memᴰ.of_map row_name rows m in
        k.filled f.0 f.1 (sym (row-found rows k.ascends f.0 f.1) ∙ ap (λ (j : ℕ). uses_for j rows) f.2 ∙ e)

    back : (uses_for n rows ≡ [] → ⊥) → Memᴰ n (map row_name rows)
    back h = ⊎_elim (λ m. m) (λ (no : Memᴰ n (map row_name rows) → ⊥). absurd (h (absent-none n rows no))) (listed-or-not n (map row_name rows))

-- ---- All sites
record Comes (ds : List Definition) (all : List Site) (rows : List MapEntry) : Type 0 where
  result : List MapEntry
  is-made : chase_sites ds all rows ≡ made result
  kept : Kept result
  row : (n : ℕ) → uses_for n result ≡ uses_for n rows ++ uses_at ds n all

cond-append : (u : Use) (l : List Use) (b : Bool) → cond b (u ∷ []) [] ++ l ≡ cond b (u ∷ l) l
cond-append u l true = refl
cond-append u l false = refl

sites-come : (ds : List Definition) (all : List Site) → EachSite (WalkListed ds) all → (rows : List MapEntry) → Kept rows → Comes ds all rows
unfolding chase_sites uses_at on_made push_walk is_listed
sites-come ds [] walks rows k = record { result = rows; is-made = refl; kept = k; row = λ n. sym (append-nil (uses_for n rows)) }
sites-come ds (s ∷ all) walks rows k =
    let w = walks s (Memᴰ.head refl) in
    let u = s.entry in
    let out = w.1 in
    let next = push_uses u out rows in
    let c = sites-come ds all (λ q m. walks q (Memᴰ.tail m)) next (pushes-keep u out rows k) in
    record {
      result = c.result;
      is-made = rw w.2 c.is-made;
      kept = c.kept;
      row = λ n. rw w.2 (
          c.row n ∙ ap (λ (l : List Use). l ++ uses_at ds n all) (pushes-row u n out w.3.once rows k.ascends)
          ∙ append_assoc (uses_for n rows) (cond (member n out) (u ∷ []) []) (uses_at ds n all)
          ∙ ap (λ (l : List Use). uses_for n rows ++ l) (cond-append u (uses_at ds n all) (member n out)));
    }

-- ---- The Rust goes through the sites
same-next : (d : DefUse) {f g : List MapEntry → DefUse} → ((rows : List MapEntry) → f rows ≡ g rows) → on_made d f ≡ on_made d g
unfolding on_made
same-next (made rows) h = h rows
same-next (unbound n) h = refl
same-next circle h = refl
same-next no_service h = refl
same-next no_function h = refl

next-next : (d : DefUse) (f g : List MapEntry → DefUse) → on_made d (λ rows. on_made (f rows) g) ≡ on_made (on_made d f) g
unfolding on_made
next-next (made rows) f g = refl
next-next (unbound n) f g = refl
next-next circle f g = refl
next-next no_service f g = refl
next-next no_function f g = refl

module _ (ds : List Definition) where
  sites-append : (k l : List Site) (rows : List MapEntry) → chase_sites ds (k ++ l) rows ≡ on_made (chase_sites ds k rows) (chase_sites ds l)
  unfolding chase_sites on_made
  sites-append [] l rows = refl
  sites-append (s ∷ k) l rows =
      let d = push_walk s.entry (chase_types ds s.type) rows in
      same-next d (sites-append k l) ∙ next-next d (chase_sites ds k) (chase_sites ds l)

  module _ (once : Distinct (map defined_name ds)) where
    method-chase : (m : ℕ) {t kids : Forest Node} {a : ℕ} → Function ds t a kids → (rows : List MapEntry) →
        chase_method ds m (alias_end ds t) rows ≡ chase_sites ds (end_sites m (alias_end ds t)) rows
    unfolding chase_method root_passes is_func_kind
    method-chase m x rows = rw (function-end ds once x, x.function)

    methods-chase : (f : Forest Node) → Functions ds f → (m : ℕ) (rows : List MapEntry) → chase_methods ds m f rows ≡ chase_sites ds (method_sites ds m f) rows
    unfolding chase_methods method_sites chase_sites
    methods-chase end h m rows = refl
    methods-chase (tree n kids next) h m rows =
        let x = h n kids first in
        let e = alias_end ds (tree n kids end) in
        same-next (chase_method ds m e rows) (methods-chase next (λ k lids i. h k lids (later i)) (suc m))
        ∙ ap (λ (d : DefUse). on_made d (chase_sites ds (method_sites ds (suc m) next))) (method-chase m x.2 rows)
        ∙ sym (sites-append (end_sites m e) (method_sites ds (suc m) next) rows)

    service-chase : {t methods : Forest Node} → Serves ds t methods → Functions ds methods → (rows : List MapEntry) →
        chase_service ds (alias_end ds t) rows ≡ chase_sites ds (method_sites ds 0 (methods_at (alias_end ds t))) rows
    unfolding chase_service root_passes is_serv_kind methods_at
    service-chase {methods = methods} x fs rows = rw (leads-end ds once x.leads, x.service) (methods-chase methods fs 0 rows)

    -- where an actor is one and its methods are functions
    pub actor-chase : {actor arguments methods : Forest Node} → Interface ds actor arguments methods → Functions ds methods →
        chase_def_use ds actor ≡ chase_sites ds (sites ds actor) []
    unfolding chase_def_use chase_actor sites type_of below_class is_class
    actor-chase {actor} {arguments} {methods} x fs = go (alias_end ds actor) (interface-end ds once x)
      where
        go : (e : End) → Interface ds (type_of e) arguments methods →
            chase_actor ds e ≡ chase_sites ds (class_sites 0 (class_arguments (type_of e)) ++ method_sites ds 0 (methods_at (alias_end ds (below_class (type_of e))))) []
        go (aliases.unbound n) y = absurd (none-serves (interface-serves ds once y) refl)
        go aliases.circle y = absurd (none-serves (interface-serves ds once y) refl)
        go (ends t) y =
            let class = class_sites 0 (class_arguments t) in
            same-next (chase_sites ds class []) (service-chase (interface-serves ds once y) fs)
            ∙ sym (sites-append class (method_sites ds 0 (methods_at (alias_end ds (below_class t)))) [])

-- ---- What the map is

module _ (ds : List Definition) (actor : Forest Node) where
  own-rows : (rows : List MapEntry) → ((r : MapEntry) → Memᴰ r rows → r.uses ≡ uses_of ds actor r.name) → rows ≡ map (row_for ds actor) (map row_name rows)
  own-rows [] h = refl
  own-rows (r ∷ rows) h =
      ap₂ (λ (x : MapEntry) (l : List MapEntry). x ∷ l) (ap (λ (l : List Use). record { name = r.name; uses = l }) (h r (Memᴰ.head refl)))
      (own-rows rows (λ q m. h q (Memᴰ.tail m)))

  -- so there is one such map
  pub mapped-is : {rows : List MapEntry} → Mapped ds actor rows → (l : List ℕ) → Ascends l →
      ((n : ℕ) → Memᴰ n l ↔ FromSite ds actor n) → rows ≡ map (row_for ds actor) l
  mapped-is {rows} x l a h =
      own-rows rows x.own
      ∙ ap (map (row_for ds actor))
      (ascends-unique (map row_name rows) l x.ascends a (λ n. (λ m. (h n).1 ((x.keys n).0 m), λ m. (x.keys n).1 ((h n).0 m))))

  -- a row has an entry just where a site reaches its name
  row-some : {n : ℕ} {row : List Use} → RowOf ds (sites ds actor) n row →
      (row ≡ [] → ⊥) ↔ FromSite ds actor n
  row-some {n} {row} x = (λ h. go row refl h, λ p e. Memᴰ.not-nil (subst (λ (l : List Use). Memᴰ p.0.entry l) e ((row-says x p.0.entry).1 (p.0, p.1, refl, p.2))))
    where
      go : (l : List Use) → row ≡ l → (row ≡ [] → ⊥) → FromSite ds actor n
      go [] e h = absurd (h e)
      go (u ∷ l) e h =
          let p = (row-says x u).0 (subst (λ (k : List Use). Memᴰ u k) (sym e) (Memᴰ.head refl)) in
          (p.0, p.1, p.3)

  sites-mapped : EachSite (WalkListed ds) (sites ds actor) → (rows : List MapEntry) × (chase_sites ds (sites ds actor) [] ≡ made rows) × Mapped ds actor rows
  unfolding uses_for uses_of
  sites-mapped walks =
      let c = sites-come ds (sites ds actor) walks [] none-kept in
      let rows = c.result in
      let k = c.kept in
      let some : (n : ℕ) → (uses_of ds actor n ≡ [] → ⊥) ↔ FromSite ds actor n = λ n. row-some (uses-row ds actor (λ s m. listed-lists (walks s m)) n) in (
        rows,
        c.is-made,
        record {
          ascends = k.ascends;
          keys = λ n. (
            λ m. (some n).0 (λ e. (key-says k n).0 m (c.row n ∙ e)),
            λ p. (key-says k n).1 (λ e. (some n).1 p (sym (c.row n) ∙ e)),
          );
          row = c.row;
          own = λ r m. sym (row-found rows k.ascends r m) ∙ c.row r.name;
        },
      )

-- ---- On books
module _ (b : Book) (fits : Fits b) (passed : check b ≡ passes) where
  -- over the sites of any book that passes; a book without actor has none
  pub sites-made : (rows : List MapEntry) × (chase_sites (main_definitions b) (sites (main_definitions b) (resolve_actor b)) [] ≡ made rows) × Mapped (main_definitions b) (resolve_actor b) rows
  sites-made = sites-mapped (main_definitions b) (resolve_actor b) (passed-listed b fits passed)

  module _ (some : resolve_actor b ≡ end → ⊥) where
    -- the map is made, and is that one
    pub def-use-made : (rows : List MapEntry) × (chase_def_use (main_definitions b) (resolve_actor b) ≡ made rows) × Mapped (main_definitions b) (resolve_actor b) rows
    def-use-made =
        let x = (passed-interface b passed some).1 in
        let m = sites-made in
        (m.0, actor-chase (main_definitions b) (passed-once b passed some fits) x (passed-functions b passed some fits x) ∙ m.1, m.2)

    -- its rows are what the question answers
    pub def-use-answers : {rows : List MapEntry} → chase_def_use (main_definitions b) (resolve_actor b) ≡ made rows → (n : ℕ) → uses b n ≡ given (uses_for n rows)
    def-use-answers {rows} e n =
        let m = def-use-made in
        let same : made rows ≡ made m.0 = sym e ∙ m.1 in
        let q : rows ≡ m.0 = cc in
        uses-answered b fits passed some n ∙ ap given (sym (m.2.row n) ∙ ap (uses_for n) (sym q))

    -- all of it, from the list of the names that are reachable from a site
    pub def-use-whole : (l : List ℕ) → Ascends l →
        ((n : ℕ) → Memᴰ n l ↔ FromSite (main_definitions b) (resolve_actor b) n) →
        chase_def_use (main_definitions b) (resolve_actor b) ≡ made (map (row_for (main_definitions b) (resolve_actor b)) l)
    def-use-whole l a h = let m = def-use-made in m.1 ∙ ap made (mapped-is (main_definitions b) (resolve_actor b) m.2 l a h)

-- ---- Examples, by computation
chased : List Definition → Forest Node → DefUse
unfolding
    checked type_of class_sites func_sites kind_sites end_sites method_sites sites all_but_last class_arguments methods_at push arm chase meet_name visit chase_types push_use
    push_uses on_made push_walk chase_sites failed chase_method chase_methods chase_service chase_actor chase_def_use
chased = chase_def_use

abbrev pub method : ℕ → ℕ → Forest Node → Forest Node → Forest Node
method n arguments kids next = tree (record { kind = FuncT arguments []; label = labelled (Named n) }) kids next

abbrev used : (m result i : ℕ) → Use
used m r i = record { method = m; result = r; index = i }

-- type a = opt b; type b = nat; service : { a : (b, a) -> (); b : () -> (a) }
abbrev pub sharing : Book
sharing =
    book (type 0 1 (plain OptT (name 2)) ∷ (type 0 2 (plain (PrimT Nat) end) ∷ []))
    (plain ServT (method 1 2 (beside (name 2) (name 1)) (method 2 0 (name 1) end)))

-- The three walks list b; b and a; b and a. The map has a first.
pub sharing-map : chase_def_use (main_definitions sharing) (resolve_actor sharing)
    ≡ made (record { name = 1; uses = used 0 0 1 ∷ (used 1 1 0 ∷ []) } ∷ (record { name = 2; uses = used 0 0 0 ∷ (used 0 0 1 ∷ (used 1 1 0 ∷ [])) } ∷ []))
unfolding chased beside
sharing-map = refl

pub sharing-fits : Fits sharing
unfolding fitting beside
sharing-fits = tt

pub sharing-passes : check sharing ≡ passes
unfolding checked beside
sharing-passes = refl

pub sharing-actor : resolve_actor sharing ≡ end → ⊥
unfolding checked
sharing-actor e = let z : ◌≡◌ {A = ℕ} 0 1 = cc in omega arith

-- so the question answers with these rows
pub sharing-uses : uses sharing 1 ≡ given (used 0 0 1 ∷ (used 1 1 0 ∷ []))
unfolding uses_for
sharing-uses = def-use-answers sharing sharing-fits sharing-passes sharing-actor sharing-map 1

-- No map: a second method's argument without definition, and a second method that is no function.
pub no-map : (chase_def_use (type 0 1 (plain (PrimT Nat) end) ∷ []) (plain ServT (method 1 1 (name 1) (method 2 1 (name 3) end))) ≡ unbound 3)
    × (chase_def_use (type 0 1 (plain (PrimT Nat) end) ∷ []) (plain ServT (method 1 1 (name 1) (name 1))) ≡ no_function)
unfolding chased
no-map = (refl, refl)
