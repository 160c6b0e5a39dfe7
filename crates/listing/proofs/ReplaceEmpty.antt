-- The walk of `replace_empty` finds exactly the names from which a circle is reached: `replace_empty-exact`, and each once, ascending:
-- `replace_empty-ascends`. Assumes nothing.
-- Each answer that is stored is true: of an empty name a circle is reached, of any other all ways end. A name met while it is visited
-- closes a circle, since all names that are visited lead to the one at hand.
-- Then how this is to emptiness by values, first of definitions with distinct names, then on a book that fits and is well-formed:
--     becomes-empty             what becomes empty is empty: of what fills every way ends
--     circle-or-none            the walk decides between a circle and ways that end
--     agree-exactly             the two agree exactly where from each empty name a step leads to an empty name
--     empty-becomes             so they do where each definition is of the wider class, `DecidedByNames`
--     plain-decided            to which those belong that request 4 speaks of, `Plain`
--     replace_empty-within, same-exactly, same-as-replace_empty, same-where-plain    the same of the lists of names
--     emptiness-where-plain     so the question is answered there as by the Rust
use mathlib.Core.Path.{◌≡◌, refl, sym, ap, subst, ◌∙◌}
use mathlib.Core.Logic.{◌⊎◌, inl, inr, ◌↔◌, ◌≢◌}
use mathlib.Core.Bool.{Bool, true, false, cond}
use mathlib.Core.List.Memᴰ
use mathlib.Core.List.{List, [], ◌∷◌, ◌++◌, map, Memᴰ}
use Prim.Native.Nat.{ℕ, zero, suc, ◌+◌, ◌≤◌, ◌<◌}
use native.Mathlib.Nat.{le_refl}
use native.Mathlib.Decide.{ℕ_discrete}
use native.Mathlib.Omega.{arith}
use lib.ListN.{length, get_or, set, replicate, length-set, length-replicate}
use lib.Seq.{get_or-set_same, get_or-set_other}
use Rattle.std.proofs.lemmas.Bool.{false≢true}
use Rattle.format.specs.Forest.{Forest, end, tree, breadth}
use Rattle.format.specs.Node.{Kind, PrimT, VarT, OptT, VecT, RecordT, VariantT, FuncT, ServT, ClassT, InitT, Node}
use Rattle.format.specs.Book.{Definition, Book}
use Rattle.format.specs.Fits.{Fits}
use Rattle.format.specs.Occurs.{Beside, first, later, Occurs}
use Rattle.format.specs.Occurs as occurs
use Rattle.format.specs.Distinct.{Distinct, Ascends}
use Rattle.format.proofs.Occurs.{EachTree, beside-none, each-tree, beside-occurs}
use Rattle.format.proofs.Logic.{clash}
use Rattle.format.proofs.Distinct.{ascends-unique}
use Rattle.judgement.specs.Environment.{Found, missing, body, find_type, is_missing, Head, named, other, head_kind, main_definitions}
use Rattle.judgement.specs.WellFormed.{defined_name, Bound, Defined, WellFormedDefinitions}
use Rattle.judgement.proofs.Lookup.{find-named, find-defined, find-body}
use Rattle.judgement.specs.Check.{check}
use Rattle.judgement.proofs.Books.{main-definitions-fit}
use Rattle.judgement.proofs.Theorems.{check-typed}
use Rattle.refusals.specs.Verdict.{passes}
use Rattle.refusals.specs.Outcome.{given, after}
use Rattle.listing.specs.Empty.{AllElse, Fills, of_fields, of_name, of_else, Empty, empty_names, emptiness}
use Rattle.listing.specs.ReplaceEmpty.{Mark, unvisited, visiting, answered, Visit, not_empty, visit_field, visit_fields, visit_type, visit_found, store, visit_marked, is_empty, keys_from, visit_all, is_empty_mark, empty_from, replace_empty, Steps, StepsOn, here, BecomesEmpty, Plain, IsPrim, DecidedByNames, itself, fields, EmptyGoesOn}
use Rattle.listing.proofs.Filling.{OfNode, SomeTree, Closed, DefinitionIs, fills-least, NameFills, other-kids, fills-more, fills-or-not, other_kind, all-else, prim-fills}
use Rattle.listing.proofs.Empty.{empty_names-exact, empty_names-ascends}
use Rattle.listing.proofs.Steps.{field-in, in-field, head_names, field_names, kind_names, found_names, names-steps, steps-names, step-reference, Acyclic, acyclic, Onward, onward, reaches, circle-of, on-circle, before-empty, not-empty, empty-on, becomes-defined}

-- ---- The walk over the names by which a definition goes on

-- Names are visited in order, until one is empty.
first_empty : (ℕ → List Mark → Visit) → List ℕ → List Mark → Visit
first_empty visit [] marks = not_empty marks
first_empty visit (m ∷ ms) marks = let v = visit m marks in cond v.empty v (first_empty visit ms v.marks)

module _ (visit : ℕ → List Mark → Visit) where
  fields-first : (f : Forest Node) (marks : List Mark) → visit_fields visit f marks ≡ first_empty visit (field_names f) marks
  unfolding visit_fields visit_field first_empty field_names head_names
  fields-first end marks = refl
  fields-first (tree f kids next) marks = go (head_kind f.kind) (fields-first next)
    where
      go : (h : Head) → ((s : List Mark) → visit_fields visit next s ≡ first_empty visit (field_names next) s)
          → visit_field visit h (visit_fields visit next) marks ≡ first_empty visit (head_names h ++ field_names next) marks
      go other ih = ih marks
      go (named m) ih = let v = visit m marks in ap (cond v.empty v) (ih v.marks)

  -- a name alone is as its visit
  alone : (v : Visit) → v ≡ cond v.empty v (not_empty v.marks)
  alone v = go v.empty refl
    where
      go : (b : Bool) → v.empty ≡ b → v ≡ cond b v (not_empty v.marks)
      go true e = refl
      go false e = λ i. record { empty = e i; marks = v.marks }

  type-first : (k : Kind) (kids : Forest Node) (marks : List Mark) → visit_type visit k kids marks ≡ first_empty visit (kind_names k kids) marks
  unfolding visit_type first_empty kind_names
  type-first (PrimT p) kids marks = refl
  type-first (VarT m) kids marks = alone (visit m marks)
  type-first OptT kids marks = refl
  type-first VecT kids marks = refl
  type-first RecordT kids marks = fields-first kids marks
  type-first VariantT kids marks = refl
  type-first (FuncT a ms) kids marks = refl
  type-first ServT kids marks = refl
  type-first ClassT kids marks = refl
  type-first InitT kids marks = refl

  found-first : (t : Found) (marks : List Mark) → visit_found visit t marks ≡ first_empty visit (found_names t) marks
  unfolding visit_found first_empty found_names
  found-first missing marks = refl
  found-first (body end) marks = refl
  found-first (body (tree t kids next)) marks = type-first t.kind kids marks

-- ---- Marks

-- What an answer says of a name.
abbrev Told : List Definition → ℕ → Bool → Type 0
Told ds n true = BecomesEmpty ds n
Told ds n false = Acyclic ds n

abbrev mark_at : List Mark → ℕ → Mark
mark_at marks n = get_or marks n unvisited

-- How many names are unvisited.
waits : Mark → ℕ
waits unvisited = 1
waits visiting = 0
waits (answered b) = 0

left : List Mark → ℕ
left [] = 0
left (m ∷ ms) = waits m + left ms

left-set : (l : List Mark) (n : ℕ) (m : Mark) → n < length l → left (set l n m) + waits (mark_at l n) ≡ left l + waits m
unfolding left
left-set [] n m h = absurd (omega arith)
left-set (x ∷ l) zero m h = omega arith
left-set (x ∷ l) (suc n) m h = omega (arith, left-set l n m (omega arith))

left-le : (l : List Mark) → left l ≤ length l
unfolding left waits
left-le [] = omega arith
left-le (x ∷ l) = omega (arith, left-le l, one x)
  where
    one : (x : Mark) → waits x ≤ 1
    one unvisited = omega arith
    one visiting = omega arith
    one (answered b) = omega arith

none-marked : (k n : ℕ) → mark_at (replicate k unvisited) n ≡ unvisited
none-marked zero n = refl
none-marked (suc k) zero = refl
none-marked (suc k) (suc n) = none-marked k n

answered-inj : {b c : Bool} → answered b ≡ answered c → b ≡ c
answered-inj e = cc

unvisited-answered : {A : Type 0} {b : Bool} → unvisited ≡ answered b → A
unvisited-answered e = clash cc

visiting-answered : {A : Type 0} {b : Bool} → visiting ≡ answered b → A
visiting-answered e = clash cc

unvisited-visiting : {A : Type 0} → unvisited ≡ visiting → A
unvisited-visiting e = clash cc

-- From marks to marks: answers stay, no more names are visited or unvisited.
record Grows (old new : List Mark) : Type 0 where
  keeps : (n : ℕ) (b : Bool) → mark_at old n ≡ answered b → mark_at new n ≡ answered b
  still : (n : ℕ) → mark_at new n ≡ visiting → mark_at old n ≡ visiting
  fewer : left new ≤ left old

grows-refl : (l : List Mark) → Grows l l
grows-refl l = record { keeps = λ n b e. e; still = λ n e. e; fewer = le_refl (left l) }

grows-trans : {k l m : List Mark} → Grows k l → Grows l m → Grows k m
grows-trans {k} {l} {m} g h = record {
  keeps = λ n b e. h.keeps n b (g.keeps n b e);
  still = λ n e. g.still n (h.still n e);
  fewer = omega (arith, g.fewer, h.fewer);
}

-- An answer is stored at n, which had none, where marks other than n's were `old`'s when they began to grow.
grows-store : (old mid new : List Mark) (n : ℕ) (b : Bool) → n < length new
    → ((c : Bool) → mark_at old n ≡ answered c → ⊥) → ((x : ℕ) → x ≢ n → mark_at mid x ≡ mark_at old x) → left mid ≤ left old
    → Grows mid new → Grows old (set new n (answered b))
unfolding waits
grows-store old mid new n b h open' same few g = record {
  keeps = λ x c e. kept x c e (ℕ_discrete x n);
  still = λ x e. began x e (ℕ_discrete x n);
  fewer = omega (arith, left-set new n (answered b) h, g.fewer);
}
  where
    kept : (x : ℕ) (c : Bool) → mark_at old x ≡ answered c → Dec (x ≡ n) → mark_at (set new n (answered b)) x ≡ answered c
    kept x c e (yes q) = absurd (open' c (ap (mark_at old) (sym q) ∙ e))
    kept x c e (no q) = get_or-set_other new n x (answered b) unvisited q ∙ g.keeps x c (same x q ∙ e)

    began : (x : ℕ) → mark_at (set new n (answered b)) x ≡ visiting → Dec (x ≡ n) → mark_at old x ≡ visiting
    began x e (yes q) = visiting-answered (sym e ∙ ap (mark_at (set new n (answered b))) q ∙ get_or-set_same new n (answered b) unvisited h)
    began x e (no q) = sym (same x q) ∙ g.still x (sym (get_or-set_other new n x (answered b) unvisited q) ∙ e)

module _ (ds : List Definition) (names : ℕ) (once : Distinct (map defined_name ds)) (small : (n m : ℕ) → Steps ds n m → m < names) where
  -- Each answer is true.
  record Good (marks : List Mark) : Type 0 where
    width : length marks ≡ names
    sound : (n : ℕ) (b : Bool) → mark_at marks n ≡ answered b → Told ds n b

  -- What a visit makes of marks, and what it says.
  record Visited (marks : List Mark) (Says : Visit → Type 0) (v : Visit) : Type 0 where
    good : Good v.marks
    grows : Grows marks v.marks
    says : Says v

  -- Of a name: its answer is stored. Of names: one is empty, or all ways from all of them end.
  abbrev Stored : ℕ → Visit → Type 0
  Stored n v = mark_at v.marks n ≡ answered v.empty

  abbrev Among : List ℕ → Bool → Type 0
  Among ms true = (m : ℕ) × Memᴰ m ms × BecomesEmpty ds m
  Among ms false = (m : ℕ) → Memᴰ m ms → Acyclic ds m

  abbrev Tells : List ℕ → Visit → Type 0
  Tells ms v = Among ms v.empty

  -- A visit of n may begin: the names that are visited lead on to it.
  abbrev Ready : List Mark → ℕ → Type 0
  Ready marks n = (x : ℕ) → mark_at marks x ≡ visiting → Onward ds x n

  abbrev Visits : (ℕ → List Mark → Visit) → ℕ → Type 0
  Visits visit k = (n : ℕ) (marks : List Mark) → n < names → Good marks → Ready marks n → left marks < k → Visited marks (Stored n) (visit n marks)

  good-store : (n : ℕ) (b : Bool) (l : List Mark) → n < names → Good l → Told ds n b → Good (set l n (answered b))
  good-store n b l h g t = record {
    width = length-set l n (answered b) ∙ g.width;
    sound = λ x c e. at x c e (ℕ_discrete x n);
  }
    where
      at : (x : ℕ) (c : Bool) → mark_at (set l n (answered b)) x ≡ answered c → Dec (x ≡ n) → Told ds x c
      at x c e (yes q) =
          subst (λ (y : ℕ). Told ds y c) (sym q)
          (subst (Told ds n) (answered-inj (sym (get_or-set_same l n (answered b) unvisited (omega (arith, g.width))) ∙ ap (mark_at (set l n (answered b))) (sym q) ∙ e)) t)
      at x c e (no q) = g.sound x c (sym (get_or-set_other l n x (answered b) unvisited q) ∙ e)

  -- one name more, whose ways end
  among-more : (m : ℕ) (ms : List ℕ) (b : Bool) → Acyclic ds m → Among ms b → Among (m ∷ ms) b
  among-more m ms true a t = (t.0, Memᴰ.tail t.1, t.2)
  among-more m ms false a t = λ x i. go x (Memᴰ.cases_cons i)
    where
      go : (x : ℕ) → (x ≡ m) ⊎ Memᴰ x ms → Acyclic ds x
      go x (inl e) = subst (Acyclic ds) (sym e) a
      go x (inr i) = t x i

  -- visits one after the other of names to which u leads, until one is empty
  visits-first : (visit : ℕ → List Mark → Visit) (k u : ℕ) → Visits visit k → (ms : List ℕ) → ((m : ℕ) → Memᴰ m ms → Steps ds u m)
      → (marks : List Mark) → Good marks → ((x : ℕ) → mark_at marks x ≡ visiting → StepsOn ds x u) → left marks < k
      → Visited marks (Tells ms) (first_empty visit ms marks)
  unfolding first_empty
  visits-first visit k u vs [] st marks g path few = record { good = g; grows = grows-refl marks; says = λ m i. absurd (Memᴰ.not-nil i) }
  visits-first visit k u vs (m ∷ ms) st marks g path few =
      let s = st m (Memᴰ.head refl) in
      let v = vs m marks (small u m s) g (λ x e. onward (path x e) s) few in
      go (visit m marks).empty refl v
      (visits-first visit k u vs ms (λ y i. st y (Memᴰ.tail i)) (visit m marks).marks v.good (λ x e. path x (v.grows.still x e)) (omega (arith, v.grows.fewer)))
    where
      go : (b : Bool) → (visit m marks).empty ≡ b → Visited marks (Stored m) (visit m marks)
          → Visited (visit m marks).marks (Tells ms) (first_empty visit ms (visit m marks).marks)
          → Visited marks (Tells (m ∷ ms)) (cond b (visit m marks) (first_empty visit ms (visit m marks).marks))
      go true e v w = record {
        good = v.good;
        grows = v.grows;
        says = rw e (m, Memᴰ.head refl, v.good.sound m true (v.says ∙ ap answered e));
      }
      go false e v w = record {
        good = w.good;
        grows = grows-trans v.grows w.grows;
        says = among-more m ms (first_empty visit ms (visit m marks).marks).empty (v.good.sound m false (v.says ∙ ap answered e)) w.says;
      }

  among-told : (n : ℕ) (b : Bool) → Among (found_names (find_type ds n)) b → Told ds n b
  among-told n true t = before-empty (names-steps ds t.1) t.2
  among-told n false t = acyclic (λ m s. t m (steps-names ds once s))

  -- n's answer is stored where it had none
  visited-store : (n : ℕ) (old mid : List Mark) (v : Visit) → n < names
      → ((c : Bool) → mark_at old n ≡ answered c → ⊥) → ((x : ℕ) → x ≢ n → mark_at mid x ≡ mark_at old x) → left mid ≤ left old
      → Visited mid (λ w. Told ds n w.empty) v → Visited old (Stored n) (store n v)
  unfolding store
  visited-store n old mid v h none' same few w = record {
    good = good-store n v.empty v.marks h w.good w.says;
    grows = grows-store old mid v.marks n v.empty (omega (arith, w.good.width)) none' same few w.grows;
    says = get_or-set_same v.marks n (answered v.empty) unvisited (omega (arith, w.good.width));
  }

  visits-marked : (visit : ℕ → List Mark → Visit) (k : ℕ) → Visits visit k
      → (n : ℕ) (marks : List Mark) → n < names → Good marks → Ready marks n → left marks < suc k
      → (m : Mark) → mark_at marks n ≡ m → Visited marks (Stored n) (visit_marked visit n (find_type ds n) m marks)
  unfolding visit_marked waits
  visits-marked visit k vs n marks h g r few (answered b) e = record { good = g; grows = grows-refl marks; says = e }
  visits-marked visit k vs n marks h g r few visiting e =
      visited-store n marks marks (record { empty = true; marks = marks }) h (λ c q. visiting-answered (sym e ∙ q)) (λ x q. refl) (le_refl (left marks))
      (record { good = g; grows = grows-refl marks; says = on-circle (circle-of (r n e)) })
  visits-marked visit k vs n marks h g r few unvisited e =
      visited-store n marks (set marks n visiting) (visit_found visit (find_type ds n) (set marks n visiting)) h
      (λ c q. unvisited-answered (sym e ∙ q)) (λ x q. get_or-set_other marks n x visiting unvisited q) (omega (arith, one-less))
      (rw (found-first visit (find_type ds n) (set marks n visiting)) (record {
        good = w.good;
        grows = w.grows;
        says = among-told n (first_empty visit (found_names (find_type ds n)) (set marks n visiting)).empty w.says;
      }))
    where
      inside : n < length marks
      inside = omega (arith, g.width)

      one-less : suc (left (set marks n visiting)) ≡ left marks
      one-less = omega (arith, left-set marks n visiting inside, ap waits e)

      good : Good (set marks n visiting)
      good = record { width = length-set marks n visiting ∙ g.width; sound = λ x b q. at x b q (ℕ_discrete x n) }
        where
          at : (x : ℕ) (b : Bool) → mark_at (set marks n visiting) x ≡ answered b → Dec (x ≡ n) → Told ds x b
          at x b q (yes s) = visiting-answered (sym (get_or-set_same marks n visiting unvisited inside) ∙ ap (mark_at (set marks n visiting)) (sym s) ∙ q)
          at x b q (no s) = g.sound x b (sym (get_or-set_other marks n x visiting unvisited s) ∙ q)

      path : (x : ℕ) → Dec (x ≡ n) → mark_at (set marks n visiting) x ≡ visiting → StepsOn ds x n
      path x (yes s) q = subst (λ (y : ℕ). StepsOn ds y n) (sym s) here
      path x (no s) q = reaches (r x (sym (get_or-set_other marks n x visiting unvisited s) ∙ q))

      w : Visited (set marks n visiting) (Tells (found_names (find_type ds n))) (first_empty visit (found_names (find_type ds n)) (set marks n visiting))
      w = visits-first visit k n vs (found_names (find_type ds n)) (λ m i. names-steps ds i) (set marks n visiting) good (λ x. path x (ℕ_discrete x n)) (omega (arith, one-less))

  visits : (k : ℕ) → Visits (is_empty ds k) k
  unfolding is_empty
  visits zero n marks h g r few = absurd (omega arith)
  visits (suc k) n marks h g r few = visits-marked (is_empty ds k) k (visits k) n marks h g r few (mark_at marks n) refl

  -- visits of all names of a list, where none is visited yet
  record AllVisited (ns : List ℕ) (marks new : List Mark) : Type 0 where
    good : Good new
    grows : Grows marks new
    each : (n : ℕ) → Memᴰ n ns → (b : Bool) × (mark_at new n ≡ answered b)

  visits-all : (visit : ℕ → List Mark → Visit) (k : ℕ) → Visits visit k → (ns : List ℕ) → ((n : ℕ) → Memᴰ n ns → n < names)
      → (marks : List Mark) → Good marks → ((x : ℕ) → mark_at marks x ≡ visiting → ⊥) → left marks < k → AllVisited ns marks (visit_all visit ns marks)
  unfolding visit_all
  visits-all visit k vs [] h marks g idle few = record { good = g; grows = grows-refl marks; each = λ n i. absurd (Memᴰ.not-nil i) }
  visits-all visit k vs (n ∷ ns) h marks g idle few =
      let v = vs n marks (h n (Memᴰ.head refl)) g (λ x e. absurd (idle x e)) few in
      let a = visits-all visit k vs ns (λ m i. h m (Memᴰ.tail i)) (visit n marks).marks v.good (λ x e. idle x (v.grows.still x e)) (omega (arith, v.grows.fewer)) in
      record {
        good = a.good;
        grows = grows-trans v.grows a.grows;
        each = λ m i. go v a m (Memᴰ.cases_cons i);
      }
    where
      go : Visited marks (Stored n) (visit n marks) → AllVisited ns (visit n marks).marks (visit_all visit ns (visit n marks).marks)
          → (m : ℕ) → (m ≡ n) ⊎ Memᴰ m ns → (b : Bool) × (mark_at (visit_all visit ns (visit n marks).marks) m ≡ answered b)
      go v a m (inl e) = ((visit n marks).empty, rw e (a.grows.keeps n (visit n marks).empty v.says))
      go v a m (inr i) = a.each m i

-- ---- Keys, and the names that are answered

pub in-keys : (ds : List Definition) (n k m : ℕ) → Memᴰ m (keys_from ds n k) → m < n + k
unfolding keys_from
in-keys ds n zero m i = absurd (Memᴰ.not-nil i)
in-keys ds n (suc k) m i = go (is_missing (find_type ds n)) i (in-keys ds (suc n) k m)
  where
    go : (b : Bool) → Memᴰ m (cond b (keys_from ds (suc n) k) (n ∷ keys_from ds (suc n) k)) → (Memᴰ m (keys_from ds (suc n) k) → m < suc n + k) → m < n + suc k
    go true i ih = omega (arith, ih i)
    go false i ih = elim (Memᴰ.cases_cons i) [ inl e ↦ omega arith | inr j ↦ omega (arith, ih j) ]

pub key-in : (ds : List Definition) (n k m : ℕ) → n ≤ m → m < n + k → is_missing (find_type ds m) ≡ false → Memᴰ m (keys_from ds n k)
unfolding keys_from
key-in ds n zero m l h e = absurd (omega arith)
key-in ds n (suc k) m l h e = go (is_missing (find_type ds n)) refl (ℕ_discrete m n) (λ l'. key-in ds (suc n) k m l' (omega arith) e)
  where
    go : (b : Bool) → is_missing (find_type ds n) ≡ b → Dec (m ≡ n) → (suc n ≤ m → Memᴰ m (keys_from ds (suc n) k))
        → Memᴰ m (cond b (keys_from ds (suc n) k) (n ∷ keys_from ds (suc n) k))
    go true q (yes s) ih = absurd (false≢true (sym e ∙ ap (λ (x : ℕ). is_missing (find_type ds x)) s ∙ q))
    go true q (no s) ih = ih (omega arith)
    go false q (yes s) ih = Memᴰ.head s
    go false q (no s) ih = Memᴰ.tail (ih (omega arith))

empty-mark : (m : Mark) → is_empty_mark m ≡ true → m ≡ answered true
unfolding is_empty_mark
empty-mark unvisited e = absurd (false≢true e)
empty-mark visiting e = absurd (false≢true e)
empty-mark (answered b) e = ap answered e

pub in-empty : (k : ℕ) (ms : List Mark) (n : ℕ) → Memᴰ n (empty_from k ms) → (i : ℕ) × (n ≡ k + i) × (mark_at ms i ≡ answered true)
unfolding empty_from
in-empty k [] n j = absurd (Memᴰ.not-nil j)
in-empty k (m ∷ ms) n j = go (is_empty_mark m) refl j (in-empty (suc k) ms n)
  where
    further : (i : ℕ) × (n ≡ suc k + i) × (mark_at ms i ≡ answered true) → (i : ℕ) × (n ≡ k + i) × (mark_at (m ∷ ms) i ≡ answered true)
    further r = let q = r.1 in (suc r.0, omega arith, r.2)

    go : (b : Bool) → is_empty_mark m ≡ b → Memᴰ n (cond b (k ∷ empty_from (suc k) ms) (empty_from (suc k) ms))
        → (Memᴰ n (empty_from (suc k) ms) → (i : ℕ) × (n ≡ suc k + i) × (mark_at ms i ≡ answered true))
        → (i : ℕ) × (n ≡ k + i) × (mark_at (m ∷ ms) i ≡ answered true)
    go true e j ih = elim (Memᴰ.cases_cons j) [ inl q ↦ (0, omega arith, empty-mark m e) | inr l ↦ further (ih l) ]
    go false e j ih = further (ih j)

pub empty-in : (k : ℕ) (ms : List Mark) (i : ℕ) → mark_at ms i ≡ answered true → Memᴰ (k + i) (empty_from k ms)
unfolding empty_from is_empty_mark
empty-in k [] i e = unvisited-answered e
empty-in k (m ∷ ms) zero e = rw e (let q : k + 0 ≡ k = omega arith in Memᴰ.head q)
empty-in k (m ∷ ms) (suc i) e = go (is_empty_mark m) (Memᴰ.cast (omega arith) (empty-in (suc k) ms i e))
  where
    go : (b : Bool) → Memᴰ (k + suc i) (empty_from (suc k) ms) → Memᴰ (k + suc i) (cond b (k ∷ empty_from (suc k) ms) (empty_from (suc k) ms))
    go true j = Memᴰ.tail j
    go false j = j

pub empty-ascends : (k : ℕ) (ms : List Mark) → Ascends (empty_from k ms)
unfolding empty_from
empty-ascends k [] = tt
empty-ascends k (m ∷ ms) = go (is_empty_mark m) (empty-ascends (suc k) ms)
  where
    go : (b : Bool) → Ascends (empty_from (suc k) ms) → Ascends (cond b (k ∷ empty_from (suc k) ms) (empty_from (suc k) ms))
    go true a = (λ n i. let r = in-empty (suc k) ms n i in let q = r.1 in omega arith, a)
    go false a = a

-- ---- The theorems

module _ (ds : List Definition) (names : ℕ) (once : Distinct (map defined_name ds)) (bound : (d : Definition) → Memᴰ d ds → Bound ds d.body)
    (inside : (d : Definition) → Memᴰ d ds → d.name < names) where
  small : (n m : ℕ) → Steps ds n m → m < names
  small n m s =
      let r = step-reference ds s in
      let c = Memᴰ.of_map defined_name ds (bound r.0 r.1 m r.3) in
      rw (← c.2) (inside c.0 c.1)

  marks : List Mark
  marks = visit_all (is_empty ds (suc names)) (keys_from ds 0 names) (replicate names unvisited)

  walked : AllVisited ds names once small (keys_from ds 0 names) (replicate names unvisited) marks
  unfolding marks
  walked =
      visits-all ds names once small (is_empty ds (suc names)) (suc names) (visits ds names once small (suc names)) (keys_from ds 0 names)
      (λ n i. omega (arith, in-keys ds 0 names n i)) (replicate names unvisited)
      (record { width = length-replicate names unvisited; sound = λ n b e. unvisited-answered (sym (none-marked names n) ∙ e) })
      (λ x e. unvisited-visiting (sym (none-marked names x) ∙ e)) (omega (arith, left-le (replicate names unvisited), length-replicate names unvisited))

  defined-key : {n : ℕ} → Defined ds n → Memᴰ n (keys_from ds 0 names)
  unfolding is_missing
  defined-key {n} d =
      let c = Memᴰ.of_map defined_name ds d in
      key-in ds 0 names n (omega arith) (omega (arith, c.2, inside c.0 c.1)) (ap is_missing (find-named ds once c.0 n c.1 c.2))

  -- each defined name is answered
  answer : (n : ℕ) → Defined ds n → (b : Bool) × (mark_at marks n ≡ answered b) × Told ds n b
  answer n d = let a = walked.each n (defined-key d) in (a.0, a.1, walked.good.sound n a.0 a.1)

  -- The names that the walk finds are exactly those from which a circle is reached.
  pub replace_empty-exact : (n : ℕ) → Memᴰ n (replace_empty ds names) ↔ BecomesEmpty ds n
  unfolding replace_empty marks
  replace_empty-exact n = (found, listed)
    where
      found : Memᴰ n (empty_from 0 marks) → BecomesEmpty ds n
      found i = let r = in-empty 0 marks n i in let q = r.1 in let p : n ≡ r.0 = omega arith in rw p (walked.good.sound r.0 true r.2)

      listed : BecomesEmpty ds n → Memᴰ n (empty_from 0 marks)
      listed e = let a = answer n (becomes-defined ds e) in Memᴰ.cast (omega arith) (empty-in 0 marks n (told a.0 a.1 a.2))
        where
          told : (b : Bool) → mark_at marks n ≡ answered b → Told ds n b → mark_at marks n ≡ answered true
          told true q t = q
          told false q t = absurd (not-empty t e)

  -- Each once, ascending.
  pub replace_empty-ascends : Ascends (replace_empty ds names)
  unfolding replace_empty
  replace_empty-ascends = empty-ascends 0 (visit_all (is_empty ds (suc names)) (keys_from ds 0 names) (replicate names unvisited))

-- ---- Emptiness by values

-- What fills goes on by names from which every way ends.
abbrev Ends : List Definition → Kind → Forest Node → Type 0
Ends ds k kids = (m : ℕ) → Memᴰ m (kind_names k kids) → Acyclic ds m

no-names : (k : Kind) (kids : Forest Node) → AllElse k → kind_names k kids ≡ []
unfolding kind_names
no-names (VarT m) kids a = absurd (a.no_name m refl)
no-names RecordT kids a = absurd (a.no_record refl)
no-names k kids a = refl

module _ (ds : List Definition) (once : Distinct (map defined_name ds)) where
  ends-closed : Closed (DefinitionIs ds (Ends ds)) (Ends ds)
  unfolding kind_names found_names
  ends-closed = record {
    fields = λ {f} h m i. let r = field-in f i in h r.0 r.1 r.2 m (rw r.3 (Memᴰ.head refl));
    cases = λ s m i. absurd (Memᴰ.not-nil i);
    names = λ d m i.
        subst (Acyclic ds) (sym (Memᴰ.eq_of_singleton i))
        (acyclic (λ x s. d.4 x (subst (λ (f : Found). Memᴰ x (found_names f)) d.3 (steps-names ds once s))));
    others = λ {k} {kids} a m i. absurd (Memᴰ.not-nil (subst (λ (l : List ℕ). Memᴰ m l) (no-names k kids a) i));
  }

  pub fills-acyclic : {n : ℕ} → NameFills ds n → Acyclic ds n
  unfolding kind_names
  fills-acyclic {n} x = fills-least ends-closed x n (Memᴰ.head refl)

  -- In every book: what becomes empty is empty.
  pub becomes-empty : {n : ℕ} → BecomesEmpty ds n → Empty ds n
  becomes-empty e = record { defined = becomes-defined ds e; unfilled = λ x. not-empty (fills-acyclic x) e }

module _ (ds : List Definition) (bound : (d : Definition) → Memᴰ d ds → Bound ds d.body) where
  -- a step leads to a name that has a definition
  step-defined : {n m : ℕ} → Steps ds n m → Defined ds m
  step-defined {m = m} s = let r = step-reference ds s in bound r.0 r.1 m r.3

  -- each of the trees beside each other fills, or one does not
  abbrev EachOrSome : Forest Node → Type 0
  EachOrSome f = EachTree (OfNode (Fills ds)) f ⊎ SomeTree (λ n kids. Fills ds n.kind kids → ⊥) f

  each-or-some : (f : Forest Node) → EachOrSome f
  each-or-some end = inl (λ n kids b. beside-none b)
  each-or-some (tree m lids next) = go (fills-or-not ds m.kind lids) (each-or-some next)
    where
      go : Fills ds m.kind lids ⊎ (Fills ds m.kind lids → ⊥) → EachOrSome next → EachOrSome (tree m lids next)
      go (inl x) (inl h) = inl (each-tree x h)
      go (inl x) (inr s) = inr (s.0, s.1, later s.2, s.3)
      go (inr h) r = inr (m, lids, first, h)

  -- a step to a name that does not fill
  step-empty : {n m : ℕ} {kids : Forest Node} (k : Kind) → Steps ds n m → k ≡ VarT m → (Fills ds k kids → ⊥) → (x : ℕ) × Steps ds n x × Empty ds x
  step-empty {m = m} {kids = kids} k s e h = (m, s, record { defined = step-defined s; unfilled = λ x. h (rw e (other-kids ds kids x)) })

  pub decided-go-on : ((d : Definition) → Memᴰ d ds → DecidedByNames d.body) → EmptyGoesOn ds
  unfolding found_names kind_names
  decided-go-on decided n e =
      let f = find-defined ds n e.defined in
      let r = find-body ds n f.0 f.1 in
      go f.0 f.1 (subst DecidedByNames r.of-body (decided r.definition r.listed))
    where
      go : (t : Forest Node) → find_type ds n ≡ body t → DecidedByNames t → (m : ℕ) × Steps ds n m × Empty ds m
      go _ q (itself {n = t} {kids = kids} {next = next} (inl v)) =
          step-empty t.kind (names-steps ds (rw (q, v.1) (Memᴰ.head refl))) v.1 (λ (x : Fills ds t.kind kids). e.unfilled (of_name q x))
      go _ q (itself (inr x)) = absurd (e.unfilled (of_name q (fills-more ds x)))
      go _ q (fields {n = t} {kids = kids} {next = next} k h) = field (each-or-some kids)
        where
          field : EachOrSome kids → (m : ℕ) × Steps ds n m × Empty ds m
          field (inl all) = absurd (e.unfilled (of_name q (rw k (of_fields all))))
          field (inr s) = elim (h s.0 s.1 s.2) [
            | inl v ↦ step-empty s.0.kind (names-steps ds (rw (q, k) (in-field s.2 v.1))) v.1 s.3
            | inr x ↦ absurd (s.3 (fills-more ds x))
          ]

-- names end somewhere
below : (l : List ℕ) → (k : ℕ) × ((n : ℕ) → Memᴰ n l → n < k)
below [] = (0, λ n i. absurd (Memᴰ.not-nil i))
below (x ∷ l) = let b = below l in (suc (x + b.0), λ n i. elim (Memᴰ.cases_cons i) [ inl e ↦ omega arith | inr j ↦ omega (arith, b.1 n j) ])

module _ (ds : List Definition) (once : Distinct (map defined_name ds)) (bound : (d : Definition) → Memᴰ d ds → Bound ds d.body) where
  -- From a name a circle is reached, or every way ends.
  pub circle-or-none : (n : ℕ) → Defined ds n → BecomesEmpty ds n ⊎ Acyclic ds n
  circle-or-none n d =
      let b = below (map defined_name ds) in
      let a = answer ds b.0 once bound (λ d i. b.1 d.name (Memᴰ.map defined_name i)) n d in
      go a.0 a.2
    where
      go : (b : Bool) → Told ds n b → BecomesEmpty ds n ⊎ Acyclic ds n
      go true t = inl t
      go false t = inr t

  goes-round : EmptyGoesOn ds → {n : ℕ} → Acyclic ds n → Empty ds n → ⊥
  goes-round on (acyclic {n = n} h) e = let s = on n e in goes-round on (h s.0 s.1) s.2

  -- The two agree exactly where from each empty name a step leads to an empty name.
  pub agree-exactly : ((n : ℕ) → Empty ds n ↔ BecomesEmpty ds n) ↔ EmptyGoesOn ds
  agree-exactly = (
    λ same n e. let s = empty-on ((same n).0 e) in (s.0, s.1, (same s.0).1 s.2),
    λ on n. (λ e. elim (circle-or-none n e.defined) [ inl c ↦ c | inr a ↦ absurd (goes-round on a e) ], becomes-empty ds once),
  )

  pub empty-becomes : ((d : Definition) → Memᴰ d ds → DecidedByNames d.body) → {n : ℕ} → Empty ds n → BecomesEmpty ds n
  empty-becomes decided {n} = (agree-exactly.1 (decided-go-on ds bound decided) n).0

-- Definitions without variant and `empty`, whose record fields are names or primitives, are of the wider class.
pub plain-decided : (n : Node) (kids next : Forest Node) → Plain (tree n kids next) → DecidedByNames (tree n kids next)
unfolding other_kind
plain-decided n kids next p = go n.kind refl
  where
    prim : (g : Node) (lids : Forest Node) → Occurs g lids (tree n kids next) → IsPrim g → Fills [] g.kind lids
    prim g lids o q = rw q.1 ((prim-fills [] q.0 lids).1 (λ e. p.no_empty g lids o (q.1 ∙ ap PrimT e)))

    go : (k : Kind) → n.kind ≡ k → DecidedByNames (tree n kids next)
    go (PrimT q) e = itself (inr (prim n kids occurs.here (q, e)))
    go (VarT m) e = itself (inl (m, e))
    go RecordT e = fields e (λ g lids b. elim (p.fields n kids occurs.here e g lids b) [
      | inl v ↦ inl v
      | inr q ↦ inr (prim g lids (occurs.below (beside-occurs b)) q)
    ])
    go VariantT e = absurd (p.no_variant n kids occurs.here e)
    go k e = itself (inr (rw e (of_else (all-else k tt))))

-- ---- A book that passes the check
module _ (b : Book) (fits : Fits b) (formed : WellFormedDefinitions (main_definitions b)) where
  abbrev rust : List ℕ
  rust = replace_empty (main_definitions b) (length b.names)

  names-bound : (d : Definition) → Memᴰ d (main_definitions b) → Bound (main_definitions b) d.body
  names-bound d i = (formed.trees d i).bound

  rust-exact : (n : ℕ) → Memᴰ n rust ↔ BecomesEmpty (main_definitions b) n
  rust-exact = replace_empty-exact (main_definitions b) (length b.names) formed.once names-bound (main-definitions-fit b fits).exists

  rust-ascends : Ascends rust
  rust-ascends = replace_empty-ascends (main_definitions b) (length b.names) formed.once names-bound (main-definitions-fit b fits).exists

  -- What the Rust names is empty.
  pub replace_empty-within : (n : ℕ) → Memᴰ n (replace_empty (main_definitions b) (length b.names)) → Memᴰ n (empty_names b)
  replace_empty-within n i = (empty_names-exact b fits n).1 (becomes-empty (main_definitions b) formed.once ((rust-exact n).0 i))

  -- It names all that is empty exactly where from each empty name a step leads to an empty name.
  pub same-exactly : (empty_names b ≡ replace_empty (main_definitions b) (length b.names)) ↔ EmptyGoesOn (main_definitions b)
  same-exactly = (
    λ e. agree.0 (λ n. (
      λ y. (rust-exact n).0 (subst (Memᴰ n) e ((values n).1 y)),
      λ y. (values n).0 (subst (Memᴰ n) (sym e) ((rust-exact n).1 y)),
    )),
    λ on. ascends-unique (empty_names b) rust (empty_names-ascends b) rust-ascends (λ n. (
      λ i. (rust-exact n).1 ((agree.1 on n).0 ((values n).0 i)),
      λ i. (values n).1 ((agree.1 on n).1 ((rust-exact n).0 i)),
    )),
  )
    where
      values : (n : ℕ) → Memᴰ n (empty_names b) ↔ Empty (main_definitions b) n
      values = empty_names-exact b fits

      agree : ((n : ℕ) → Empty (main_definitions b) n ↔ BecomesEmpty (main_definitions b) n) ↔ EmptyGoesOn (main_definitions b)
      agree = agree-exactly (main_definitions b) formed.once names-bound

  pub same-as-replace_empty : ((d : Definition) → Memᴰ d (main_definitions b) → DecidedByNames d.body) →
      empty_names b ≡ replace_empty (main_definitions b) (length b.names)
  same-as-replace_empty decided = same-exactly.1 (decided-go-on (main_definitions b) names-bound decided)

  pub same-where-plain : ((d : Definition) → Memᴰ d (main_definitions b) → Plain d.body) →
      empty_names b ≡ replace_empty (main_definitions b) (length b.names)
  unfolding breadth
  same-where-plain plain = same-as-replace_empty (λ d i. go d.body ((main-definitions-fit b fits).sole d i) (plain d i))
    where
      go : (t : Forest Node) → breadth t ≡ 1 → Plain t → DecidedByNames t
      go end e p = absurd (omega arith)
      go (tree n kids next) e p = plain-decided n kids next p

-- So the question's answer there is that of the Rust.
pub emptiness-where-plain : (b : Book) → Fits b → check b ≡ passes → ((d : Definition) → Memᴰ d (main_definitions b) → Plain d.body) →
    emptiness b ≡ given (replace_empty (main_definitions b) (length b.names))
unfolding emptiness after
emptiness-where-plain b fits p plain = rw p (ap given (same-where-plain b fits ((check-typed b fits).0 p).0.definitions plain))

-- ---- What it computes by, said once: to unfold this is to unfold all that its `unfolding` line names
unfoldable pub replaced-computed : List Definition → ℕ → List ℕ
unfolding is_missing visit_field visit_fields visit_type visit_found store visit_marked is_empty keys_from visit_all is_empty_mark empty_from replace_empty
replaced-computed = replace_empty
