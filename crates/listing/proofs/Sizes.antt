-- How many values types have, by their rules: what a number says of a type, the parts of a type, and the number of a kind from those of the types
-- within it. Assumes nothing.
--     More, Claim, Size        more than 4,294,967,295; what a number says if it is no larger; what it says as the count has it
--     Each, Part               of each of the types beside each other; a part of a type
--     size-unique, size-same   there is one size, and it is that of all that holds of the same values
--     fills-has, has-fills     a type fills exactly if it has a value
--     part-more                a type that fills has more, if a part has
--     name-has, name-size, ..  a name has the values of its definition
--     prim-more, reference-more, vec-more     kinds that have more by themselves
--     fields-number, cases-number             what says how many of all fields, and of all cases
--     kind-exact               a number that a kind makes of right ones is right
--     kind-onward              a kind that counts as many has more, or a part that counts as many
--     kind-fills, kind-most    what counts as any fills; none counts as more than 4,294,967,296
use mathlib.Core.Path.{◌≡◌, refl, sym, ap, subst, ◌∙◌}
use mathlib.Core.Logic.{◌↔◌, ◌⊎◌, inl, inr}
use mathlib.Core.Bool.{cond}
use mathlib.Core.List.Memᴰ
use mathlib.Core.List.{List, [], ◌∷◌, map, Memᴰ}
use Prim.Native.Nat.{ℕ, zero, suc, ◌+◌, ◌*◌, ◌≤◌, ◌<◌}
use native.Mathlib.Nat.{zero-mul, mul-zero}
use native.Mathlib.Decide.{dec_le}
use native.Mathlib.Omega.{arith}
use lib.Dec.{eqb}
use lib.ListN.{length, length-map}
use Rattle.std.specs.Prelude.{Option, Some, None}
use Rattle.format.specs.Forest.{Forest, end, tree}
use Rattle.format.specs.Node.{PrimType, Kind, PrimT, VarT, OptT, VecT, RecordT, VariantT, FuncT, ServT, ClassT, InitT, Node}
use Rattle.format.specs.Book.{Definition}
use Rattle.format.specs.Occurs.{Beside, first, later}
use Rattle.format.proofs.Occurs.{EachTree, beside-none, each-tree, in-others}
use Rattle.judgement.specs.Environment.{body, find_type}
use Rattle.listing.specs.Empty
use Rattle.listing.specs.Empty.{AllElse, Fills}
use Rattle.listing.specs.Values.{Value, atom, absent, present, items, fields, case, no_more, also, Values, capped, size_values, first_of, sum, product, kind_values, prim_size, InSize, Reference, function, service, class, init, Has, of_prim, of_reference, of_name, of_absent, of_present, of_items, of_fields, of_case, HasItems, no_items, item, HasFields, no_fields, field, HasCase, this_case, other_case, Number}
use Rattle.listing.proofs.Filling.{fills-least, SomeTree, OfNode, other_kind, all-else, record-fills, prim-fills, opt-fills, vec-fills, func-fills, service-fills}
use Rattle.listing.proofs.Capped.{capped-exact, capped-above, capped-some, capped-most}
use Rattle.listing.proofs.Numbers.{number-none, number-zero, number-some, number-least, number-unique, number-same, number-below}
use Rattle.listing.proofs.ByKind.{prim-number, FirstHas, opt-number, vec-none, fields-none, fields-have, fields-more, no-fields, fields-record, CaseOf, cases-none, cases-more, cases-variant}

-- ---- What is said of them

-- Each list that holds all of which P holds is longer.
abbrev pub More : {A : Type 0} → (A → Type 0) → Type 0
More {A} P = (l : List A) → ((a : A) → P a → Memᴰ a l) → 4294967295 < length l

-- What a number says, if it is none of many.
abbrev pub Claim : {A : Type 0} → (A → Type 0) → ℕ → Type 0
Claim P n = n ≤ 4294967295 → Number P n

-- What a number says as the count has it: so many, or more than 4,294,967,295 if it is 4,294,967,296.
pub record Size {A : Type 0} (P : A → Type 0) (n : ℕ) : Type 0 where
  pub exact : Claim P n
  pub many : 4294967295 < n → More P
  pub most : n ≤ 4294967296

-- R of each of the types beside each other and the number at its place.
pub data Each (R : Kind → Forest Node → ℕ → Type 0) : Forest Node → List ℕ → Type 0 where
  none : Each R end []
  more : {t : Node} {kids next : Forest Node} {n : ℕ} {l : List ℕ} → R t.kind kids n → Each R next l → Each R (tree t kids next) (n ∷ l)

-- What a number says of a type.
abbrev pub NumberOf : List Definition → Kind → Forest Node → ℕ → Type 0
NumberOf ds k kids = Number (Has ds k kids)

abbrev pub ClaimOf : List Definition → Kind → Forest Node → ℕ → Type 0
ClaimOf ds k kids = Claim (Has ds k kids)

abbrev pub FillsIfAny : List Definition → Kind → Forest Node → ℕ → Type 0
FillsIfAny ds k kids n = 0 < n → Fills ds k kids

-- A part of a type: of a type that fills, a value of the part makes one, another for another.
pub data Part (ds : List Definition) : Kind → Forest Node → Kind → Forest Node → Type 0 where
  content : {t : Node} {kids next : Forest Node} → Part ds OptT (tree t kids next) t.kind kids
  an_item : {t : Node} {kids next : Forest Node} → Part ds VecT (tree t kids next) t.kind kids
  a_field : {f : Node} {kids types : Forest Node} → Beside f kids types → Part ds RecordT types f.kind kids
  a_case : {c : Node} {kids types : Forest Node} → Beside c kids types → Part ds VariantT types c.kind kids
  definition : {m : ℕ} {t : Node} {kids next none : Forest Node} → find_type ds m ≡ body (tree t kids next) → Part ds (VarT m) none t.kind kids

-- If each of which P holds is made of one of which Q holds, and more are of the former, so are of the latter.
pub more-from : {A B : Type 0} {P : A → Type 0} {Q : B → Type 0} (f : B → A) → ((a : A) → P a → (b : B) × Q b × (f b ≡ a)) → More P → More Q
more-from f h m l holds =
    rw (length-map l f) at (m (map f l) (λ a p. let b = h a p in Memᴰ.cast (sym b.2) (Memᴰ.map f (holds b.0 b.1))))

-- ---- What the sizes say of each other
pub small-or-large : (n : ℕ) → (n ≤ 4294967295) ⊎ (4294967295 < n)
small-or-large n = elim (dec_le n 4294967295) [ yes h ↦ inl h | no h ↦ inr (omega arith) ]

module _ {A : Type 0} {P : A → Type 0} where
  pub number-more : {n : ℕ} → Number P n → 4294967295 < n → More P
  number-more x h l holds = omega (arith, number-least x l holds)

  number-not-more : {n : ℕ} → Number P n → n ≤ 4294967295 → More P → ⊥
  number-not-more x h m = omega (arith, m x.values x.just.1, x.so_many)

  -- There is one.
  pub size-unique : {m n : ℕ} → Size P m → Size P n → m ≡ n
  size-unique {m} {n} x y = go (small-or-large m) (small-or-large n)
    where
      go : (m ≤ 4294967295) ⊎ (4294967295 < m) → (n ≤ 4294967295) ⊎ (4294967295 < n) → m ≡ n
      go (inl h) (inl k) = number-unique (x.exact h) (y.exact k)
      go (inl h) (inr k) = absurd (number-not-more (x.exact h) h (y.many k))
      go (inr h) (inl k) = absurd (number-not-more (y.exact k) k (x.many h))
      go (inr h) (inr k) = omega (arith, x.most, y.most)

  pub size-same : {Q : A → Type 0} {n : ℕ} → ((a : A) → P a ↔ Q a) → Size P n → Size Q n
  size-same same x = record {
    exact = λ h. number-same same (x.exact h);
    many = λ h. more-from (λ a. a) (λ a p. (a, (same a).0 p, refl)) (x.many h);
    most = x.most;
  }

-- ---- What fills has a value

-- each primitive type but `empty` has one
in-size : (p : PrimType) → (p ≡ PrimType.Empty → ⊥) → InSize (prim_size p) 0
unfolding prim_size
in-size PrimType.Empty h = absurd (h refl)
in-size p h = omega arith

not-empty : (p : PrimType) (n : ℕ) → InSize (prim_size p) n → p ≡ PrimType.Empty → ⊥
unfolding prim_size
not-empty p n x e = let none : n < 0 = subst (λ q. InSize (prim_size q) n) e x in omega arith

abbrev pub Valued : List Definition → Kind → Forest Node → Type 0
Valued ds k kids = (v : Value) × Has ds k kids v

module _ {ds : List Definition} where
  pub all-fields : (types : Forest Node) → EachTree (OfNode (Valued ds)) types → (vs : Values) × HasFields ds types vs
  all-fields end h = (no_more, no_fields)
  all-fields (tree t kids next) h = let v = h t kids first in let vs = all-fields next (in-others h) in (also v.0 vs.0, field v.1 vs.1)

  pub case-of : {c : Node} {kids types : Forest Node} → Beside c kids types → (i : ℕ) × ((v : Value) → Has ds c.kind kids v → HasCase ds types i v)
  case-of first = (0, λ v x. this_case x)
  case-of (later b) = let c = case-of b in (suc c.0, λ v x. other_case (c.1 v x))

  -- all but these four kinds have one that needs no part
  else-valued : (k : Kind) {kids : Forest Node} → AllElse k → Valued ds k kids
  else-valued (PrimT p) a = (atom 0, of_prim (in-size p (λ e. a.no_empty (ap PrimT e))))
  else-valued (VarT m) a = absurd (a.no_name m refl)
  else-valued OptT a = (absent, of_absent)
  else-valued VecT a = (items no_more, of_items no_items)
  else-valued RecordT a = absurd (a.no_record refl)
  else-valued VariantT a = absurd (a.no_variant refl)
  else-valued (FuncT n ms) a = (atom 0, of_reference function)
  else-valued ServT a = (atom 0, of_reference service)
  else-valued ClassT a = (atom 0, of_reference class)
  else-valued InitT a = (atom 0, of_reference init)

  -- A type that fills has a value,
  pub fills-has : {k : Kind} {kids : Forest Node} → Fills ds k kids → Valued ds k kids
  fills-has = fills-least (record {
    fields = λ {f} h. let vs = all-fields f h in (fields vs.0, of_fields vs.1);
    cases = λ s. let c = case-of s.2 in (case c.0 s.3.0, of_case (c.1 s.3.0 s.3.1));
    names = λ d. (d.4.0, of_name d.3 d.4.1);
    others = λ {k} a. else-valued k a;
  })

  reference-fills : {k : Kind} (kids : Forest Node) → Reference k → Fills ds k kids
  unfolding other_kind
  reference-fills kids (function {a = a} {ms = ms}) = func-fills ds a ms kids
  reference-fills kids service = service-fills ds kids
  reference-fills kids class = Empty.of_else (all-else ClassT tt)
  reference-fills kids init = Empty.of_else (all-else InitT tt)

  -- and one that has a value fills.
  mutual
    pub has-fills : {k : Kind} {kids : Forest Node} {v : Value} → Has ds k kids v → Fills ds k kids
    has-fills (of_prim {p = p} {kids = kids} {n = n} x) = (prim-fills ds p kids).1 (not-empty p n x)
    has-fills (of_reference {kids = kids} r) = reference-fills kids r
    has-fills (of_name e x) = Empty.of_name e (has-fills x)
    has-fills (of_absent {content = kids}) = opt-fills ds kids
    has-fills (of_present {t = t} {kids = kids} {next = next} x) = opt-fills ds (tree t kids next)
    has-fills (of_items {content = kids} x) = vec-fills ds kids
    has-fills (of_fields x) = Empty.of_fields (fields-fill x)
    has-fills (of_case x) = let c = case-fills x in Empty.of_case c.2 c.3

    fields-fill : {types : Forest Node} {vs : Values} → HasFields ds types vs → EachTree (OfNode (Fills ds)) types
    fields-fill no_fields = λ f kids b. beside-none b
    fields-fill (field x xs) = each-tree (has-fills x) (fields-fill xs)

    case-fills : {types : Forest Node} {i : ℕ} {v : Value} → HasCase ds types i v → SomeTree (OfNode (Fills ds)) types
    case-fills (this_case {t = t} {kids = kids} x) = (t, kids, first, has-fills x)
    case-fills (other_case x) = let c = case-fills x in (c.0, c.1, later c.2, c.3)

-- ---- A type of which a part has more has more

-- what a value is made of
of_opt : Value → Value
of_opt (present v) = v
of_opt v = v

of_vec : Value → Value
of_vec (items (also v vs)) = v
of_vec v = v

of_variant : Value → Value
of_variant (case i v) = v
of_variant v = v

at_place : ℕ → Values → Value
at_place i no_more = absent
at_place zero (also v vs) = v
at_place (suc i) (also v vs) = at_place i vs

of_record : ℕ → Value → Value
of_record i (fields vs) = at_place i vs
of_record i v = v

module _ {ds : List Definition} where
  field-of : {f : Node} {kids types : Forest Node} → Beside f kids types → EachTree (OfNode (Valued ds)) types →
      (i : ℕ) × ((v : Value) → Has ds f.kind kids v → (vs : Values) × HasFields ds types vs × (at_place i vs ≡ v))
  unfolding at_place
  field-of (first {next = next}) h = (0, λ v x. let vs = all-fields next (in-others h) in (also v vs.0, field x vs.1, refl))
  field-of (later {m = t} {lids = lids} b) h =
      let other = h t lids first in let c = field-of b (in-others h) in
      (suc c.0, λ v x. let vs = c.1 v x in (also other.0 vs.0, field other.1 vs.1, vs.2))

  pub part-more : {k : Kind} {kids : Forest Node} {part : Kind} {within : Forest Node} → Part ds k kids part within → Fills ds k kids →
      More (Has ds part within) → More (Has ds k kids)
  unfolding of_opt of_vec of_variant of_record
  part-more content x = more-from of_opt (λ v h. (present v, of_present h, refl))
  part-more an_item x = more-from of_vec (λ v h. (items (also v no_more), of_items (item h no_items), refl))
  part-more (a_field {types = types} b) x =
      let c = field-of b (λ t lids i. fills-has ((record-fills ds types).0 x t lids i)) in
      more-from (of_record c.0) (λ v h. let vs = c.1 v h in (fields vs.0, of_fields vs.1, vs.2))
  part-more (a_case b) x = let c = case-of b in more-from of_variant (λ v h. (case c.0 v, of_case (c.1 v h), refl))
  part-more (definition e) x = more-from (λ v. v) (λ v h. (v, of_name e h, refl))

-- ---- A name's values are those of its definition
module _ {ds : List Definition} where
  same-body : {t u : Node} {kids lids next mext : Forest Node} {v : Value} → body (tree t kids next) ≡ body (tree u lids mext) →
      Has ds t.kind kids v → Has ds u.kind lids v
  same-body {t} {u} {kids} {lids} e x = let p : t ≡ u = cc in let q : kids ≡ lids = cc in rw (← p, ← q) x

  pub has-name : {m : ℕ} {t : Node} {kids next none : Forest Node} {v : Value} → find_type ds m ≡ body (tree t kids next) →
      Has ds (VarT m) none v → Has ds t.kind kids v
  has-name e (of_reference r) = elim r [ ]
  has-name e (of_name f x) = same-body (sym f ∙ e) x

  module _ {m : ℕ} {t : Node} {kids next none : Forest Node} (e : find_type ds m ≡ body (tree t kids next)) where
    pub name-has : (v : Value) → Has ds t.kind kids v ↔ Has ds (VarT m) none v
    name-has v = (of_name e, has-name e)

    pub name-size : {n : ℕ} → Size (Has ds t.kind kids) n → Size (Has ds (VarT m) none) n
    name-size = size-same name-has

-- ---- The cap
capped-claim : {A : Type 0} {P : A → Type 0} (n : ℕ) → Claim P n → Claim P (capped n)
capped-claim {P = P} n x h = let e = capped-exact n h in subst (Number P) (sym e) (x (omega (arith, h, e)))

-- ---- Atoms, of which there is no end but in primitive types

-- more numbers than that are below 4,294,967,296
below-more : More (λ (i : ℕ). i < 4294967296)
below-more = number-more (number-below 4294967296) (omega arith)

-- those below a size, if it has one
in-size-claim : (s : Option ℕ) → Claim (InSize s) (size_values s)
unfolding size_values
in-size-claim None h = let z : ⊥ = omega arith in absurd z
in-size-claim (Some n) h = capped-claim n (λ k. number-below n) h

pub in-size-more : (s : Option ℕ) → 4294967295 < size_values s → More (InSize s)
unfolding size_values
in-size-more None h = more-from (λ i. i) (λ i k. (i, tt, refl)) below-more
in-size-more (Some n) h = number-more (number-below n) (capped-above n h)

of_atom : Value → ℕ
of_atom (atom n) = n
of_atom v = 0

module _ {ds : List Definition} {kids : Forest Node} where
  pub prim-more : (p : PrimType) → More (InSize (prim_size p)) → More (Has ds (PrimT p) kids)
  unfolding of_atom
  prim-more p = more-from of_atom (λ n x. (atom n, of_prim x, refl))

  pub reference-more : {k : Kind} → Reference k → More (Has ds k kids)
  unfolding of_atom
  reference-more r = more-from of_atom (λ n h. (atom n, of_reference r, refl)) below-more

-- ---- Opt and vec
first-claim : {ds : List Definition} {types : Forest Node} {inner : List ℕ} → Each (ClaimOf ds) types inner →
    Claim (FirstHas ds types) (first_of inner)
unfolding first_of
first-claim none h = number-none (λ v x. x)
first-claim (more x xs) h = x h

repeated : Value → ℕ → Values
repeated v zero = no_more
repeated v (suc n) = also v (repeated v n)

how_many : Values → ℕ
how_many no_more = 0
how_many (also v vs) = suc (how_many vs)

items_in : Value → ℕ
items_in (items vs) = how_many vs
items_in v = 0

module _ {ds : List Definition} where
  -- a vec of a type that has one has lists of each length
  all-repeated : (types : Forest Node) (v : Value) → FirstHas ds types v → (n : ℕ) →
      HasItems ds types (repeated v n) × (how_many (repeated v n) ≡ n)
  unfolding repeated how_many
  all-repeated types v x zero = (no_items, refl)
  all-repeated end v x (suc n) = absurd x
  all-repeated (tree t kids next) v x (suc n) = let r = all-repeated (tree t kids next) v x n in (item x r.0, ap suc r.1)

  pub vec-more : (types : Forest Node) (v : Value) → FirstHas ds types v → More (Has ds VecT types)
  unfolding items_in
  vec-more types v x = more-from items_in (λ n h. let r = all-repeated types v x n in (items (repeated v n), of_items r.0, r.1)) below-more

-- ---- Records and variants
module _ {ds : List Definition} where
  -- A record with a type that has none has none, whatever is said of the others.
  fields-product : {t : Node} {kids next : Forest Node} (m n : ℕ) →
      Claim (Has ds t.kind kids) m → Claim (HasFields ds next) n → Claim (HasFields ds (tree t kids next)) (m * n)
  fields-product zero n x xs h = rw zero-mul (number-none (no-fields first (number-zero (x (omega arith)))))
  fields-product (suc m) zero x xs h = rw mul-zero (number-none (λ vs y. let p = (fields-have vs).1 y in number-zero (xs (omega arith)) p.0.1 p.1.1))
  fields-product (suc m) (suc n) x xs h = fields-more (x (omega arith)) (xs (omega arith))

  fields-claim : {types : Forest Node} {l : List ℕ} → Each (ClaimOf ds) types l → Claim (HasFields ds types) (product l)
  unfolding product
  fields-claim none h = fields-none
  fields-claim (more {n = n} {l = l} x xs) h = fields-product n (product l) x (fields-claim xs) h

  pub fields-number : {types : Forest Node} {l : List ℕ} → Each (NumberOf ds) types l → Number (HasFields ds types) (product l)
  unfolding product
  fields-number none = fields-none
  fields-number (more x xs) = fields-more x (fields-number xs)

  cases-claim : {types : Forest Node} {l : List ℕ} → Each (ClaimOf ds) types l → Claim (CaseOf ds types) (sum l)
  unfolding sum
  cases-claim none h = cases-none
  cases-claim (more x xs) h = cases-more (x (omega arith)) (cases-claim xs (omega arith))

  pub cases-number : {types : Forest Node} {l : List ℕ} → Each (NumberOf ds) types l → Number (CaseOf ds types) (sum l)
  unfolding sum
  cases-number none = cases-none
  cases-number (more x xs) = cases-more x (cases-number xs)

-- ---- A kind, by its parts

-- a vec has one value or more, by whether its type has any
vec_values : ℕ → ℕ
vec_values n = cond (eqb n 0) 1 4294967296

vec-large : (n : ℕ) → 4294967295 < vec_values n → 0 < n
unfolding vec_values
vec-large n h = grind arith

vec-small : (n : ℕ) → vec_values n ≤ 4294967295 → n ≡ 0
unfolding vec_values
vec-small n h = grind arith

vec-most : (n : ℕ) → vec_values n ≤ 4294967296
unfolding vec_values
vec-most n = grind arith

vec-claim : {ds : List Definition} (types : Forest Node) (n : ℕ) → Claim (FirstHas ds types) n → Claim (Has ds VecT types) (vec_values n)
unfolding vec_values
vec-claim types zero x h = vec-none types (x (omega arith))
vec-claim types (suc n) x h = let z : suc n ≡ 0 = vec-small (suc n) h in absurd (omega arith)

pub kind-exact : {ds : List Definition} {k : Kind} {kids : Forest Node} {inner : List ℕ} (names : ℕ → ℕ) →
    ((m : ℕ) → k ≡ VarT m → Claim (Has ds k kids) (names m)) → Each (ClaimOf ds) kids inner →
    Claim (Has ds k kids) (kind_values names k inner)
unfolding kind_values vec_values
kind-exact {k = PrimT p} names named x h = prim-number p (in-size-claim (prim_size p) h)
kind-exact {k = VarT m} names named x h = named m refl h
kind-exact {k = OptT} {kids} {inner} names named x h =
    capped-claim (suc (first_of inner)) (λ h. opt-number kids (first-claim x (omega arith))) h
kind-exact {k = VecT} {kids} {inner} names named x h = vec-claim kids (first_of inner) (first-claim x) h
kind-exact {k = RecordT} {kids} {inner} names named x h = capped-claim (product inner) (λ h. fields-record (fields-claim x h)) h
kind-exact {k = VariantT} {kids} {inner} names named x h = capped-claim (sum inner) (λ h. cases-variant (cases-claim x h)) h
kind-exact {k = FuncT a ms} names named x h = let z : ⊥ = omega arith in absurd z
kind-exact {k = ServT} names named x h = let z : ⊥ = omega arith in absurd z
kind-exact {k = ClassT} names named x h = let z : ⊥ = omega arith in absurd z
kind-exact {k = InitT} names named x h = let z : ⊥ = omega arith in absurd z

-- ---- A kind that counts as many has more, or a part that does
pub each-map : {R S : Kind → Forest Node → ℕ → Type 0} → ((k : Kind) (kids : Forest Node) (n : ℕ) → R k kids n → S k kids n) →
    {types : Forest Node} {inner : List ℕ} → Each R types inner → Each S types inner
each-map f none = none
each-map f (more {t = t} {kids = kids} {n = n} x xs) = more (f t.kind kids n x) (each-map f xs)

-- R of one of the types beside each other that counts as many, and of a part that does.
abbrev pub SomeLarge : (Kind → Forest Node → ℕ → Type 0) → Forest Node → Type 0
SomeLarge R types = (t : Node) × (kids : Forest Node) × (n : ℕ) × Beside t kids types × (4294967295 < n) × R t.kind kids n

abbrev pub LargePart : List Definition → (Kind → Forest Node → ℕ → Type 0) → Kind → Forest Node → Type 0
LargePart ds R k kids = (part : Kind) × (within : Forest Node) × (n : ℕ) × Part ds k kids part within × (4294967295 < n) × R part within n

module _ {ds : List Definition} {R : Kind → Forest Node → ℕ → Type 0} where
  numbers-or-large : {types : Forest Node} {inner : List ℕ} → Each (λ k kids n. Claim (Has ds k kids) n × R k kids n) types inner →
      Each (NumberOf ds) types inner ⊎ SomeLarge R types
  numbers-or-large none = inl none
  numbers-or-large (more {t = t} {kids = kids} {next = next} {n = n} {l = l} x xs) = go (small-or-large n) (numbers-or-large xs)
    where
      go : (n ≤ 4294967295) ⊎ (4294967295 < n) → Each (NumberOf ds) next l ⊎ SomeLarge R next →
          Each (NumberOf ds) (tree t kids next) (n ∷ l) ⊎ SomeLarge R (tree t kids next)
      go (inr h) rest = inr (t, kids, n, first, h, x.1)
      go (inl h) (inl rest) = inl (more (x.0 h) rest)
      go (inl h) (inr s) = inr (s.0, s.1, s.2, later s.3, s.4, s.5)

  -- of the first type within
  first-or-large : {k : Kind} {types : Forest Node} {inner : List ℕ} →
      ((t : Node) (kids next : Forest Node) → Part ds k (tree t kids next) t.kind kids) →
      Each (λ k kids n. Claim (Has ds k kids) n × R k kids n) types inner → Number (FirstHas ds types) (first_of inner) ⊎ LargePart ds R k types
  unfolding first_of
  first-or-large part none = inl (number-none (λ v x. x))
  first-or-large part (more {t = t} {kids = kids} {next = next} {n = n} x xs) =
      elim (small-or-large n) [ inl h ↦ inl (x.0 h) | inr h ↦ inr (t.kind, kids, n, part t kids next, h, x.1) ]

  -- Of any kind but a name.
  pub kind-onward : {k : Kind} {kids : Forest Node} {inner : List ℕ} (names : ℕ → ℕ) → ((m : ℕ) → k ≡ VarT m → ⊥) →
      Each (λ k kids n. Claim (Has ds k kids) n × R k kids n) kids inner → 4294967295 < kind_values names k inner →
      More (Has ds k kids) ⊎ LargePart ds R k kids
  unfolding kind_values vec_values
  kind-onward {k = PrimT p} names plain x h = inl (prim-more p (in-size-more (prim_size p) h))
  kind-onward {k = VarT m} names plain x h = absurd (plain m refl)
  kind-onward {k = OptT} {kids} {inner} names plain x h = elim (first-or-large (λ t kids next. content) x) [
    | inl y ↦ inl (number-more (opt-number kids y) (capped-above (suc (first_of inner)) h))
    | inr p ↦ inr p
  ]
  kind-onward {k = VecT} {kids} {inner} names plain x h = elim (first-or-large (λ t kids next. an_item) x) [
    | inl y ↦ let v = number-some y (vec-large (first_of inner) h) in inl (vec-more kids v.0 v.1)
    | inr p ↦ inr p
  ]
  kind-onward {k = RecordT} {inner = inner} names plain x h = elim (numbers-or-large x) [
    | inl xs ↦ inl (number-more (fields-record (fields-number xs)) (capped-above (product inner) h))
    | inr s ↦ inr (s.0.kind, s.1, s.2, a_field s.3, s.4, s.5)
  ]
  kind-onward {k = VariantT} {inner = inner} names plain x h = elim (numbers-or-large x) [
    | inl xs ↦ inl (number-more (cases-variant (cases-number xs)) (capped-above (sum inner) h))
    | inr s ↦ inr (s.0.kind, s.1, s.2, a_case s.3, s.4, s.5)
  ]
  kind-onward {k = FuncT a ms} names plain x h = inl (reference-more function)
  kind-onward {k = ServT} names plain x h = inl (reference-more service)
  kind-onward {k = ClassT} names plain x h = inl (reference-more class)
  kind-onward {k = InitT} names plain x h = inl (reference-more init)

-- ---- What counts as any fills, and none counts as more than many

size-most : (s : Option ℕ) → size_values s ≤ 4294967296
unfolding size_values
size-most None = omega arith
size-most (Some n) = capped-most n

pub kind-most : (names : ℕ → ℕ) (k : Kind) (inner : List ℕ) → ((m : ℕ) → k ≡ VarT m → names m ≤ 4294967296) → kind_values names k inner ≤ 4294967296
unfolding kind_values vec_values
kind-most names (PrimT p) inner named = size-most (prim_size p)
kind-most names (VarT m) inner named = named m refl
kind-most names OptT inner named = capped-most (suc (first_of inner))
kind-most names VecT inner named = vec-most (first_of inner)
kind-most names RecordT inner named = capped-most (product inner)
kind-most names VariantT inner named = capped-most (sum inner)
kind-most names k inner named = omega arith

both-some : (m n : ℕ) → 0 < m * n → (0 < m) × (0 < n)
both-some zero n h = let z : ⊥ = omega arith in absurd z
both-some (suc m) zero h = let z : ⊥ = omega arith in absurd z
both-some (suc m) (suc n) h = omega arith

module _ {ds : List Definition} where
  all-fill : {types : Forest Node} {inner : List ℕ} → Each (FillsIfAny ds) types inner → 0 < product inner → EachTree (OfNode (Fills ds)) types
  unfolding product
  all-fill none h = λ t kids b. beside-none b
  all-fill (more {n = n} {l = l} x xs) h = let p = both-some n (product l) h in each-tree (x p.0) (all-fill xs p.1)

  some-fills : {types : Forest Node} {inner : List ℕ} → Each (FillsIfAny ds) types inner → 0 < sum inner → SomeTree (OfNode (Fills ds)) types
  unfolding sum
  some-fills none h = let z : ⊥ = omega arith in absurd z
  some-fills (more {t = t} {kids = kids} {next = next} {n = n} {l = l} x xs) h = go n x h (λ h. some-fills xs h)
    where
      go : (n : ℕ) → (0 < n → Fills ds t.kind kids) → 0 < n + sum l → (0 < sum l → SomeTree (OfNode (Fills ds)) next) →
          SomeTree (OfNode (Fills ds)) (tree t kids next)
      go zero x h rest = let s = rest (omega arith) in (s.0, s.1, later s.2, s.3)
      go (suc n) x h rest = (t, kids, first, x (omega arith))

  pub kind-fills : (names : ℕ → ℕ) (k : Kind) {kids : Forest Node} {inner : List ℕ} → ((m : ℕ) → k ≡ VarT m → ⊥) →
      Each (FillsIfAny ds) kids inner → 0 < kind_values names k inner → Fills ds k kids
  unfolding kind_values other_kind prim_size size_values
  kind-fills names (PrimT p) {kids} plain x h =
      (prim-fills ds p kids).1 (λ e. let none : 0 < capped 0 = subst (λ q. 0 < size_values (prim_size q)) e h in omega (arith, capped-some 0 none))
  kind-fills names (VarT m) plain x h = absurd (plain m refl)
  kind-fills names RecordT {inner = inner} plain x h = Empty.of_fields (all-fill x (capped-some (product inner) h))
  kind-fills names VariantT {inner = inner} plain x h = let s = some-fills x (capped-some (sum inner) h) in Empty.of_case s.2 s.3
  kind-fills names k plain x h = Empty.of_else (all-else k tt)
