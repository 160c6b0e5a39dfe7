-- The count of values as it runs: what it makes of the counts within it, and that it stands still. Assumes nothing.
--     kind-less, each-less, ..     it is no less where the counts of names are no less
--     values-fill                  what counts as more than none fills, where names do
--     type-right                   exact answers of names make exact answers of types
--     within-right, within-less    so exact answers are right, and by going through more names no less
--     settled, name-fixed          after as many names as there are definitions no more are exact
--     names-right, names-most, ..  the same of the names' numbers
use mathlib.Core.Path.{◌≡◌, refl, sym, ap, subst, ◌∙◌}
use mathlib.Core.Logic.{◌↔◌, ◌⊎◌, inl, inr}
use mathlib.Core.Bool.{Bool, true, false, cond}
use mathlib.Core.List.{List, [], ◌∷◌, map, Memᴰ}
use Prim.Native.Nat.{ℕ, zero, suc, ◌≤◌, ◌<◌}
use native.Mathlib.Omega.{arith}
use lib.Dec.{T, leb, eqb}
use lib.ListN.{length, length-map}
use Rattle.std.proofs.lemmas.Nat.{mul-le}
use Rattle.format.specs.Forest.{Forest, end, tree}
use Rattle.format.specs.Node.{Kind, VarT, OptT, VecT, RecordT, VariantT, Node}
use Rattle.format.specs.Book.{Definition}
use Rattle.format.proofs.Logic.{clash, le-says}
use Rattle.judgement.specs.Environment.{Found, missing, body, find_type}
use Rattle.judgement.specs.WellFormed.{defined_name, Defined}
use Rattle.judgement.specs.Check.{member}
use Rattle.judgement.proofs.Lookup.{member-says, found-defined}
use Rattle.listing.specs.Uses.{kept}
use Rattle.listing.specs.Empty.{Fills, of_name, of_else, rounds}
use Rattle.listing.specs.Values.{Value, Has, HasName, capped, sum, product, first_of, kind_values, each_values, found_values, values_within, name_values}
use Rattle.listing.specs.Values as value
use Rattle.listing.proofs.Uses.{kept-says, kept-length, kept-more}
use Rattle.listing.proofs.Filling.{NameFills, other-kids, filled-exact, never-unbound}
use Rattle.listing.proofs.Sizes.{Claim, Each, FillsIfAny, has-fills, name-has, small-or-large, kind-exact, kind-most, kind-fills}
use Rattle.listing.proofs.Numbers.{number-none, number-same, number-unique}
use Rattle.listing.proofs.Sizes as sizes

-- ---- No less for more
capped-less : (m n : ℕ) → m ≤ n → capped m ≤ capped n
unfolding capped
capped-less m n h = grind arith

vec-less : (m n : ℕ) → m ≤ n → cond (eqb m 0) 1 4294967296 ≤ cond (eqb n 0) 1 4294967296
vec-less m n h = grind arith

-- Each is no more than that at its place.
abbrev NoMore : List ℕ → List ℕ → Type 0
NoMore [] [] = Unit {0}
NoMore [] (n ∷ l) = ⊥
NoMore (m ∷ k) [] = ⊥
NoMore (m ∷ k) (n ∷ l) = (m ≤ n) × NoMore k l

sum-less : (k l : List ℕ) → NoMore k l → sum k ≤ sum l
unfolding sum
sum-less [] [] h = omega arith
sum-less [] (n ∷ l) h = absurd h
sum-less (m ∷ k) [] h = absurd h
sum-less (m ∷ k) (n ∷ l) h = omega (arith, h.0, sum-less k l h.1)

product-less : (k l : List ℕ) → NoMore k l → product k ≤ product l
unfolding product
product-less [] [] h = omega arith
product-less [] (n ∷ l) h = absurd h
product-less (m ∷ k) [] h = absurd h
product-less (m ∷ k) (n ∷ l) h = mul-le m (product k) n (product l) h.0 (product-less k l h.1)

first-less : (k l : List ℕ) → NoMore k l → first_of k ≤ first_of l
unfolding first_of
first-less [] [] h = omega arith
first-less [] (n ∷ l) h = absurd h
first-less (m ∷ k) [] h = absurd h
first-less (m ∷ k) (n ∷ l) h = h.0

-- never above 4,294,967,296
found-most : (names : ℕ → ℕ) → ((m : ℕ) → names m ≤ 4294967296) → (f : Found) → found_values names f ≤ 4294967296
unfolding found_values
found-most names h missing = omega arith
found-most names h (body end) = omega arith
found-most names h (body (tree t kids next)) = kind-most names t.kind (each_values names kids) (λ m e. h m)

module _ (few many : ℕ → ℕ) (h : (m : ℕ) → few m ≤ many m) where
  kind-less : (κ : Kind) (k l : List ℕ) → NoMore k l → kind_values few κ k ≤ kind_values many κ l
  unfolding kind_values
  kind-less (VarT m) k l i = h m
  kind-less OptT k l i = capped-less (suc (first_of k)) (suc (first_of l)) (omega (arith, first-less k l i))
  kind-less VecT k l i = vec-less (first_of k) (first_of l) (first-less k l i)
  kind-less RecordT k l i = capped-less (product k) (product l) (product-less k l i)
  kind-less VariantT k l i = capped-less (sum k) (sum l) (sum-less k l i)
  kind-less κ k l i = omega arith

  each-less : (f : Forest Node) → NoMore (each_values few f) (each_values many f)
  unfolding each_values
  each-less end = tt
  each-less (tree t kids next) = (kind-less t.kind (each_values few kids) (each_values many kids) (each-less kids), each-less next)

  found-less : (f : Found) → found_values few f ≤ found_values many f
  unfolding found_values
  found-less missing = omega arith
  found-less (body end) = omega arith
  found-less (body (tree t kids next)) = kind-less t.kind (each_values few kids) (each_values many kids) (each-less kids)

-- ---- What counts as more than none fills
module _ (ds : List Definition) (names : ℕ → ℕ) (known : (m : ℕ) → 0 < names m → NameFills ds m) where
  kind-fill : (k : Kind) (kids : Forest Node) → Each (FillsIfAny ds) kids (each_values names kids) →
      0 < kind_values names k (each_values names kids) → Fills ds k kids
  unfolding kind_values
  kind-fill (VarT m) kids x h = other-kids ds kids (known m h)
  kind-fill k kids x h = kind-fills names k (λ m e. clash cc) x h

  each-fill : (f : Forest Node) → Each (FillsIfAny ds) f (each_values names f)
  unfolding each_values
  each-fill end = sizes.none
  each-fill (tree t kids next) = sizes.more (kind-fill t.kind kids (each-fill kids)) (each-fill next)

  -- where names do, all types do
  pub values-fill : (k : Kind) (kids : Forest Node) → 0 < kind_values names k (each_values names kids) → Fills ds k kids
  values-fill k kids = kind-fill k kids (each-fill kids)

-- ---- Exact answers
module _ (ds : List Definition) where
  on-alone : {m : ℕ} {one other : Forest Node} {v : Value} → Has ds (VarT m) one v → Has ds (VarT m) other v
  on-alone (value.of_name e x) = value.of_name e x
  on-alone (value.of_reference r) = elim r [ ]

  name-alone : {m : ℕ} (other : Forest Node) (v : Value) → HasName ds m v ↔ Has ds (VarT m) other v
  name-alone other v = (on-alone, on-alone)

  -- only what has a definition has values
  never-bare : {m : ℕ} {v : Value} → find_type ds m ≡ body end → HasName ds m v → ⊥
  never-bare e (value.of_name {t = t} {kids = kids} {next = next} f x) = let g : body end ≡ body (tree t kids next) = sym e ∙ f in clash cc
  never-bare e (value.of_reference r) = elim r [ ]

  module _ (names : ℕ → ℕ) where
    -- what holds of each type and its number
    pub each-of : {R : Kind → Forest Node → ℕ → Type 0} →
        ((k : Kind) (kids : Forest Node) → R k kids (kind_values names k (each_values names kids))) →
        (f : Forest Node) → Each R f (each_values names f)
    unfolding each_values
    each-of h end = sizes.none
    each-of h (tree t kids next) = sizes.more (h t.kind kids) (each-of h next)

    module _ (right : (m : ℕ) → Claim (HasName ds m) (names m)) where
      name-right : {k : Kind} (kids : Forest Node) (m : ℕ) → k ≡ VarT m → Claim (Has ds k kids) (names m)
      name-right {k} kids m e h = number-same (λ v. rw e (name-alone kids v)) (right m h)

      each-right : (f : Forest Node) → Each (λ k kids n. Claim (Has ds k kids) n) f (each_values names f)
      unfolding each_values
      each-right end = sizes.none
      each-right (tree t kids next) = sizes.more (kind-exact names (name-right kids) (each-right kids)) (each-right next)

      -- exact answers of names make exact answers of types
      pub type-right : (k : Kind) (kids : Forest Node) → Claim (Has ds k kids) (kind_values names k (each_values names kids))
      type-right k kids = kind-exact names (name-right kids) (each-right kids)

      found-right : (m : ℕ) → Claim (HasName ds m) (found_values names (find_type ds m))
      unfolding found_values
      found-right m = go (find_type ds m) refl
        where
          go : (f : Found) → find_type ds m ≡ f → Claim (HasName ds m) (found_values names f)
          go missing e h = number-none (λ v x. never-unbound ds end e (has-fills x))
          go (body end) e h = number-none (λ v x. never-bare e x)
          go (body (tree t kids next)) e h = number-same (name-has e) (type-right t.kind kids h)

-- ---- The answers of names
pub either : {A : Type 0} (P : A → Type 0) (b : Bool) {x y : A} → (T b → P x) → ((T b → ⊥) → P y) → P (cond b x y)
either P true h g = h tt
either P false h g = g (λ t. t)

module _ (ds : List Definition) where
  abbrev filled : List ℕ
  filled = rounds ds (length ds)

  -- by going through at most k names
  abbrev within : ℕ → ℕ → ℕ
  within k = values_within ds filled k

  -- 0 if the name does not fill
  if-filled : (P : ℕ → Type 0) (m : ℕ) {n : ℕ} → (NameFills ds m → P n) → ((NameFills ds m → ⊥) → P 0) → P (cond (member m filled) n 0)
  if-filled P m h g =
      let p = member-says m filled in let q = filled-exact ds m in
      either P (member m filled) (λ t. h (q.0 (p.0 t))) (λ no. g (λ x. no (p.1 (q.1 x))))

  none-right : (m : ℕ) → (NameFills ds m → ⊥) → Claim (HasName ds m) 0
  none-right m bare h = number-none (λ v x. bare (has-fills x))

  -- exact answers are right,
  within-right : (k m : ℕ) → Claim (HasName ds m) (within k m)
  unfolding values_within
  within-right zero m = if-filled (Claim (HasName ds m)) m (λ x h. let z : ⊥ = omega arith in absurd z) (none-right m)
  within-right (suc k) m = if-filled (Claim (HasName ds m)) m (λ x. found-right ds (within k) (within-right k) m) (none-right m)

  -- all are at most so large,
  within-most : (k m : ℕ) → within k m ≤ 4294967296
  unfolding values_within
  within-most zero m = if-filled (λ n. n ≤ 4294967296) m (λ x. omega arith) (λ no. omega arith)
  within-most (suc k) m = if-filled (λ n. n ≤ 4294967296) m (λ x. found-most (within k) (within-most k) (find_type ds m)) (λ no. omega arith)

  -- what has one fills,
  within-filled : (k m : ℕ) → 0 < within k m → NameFills ds m
  unfolding values_within
  within-filled zero m = if-filled (λ n. 0 < n → NameFills ds m) m (λ x h. x) (λ no h. let z : ⊥ = omega arith in absurd z)
  within-filled (suc k) m = if-filled (λ n. 0 < n → NameFills ds m) m (λ x h. x) (λ no h. let z : ⊥ = omega arith in absurd z)

  -- and by going through more names they are no more.
  both-less : (b : Bool) {x y : ℕ} → y ≤ x → cond b y 0 ≤ cond b x 0
  both-less true h = h
  both-less false h = omega arith

  within-less : (k m : ℕ) → within (suc k) m ≤ within k m
  unfolding values_within
  within-less zero m = both-less (member m filled) (found-most (within zero) (within-most zero) (find_type ds m))
  within-less (suc k) m = both-less (member m filled) (found-less (within (suc k)) (within k) (within-less k) (find_type ds m))

  -- ---- After as many names as there are definitions it stands still
  abbrev exact : ℕ → ℕ → Bool
  exact k m = leb (within k m) 4294967295

  abbrev exacts : ℕ → List ℕ
  exacts k = kept (exact k) (map defined_name ds)

  exact-says : (k m : ℕ) → T (exact k m) ↔ (within k m ≤ 4294967295)
  exact-says k m = le-says (within k m) 4294967295

  stays-exact : (k m : ℕ) → T (exact k m) → T (exact (suc k) m)
  stays-exact k m t = (exact-says (suc k) m).1 (omega (arith, (exact-says k m).0 t, within-less k m))

  abbrev SmallOrLarge : ℕ → Type 0
  SmallOrLarge n = (n ≤ 4294967295) ⊎ (4294967295 < n)

  -- no more are exact
  abbrev Settled : ℕ → Type 0
  Settled k = within k ≡ within (suc k)

  exact-same : (k m : ℕ) → within k m ≤ 4294967295 → within k m ≡ within (suc k) m
  exact-same k m h = number-unique (within-right k m h) (within-right (suc k) m (omega (arith, h, within-less k m)))

  same-exacts : (k : ℕ) → exacts k ≡ exacts (suc k) → Settled k
  same-exacts k e = λ i m. each m (small-or-large (within k m)) (small-or-large (within (suc k) m)) i
    where
      defined : (m : ℕ) → NameFills ds m → Defined ds m
      defined m (of_name {t = t} {kids = kids} {next = next} f x) = found-defined ds m (tree t kids next) f
      defined m (of_else a) = absurd (a.no_name m refl)

      -- one that is exact now, and was not before
      new : (m : ℕ) → 4294967295 < within k m → within (suc k) m ≤ 4294967295 → within k m ≤ 4294967295
      new m h g =
          let d = defined m (within-filled k m (omega (arith, h))) in
          let i = (kept-says (exact (suc k)) (map defined_name ds) m).1 (d, (exact-says (suc k) m).1 g) in
          (exact-says k m).0 ((kept-says (exact k) (map defined_name ds) m).0 (subst (λ (l : List ℕ). Memᴰ m l) (sym e) i)).1

      each : (m : ℕ) → SmallOrLarge (within k m) → SmallOrLarge (within (suc k) m) → within k m ≡ within (suc k) m
      each m (inl h) other = exact-same k m h
      each m (inr h) (inl g) = let z : ⊥ = omega (arith, h, new m h g) in absurd z
      each m (inr h) (inr g) = omega (arith, h, g, within-most k m, within-most (suc k) m)

  settled-on : (k : ℕ) → Settled k → Settled (suc k)
  unfolding values_within
  settled-on k e = ap {B = ℕ → ℕ} (λ (f : ℕ → ℕ) (m : ℕ). cond (member m filled) (found_values f (find_type ds m)) 0) e

  settled-or-many : (k : ℕ) → Settled k ⊎ (k < length (exacts (suc k)))
  settled-or-many zero = go (kept-more (exact 0) (exact 1) (map defined_name ds) (stays-exact 0))
    where
      go : (exacts 0 ≡ exacts 1) ⊎ (length (exacts 0) < length (exacts 1)) → Settled 0 ⊎ (0 < length (exacts 1))
      go (inl e) = inl (same-exacts 0 e)
      go (inr h) = inr (omega arith)
  settled-or-many (suc k) = go (settled-or-many k)
    where
      go : Settled k ⊎ (k < length (exacts (suc k))) → Settled (suc k) ⊎ (suc k < length (exacts (suc (suc k))))
      go (inl e) = inl (settled-on k e)
      go (inr h) = elim (kept-more (exact (suc k)) (exact (suc (suc k))) (map defined_name ds) (stays-exact (suc k))) [
        | inl e ↦ inl (same-exacts (suc k) e)
        | inr m ↦ inr (omega (arith, h, m))
      ]

  settled : Settled (length ds)
  settled = elim (settled-or-many (length ds)) [
    | inl e ↦ e
    | inr h ↦ let z : ⊥ = omega (arith, h, kept-length (exact (suc (length ds))) (map defined_name ds), length-map ds defined_name) in absurd z
  ]

  -- so a name's number is that of its definition,
  pub name-fixed : (m : ℕ) → name_values ds m ≡ cond (member m filled) (found_values (name_values ds) (find_type ds m)) 0
  unfolding name_values values_within
  name-fixed m = λ i. settled i m

  -- ---- The names' numbers
  pub names-right : (m : ℕ) → Claim (HasName ds m) (name_values ds m)
  unfolding name_values
  names-right m = within-right (length ds) m

  pub names-most : (m : ℕ) → name_values ds m ≤ 4294967296
  unfolding name_values
  names-most m = within-most (length ds) m

  pub names-filled : (m : ℕ) → 0 < name_values ds m → NameFills ds m
  unfolding name_values
  names-filled m = within-filled (length ds) m
