-- The rules of request 13, one by one, of how many values there are, however many. Assumes nothing.
--     prim-rule, function-rule, service-rule      what has no other type
--     sizes-of-32, .. sizes-without-end           how many the primitive types have that are many by decree
--     opt-rule, vec-rule-none, vec-rule-some      opt and vec
--     record-rule, record-rule-none               records
--     variant-rule                                variants
--     name-rule, unfilled-rule                    names; what does not fill
--     more-endless                                more are without end, as the question says it
use mathlib.Core.Path.{◌≡◌, refl}
use mathlib.Core.Logic.{◌↔◌}
use mathlib.Core.List.{List}
use Prim.Native.Nat.{ℕ, suc, ◌^◌}
use native.Mathlib.Omega.{arith}
use Rattle.std.specs.Prelude.{Option, Some, None}
use Rattle.format.specs.Forest.{Forest, tree}
use Rattle.format.specs.Node.{PrimType, Null, Nat, Int, Nat8, Nat16, Nat32, Nat64, Int8, Int16, Int32, Int64, Float32, Float64, Text, Reserved, Principal, FuncMode, Kind, PrimT, VarT, OptT, VecT, RecordT, VariantT, FuncT, ServT, Node}
use Rattle.format.specs.Book.{Definition}
use Rattle.format.specs.Occurs.{Beside}
use Rattle.judgement.specs.Environment.{body, find_type}
use Rattle.listing.specs.Empty.{Fills}
use Rattle.listing.specs.Values.{Value, capped, size_values, sum, product, prim_size, function, service, Has, of_name, Number, Endless}
use Rattle.listing.proofs.Numbers.{number-none, number-zero, number-same, number-below}
use Rattle.listing.proofs.ByKind.{prim-number, opt-number, vec-none, no-fields, fields-record, cases-variant}
use Rattle.listing.proofs.Sizes.{More, Each, NumberOf, has-fills, has-name, name-has, prim-more, reference-more, in-size-more, vec-more, fields-number, cases-number}

-- How many a primitive type has; None is more.
abbrev pub prim_rule : PrimType → Option ℕ
prim_rule Null = Some 1
prim_rule Reserved = Some 1
prim_rule PrimType.Empty = Some 0
prim_rule PrimType.Bool = Some 2
prim_rule Nat8 = Some 256
prim_rule Int8 = Some 256
prim_rule Nat16 = Some 65536
prim_rule Int16 = Some 65536
prim_rule p = None

abbrev pub Rule : Option ℕ → (Value → Type 0) → Type 0
Rule (Some n) P = Number P n
Rule None P = More P

pub prim-rule : (ds : List Definition) (p : PrimType) (kids : Forest Node) → Rule (prim_rule p) (Has ds (PrimT p) kids)
unfolding prim_size size_values capped
prim-rule ds Null kids = prim-number Null (number-below 1)
prim-rule ds Reserved kids = prim-number Reserved (number-below 1)
prim-rule ds PrimType.Empty kids = prim-number PrimType.Empty (number-below 0)
prim-rule ds PrimType.Bool kids = prim-number PrimType.Bool (number-below 2)
prim-rule ds Nat8 kids = prim-number Nat8 (number-below 256)
prim-rule ds Int8 kids = prim-number Int8 (number-below 256)
prim-rule ds Nat16 kids = prim-number Nat16 (number-below 65536)
prim-rule ds Int16 kids = prim-number Int16 (number-below 65536)
prim-rule ds p kids = prim-more p (in-size-more (prim_size p) (omega arith))

-- Those that are many by decree have as many as their bits tell, or no end.
pub sizes-of-32 : (prim_size Nat32 ≡ Some (2 ^ 32)) × (prim_size Int32 ≡ Some (2 ^ 32)) × (prim_size Float32 ≡ Some (2 ^ 32))
unfolding prim_size
sizes-of-32 = (refl, refl, refl)

pub sizes-of-64 : (prim_size Nat64 ≡ Some (2 ^ 64)) × (prim_size Int64 ≡ Some (2 ^ 64)) × (prim_size Float64 ≡ Some (2 ^ 64))
unfolding prim_size
sizes-of-64 = (refl, refl, refl)

pub sizes-without-end : (prim_size Nat ≡ None) × (prim_size Int ≡ None) × (prim_size Text ≡ None) × (prim_size Principal ≡ None)
unfolding prim_size
sizes-without-end = (refl, refl, refl, refl)

module _ {ds : List Definition} where
  -- Functions and services have more.
  pub function-rule : (a : ℕ) (ms : List FuncMode) (kids : Forest Node) → More (Has ds (FuncT a ms) kids)
  function-rule a ms kids = reference-more function

  pub service-rule : (kids : Forest Node) → More (Has ds ServT kids)
  service-rule kids = reference-more service

  -- An opt has one more than its content; a vec of a type that has none has one, of any other more.
  module _ {t : Node} {kids next : Forest Node} where
    pub opt-rule : {n : ℕ} → Number (Has ds t.kind kids) n → Number (Has ds OptT (tree t kids next)) (suc n)
    opt-rule x = opt-number (tree t kids next) x

    pub vec-rule-none : Number (Has ds t.kind kids) 0 → Number (Has ds VecT (tree t kids next)) 1
    vec-rule-none x = vec-none (tree t kids next) x

    pub vec-rule-some : (v : Value) → Has ds t.kind kids v → More (Has ds VecT (tree t kids next))
    vec-rule-some v x = vec-more (tree t kids next) v x

  -- Fields multiply: none make one, and one that has no value is enough for none. Cases add.
  pub record-rule : {types : Forest Node} {l : List ℕ} → Each (NumberOf ds) types l → Number (Has ds RecordT types) (product l)
  record-rule x = fields-record (fields-number x)

  pub record-rule-none : {f : Node} {kids types : Forest Node} → Beside f kids types → Number (Has ds f.kind kids) 0 → Number (Has ds RecordT types) 0
  record-rule-none b x = fields-record (number-none (no-fields b (number-zero x)))

  pub variant-rule : {types : Forest Node} {l : List ℕ} → Each (NumberOf ds) types l → Number (Has ds VariantT types) (sum l)
  variant-rule x = cases-variant (cases-number x)

  -- A name has those of its definition.
  pub name-rule : {m : ℕ} {t : Node} {kids next none : Forest Node} {n : ℕ} → find_type ds m ≡ body (tree t kids next) →
      Number (Has ds t.kind kids) n ↔ Number (Has ds (VarT m) none) n
  name-rule e = (number-same (name-has e), number-same (λ v. (has-name e, of_name e)))

  -- What does not fill has none.
  pub unfilled-rule : {k : Kind} {kids : Forest Node} → (Fills ds k kids → ⊥) → Number (Has ds k kids) 0
  unfilled-rule h = number-none (λ v x. h (has-fills x))

-- Where there are more, no list of at most so many holds just those.
pub more-endless : {P : Value → Type 0} → More P → Endless P
more-endless m l few just = omega (arith, m l just.1)
