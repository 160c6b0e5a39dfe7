-- Emptiness as the Rust has it: `is_empty` and `replace_empty` of type_env.rs, document 01's sentence on the names that become empty, which knows
-- nothing of the walk, and where both are the emptiness of request 4 (proofs/ReplaceEmpty.antt joins the three). No question answers by this.
-- Definitions; assumes nothing.
use Rattle.std.specs.Prelude.{◌≡◌, ◌⊎◌, Bool, true, false, cond, ℕ, zero, suc, get_or, set, replicate}
use mathlib.Core.List.{List, [], ◌∷◌, Memᴰ}
use Rattle.format.specs.Forest.{Forest, end, tree}
use Rattle.format.specs.Node.{PrimType, Kind, PrimT, VarT, OptT, VecT, RecordT, VariantT, FuncT, ServT, ClassT, InitT, Node}
use Rattle.format.specs.Book.{Definition}
use Rattle.format.specs.Occurs.{Occurs, Beside}
use Rattle.judgement.specs.Environment.{Found, missing, body, find_type, is_missing, Head, named, other, head_kind, head}
use Rattle.listing.specs.Empty.{Fills, Empty}

-- ---- `is_empty`

-- What the map `res` has at a name: nothing, None while the name is visited, or the answer. A list has a mark for each name.
pub data Mark : Type 0 where
  unvisited visiting : Mark
  answered : Bool → Mark

-- What a visit answers, and the marks after it.
pub record Visit : Type 0 where
  pub empty : Bool
  pub marks : List Mark

abbrev pub not_empty : List Mark → Visit
not_empty marks = record { empty = false; marks = marks }

-- A field: one that is a name is visited and, if empty, ends the record's walk; any other is passed over. `rest` are the fields after it.
unfoldable pub visit_field : (ℕ → List Mark → Visit) → Head → (List Mark → Visit) → List Mark → Visit
visit_field visit other rest marks = rest marks
visit_field visit (named m) rest marks = let v = visit m marks in cond v.empty v (rest v.marks)

unfoldable pub visit_fields : (ℕ → List Mark → Visit) → Forest Node → List Mark → Visit
visit_fields visit end marks = not_empty marks
visit_fields visit (tree f kids next) marks = visit_field visit (head_kind f.kind) (visit_fields visit next) marks

-- A type: a record's fields in order, an alias's name; no other is empty.
unfoldable pub visit_type : (ℕ → List Mark → Visit) → Kind → Forest Node → List Mark → Visit
visit_type visit (PrimT p) kids marks = not_empty marks
visit_type visit (VarT m) kids marks = visit m marks
visit_type visit OptT kids marks = not_empty marks
visit_type visit VecT kids marks = not_empty marks
visit_type visit RecordT kids marks = visit_fields visit kids marks
visit_type visit VariantT kids marks = not_empty marks
visit_type visit (FuncT a ms) kids marks = not_empty marks
visit_type visit ServT kids marks = not_empty marks
visit_type visit ClassT kids marks = not_empty marks
visit_type visit InitT kids marks = not_empty marks

-- A name without definition is an error in the Rust. No checked book has one; here it is not empty.
unfoldable pub visit_found : (ℕ → List Mark → Visit) → Found → List Mark → Visit
visit_found visit missing marks = not_empty marks
visit_found visit (body end) marks = not_empty marks
visit_found visit (body (tree t kids next)) marks = visit_type visit t.kind kids marks

-- The answer is stored over whatever mark the name has by then. The Rust does so on both of its ways out.
unfoldable pub store : ℕ → Visit → Visit
store n v = record { empty = v.empty; marks = set v.marks n (answered v.empty) }

-- By the name's mark: a name met while it is visited is empty.
unfoldable pub visit_marked : (ℕ → List Mark → Visit) → ℕ → Found → Mark → List Mark → Visit
visit_marked visit n found unvisited marks = store n (visit_found visit found (set marks n visiting))
visit_marked visit n found visiting marks = store n (record { empty = true; marks = marks })
visit_marked visit n found (answered b) marks = record { empty = b; marks = marks }

-- Names are visited at most k deep. More than the number of unvisited names is deep enough.
unfoldable pub is_empty : List Definition → ℕ → ℕ → List Mark → Visit
is_empty ds zero n marks = not_empty marks
is_empty ds (suc k) n marks = visit_marked (is_empty ds k) n (find_type ds n) (get_or marks n unvisited) marks

-- ---- `replace_empty`

-- The names that have a definition, ascending: those among n, n + 1 and so on, k of them.
unfoldable pub keys_from : List Definition → ℕ → ℕ → List ℕ
keys_from ds n zero = []
keys_from ds n (suc k) = cond (is_missing (find_type ds n)) (keys_from ds (suc n) k) (n ∷ keys_from ds (suc n) k)

unfoldable pub visit_all : (ℕ → List Mark → Visit) → List ℕ → List Mark → List Mark
visit_all visit [] marks = marks
visit_all visit (n ∷ ns) marks = visit_all visit ns (visit n marks).marks

-- The names whose answer is that they are empty, ascending; the marks are those of n, n + 1 and so on.
unfoldable pub is_empty_mark : Mark → Bool
is_empty_mark unvisited = false
is_empty_mark visiting = false
is_empty_mark (answered b) = b

unfoldable pub empty_from : ℕ → List Mark → List ℕ
empty_from n [] = []
empty_from n (m ∷ ms) = cond (is_empty_mark m) (n ∷ empty_from (suc n) ms) (empty_from (suc n) ms)

-- `names` is the number of names.
unfoldable pub replace_empty : List Definition → ℕ → List ℕ
replace_empty ds names = empty_from 0 (visit_all (is_empty ds (suc names)) (keys_from ds 0 names) (replicate names unvisited))

-- ---- Document 01: a definition becomes empty exactly if a circle is reached from it by aliases and by record fields that are names

-- One step: a name's definition is the other name, or a record with a field that is.
pub data Steps (ds : List Definition) (n m : ℕ) : Type 0 where
  alias : {d : Definition} → Memᴰ d ds → d.name ≡ n → head d.body ≡ named m → Steps ds n m
  field : {d : Definition} {r f : Node} {kids lids next : Forest Node} →
      Memᴰ d ds → d.name ≡ n → d.body ≡ tree r kids next → r.kind ≡ RecordT → Beside f lids kids → f.kind ≡ VarT m → Steps ds n m

-- No step, or one and then others.
pub data StepsOn (ds : List Definition) : ℕ → ℕ → Type 0 where
  here : {n : ℕ} → StepsOn ds n n
  by : {n m k : ℕ} → Steps ds n m → StepsOn ds m k → StepsOn ds n k

-- One step or more lead from a name back to it.
pub record OnCircle (ds : List Definition) (n : ℕ) : Type 0 where
  pub next : ℕ
  pub step : Steps ds n next
  pub back : StepsOn ds next n

pub record BecomesEmpty (ds : List Definition) (n : ℕ) : Type 0 where
  pub name : ℕ
  pub reached : StepsOn ds n name
  pub circle : OnCircle ds name

-- ---- Where the two emptinesses agree

-- Request 4: definitions without variant and `empty`, whose record fields are names or primitives.
abbrev pub IsPrim : Node → Type 0
IsPrim f = (p : PrimType) × (f.kind ≡ PrimT p)

abbrev pub IsName : Node → Type 0
IsName f = (m : ℕ) × (f.kind ≡ VarT m)

pub record Plain (f : Forest Node) : Type 0 where
  pub no_variant : (n : Node) (kids : Forest Node) → Occurs n kids f → n.kind ≡ VariantT → ⊥
  pub no_empty : (n : Node) (kids : Forest Node) → Occurs n kids f → n.kind ≡ PrimT PrimType.Empty → ⊥
  pub fields : (r : Node) (kids : Forest Node) → Occurs r kids f → r.kind ≡ RecordT →
      (g : Node) (lids : Forest Node) → Beside g lids kids → IsName g ⊎ IsPrim g

-- Wider: a field that is no name fills whatever names stand for, as an opt, a vec, a function and a service do with anything within them.
abbrev pub NameOrFills : Node → Forest Node → Type 0
NameOrFills n kids = IsName n ⊎ Fills [] n.kind kids

pub data DecidedByNames : Forest Node → Type 0 where
  itself : {n : Node} {kids next : Forest Node} → NameOrFills n kids → DecidedByNames (tree n kids next)
  fields : {n : Node} {kids next : Forest Node} → n.kind ≡ RecordT →
      ((g : Node) (lids : Forest Node) → Beside g lids kids → NameOrFills g lids) → DecidedByNames (tree n kids next)

-- Widest: from each empty name a step leads to an empty name.
abbrev pub EmptyGoesOn : List Definition → Type 0
EmptyGoesOn ds = (n : ℕ) → Empty ds n → (m : ℕ) × Steps ds n m × Empty ds m
