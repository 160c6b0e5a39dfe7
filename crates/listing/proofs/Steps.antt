-- Steps from name to name, by which `BecomesEmpty` is defined. Assumes nothing.
--     found_names                  the names by which a definition goes on, in order
--     names-steps, steps-names    these are the steps
--     step-reference              a step is a reference
--     Acyclic, not-empty          where every way ends no circle is reached
--     empty-on, becomes-defined   where one is, a step leads on, and the name has a definition
use mathlib.Core.Path.{◌≡◌, refl, sym, ap, ◌∙◌}
use mathlib.Core.Logic.{◌⊎◌, inl, inr}
use mathlib.Core.List.Memᴰ
use mathlib.Core.List.{List, [], ◌∷◌, ◌++◌, map, Memᴰ}
use Prim.Native.Nat.{ℕ}
use Rattle.format.specs.Forest.{Forest, end, tree}
use Rattle.format.specs.Node.{Kind, PrimT, VarT, OptT, VecT, RecordT, VariantT, FuncT, ServT, ClassT, InitT, Node}
use Rattle.format.specs.Book.{Definition}
use Rattle.format.specs.References.{references}
use Rattle.judgement.specs.Environment.{Found, missing, body, find_type, Head, named, other, head_kind, head}
use Rattle.format.specs.Occurs.{below, Beside, first, later}
use Rattle.format.specs.Distinct.{Distinct}
use Rattle.judgement.specs.WellFormed.{defined_name, Defined}
use Rattle.listing.specs.ReplaceEmpty.{Steps, alias, field, StepsOn, here, by, OnCircle, BecomesEmpty}
use Rattle.judgement.proofs.Lookup.{find-body, find-named, listed-defined}
use Rattle.format.proofs.Occurs.{beside-occurs, occurs-reference}
use Rattle.judgement.proofs.Heads.{other-named, named-var, head-refers}

-- ---- The names by which a definition goes on
unfoldable pub head_names : Head → List ℕ
head_names other = []
head_names (named m) = m ∷ []

unfoldable pub field_names : Forest Node → List ℕ
field_names end = []
field_names (tree f kids next) = head_names (head_kind f.kind) ++ field_names next

unfoldable pub kind_names : Kind → Forest Node → List ℕ
kind_names (PrimT p) kids = []
kind_names (VarT m) kids = m ∷ []
kind_names OptT kids = []
kind_names VecT kids = []
kind_names RecordT kids = field_names kids
kind_names VariantT kids = []
kind_names (FuncT a ms) kids = []
kind_names ServT kids = []
kind_names ClassT kids = []
kind_names InitT kids = []

unfoldable pub found_names : Found → List ℕ
found_names missing = []
found_names (body end) = []
found_names (body (tree t kids next)) = kind_names t.kind kids

-- ---- These are the steps
head-in : (h : Head) {m : ℕ} → Memᴰ m (head_names h) → h ≡ named m
unfolding head_names
head-in other i = absurd (Memᴰ.not-nil i)
head-in (named n) i = ap named (sym (Memᴰ.eq_of_singleton i))

pub field-in : {m : ℕ} (kids : Forest Node) → Memᴰ m (field_names kids) → (f : Node) × (lids : Forest Node) × Beside f lids kids × (f.kind ≡ VarT m)
unfolding field_names
field-in end i = absurd (Memᴰ.not-nil i)
field-in {m} (tree f lids next) i = go (Memᴰ.append_cases (head_names (head_kind f.kind)) i) (field-in next)
  where
    go : Memᴰ m (head_names (head_kind f.kind)) ⊎ Memᴰ m (field_names next)
        → (Memᴰ m (field_names next) → (f : Node) × (lids : Forest Node) × Beside f lids next × (f.kind ≡ VarT m))
        → (g : Node) × (mids : Forest Node) × Beside g mids (tree f lids next) × (g.kind ≡ VarT m)
    go (inl j) ih = (f, lids, first, named-var f.kind (head-in (head_kind f.kind) j))
    go (inr j) ih = let r = ih j in (r.0, r.1, later r.2, r.3)

pub in-field : {m : ℕ} {f : Node} {lids kids : Forest Node} → Beside f lids kids → f.kind ≡ VarT m → Memᴰ m (field_names kids)
unfolding field_names head_names head_kind
in-field first e = rw e (Memᴰ.head refl)
in-field (later {m = g} b) e = Memᴰ.append_right (head_names (head_kind g.kind)) (in-field b e)

module _ (ds : List Definition) where
  kind-steps : {n m : ℕ} (d : Definition) {t : Node} {kids next : Forest Node} → Memᴰ d ds → d.name ≡ n → d.body ≡ tree t kids next
      → (k : Kind) → t.kind ≡ k → Memᴰ m (kind_names k kids) → Steps ds n m
  unfolding kind_names head head_kind
  kind-steps d i q e (PrimT p) h j = absurd (Memᴰ.not-nil j)
  kind-steps d i q e (VarT m) h j = alias i q (ap head e ∙ ap head_kind h ∙ ap named (sym (Memᴰ.eq_of_singleton j)))
  kind-steps d i q e OptT h j = absurd (Memᴰ.not-nil j)
  kind-steps d i q e VecT h j = absurd (Memᴰ.not-nil j)
  kind-steps d {kids = kids} i q e RecordT h j = let r = field-in kids j in field i q e h r.2 r.3
  kind-steps d i q e VariantT h j = absurd (Memᴰ.not-nil j)
  kind-steps d i q e (FuncT a ms) h j = absurd (Memᴰ.not-nil j)
  kind-steps d i q e ServT h j = absurd (Memᴰ.not-nil j)
  kind-steps d i q e ClassT h j = absurd (Memᴰ.not-nil j)
  kind-steps d i q e InitT h j = absurd (Memᴰ.not-nil j)

  pub names-steps : {n m : ℕ} → Memᴰ m (found_names (find_type ds n)) → Steps ds n m
  unfolding found_names
  names-steps {n} {m} i = go (find_type ds n) refl i
    where
      go : (t : Found) → find_type ds n ≡ t → Memᴰ m (found_names t) → Steps ds n m
      go missing e j = absurd (Memᴰ.not-nil j)
      go (body end) e j = absurd (Memᴰ.not-nil j)
      go (body (tree t kids next)) e j = let r = find-body ds n (tree t kids next) e in kind-steps r.definition r.listed r.of-name r.of-body t.kind refl j

  alias-names : (t : Forest Node) {m : ℕ} → head t ≡ named m → Memᴰ m (found_names (body t))
  unfolding head found_names kind_names
  alias-names end e = other-named refl e
  alias-names (tree t kids next) e = rw (named-var t.kind e) (Memᴰ.head refl)

  pub steps-names : Distinct (map defined_name ds) → {n m : ℕ} → Steps ds n m → Memᴰ m (found_names (find_type ds n))
  unfolding found_names kind_names
  steps-names u {n} (alias {d = d} i q e) = rw (find-named ds u d n i q) (alias-names d.body e)
  steps-names u {n} (field {d = d} i q e h b f) = rw (find-named ds u d n i q, e, h) (in-field b f)

-- ---- References

-- a step's definition, with the reference
pub step-reference : (ds : List Definition) {n m : ℕ} → Steps ds n m → (d : Definition) × Memᴰ d ds × (d.name ≡ n) × Memᴰ m (references d.body)
step-reference ds (alias {d = d} i q e) = (d, i, q, head-refers d.body e)
step-reference ds (field {d = d} i q e h b f) = (d, i, q, rw e (occurs-reference (below (beside-occurs b)) f))

-- ---- Ways, circles, and names from which every way ends

-- Each step from the name leads to another such name: no way goes on for ever.
pub data Acyclic (ds : List Definition) : ℕ → Type 0 where
  acyclic : {n : ℕ} → ((m : ℕ) → Steps ds n m → Acyclic ds m) → Acyclic ds n

-- One step or more.
abbrev pub Onward : List Definition → ℕ → ℕ → Type 0
Onward ds n k = (m : ℕ) × Steps ds n m × StepsOn ds m k

module _ {ds : List Definition} where
  then : {n m k : ℕ} → StepsOn ds n m → Steps ds m k → StepsOn ds n k
  then here s = by s here
  then (by t r) s = by t (then r s)

  pub onward : {n m k : ℕ} → StepsOn ds n m → Steps ds m k → Onward ds n k
  onward {k = k} here s = (k, s, here)
  onward (by {m = m} t r) s = (m, t, then r s)

  pub reaches : {n k : ℕ} → Onward ds n k → StepsOn ds n k
  reaches w = by w.1 w.2

  pub circle-of : {n : ℕ} → Onward ds n n → OnCircle ds n
  circle-of w = record { next = w.0; step = w.1; back = w.2 }

  pub on-circle : {n : ℕ} → OnCircle ds n → BecomesEmpty ds n
  on-circle {n} c = record { name = n; reached = here; circle = c }

  pub before-empty : {n m : ℕ} → Steps ds n m → BecomesEmpty ds m → BecomesEmpty ds n
  before-empty s e = record { name = e.name; reached = by s e.reached; circle = e.circle }

  no-circle : {n : ℕ} → Acyclic ds n → OnCircle ds n → ⊥
  no-circle (acyclic h) c = no-circle (h c.next c.step) (circle-of (onward c.back c.step))

  reached-circle : {n k : ℕ} → StepsOn ds n k → Acyclic ds n → OnCircle ds k → ⊥
  reached-circle here a c = no-circle a c
  reached-circle (by {m = m} s r) (acyclic h) c = reached-circle r (h m s) c

  pub not-empty : {n : ℕ} → Acyclic ds n → BecomesEmpty ds n → ⊥
  not-empty a e = reached-circle e.reached a e.circle

-- A step leads on to where the circle is reached from.
pub empty-on : {ds : List Definition} {n : ℕ} → BecomesEmpty ds n → (m : ℕ) × Steps ds n m × BecomesEmpty ds m
empty-on e = go e.reached e.circle
  where
    go : {ds : List Definition} {n k : ℕ} → StepsOn ds n k → OnCircle ds k → (m : ℕ) × Steps ds n m × BecomesEmpty ds m
    go {k = k} here c = (c.next, c.step, record { name = k; reached = c.back; circle = c })
    go {k = k} (by {m = m} s r) c = (m, s, record { name = k; reached = r; circle = c })

pub becomes-defined : (ds : List Definition) {n : ℕ} → BecomesEmpty ds n → Defined ds n
becomes-defined ds e = let r = step-reference ds (empty-on e).1 in listed-defined r.1 r.2
