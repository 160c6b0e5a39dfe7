-- A type by its row: what stands below it, and its verdict by its kind. Assumes nothing.
--     kids-in                               the trees below a node of the book
--     at-prim, at-var, at-class, kids-..    the verdict
use mathlib.Core.Path.{◌≡◌, refl, sym, ap, subst, ◌∙◌}
use mathlib.Core.Bool.{Bool, true, not, ◌&&◌, and-true}
use mathlib.Core.List.{List, [], ◌∷◌}
use Prim.Native.Nat.{ℕ, zero, suc, ◌+◌, ◌/◌, ◌%◌, ◌≤◌, ◌<◌}
use native.Mathlib.Decide.{ℕ_discrete}
use native.Mathlib.Omega.{arith}
use borrow.Author.Tests.{ne_eqb}
use lib.Dec.{T, eqb}
use lib.ListN.{length, get_or, get_or-append}
use Rattle.std.specs.Prelude.{Ok, Err}
use Rattle.format.specs.declared.Place.{Place}
use Rattle.format.specs.declared.Place.TheVariants.{Method}
use Rattle.format.specs.Forest.{Forest, breadth}
use Rattle.format.specs.Node.{PrimType, Kind, PrimT, VarT, OptT, VecT, RecordT, VariantT, FuncT, ServT, ClassT, InitT, Node}
use Rattle.format.specs.Book.{Definition}
use Rattle.format.specs.Encode.{Row}
use Rattle.format.specs.Fits.{place_below, forest_fits}
use Rattle.format.specs.Layout.{row_at, siblings, modes_of, kinds, kind_of, node_of}
use Rattle.format.proofs.Rows.{kids-whole}
use Rattle.format.proofs.Stored.{tree-whole}
use Rattle.refusals.specs.declared.Refusal.{Refusal}
use Rattle.refusals.specs.declared.Refusal.TheVariants.{Unbound, Class}
use Rattle.refusals.specs.Verdict.{Verdict, passes, and_then, unless}
use Rattle.refusals.specs.Handed.{Answer}
use Rattle.judgement.specs.Environment.{is_serv_kind}
use Rattle.judgement.specs.Check.{name_verdict, kind_verdict, check_forest}
use Rattle.environment.specs.Tables.{found_at, Binds}
use Rattle.environment.specs.Trees.{Trees}
use Rattle.environment.proofs.FuncEnds.{serv-kind}
use Rattle.environment.proofs.Trees.{fit-parts, node-fits}
use Rattle.typing.specs.declared.types.Walk.{Walk}
use Rattle.typing.specs.Walk.{bound_verdict, value_verdict, type_verdict}
use Rattle.typing.specs.Types.{ends_of, TreesIn, so_many}
use Rattle.typing.proofs.Walk.{table-ended, many-stops, many-pass}

-- ---- a node of the book
below-service : (r : Row) → r.kind ≡ 24 → place_below (node_of r).kind ≡ Method
unfolding place_below node_of kind_of kinds
below-service r k = rw k

module _ {w : Walk} {n : ℕ} (h : n < w.env.scope.nodes) where
  -- what stands below it
  pub kids-in : (methods : Bool) → (methods ≡ true → (row_at w.env.scope.rows.now n).kind ≡ 24) → TreesIn w methods (n + 1) (n + (row_at w.env.scope.rows.now n).size)
  kids-in methods k =
      record {
        whole = kids-whole (w.env.trees.nodes.tree n h).whole;
        inside = (w.env.trees.nodes.tree n h).ends;
        methods_are = λ m.
            let f = node-fits w.env.trees w.env.scope.bound (table-ended w.env.scope.nodes w.ends w.ended) h in
            let t : Trees w.env.scope.rows.now w.env.scope.roots.now (ends_of w.ends) n (n + (row_at w.env.scope.rows.now n).size) = record {
              count = w.env.scope.nodes;
              place = f.0;
              walk = record { names = w.env.scope.names; nodes = w.env.trees.nodes; bound = w.env.scope.bound; ended = table-ended w.env.scope.nodes w.ends w.ended };
              whole = tree-whole (w.env.trees.nodes.tree n h).whole;
              inside = (w.env.trees.nodes.tree n h).ends;
              fits = f.1;
            } in
            let some : n < n + (row_at w.env.scope.rows.now n).size = omega (arith, (w.env.trees.nodes.tree n h).whole.one) in
            subst (λ (p : Place). T (forest_fits w.env.scope.names p (siblings w.env.scope.rows.now (n + 1) (n + (row_at w.env.scope.rows.now n).size)))) (below-service (row_at w.env.scope.rows.now n) (k m)) (fit-parts t some).0.1;
      }

pub kind-few : (w : Walk) {n : ℕ} → n < w.env.scope.nodes → {r : Row} → r ≡ row_at w.env.scope.rows.now n → r.kind < 27
kind-few w h is = rw is (w.env.trees.nodes.row _ h).kind

-- ---- kinds 0 to 17
abbrev prims : List Kind
prims =
    PrimT PrimType.Null ∷ PrimT PrimType.Bool ∷ PrimT PrimType.Nat ∷ PrimT PrimType.Int
    ∷ PrimT PrimType.Nat8 ∷ PrimT PrimType.Nat16 ∷ PrimT PrimType.Nat32 ∷ PrimT PrimType.Nat64
    ∷ PrimT PrimType.Int8 ∷ PrimT PrimType.Int16 ∷ PrimT PrimType.Int32 ∷ PrimT PrimType.Int64
    ∷ PrimT PrimType.Float32 ∷ PrimT PrimType.Float64 ∷ PrimT PrimType.Text ∷ PrimT PrimType.Reserved
    ∷ PrimT PrimType.Empty ∷ PrimT PrimType.Principal ∷ []

abbrev AllPrim : List Kind → Type 0
AllPrim [] = Unit {0}
AllPrim (k ∷ l) = ((p : PrimType) × (k ≡ PrimT p)) × AllPrim l

prim-at : (l : List Kind) (d : Kind) → AllPrim l → (k : ℕ) → k < length l → (p : PrimType) × (get_or l k d ≡ PrimT p)
prim-at [] d a k h = absurd (omega arith)
prim-at (x ∷ l) d a zero h = a.0
prim-at (x ∷ l) d a (suc k) h = prim-at l d a.1 k (omega arith)

prims-are : AllPrim prims
prims-are = (
  (_, refl),
  ((_, refl), ((_, refl), ((_, refl), ((_, refl), ((_, refl), ((_, refl), ((_, refl), ((_, refl), ((_, refl), ((_, refl), ((_, refl), ((_, refl), ((_, refl), ((_, refl), ((_, refl), ((_, refl), ((_, refl), tt))))))))))))))))),
)

kind-prim : (k v : ℕ) → k < 18 → (p : PrimType) × (kind_of k v ≡ PrimT p)
unfolding kind_of kinds
kind-prim k v h =
    let q = prim-at prims InitT prims-are k h in
    (q.0, get_or-append prims (VarT v ∷ OptT ∷ VecT ∷ RecordT ∷ VariantT ∷ FuncT (v % 65536) (modes_of 8 (v / 65536)) ∷ ServT ∷ ClassT ∷ []) InitT k h ∙ q.1)

-- ---- a name by its root
bound-as : (ns : List ℕ) (n root : ℕ) → unless (not (eqb root 65535)) (Unbound n) ≡ name_verdict n (found_at ns root)
unfolding name_verdict found_at
bound-as ns n root = go (ℕ_discrete root 65535)
  where
    go : Dec (root ≡ 65535) → unless (not (eqb root 65535)) (Unbound n) ≡ name_verdict n (found_at ns root)
    go (yes e) = rw e
    go (no h) = rw (ne_eqb root 65535 h)

-- ---- a kind that is none of those before
past : (k m : ℕ) → m ≤ k → (k ≡ m → ⊥) → m + 1 ≤ k
past k m h n = omega arith

only : (k m : ℕ) → m ≤ k → k < m + 1 → k ≡ m
only k m h n = omega arith

other-kind : (k : ℕ) → k < 27 → 18 ≤ k → (k ≡ 18 → ⊥) → (k ≡ 25 → ⊥) → (k ≡ 23 → ⊥) →
    (P : ℕ → Type 0) → P 19 → P 20 → P 21 → P 22 → P 24 → P 26 → P k
other-kind k a b c f d P p q r s u t = go (ℕ_discrete k 19) (ℕ_discrete k 20) (ℕ_discrete k 21) (ℕ_discrete k 22) (ℕ_discrete k 24)
  where
    go : Dec (k ≡ 19) → Dec (k ≡ 20) → Dec (k ≡ 21) → Dec (k ≡ 22) → Dec (k ≡ 24) → P k
    go (yes x) y z w v = rw x p
    go (no x) (yes y) z w v = rw y q
    go (no x) (no y) (yes z) w v = rw z r
    go (no x) (no y) (no z) (yes w) v = rw w s
    go (no x) (no y) (no z) (no w) (yes v) = rw v u
    go (no x) (no y) (no z) (no w) (no v) =
        rw (only k 26 (past k 25 (past k 24 (past k 23 (past k 22 (past k 21 (past k 20 (past k 19 (past k 18 b c) x) y) z) w) d) v) f) a) t

-- ---- a node by its kind
module _ (pre : Bool) (ds : List Definition) (ns : List ℕ) (n : ℕ) (r : Row) (is : r ≡ row_at ns n) where
  abbrev kids : Forest Node
  kids = siblings ns (n + 1) (n + r.size)

  pub at-prim : r.kind < 18 → passes ≡ type_verdict pre ds ns n
  unfolding type_verdict kind_verdict node_of
  at-prim h = let q = kind-prim r.kind r.value h in rw (← is, q.1)

  pub at-var : (roots : List ℕ) → Binds ns roots ds → r.kind ≡ 18 → bound_verdict r.value (get_or roots r.value 65535) ≡ type_verdict pre ds ns n
  unfolding type_verdict kind_verdict node_of kind_of kinds bound_verdict
  at-var roots b k = rw (← is, k, b r.value) (bound-as ns r.value (get_or roots r.value 65535))

  pub at-class : r.kind ≡ 25 → Err Class ≡ type_verdict pre ds ns n
  unfolding type_verdict kind_verdict node_of kind_of kinds
  at-class k = rw (← is, k)

  -- the verdict of what stands below the node
  abbrev below : Verdict
  below = check_forest pre (not pre && eqb r.kind 24) ds kids

  pub at-service : r.kind ≡ 24 → check_forest pre (not pre) ds kids ≡ type_verdict pre ds ns n
  unfolding type_verdict kind_verdict node_of kind_of kinds is_serv_kind
  at-service k = rw (← is, k, and-true (not pre))

  at-func : r.kind ≡ 23 → and_then below (value_verdict r.value (breadth kids)) ≡ type_verdict pre ds ns n
  unfolding type_verdict kind_verdict node_of kind_of kinds value_verdict is_serv_kind
  at-func k = rw (← is, k)

  module _ (a : r.kind < 27) (b : 18 ≤ r.kind) (c : r.kind ≡ 18 → ⊥) (f : r.kind ≡ 25 → ⊥) where
    at-fields : (r.kind ≡ 23 → ⊥) → below ≡ type_verdict pre ds ns n
    unfolding type_verdict kind_verdict node_of kind_of kinds
    at-fields d =
        rw (← is, serv-kind r.kind r.value)
        (other-kind r.kind a b c f d (λ (k : ℕ). below ≡ kind_verdict ds (kind_of k r.value) (breadth kids) below) refl refl refl refl refl refl)

    module _ {v : Answer} (said : v ≡ so_many below (breadth kids)) where
      pub kids-stop : {e : Refusal} → v ≡ Err e → Err e ≡ type_verdict pre ds ns n
      kids-stop {e} q = go (ℕ_discrete r.kind 23)
        where
          z : below ≡ Err e
          z = many-stops below _ (sym said ∙ q)

          go : Dec (r.kind ≡ 23) → Err e ≡ type_verdict pre ds ns n
          go (yes k) = rw z at (at-func k)
          go (no k) = sym z ∙ at-fields k

      pub kids-modes : {k : ℕ} → v ≡ Ok k → r.kind ≡ 23 → {m : Verdict} → m ≡ value_verdict r.value k → m ≡ type_verdict pre ds ns n
      kids-modes q h p = let z = many-pass below _ (sym said ∙ q) in p ∙ ap (value_verdict r.value) (sym z.1) ∙ (rw z.0 at (at-func h))

      pub kids-end : {k : ℕ} → v ≡ Ok k → (r.kind ≡ 23 → ⊥) → passes ≡ type_verdict pre ds ns n
      kids-end q h = sym (many-pass below _ (sym said ∙ q)).0 ∙ at-fields h
