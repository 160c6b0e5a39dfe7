-- What the walks over stored types ask and say. Definitions; assumes nothing.
use Rattle.std.specs.Prelude.{◌≡◌, Bool, false, not, ◌&&◌, List, ℕ, ◌+◌, ◌/◌, ◌%◌, eqb}
use Rattle.format.specs.Forest.{breadth}
use Rattle.format.specs.Book.{Definition}
use Rattle.format.specs.Layout.{row_at, siblings, node_of, modes_of}
use Rattle.format.specs.Whole.{Within, tree_at}
use Rattle.refusals.specs.declared.Refusal as refusal
use Rattle.refusals.specs.Verdict.{Verdict, unless}
use Rattle.judgement.specs.Environment.{is_serv_kind}
use Rattle.judgement.specs.Aliases.{as_func}
use Rattle.judgement.specs.Check.{kind_verdict, modes_verdict, check_forest}
use Rattle.environment.specs.Tables.{Binds, end_is}

-- The tables are those of the definitions; that of alias ends is asked only where methods are tested.
pub record Env (ns roots ends' : List ℕ) (pre : Bool) (ds : List Definition) : Type 0 where
  pub binds : Binds ns roots ds
  pub func : pre ≡ false → (n : ℕ) → Within ns (n + 1) → end_is 23 ns ends' n ≡ as_func ds (tree_at ns n)

-- A name by its entry in the table of roots.
unfoldable pub bound_verdict : ℕ → ℕ → Verdict
bound_verdict n root = unless (not (eqb root 65535)) (refusal.Refusal.Unbound n)

-- A function's modes, by its value.
unfoldable pub value_verdict : ℕ → ℕ → Verdict
value_verdict value kids = modes_verdict (value % 65536) (modes_of 8 (value / 65536)) kids

-- A node, all below it included.
unfoldable pub type_verdict : Bool → List Definition → List ℕ → ℕ → Verdict
type_verdict pre ds ns n =
    let kind = (node_of (row_at ns n)).kind in
    let kids = siblings ns (n + 1) (n + (row_at ns n).size) in
    kind_verdict ds kind (breadth kids) (check_forest pre (not pre && is_serv_kind kind) ds kids)
