-- Where the child of a number stands, from sibling to sibling by their sizes: as many nodes on as the siblings before it have. Of the walk over
-- siblings book's `nth-some` says the same. Assumes nothing.
use mathlib.Core.Path.{◌≡◌, sym, ap, ◌∙◌}
use mathlib.Core.List.{List}
use Prim.Native.Nat.{ℕ, zero, suc, ◌+◌, ◌<◌}
use native.Mathlib.Omega.{arith}
use native.Mathlib.Nat.{add-zero}
use Rattle.format.specs.Forest.{breadth}
use Rattle.format.specs.Layout.{row_at, siblings}
use Rattle.format.specs.Whole.{Whole}
use Rattle.format.proofs.Trees.{breadth-count}
use Rattle.format.proofs.Rows.{Opened, opens, siblings-opens, count-siblings}
use Rattle.format.proofs.Numbered.{nodes_before}

-- The node of the sibling d places after that at node i.
pub child_at : List ℕ → ℕ → ℕ → ℕ
child_at ns i zero = i
child_at ns i (suc d) = child_at ns (i + (row_at ns i).size) d

-- A sibling is there.
opened : {ns : List ℕ} {i e d : ℕ} → Whole ns i e → d < breadth (siblings ns i e) → Opened ns i e
opened {ns} {i} {e} w h = opens w (omega (arith, breadth-count (siblings ns i e), count-siblings ns i e))

others : {ns : List ℕ} {i e d : ℕ} → Opened ns i e → suc d < breadth (siblings ns i e) → d < breadth (siblings ns (i + (row_at ns i).size) e)
unfolding breadth
others {ns} {i} {e} o h = omega (arith, ap breadth (siblings-opens o))

pub child-is : {ns : List ℕ} {i e : ℕ} → Whole ns i e → (d : ℕ) → d < breadth (siblings ns i e) → child_at ns i d ≡ i + nodes_before d (siblings ns i e)
unfolding child_at nodes_before
child-is {i = i} w zero h = sym (add-zero i)
child-is {ns} {i} {e} w (suc d) h =
    let o = opened w h in
    rw (siblings-opens o)
    (child-is {i = i + (row_at ns i).size} o.rest d (others o h) ∙ omega (arith, o.here.one, count-siblings ns (i + 1) (i + (row_at ns i).size)))
