-- The positions of the methods whose functions pass a test of types. Definitions; assumes nothing.
use Rattle.std.specs.Prelude.{Bool, false, cond, ◌&&◌, List, [], ◌∷◌, ℕ, suc}
use Rattle.format.specs.Forest.{Forest, end, tree}
use Rattle.format.specs.Node.{Node}
use Rattle.format.specs.Book.{Definition}
use Rattle.judgement.specs.Environment.{is_func_kind}
use Rattle.judgement.specs.Aliases.{End, unbound, circle, ends, alias_end}
use Rattle.analysis.specs.Entries.{Test}

-- Whether a function stands at a chain's end, and passes the test with all that is in it: its arguments and results.
unfoldable pub end_passes : Test → End → Bool
end_passes used (unbound n) = false
end_passes used circle = false
end_passes used (ends end) = false
end_passes used (ends (tree n kids next)) = is_func_kind n.kind && used (tree n kids end)

-- The positions of the methods whose chains end so, the first of these having position m.
unfoldable pub positions_by : Test → List Definition → ℕ → Forest Node → List ℕ
positions_by used ds m end = []
positions_by used ds m (tree n kids next) =
    let rest = positions_by used ds (suc m) next in
    cond (end_passes used (alias_end ds (tree n kids end))) (m ∷ rest) rest
