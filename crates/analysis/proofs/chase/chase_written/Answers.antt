-- `chase_written` meets its contract. Assumes nothing.
use mathlib.Core.Path.{ap}
use Rattle.format.specs.Encode.{Row}
use Rattle.analysis.proofs.BookNodes.{rooted, here-readable}
use Rattle.analysis.proofs.chase.chase_written.Goals as goal

pub chase_types-requires : goal.chase_types-requires
chase_types-requires c =
    let r = here-readable (rooted c.args.book) c.requires.0 (ap (λ (q : Row). q.size) c.at-t.ensures) in
    (r.whole, r.inside, c.requires.1)
