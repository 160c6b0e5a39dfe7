-- `Comparison::same_roots` meets its contract. Assumes nothing.
use mathlib.Core.Path.{ap, ◌∙◌}
use Rattle.std.specs.Prelude.{is_some}
use Rattle.environment.proofs.Links.{unrooted}
use Rattle.environment.proofs.merge.Lockstep.{all-same}
use Rattle.environment.proofs.merge.Tables.{first-none, second-none, first-whole, second-whole, roots-same}
use Rattle.environment.proofs.merge.Comparison.same_roots.Goals as goal

pub returns-in_default : goal.returns-in_default
returns-in_default c = λ names agree. let some = c.in_default.ensures.some in second-none names _ _ _ (λ e. some.1 (some.0 ∙ e)) c.in_default.ensures'.none

pub returns-in_default-2 : goal.returns-in_default-2
returns-in_default-2 c = λ names agree. first-none names _ _ _ (unrooted c.root_of.result c.root_of.ensures.none (ap is_some c.in_default.is-0))

pub new-first-requires : goal.new-first-requires
new-first-requires c = first-whole c.requires c.in-Some-Some.ensures.some c.in-Some-Some.ensures'.some _ _ c.at-t.ensures c.at-u.ensures

pub new-second-requires : goal.new-second-requires
new-second-requires c = second-whole c.requires c.in-Some-Some.ensures.some c.in-Some-Some.ensures'.some _ _ c.at-t.ensures c.at-u.ensures

pub returns : goal.returns
returns c =
    roots-same c.requires c.in-Some-Some.ensures.some c.in-Some-Some.ensures'.some _ _ c.at-t.ensures c.at-u.ensures _
    (all-same c.new-first.ensures.over c.new-first.ensures.at c.new-second.ensures.over c.new-second.ensures.at _ _ c.same_trees.ensures)
