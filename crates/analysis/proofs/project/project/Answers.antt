-- `project` meets its contract. Assumes nothing.
use mathlib.Core.Path.{sym, ◌∙◌}
use Rattle.analysis.proofs.project.Laws.{asked-by, project-absent, project-short, project-given}
use Rattle.analysis.proofs.project.project.Goals as goal

pub project_methods-taken-requires : goal.project_methods-taken-requires
project_methods-taken-requires c = (c.requires, asked-by _ _ c.count_asked-asked.ensures c.lowest_far-far.ensures)

pub project_methods-requires : goal.project_methods-requires
project_methods-requires c = (c.requires, asked-by _ _ c.count_asked-asked.ensures c.lowest_far-far.ensures)

pub returns-in-Some : goal.returns-in-Some
returns-in-Some c =
    project-absent _ _ _ _ c.count_asked-asked.ensures c.lowest_far-far.ensures c.project_methods-taken.ensures _ c.first_left.ensures _ (sym c.or.ensures ∙ c.in-Some.is)

pub returns-then-out-taken : goal.returns-then-out-taken
returns-then-out-taken c =
    project-short _ _ _ _ c.count_asked-asked.ensures c.lowest_far-far.ensures c.project_methods-taken.ensures _ c.first_left.ensures _ (sym c.or.ensures ∙ c.in_default.is) c.if-out-taken.true

pub returns : goal.returns
returns c =
    project-given _ _ _ _ c.count_asked-asked.ensures c.lowest_far-far.ensures c.project_methods-taken.ensures _ c.first_left.ensures _ (sym c.or.ensures ∙ c.in_default.is) c.if-out-taken.false c.project_methods.ensures
