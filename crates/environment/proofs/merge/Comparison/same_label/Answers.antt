-- `Comparison::same_label` meets its contract: a return for each place. Assumes nothing.
use mathlib.Core.Path.{ap, ap₂, ◌∙◌}
use mathlib.Core.Logic.{inl, inr}
use lib.Dec.{eqb}
use Rattle.labels.specs.Label.{id_by}
use Rattle.format.specs.Node.{label_value}
use Rattle.format.specs.Labels.{same_label}
use Rattle.environment.proofs.merge.Labels.{id-by}
use Rattle.environment.proofs.merge.Comparison.same_label.Goals as goal

pub returns-in-Root : goal.returns-in-Root
unfolding same_label
returns-in-Root c = λ names a. elim c.in-Root.is [ inl e ↦ rw e | inr e ↦ rw e ]

pub returns-in-Field : goal.returns-in-Field
unfolding same_label
returns-in-Field c = λ names agree.
    let a = c.args in
    let first = ap (id_by a.a) c.hash_of.ensures ∙ id-by a.self.hashes.now names agree a.a in
    let second = ap (id_by a.b) c.hash_of-in-Field.ensures ∙ id-by a.self.hashes.now names agree a.b in
    rw c.in-Field.is (c.same.ensures ∙ ap₂ eqb first second)

pub returns-in-Method : goal.returns-in-Method
unfolding same_label label_value
returns-in-Method c = λ names agree. rw c.in-Method.is (ap₂ eqb c.value.ensures c.value-in-Method.ensures)
