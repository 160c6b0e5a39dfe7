-- What the table's equation computes by, said once: to unfold one of these is to unfold all that its `unfolding` line names.
-- Assumes nothing.
use mathlib.Core.List.{List}
use Prim.Native.Nat.{ℕ}
use Rattle.labels.specs.Number.{weighted_sum, label_number}
use Rattle.format.specs.Forest.{beside}
use Rattle.format.specs.Book.{Book}
use Rattle.format.specs.Layout.{name_in}
use Rattle.judgement.specs.Environment.{same_kind, same_forest}
use Rattle.judgement.specs.Aliases.{methods_at}
use Rattle.format.specs.Labels.{label_id, same_label}
use Rattle.judgement.specs.Resolve.{methods_of, imported_methods, merged_actor}
use Rattle.judgement.specs.Check.{service_verdict, imported_verdict, hashes_verdict, main_verdict, check_bytes, init_check_bytes}
use Rattle.listing.specs.Recursive.{note, note_name, mark_arm, go, see, listed, infer_from, infer_rec, sorted}
use Rattle.listing.specs.Project.{without, take', project_from, lowest, left_over, projected, project}
use Rattle.refusals.specs.Verdict.{Verdict}
use Rattle.refusals.specs.Outcome.{Outcome, after, asked, judged}
use Rattle.listing.specs.Marks.{marked, marks_over}
use Rattle.format.specs.Within.{within}
use Rattle.format.specs.Repeats.{spelling, has_labels, is_among, first_repeat, labels_verdict}
use Rattle.format.specs.Admission.{admitted_by, admitted}
use Rattle.listing.proofs.Empty.{empty-computed}
use Rattle.listing.proofs.Examples.{init-listed}
use Rattle.samples.proofs.Computed.{layout-computed, samples-computed}
use Rattle.examples.specs.Answer.{Question, Answer, refused_as, of_verdict, of_outcome, spelt, list_marks, answer}
use Rattle.examples.specs.Table.{Example, examples}

-- The marks over a list, by every definition of the check and of both kinds of list besides.
unfoldable pub marks-computed : Book → List ℕ → Outcome (List ℕ)
unfolding init-listed beside note note_name mark_arm go see listed infer_from infer_rec sorted marked marks_over
marks-computed = marks_over

-- Repeated labels.
unfoldable pub labels-computed : Book → Verdict
unfolding layout-computed weighted_sum label_number label_id same_label spelling has_labels is_among first_repeat labels_verdict
labels-computed = labels_verdict

-- The answers, by every definition of the format, the check and the questions.
unfoldable pub answer-computed : Question → List ℕ → Answer
unfolding
    labels-computed name_in marks-computed
    methods_at same_kind same_forest
    methods_of imported_methods merged_actor
    service_verdict imported_verdict hashes_verdict main_verdict check_bytes init_check_bytes
    empty-computed without take' project_from lowest left_over projected project within admitted_by admitted after asked judged
    refused_as of_verdict of_outcome spelt list_marks answer
answer-computed = answer

-- The table, by the bytes in it.
unfoldable pub examples-computed : List Example
unfolding samples-computed examples
examples-computed = examples
