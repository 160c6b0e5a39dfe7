-- `Contents::file` meets its contract: the tests of an entry and of its tree in the order of the code. Assumes nothing.
use mathlib.Core.Path.{sym, ◌∙◌}
use Rattle.book.proofs.Entries.{fine-tests, fine-fails, file-tests, file-rootless, file-none, file-elsewhere, file-init, file-next}
use Rattle.book.proofs.kinds.Contents.file.Goals.{then-e-n-via-then-e-n, then-e-n-via-else-e-n+then-not-init_fine}
use Rattle.book.proofs.kinds.Contents.file.Goals as goal

pub returns-then-not-file_fine-clause-finds : goal.returns-then-not-file_fine-clause-finds
returns-then-not-file_fine-clause-finds c = λ es l x. fine-fails c.file_fine.ensures c.if-not-file_fine.true (rw l at (file-tests _ _ _ _ es _ x))

pub returns-then-e-eq-NO_ROOT-clause-finds : goal.returns-then-e-eq-NO_ROOT-clause-finds
returns-then-e-eq-NO_ROOT-clause-finds c = (
  c.args.trees.whole,
  λ es l. file-rootless _ _ _ _ es _ (rw l (fine-tests c.file_fine.ensures c.if-not-file_fine.false)) c.if-e-eq-NO_ROOT.true,
)

pub returns-in_err-n-clause-finds : goal.returns-in_err-n-clause-finds
returns-in_err-n-clause-finds c = rw c.from_residual.ensures (file-none _ _ _ _ c.args.trees c.if-e-eq-NO_ROOT.false c.in_err-n.ensures.steps.0)

pub returns-then-e-n-clause-finds : goal.returns-then-e-n-clause-finds
returns-then-e-n-clause-finds c =
    let z = c.in_ok-n.ensures.steps in
    elim c.then-e-n.branch [
      | then-e-n-via-then-e-n w ↦ file-elsewhere _ _ _ _ c.args.trees c.if-e-eq-NO_ROOT.false z w.if-e-n.true
      | then-e-n-via-else-e-n+then-not-init_fine w ↦ file-init _ _ _ _ c.args.trees c.if-e-eq-NO_ROOT.false z (sym w.init_fine.ensures ∙ w.if-not-init_fine.true)
    ]

pub returns-clause-finds : goal.returns-clause-finds
returns-clause-finds c =
    file-next _ _ _ _ c.args.trees c.if-e-eq-NO_ROOT.false c.in_ok-n.ensures.steps (fine-tests c.file_fine.ensures c.if-not-file_fine.false) c.if-e-n.false
    (sym c.init_fine.ensures ∙ c.if-not-init_fine.false)
