-- `labels::idl_hash` meets its contract: each byte's turn is that of the fold in specs/Number.antt. Assumes nothing.
use Rattle.std.proofs.Common.{◌≡◌, ◌+◌, ◌*◌, ◌%◌, ◌^◌, ◌∙◌, rules}
use Rattle.std.specs.List.{fold}
use native.Mathlib.Nat.{mod-add-mod}
use Rattle.labels.specs.Number.{fold_from, label_fold}
use Rattle.labels.proofs.Laws.{label_fold-label_number}
use Rattle.labels.proofs.idl_hash.Goals as goal

pub returns : goal.returns
unfolding label_fold fold_from
returns c =
    let turns : c.fold.result ≡ fold (λ s b. ((s * 223) % 2 ^ 32 + b) % 2 ^ 32) 0 c.args.id.now = search rules in
    turns ∙ simp mod-add-mod (label_fold-label_number c.args.id.now)
