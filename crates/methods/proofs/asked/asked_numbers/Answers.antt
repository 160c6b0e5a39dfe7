-- `asked_numbers` meets its contract: one name after another. Assumes nothing.
use Rattle.std.proofs.Common.{◌≡◌, ◌<◌, ℕ, List, [], length, get_or, arith, sym, ap, ◌∙◌}
use Rattle.format.specs.Layout.{read}
use Rattle.methods.specs.Asked.{ended, is_among}
use Rattle.methods.proofs.Named.{numbered-none, numbered-step, numbered-all, names-count, names-few, name-is}
use Rattle.methods.proofs.asked.asked_numbers.Goals.{then-is_asked, else-is_asked}
use Rattle.methods.proofs.asked.asked_numbers.Goals as goal

pub loop-n-init : goal.loop-n-init
loop-n-init c = rw c.new-numbers.ensures (numbered-none _ _)

pub push-requires : goal.push-requires
push-requires c =
    (omega arith, omega (arith, c.loop-n.invariant.few, c.loop-n-test.true, names-few c.args.names.now.book.bytes.now c.args.names.now.book.laid))

pub loop-n-preserved : goal.loop-n-preserved
loop-n-preserved c =
    let bs = c.args.names.now.book.bytes.now in
    let laid = c.args.names.now.book.laid in
    let here : c.loop-n.n < length (read bs).names = omega (arith, names-count bs laid, c.loop-n-test.true) in
    let same : is_among (get_or (read bs).names c.loop-n.n []) (ended c.args.asked.now) ≡ c.is_asked.result =
    ap (λ (name : List ℕ). is_among name (ended c.args.asked.now)) (sym (c.name.ensures ∙ name-is bs laid c.loop-n.n)) ∙ sym c.is_asked.ensures in
    numbered-step _ c.loop-n.invariant here same (elim c.if-is_asked.branch [
      | then-is_asked w ↦ rw (w.numbers-is, w.if-is_asked.true) w.push.ensures.items
      | else-is_asked w ↦ rw (w.numbers-is, w.if-is_asked.false)
    ])

pub returns : goal.returns
returns c =
    let bs = c.args.names.now.book.bytes.now in
    numbered-all _ c.loop-n.invariant (omega (arith, names-count bs c.args.names.now.book.laid, c.loop-n-test.false, c.loop-n.auto.n-end))
