-- `tables::name_places` meets its contract: a name begins where those before it end. Assumes nothing.
use Rattle.std.proofs.Common.{arith, ap, ◌∙◌, length}
use Rattle.book.specs.Tables.{zero_table}
use Rattle.format.specs.Layout.{names_of, names_part}
use Rattle.book.specs.Walks.{names_left}
use Rattle.book.proofs.Blank.{filling-start, filling-here, filling-name, filling-on}
use Rattle.book.proofs.Named.{book-of}
use Rattle.book.proofs.Placed.{names-in, place-small, start-none, start-on, place-fits, places-end}
use Rattle.book.proofs.tables.name_places.Goals as goal

pub loop-n-init : goal.loop-n-init
unfolding zero_table
loop-n-init c =
    let e = c.into_iter-n-iterator.ensures.into_iter_gives in
    let s = c.enumerate-n-items.ensures in
    let f = names-in (book-of _ _ c.args.book.laid) in
    rw (e, s.count) (record { filling = filling-start (omega (arith, f.counted, f.few)) (ap names_left s.source ∙ ap (λ l. names_of (length l) l) c.names.ensures); at = start-none (names_of (length (names_part c.args.book.bytes.now)) (names_part c.args.book.bytes.now)) })

pub overflow_cast-places : goal.overflow_cast-places
overflow_cast-places c =
    let i = c.loop-n.invariant in
    omega (arith, i.at, place-small (book-of _ _ c.args.book.laid) _ (filling-here i.filling c.in-Some.ensures.steps.0))

pub overflow_add-at-in-loop-n : goal.overflow_add-at-in-loop-n
overflow_add-at-in-loop-n c =
    let i = c.loop-n.invariant in
    let z = c.in-Some.ensures.steps.0 in
    let h = filling-here i.filling z in
    omega (arith, i.at, place-fits (book-of _ _ c.args.book.laid) _ h, ap length (filling-name i.filling z))

pub loop-n-preserved : goal.loop-n-preserved
loop-n-preserved c =
    let i = c.loop-n.invariant in
    let s = c.in-Some.ensures.steps in
    let f = i.filling in
    rw (s.1, s.2)
    (record { filling = filling-on f s.0 c.loop-n.at i.at; at = omega (arith, i.at, start-on _ _ (filling-here f s.0), ap length (filling-name f s.0)) })

pub returns : goal.returns
returns c = places-end (book-of _ _ c.args.book.laid) c.loop-n.invariant.filling c.in-None.ensures.steps.0.0
