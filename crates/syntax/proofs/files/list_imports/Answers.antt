-- `files::list_imports` meets its contract: the files that are left give the verdict. Assumes nothing.
use mathlib.Core.Path.{◌≡◌, sym, ap, ◌∙◌}
use mathlib.Core.Bool.{true}
use native.Mathlib.Omega.{arith}
use Rattle.std.proofs.Common.{None, Err, is_some, rules, tests}
use Rattle.refusals.specs.declared.Refusal.TheVariants.{ImportWithoutActor}
use Rattle.book.proofs.Named.{book-of}
use Rattle.book.proofs.Walking.{entry-left, entry-is, entry-next, entry-last}
use Rattle.syntax.proofs.Book.{files-held, file-table}
use Rattle.syntax.proofs.files.Laws.{imports-start, imports-end, imports-stop, imports-room, imports-on, imports-over, root-none, root-some}
use Rattle.syntax.proofs.files.list_imports.Goals as goal

pub new-requires : goal.new-requires
new-requires c = rw c.files.ensures (files-held (book-of _ _ c.args.book.laid))

pub loop-f-init : goal.loop-f-init
loop-f-init c =
    let n = c.new.ensures in
    rw (c.into_iter-f-iterator.ensures.into_iter_gives, c.enumerate-f-items.ensures.source, c.enumerate-f-items.ensures.count, c.new-imports.ensures)
    (record { walk = rw c.files.ensures at n.over; count = sym n.at; left = rw n.at (imports-start (file-table (book-of _ _ c.args.book.laid))) })

pub returns-in_err-ok_or : goal.returns-in_err-ok_or
returns-in_err-ok_or c =
    let i = c.loop-f.invariant in
    let x = c.in-Some.ensures.steps.0 in
    let none : c.tree.result ≡ None = search (rules, tests) in
    let q : c.from_residual.result ≡ Err (ImportWithoutActor c.in-Some.e.name) = search (rules, tests) in
    rw q
    (imports-stop (file-table (book-of _ _ c.args.book.laid)) i.left (entry-left i.walk x) _ (entry-is i.walk x) c.if-e.true (root-none (ap is_some (sym c.tree.ensures ∙ none))))

pub overflow_cast-f : goal.overflow_cast-f
overflow_cast-f c =
    let i = c.loop-f.invariant in
    let z = c.in-Some.ensures.steps in
    omega (arith, z.1, i.count, entry-left i.walk z.0, (file-table (book-of _ _ c.args.book.laid)).few)

pub push-requires : goal.push-requires
push-requires c =
    let i = c.loop-f.invariant in
    imports-room (file-table (book-of _ _ c.args.book.laid)) i.left (entry-left i.walk c.in-Some.ensures.steps.0)

pub loop-f-preserved-then-e : goal.loop-f-preserved-then-e
loop-f-preserved-then-e c =
    let i = c.loop-f.invariant in
    let z = c.in-Some.ensures.steps in
    let some : is_some c.tree.result ≡ true = search (rules, tests) in
    rw c.push.ensures
    (record {
      walk = entry-next i.walk z.0;
      count = omega (arith, z.2, z.0.at, i.count);
      left = rw (z.1, i.count, z.0.at)
          (imports-on (file-table (book-of _ _ c.args.book.laid)) i.left (entry-left i.walk z.0) _ (entry-is i.walk z.0) c.if-e.true
          (root-some (ap is_some (sym c.tree.ensures) ∙ some)));
    })

pub loop-f-preserved : goal.loop-f-preserved
loop-f-preserved c =
    let i = c.loop-f.invariant in
    let z = c.in-Some.ensures.steps in
    record {
      walk = entry-next i.walk z.0;
      count = omega (arith, z.2, z.0.at, i.count);
      left = rw z.0.at (imports-over (file-table (book-of _ _ c.args.book.laid)) i.left (entry-left i.walk z.0) _ (entry-is i.walk z.0) c.if-e.false);
    }

pub returns : goal.returns
returns c =
    let i = c.loop-f.invariant in
    imports-end (file-table (book-of _ _ c.args.book.laid)) i.left (entry-last i.walk c.in-None.ensures.steps.0)
