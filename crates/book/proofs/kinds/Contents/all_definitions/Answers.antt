-- `Contents::all_definitions` meets its contract: the entries that are left are judged as all of them. Assumes nothing.
use Rattle.book.specs.Reading.{as_entry}
use Rattle.book.specs.Steps.{DefinitionAs}
use Rattle.std.proofs.Common.{None, Some}
use Rattle.book.proofs.Walking.{there, over-over, entry-left, entry-is, entry-next, entry-last}
use Rattle.book.proofs.Entries.{definitions-stop, definitions-on, definitions-end}
use Rattle.book.proofs.kinds.Contents.all_definitions.Goals as goal

pub returns-in_err-left-clause-finds : goal.returns-in_err-left-clause-finds
returns-in_err-left-clause-finds c =
    let a = c.args.self in
    let l = c.loop-e in
    let w = l.invariant.walk in
    let x = c.in-Some.ensures.steps in
    let f = there l.invariant.over (λ ns e. DefinitionAs a.names a.files ns e l.file l.left.at (as_entry c.in-Some.e) None) c.in_err-left.ensures.finds in
    rw c.from_residual.ensures (definitions-stop l.invariant.same (entry-left w x) _ (entry-is w x) f)

pub loop-e-preserved : goal.loop-e-preserved
loop-e-preserved c =
    let a = c.args.self in
    let l = c.loop-e in
    let o = l.invariant.over in
    let w = l.invariant.walk in
    let x = c.in-Some.ensures.steps in
    let f = there o (λ ns e. DefinitionAs a.names a.files ns e l.file l.left.at (as_entry c.in-Some.e) (Some c.in_ok-left.left.at)) c.in_ok-left.ensures.finds in
    record { over = over-over o c.in_ok-left.ensures.goes; walk = entry-next w x; same = rw x.at (definitions-on l.invariant.same (entry-left w x) _ (entry-is w x) _ f) }

pub returns-clause-finds : goal.returns-clause-finds
returns-clause-finds c = definitions-end c.loop-e.invariant.same (entry-last c.loop-e.invariant.walk c.in-None.ensures.steps)
