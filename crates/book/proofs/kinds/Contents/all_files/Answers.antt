-- `Contents::all_files` meets its contract: the entries that are left are judged as all of them. Assumes nothing.
use Prim.Native.Nat.{◌+◌}
use native.Mathlib.Omega.{arith}
use lib.Dec.{eqb}
use Rattle.book.specs.Reading.{as_entry}
use Rattle.book.specs.Steps.{FileAs}
use Rattle.std.proofs.Common.{None, Some}
use Rattle.book.proofs.Walking.{there, over-over, entry-left, entry-is, entry-next, entry-last}
use Rattle.book.proofs.Entries.{files-stop, files-on, files-end}
use Rattle.book.proofs.kinds.Contents.all_files.Goals as goal

pub returns-in_default : goal.returns-in_default
returns-in_default c =
    let a = c.args.self in
    let l = c.loop-f in
    let i = l.invariant in
    let z = c.in-Some.ensures.steps in
    let f = there i.over (λ ns e. FileAs a.names ns e (eqb c.in-Some.f 0) (eqb (c.in-Some.f + 1) a.files) l.left.at (as_entry c.in-Some.e) None) c.in_default.ensures.finds in
    files-stop i.same (rw i.count (entry-left i.walk z.0)) _ (rw i.count (entry-is i.walk z.0)) (rw z.1 at f)

pub loop-f-preserved : goal.loop-f-preserved
loop-f-preserved c =
    let a = c.args.self in
    let l = c.loop-f in
    let i = l.invariant in
    let z = c.in-Some.ensures.steps in
    let f = there i.over (λ ns e. FileAs a.names ns e (eqb c.in-Some.f 0) (eqb (c.in-Some.f + 1) a.files) l.left.at (as_entry c.in-Some.e) (Some c.in-Some-file.after.at)) c.in-Some-file.ensures.finds in
    record {
      over = over-over i.over c.in-Some-file.ensures.goes;
      walk = entry-next i.walk z.0;
      count = omega (arith, z.2, z.0.at, i.count);
      same = rw z.2 (files-on i.same (rw i.count (entry-left i.walk z.0)) _ (rw i.count (entry-is i.walk z.0)) _ (rw z.1 at f));
    }

pub returns : goal.returns
returns c =
    let i = c.loop-f.invariant in
    rw i.over.until (files-end i.same (rw i.count (entry-last i.walk c.in-None.ensures.steps.0)))
