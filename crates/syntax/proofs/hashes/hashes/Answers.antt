-- `hashes::hashes` meets its contract. Assumes nothing.
use mathlib.Core.Path.{ap, ◌∙◌}
use native.Mathlib.Omega.{arith}
use lib.ListN.{length, get_or}
use Rattle.std.proofs.Common.{ℕ}
use Rattle.std.proofs.lemmas.List.{length-map}
use Rattle.syntax.proofs.hashes.Verdict.{no-duplicate, duplicate}
use Rattle.syntax.proofs.hashes.hashes.Goals as goal

pub hashes_of-hashes-requires : goal.hashes_of-hashes-requires
hashes_of-hashes-requires c = let s = c.as_slice.ensures in (c.requires.1, s.fits, rw s.value c.method_names-names.ensures.small)

pub bounds-as_slice-n : goal.bounds-as_slice-n
bounds-as_slice-n c =
    let is = rw c.as_slice.ensures.value at c.hashes_of-hashes.ensures in
    let hash = λ (v : ℕ). get_or c.args.table.now v 0 in
    omega
    (arith, (rw c.as_slice-2.ensures.value at c.in-Some.ensures).inside, ap length is ∙ length-map c.method_names-names.result.items hash, ap length c.as_slice-in-Some.ensures.value)

pub returns-in-None : goal.returns-in-None
returns-in-None c =
    let is = rw c.as_slice.ensures.value at c.hashes_of-hashes.ensures in
    λ names a. no-duplicate _ c.requires.1 names a _ c.method_names-names.ensures is (rw c.as_slice-2.ensures.value at c.in-None.ensures)

pub returns-in-Some : goal.returns-in-Some
returns-in-Some c =
    let is = rw c.as_slice.ensures.value at c.hashes_of-hashes.ensures in
    λ names a. rw c.as_slice-in-Some.ensures.value (duplicate _ c.requires.1 names a _ c.method_names-names.ensures is (rw c.as_slice-2.ensures.value at c.in-Some.ensures))
