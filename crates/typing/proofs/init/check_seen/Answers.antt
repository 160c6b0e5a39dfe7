-- `check_seen` meets its contract. Assumes nothing.
use Rattle.typing.proofs.init.Laws.{main-entries, few-own, init-held, root-inside, both-table, init-seen, arguments-seen}
use Rattle.typing.proofs.init.check_seen.Goals as goal

pub merged_count-count-requires : goal.merged_count-count-requires
merged_count-count-requires c =
    let p = c.requires in let x = p.1.book in let o = p.2 in let m = main-entries x.admitted o.file o.split in
    rw c.definitions.ensures (record { held = m.held; few = m.few }, few-own x.admitted o.file o.split)

pub at-e-requires : goal.at-e-requires
at-e-requires c = let p = c.requires in rw c.files.ensures (init-held p.1.book.admitted p.2.file)

pub check_arguments-requires : goal.check_arguments-requires
check_arguments-requires c =
    let p = c.requires in let x = p.1.book in let o = p.2 in
    let l = rw c.definitions.ensures at c.merged_count-count.ensures in
    record {
      table = both-table x.admitted o x.passed p.3 l;
      inside = root-inside x.admitted o.file (rw c.files.ensures at c.at-e.ensures);
      seen = (_, init-seen x.admitted o x.passed p.3 l);
    }

pub returns : goal.returns
returns c =
    λ roots y o g.
    let x = y.book in
    let l = rw c.definitions.ensures at c.merged_count-count.ensures in
    arguments-seen x.admitted o x.passed g l (rw c.files.ensures at c.at-e.ensures) _
    (c.check_arguments.ensures _ (init-seen x.admitted o x.passed g l))
