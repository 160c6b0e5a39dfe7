-- `AdmittedBook::new` keeps what its argument is known for. Assumes nothing.
use Rattle.book.proofs.Named.{laid-of}
use Rattle.book.proofs.admitted.AdmittedBook.new.Goals as goal

pub invariant_of-result : goal.invariant_of-result
invariant_of-result c = record { laid = laid-of c.requires }
