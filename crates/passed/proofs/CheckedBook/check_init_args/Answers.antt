-- `CheckedBook::check_init_args` meets its contract. Assumes nothing.
use Rattle.passed.proofs.CheckedBook.check_init_args.Goals as goal

pub returns : goal.returns
returns c = c.check_init_args.ensures (record { ends = _; interface = _; book = c.args.self.now.passes })
