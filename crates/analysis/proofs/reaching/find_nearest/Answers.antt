-- `reaching::find_nearest` meets its contract: a book's rows and entries are what is asked. Assumes nothing.
use Rattle.analysis.proofs.reaching.Ownership.{book-defining}
use Rattle.analysis.proofs.reaching.find_nearest.Goals as goal

pub find_nearest_in-requires : goal.find_nearest_in-requires
find_nearest_in-requires c = ((_, book-defining c.args.book c.args.main c.requires.0 c.nodes.ensures c.definitions.ensures), c.requires.1)
