-- What the question of uses answers, and what it leaves in the lent list, in which an entry takes three places. Definitions; assumes nothing.
use Rattle.std.specs.Prelude.{List, ◌++◌, ℕ}
use Rattle.format.specs.Layout.{siblings}
use Rattle.syntax.specs.Interfaces.{methods_in}
use Rattle.refusals.specs.Handed.{Answer, UsesAs}
use Rattle.listing.specs.Sites.{class_sites, method_sites}
use Rattle.refusals.specs.Outcome.{given}
use Rattle.syntax.specs.declared.interface.Interface.{Interface}
use Rattle.analysis.specs.Entries.{uses_by, Offered}

-- What is handed over of an interface: the entries of its arguments and methods that pass the test.
pub record UsesHanded (rows ends' near : List ℕ) (offer : Interface) (old new : List ℕ) (r : Answer) : Type 0 where
  pub handed : (x : Offered rows ends' near offer.from offer.until offer.services) →
      UsesAs (given (uses_by x.used (class_sites 0 (siblings rows offer.from offer.until) ++ method_sites x.definitions 0 (methods_in rows offer.services))))
      old new r
