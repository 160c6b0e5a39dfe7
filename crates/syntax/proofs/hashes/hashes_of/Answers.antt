-- `hashes::hashes_of` meets its contract. Assumes nothing.
use native.Mathlib.Omega.{arith}
use lib.ListN.{get_or}
use Rattle.std.proofs.Common.{ℕ, rules, tests}
use Rattle.std.proofs.lemmas.Iterator.{YieldsList-from_slice, YieldsList-from_map}
use Rattle.std.proofs.lemmas.Iterator.Consumers.{YieldsList-at}
use Rattle.std.proofs.lemmas.List.{length-map}
use Rattle.syntax.proofs.Put.{all-put}
use Rattle.syntax.proofs.hashes.hashes_of.Goals as goal

pub returns : goal.returns
returns c =
    let hash = λ (v : ℕ). get_or c.args.table.now v 0 in
    all-put c.extend.result (omega (arith, c.requires.1, length-map c.args.names.now hash)) c.new-hashes.ensures
    (YieldsList-from_map _ hash (YieldsList-at c.map.ensures.source (YieldsList-from_slice c.args.names.now c.iter.ensures.rest)) c.map.ensures.closure (λ x r q k. search (rules, tests)))
    c.extend.ensures.ran c.extend.ensures.full c.extend.ensures.one_more
