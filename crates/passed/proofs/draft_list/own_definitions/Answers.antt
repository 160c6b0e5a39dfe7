-- `own_definitions` meets its contract. Assumes nothing.
use mathlib.Core.Bool.{Bool}
use mathlib.Core.List.{List}
use Prim.Native.Nat.{ℕ}
use borrow.Author.Tests.{eqb-true, eqb-false}
use lib.Dec.{eqb}
use Rattle.std.proofs.Common.{rules, tests}
use Rattle.std.proofs.lemmas.Iterator.Consumers.{count_from_yields_List}
use Rattle.std.proofs.lemmas.Iterator.Search.{YieldsList-from_take_while}
use Rattle.format.specs.Encode.{Entry}
use Rattle.format.specs.Layout.{entry_at}
use Rattle.book.proofs.Named.{book-of}
use Rattle.book.proofs.Opened.{definitions-count}
use Rattle.environment.proofs.Book.{definitions-within}
use Rattle.syntax.proofs.files.Laws.{Before, counted, entries-yielded}
use Rattle.passed.specs.Drafts.{OwnAs}
use Rattle.passed.proofs.draft_list.own_definitions.Goals as goal

unfoldable of_main : Entry → Bool
of_main e = eqb e.owner 0

own : {es : List ℕ} {count k : ℕ} → Before es count of_main k → OwnAs es count k
unfolding of_main
own {es} {k = k} b = record { within = b.within; own = λ d l. eqb-true (entry_at es d).owner 0 (b.passed d l); next = λ l. eqb-false (entry_at es k).owner 0 (b.next l) }

pub new-requires : goal.new-requires
new-requires c = let a = book-of _ _ c.args.book.laid in rw (c.definitions.ensures, definitions-count a) (definitions-within _ a.laid)

pub returns : goal.returns
unfolding of_main
returns c =
    let n = c.new.ensures in
    let t = c.take_while.ensures in
    rw (← c.definitions.ensures)
    (own
    (counted _ _ of_main
    (count_from_yields_List _ _ c.count.ensures.ran
    (YieldsList-from_take_while _ of_main (entries-yielded n.over n.at t.source) t.closure t.done (λ x b q k. search (rules, tests))))))
