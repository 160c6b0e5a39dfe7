-- What functions inside the crates ask, of an admitted book and of one that passed. Assumes nothing.
--     body-inside               the root of a definition's body
--     main-held, body-ended     of a passed book: its entries and their bodies, with the table of alias ends
use mathlib.Core.Path.{◌≡◌, ap}
use mathlib.Core.List.{List}
use Prim.Native.Nat.{ℕ, ◌≤◌, ◌<◌}
use native.Mathlib.Omega.{arith}
use Rattle.format.specs.Encode as stored
use Rattle.format.specs.Layout.{entry_at, nodes_part, definitions_part}
use Rattle.book.specs.declared.kinds.Contents.{Contents}
use Rattle.book.specs.declared.read.Entry.{Entry}
use Rattle.book.specs.Reading.{as_entry, EntryWithin, Admitted}
use Rattle.book.proofs.Opened.{nodes-count, definitions-count}
use Rattle.environment.specs.Tables.{Ended}
use Rattle.environment.proofs.Book.{entries-held, entries-of}
use Rattle.typing.specs.declared.prog.Passed.{Passed}
use Rattle.typing.specs.Passing.{PassedBook}

-- ---- An admitted book
module _ {bs : List ℕ} {c : Contents} (a : Admitted bs c) {d : ℕ} (h : d < c.definitions) where
  pub body-inside : {e : Entry} → as_entry e ≡ entry_at (definitions_part bs) d → e.root < c.nodes
  body-inside {e} is =
      let r : e.root ≡ (entry_at (definitions_part bs) d).root = ap (λ (x : stored.Entry). x.root) is in
      rw r ((entries-of a {from = 0} {to = c.definitions} (omega arith) (omega arith)).root d (omega arith) h)

-- ---- A book that passed
module _ {bs : List ℕ} {c : Contents} {roots ends' : List ℕ} {p : Passed} (b : PassedBook bs c roots ends' p) where
  main-within : p.main ≤ c.definitions
  main-within = omega (arith, b.passed.within, definitions-count b.admitted)

  pub main-held : EntryWithin (definitions_part bs) p.main
  main-held = let w = entries-held b.admitted in record { held = omega (arith, w.held, main-within); few = w.few }

  pub body-ended : {d : ℕ} → d < p.main → {e : Entry} → as_entry e ≡ entry_at (definitions_part bs) d → Ended (nodes_part bs) ends' e.root
  body-ended h is =
      record {
        names = _;
        count = _;
        nodes = b.passed.all.nodes;
        table = b.passed.checked.ended;
        inside = omega (arith, body-inside b.admitted (omega (arith, main-within)) is, nodes-count b.admitted);
      }
