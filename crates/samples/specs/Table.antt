-- Document 01's examples P1 and P3 to P11 as one table: the bytes of each, and what they are. Definitions; assumes nothing.
-- P2 is about numbers of names and not about books. P10's book is the one of which methods are asked.
-- What is answered on them is the table of the crate `examples`.
use Rattle.std.specs.Prelude.{List, [], ◌∷◌, ℕ}
use Rattle.format.specs.Book.{Book}
use Rattle.samples.specs.Bytes as bytes
use Rattle.samples.specs.Written as written

pub record Sample : Type 0 where
  pub bytes : List ℕ
  pub book : Book

unfoldable pub samples : List Sample
samples =
    record { bytes = bytes.p1; book = written.p1 }
    ∷ record { bytes = bytes.p3; book = written.p3 }
    ∷ record { bytes = bytes.p4; book = written.p4 }
    ∷ record { bytes = bytes.p5; book = written.p5 }
    ∷ record { bytes = bytes.p6; book = written.p6 }
    ∷ record { bytes = bytes.p7; book = written.p7 }
    ∷ record { bytes = bytes.p8-merges; book = written.p8-merges }
    ∷ record { bytes = bytes.p8-differs; book = written.p8-differs }
    ∷ record { bytes = bytes.p9-alone; book = written.p9-alone }
    ∷ record { bytes = bytes.p9-import; book = written.p9-import }
    ∷ record { bytes = bytes.p10; book = written.p10 }
    ∷ record { bytes = bytes.p11-empty; book = written.p11-empty }
    ∷ record { bytes = bytes.p11-neither; book = written.p11-neither }
    ∷ []
