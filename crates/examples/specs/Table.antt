-- Document 01's examples P1 to P11 as one table, in its order and above each its words. Definitions; assumes nothing.
-- The books' texts stand above them in the crate `samples`, specs/Written.antt; its theorem says that the bytes are these books.
use Rattle.std.specs.Prelude.{List, [], ◌∷◌, ℕ}
use Rattle.samples.specs.Notation.{ascii_bytes, spelled}
use Rattle.samples.specs.Bytes.{p1, p3, p4, p5, p6, p7, p8-merges, p8-differs, p9-alone, p9-import, p10, p11-empty, p11-neither}
use Rattle.examples.specs.Answer.{Question, hash, check, init_check, list, marks, emptiness, project, Answer, number, passes, refused, names, methods}

pub record Example : Type 0 where
  pub question : Question
  pub input : List ℕ
  pub outcome : Answer

unfoldable pub examples : List Example
examples =
    -- P1: list 2 marked 1; 1 - "pair"; 2 r "tree"
    record { question = list; input = p1; outcome = names (spelled ("pair" ∷ "tree" ∷ [])) }
    ∷ record { question = marks; input = p1; outcome = names (spelled ("tree" ∷ [])) }
    -- P2: hashes: empty 0, `a` 97, `ab` 21729, `id` 23515, `name` 1224700491.
    ∷ record { question = hash; input = ascii_bytes ""; outcome = number 0 }
    ∷ record { question = hash; input = ascii_bytes "a"; outcome = number 97 }
    ∷ record { question = hash; input = ascii_bytes "ab"; outcome = number 21729 }
    ∷ record { question = hash; input = ascii_bytes "id"; outcome = number 23515 }
    ∷ record { question = hash; input = ascii_bytes "name"; outcome = number 1224700491 }
    -- P3: `type a = b; type b = b`: 7 naming a.
    ∷ record { question = check; input = p3; outcome = refused 7 (ascii_bytes "a") }
    -- P4: `type a = opt a`: passes.
    ∷ record { question = check; input = p4; outcome = passes }
    -- P5: `type f = func (service { m : f }) -> ()`: passes; a ring.
    ∷ record { question = check; input = p5; outcome = passes }
    -- P6: `type a = opt z; type b = nat; type b = nat`: 2, not 3.
    ∷ record { question = check; input = p6; outcome = refused 2 (ascii_bytes "b") }
    -- P7: two modes and an unbound argument: 3.
    ∷ record { question = check; input = p7; outcome = refused 3 (ascii_bytes "z") }
    -- P8: init `type a = record { a : nat }`, main `type a = record { 97 : nat }`: merges; with `b` for 97, 11.
    ∷ record { question = init_check; input = p8-merges; outcome = passes }
    ∷ record { question = init_check; input = p8-differs; outcome = refused 11 (ascii_bytes "a") }
    -- P9: methods `a` and byte 0 then `a`: passes alone; with a service import, 14.
    ∷ record { question = check; input = p9-alone; outcome = passes }
    ∷ record { question = check; input = p9-import; outcome = refused 14 (ascii_bytes "\0a") }
    -- P10: `m` asked twice of `{ m }`: 15; nothing asked: no methods. (`m` is name 1.)
    ∷ record { question = project (1 ∷ 1 ∷ []); input = p10; outcome = refused 15 (ascii_bytes "m") }
    ∷ record { question = project []; input = p10; outcome = methods [] }
    -- P11: `type r = record { r }; type s = record { t }; type t = r`: all empty. `type o = record { p }; type p = opt o`: neither.
    ∷ record { question = emptiness; input = p11-empty; outcome = names (spelled ("r" ∷ "s" ∷ "t" ∷ [])) }
    ∷ record { question = emptiness; input = p11-neither; outcome = names [] }
    ∷ []
