-- `fill` meets its contract: what one read gave stands behind what the reads before gave. Assumes nothing.
use Rattle.std.proofs.Common.{rules, ◌≡◌, ℕ, ◌+◌, ◌≤◌, length, take, List, ◌++◌, Option, None, Some, append_assoc, ◌∙◌}
use Rattle.std.proofs.lemmas.List.{take-append-le}
use Rattle.std.proofs.Math.Seq.{take-append-add, length-take-le}
use Rattle.std.specs.Io.KnownBytes.{Consumes}
use borrow.Rule.Slice.PartMut.{put_mid, post_of}
use Rattle.stdio.proofs.fill.Goals as goal

-- What is read twice is read in a row.
Consumes-append : (a b c : Option (List ℕ)) (xs ys : List ℕ) → Consumes a b xs → Consumes b c ys → Consumes a c (xs ++ ys)
Consumes-append None b c xs ys h k = tt
Consumes-append (Some a) None c xs ys h k = absurd h
Consumes-append (Some a) (Some b) None xs ys h k = absurd k
Consumes-append (Some a) (Some b) (Some c) xs ys h k = rw (h, k, append_assoc xs ys c)

-- The front of a part that was read into, behind what stands before the part.
take-put_mid_more : (a m k : ℕ) (xs ys : List ℕ) → a ≤ length xs → m ≤ length ys → take (a + m) (put_mid a k xs ys) ≡ take a xs ++ take m ys
take-put_mid_more a m k xs ys h l =
    let e : length (take a xs) ≡ a = length-take-le a xs h in
    let t = take-append-add (take a xs) (ys ++ post_of a k xs) m in
    rw e at t ∙ rw (take-append-le m ys (post_of a k xs) l)

pub loop-done-preserved : goal.loop-done-preserved
loop-done-preserved g c =
    let read = c.in_ok-more.ensures in
    let start = c.loop-done.invariant in
    let few : c.loop-done.done ≤ length c.loop-done.buf = start.bound in
    let more : c.in_ok-more.more ≤ length c.read.new.buf = read.bound.0 in
    record {
      bound = search rules;
      bytes = rw (take-put_mid_more c.loop-done.done c.in_ok-more.more _ c.loop-done.buf c.read.new.buf few more)
          (Consumes-append _ _ _ _ _ start.bytes read.bytes.0);
    }
