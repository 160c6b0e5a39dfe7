-- What is put into a lent list, entry after entry. Definitions; assumes nothing.
use Rattle.std.specs.Prelude.{cond, List, ℕ, ◌+◌, ◌*◌, leb, length}
use Rattle.std.proofs.lemmas.List.Edits.{sets}

-- These numbers as entry k, where there is a place for each of them; else nothing changes.
unfoldable pub put_at : ℕ → List ℕ → List ℕ → List ℕ
put_at k entry old = cond (leb (length entry * k + length entry) (length old)) (sets old (length entry * k) entry) old
