-- `infer_rec` of analysis.rs, arm by arm, over any list of names. Definitions; assumes nothing.
use Rattle.std.specs.Prelude.{Bool, true, false, cond, List, [], ◌∷◌, ℕ, zero, suc}
use Rattle.format.specs.Forest.{Forest, end, tree}
use Rattle.format.specs.Node.{Kind, PrimT, VarT, OptT, VecT, RecordT, VariantT, FuncT, ServT, ClassT, InitT, Node}
use Rattle.format.specs.Book.{Definition}
use Rattle.judgement.specs.Environment.{Found, missing, body, find_type}
use Rattle.judgement.specs.Check.{member}

-- The names seen, and the names marked; or a listed name without definition, where the Rust panics.
pub data Marks : Type 0 where
  marking : (seen marked : List ℕ) → Marks
  unbound : ℕ → Marks

-- `Var(id) if seen.insert(id)`: marked, else nothing.
unfoldable pub note : ℕ → Bool → (seen marked : List ℕ) → Marks
note n true seen marked = marking seen marked
note n false seen marked = marking (n ∷ seen) (n ∷ marked)

unfoldable pub note_name : ℕ → Marks → Marks
note_name n (marking seen marked) = note n (member n seen) seen marked
note_name n (unbound m) = unbound m

unfoldable pub mark_arm : (Marks → Marks) → Kind → Marks → Marks
mark_arm below (PrimT p) s = s
mark_arm below (VarT n) s = note_name n s
mark_arm below OptT s = below s
mark_arm below VecT s = below s
mark_arm below RecordT s = below s
mark_arm below VariantT s = below s
mark_arm below (FuncT a ms) s = below s
mark_arm below ServT s = below s
mark_arm below ClassT s = below s
mark_arm below InitT s = below s

unfoldable pub go : Forest Node → Marks → Marks
go end s = s
go (tree n kids next) s = go next (mark_arm (go kids) n.kind s)

-- After a listed name's definition was gone through, the name counts as seen: `seen.insert(var)`.
unfoldable pub see : ℕ → Marks → Marks
see n (marking seen marked) = marking (n ∷ seen) marked
see n (unbound m) = unbound m

unfoldable pub listed : List Definition → ℕ → Found → Marks → Marks
listed ds n found (unbound m) = unbound m
listed ds n missing (marking seen marked) = unbound n
listed ds n (body t) (marking seen marked) = see n (go t (marking seen marked))

unfoldable pub infer_from : List Definition → List ℕ → Marks → Marks
infer_from ds [] s = s
infer_from ds (n ∷ l) s = infer_from ds l (listed ds n (find_type ds n) s)

unfoldable pub infer_rec : List Definition → List ℕ → Marks
infer_rec ds l = infer_from ds l (marking [] [])

-- The names of a set below n + k, from n on, ascending.
unfoldable pub sorted : List ℕ → ℕ → ℕ → List ℕ
sorted set n zero = []
sorted set n (suc k) = cond (member n set) (n ∷ sorted set (suc n) k) (sorted set (suc n) k)
