-- `chase_type`, `chase_actor` and `chase_types` of analysis.rs, arm by arm. Definitions; assumes nothing.
use Rattle.std.specs.Prelude.{Bool, true, false, List, [], ◌∷◌, ◌++◌, ℕ, zero, suc, length}
use Rattle.format.specs.Forest.{Forest, end, tree}
use Rattle.format.specs.Node.{Kind, PrimT, VarT, OptT, VecT, RecordT, VariantT, FuncT, ServT, ClassT, InitT, Node}
use Rattle.format.specs.Book.{Definition}
use Rattle.refusals.specs.declared.Refusal.TheVariants.{Unbound}
use Rattle.refusals.specs.Outcome.{Outcome, refused, given}
use Rattle.judgement.specs.Environment.{Found, missing, body, find_type}
use Rattle.judgement.specs.Check.{member}

-- How far a walk has come: the names seen, and those listed in order. Or it has stopped at a name without definition.
pub data Walk : Type 0 where
  going : (seen out : List ℕ) → Walk
  unbound : ℕ → Walk

-- `res.push(id)`
unfoldable pub push : ℕ → Walk → Walk
push n (going seen out) = going seen (out ++ (n ∷ []))
push n (unbound m) = unbound m

-- One arm for each kind: `meet` at a name, `below` for the children, left to right.
unfoldable pub arm : (ℕ → Walk → Walk) → (Walk → Walk) → Kind → Walk → Walk
arm meet below (PrimT p) w = w
arm meet below (VarT n) w = meet n w
arm meet below OptT w = below w
arm meet below VecT w = below w
arm meet below RecordT w = below w
arm meet below VariantT w = below w
arm meet below (FuncT a ms) w = below w
arm meet below ServT w = below w
arm meet below ClassT w = below w
arm meet below InitT w = below w

unfoldable pub chase : (ℕ → Walk → Walk) → Forest Node → Walk → Walk
chase meet end w = w
chase meet (tree n kids next) w = chase meet next (arm meet (chase meet kids) n.kind w)

-- A name that was seen changes nothing. Any other is seen, its definition chased, and then it is listed.
unfoldable pub meet_name : (Forest Node → Walk → Walk) → ℕ → Bool → Found → (seen out : List ℕ) → Walk
meet_name step n true found seen out = going seen out
meet_name step n false missing seen out = unbound n
meet_name step n false (body t) seen out = push n (step t (going (n ∷ seen) out))

-- The first argument bounds how deep names are crossed; one more than there are definitions is always enough.
unfoldable pub visit : ℕ → List Definition → ℕ → Walk → Walk
visit zero ds n w = w
visit (suc k) ds n (unbound m) = unbound m
visit (suc k) ds n (going seen out) = meet_name (chase (visit k ds)) n (member n seen) (find_type ds n) seen out

-- `chase_actor`; `chase_types` is the same over trees that stand beside each other.
unfoldable pub chase_types : List Definition → Forest Node → Walk
chase_types ds f = chase (visit (suc (length ds)) ds) f (going [] [])

-- What it comes to: the names listed, or 3.
unfoldable pub walked : Walk → Outcome (List ℕ)
walked (going seen out) = given out
walked (unbound n) = refused (Unbound n)
