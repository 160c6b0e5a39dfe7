-- Alias chains: `trace_type`, `as_func` and `as_service` of type_env.rs, with the number of definitions as fuel. (Without fuel: Leads of
-- WellFormed.antt, and Meaning.antt.) Definitions; assumes nothing.
use Rattle.std.specs.Prelude.{Bool, false, cond, List, [], ◌∷◌, ℕ, zero, suc, length}
use Rattle.format.specs.Forest.{Forest, end, tree}
use Rattle.format.specs.Node.{Kind, VarT, unlabelled, Node}
use Rattle.format.specs.Book.{Definition}
use Rattle.judgement.specs.Environment.{Found, missing, body, find_type, Head, named, other, head, is_func_kind, is_serv_kind}

-- ---- The alias chain: a type that is a name, its definition if that is a name, and so on

-- Where a chain ends: at a name without definition, never, or at a type that is no name.
pub data End : Type 0 where
  unbound : ℕ → End
  circle : End
  ends : Forest Node → End

-- The names that a chain crosses, and its end.
pub record Chain : Type 0 where
  pub crossed : List ℕ
  pub last : End

-- One link: what is met at a name, where `bound` goes on with the type of a name that has a definition.
unfoldable pub met : (ℕ → Forest Node → Chain) → ℕ → Found → Chain
met bound n missing = record { crossed = []; last = unbound n }
met bound n (body t) = bound n t

unfoldable pub link : (ℕ → Forest Node → Chain) → List Definition → Forest Node → Head → Chain
link bound ds t other = record { crossed = []; last = ends t }
link bound ds t (named n) = met bound n (find_type ds n)

abbrev pub cross : ℕ → Chain → Chain
cross n c = record { crossed = n ∷ c.crossed; last = c.last }

-- At most k names are crossed. Where k is the number of definitions, a chain that would cross one more never ends.
unfoldable pub chain_from : ℕ → List Definition → Forest Node → Chain
chain_from zero ds t = link (λ n u. record { crossed = []; last = circle }) ds t (head t)
chain_from (suc k) ds t = link (λ n u. cross n (chain_from k ds u)) ds t (head t)

unfoldable pub chain : List Definition → Forest Node → Chain
chain ds t = chain_from (length ds) ds t

unfoldable pub alias_end : List Definition → Forest Node → End
alias_end ds t = (chain ds t).last

-- The length of a chain: how many names it crosses. Of an actor it is asked of what stands below its class (`below_class`), so a class adds none.
unfoldable pub alias_length : List Definition → Forest Node → ℕ
alias_length ds t = length (chain ds t).crossed

-- The type that is a name, and no more.
abbrev pub name_type : ℕ → Forest Node
name_type n = tree (record { kind = VarT n; label = unlabelled }) end end

-- ---- `as_func` and `as_service`: what stands at a chain's end

-- The chain ends at a type whose root passes the test.
unfoldable pub root_passes : (Kind → Bool) → End → Bool
root_passes test (unbound n) = false
root_passes test circle = false
root_passes test (ends end) = false
root_passes test (ends (tree n kids next)) = test n.kind

unfoldable pub as_func : List Definition → Forest Node → Bool
as_func ds t = root_passes is_func_kind (alias_end ds t)

unfoldable pub as_service : List Definition → Forest Node → Bool
as_service ds t = root_passes is_serv_kind (alias_end ds t)

-- The methods of a service at a chain's end; none where there is no service.
unfoldable pub methods_at : End → Forest Node
methods_at (unbound n) = end
methods_at circle = end
methods_at (ends end) = end
methods_at (ends (tree n kids next)) = cond (is_serv_kind n.kind) kids end
