-- The methods at a chain's end. Assumes nothing.
--     served-methods     of a service: its children
--     no-methods         of any other end: none
--     methods-keep       what holds of no trees, and of a type's children, holds of them
use mathlib.Core.Path.{◌≡◌, refl}
use mathlib.Core.Bool.{Bool, true, false, cond}
use Rattle.format.specs.Forest.{Forest, end, tree}
use Rattle.format.specs.Node.{Node}
use Rattle.judgement.specs.Environment.{is_serv_kind, kids_of}
use Rattle.judgement.specs.Aliases.{End, unbound, circle, ends, root_passes, methods_at}

pub served-methods : (t : Forest Node) → root_passes is_serv_kind (ends t) ≡ true → methods_at (ends t) ≡ kids_of t
unfolding methods_at root_passes kids_of
served-methods end h = refl
served-methods (tree n kids next) h = rw h

pub no-methods : (e : End) → root_passes is_serv_kind e ≡ false → methods_at e ≡ end
unfolding methods_at root_passes
no-methods (unbound n) h = refl
no-methods circle h = refl
no-methods (ends end) h = refl
no-methods (ends (tree n kids next)) h = rw h

pub methods-keep : (P : Forest Node → Type 0) → P end → (t : Forest Node) → P (kids_of t) → P (methods_at (ends t))
unfolding methods_at kids_of
methods-keep P none end p = none
methods-keep P none (tree n kids next) p = go (is_serv_kind n.kind)
  where
    go : (c : Bool) → P (cond c kids end)
    go true = p
    go false = none
