-- `chase_def_use` of analysis.rs, arm by arm: the whole map from names to their uses. Each `?` of the Rust has its case in `DefUse`, which
-- tells no text; its limit of depth counts as reached by circles of aliases alone. Then what the map is. Definitions; assumes nothing.
use Rattle.std.specs.Prelude.{◌≡◌, ◌↔◌, cond, ℕ, suc, ltb, eqb}
use mathlib.Core.List.{List, [], ◌∷◌, ◌++◌, map, Memᴰ}
use Rattle.format.specs.Forest.{Forest, end, tree}
use Rattle.format.specs.Node.{Node}
use Rattle.format.specs.Book.{Definition}
use Rattle.format.specs.Distinct.{Ascends}
use Rattle.judgement.specs.Environment.{is_func_kind, is_serv_kind}
use Rattle.judgement.specs.Aliases.{End, ends, alias_end, root_passes, methods_at}
use Rattle.judgement.specs.Aliases as aliases
use Rattle.judgement.specs.Actor.{class_arguments, below_class}
use Rattle.listing.specs.Chase.{Walk, going, chase_types}
use Rattle.listing.specs.Chase as chased
use Rattle.refusals.specs.Handed.{Use}
use Rattle.listing.specs.Sites.{Site, class_sites, end_sites, sites}
use Rattle.listing.specs.References.{Reachable}
use Rattle.listing.specs.Uses.{uses_of}

-- An entry of the map. The map is a list of them in ascending order of names, as a `BTreeMap` is; names are numbered in their order.
pub record MapEntry : Type 0 where
  pub name : ℕ
  pub uses : List Use

-- `res.get(n)`, where a name that is no key has no uses.
unfoldable pub uses_for : ℕ → List MapEntry → List Use
uses_for n [] = []
uses_for n (r ∷ rows) = cond (eqb n r.name) r.uses (uses_for n rows)

-- `res.entry(n).or_insert_with(Vec::new).push(entry)`
unfoldable pub push_use : Use → ℕ → List MapEntry → List MapEntry
push_use u n [] = record { name = n; uses = u ∷ [] } ∷ []
push_use u n (r ∷ rows) =
    cond (eqb n r.name) (record { name = r.name; uses = r.uses ++ (u ∷ []) } ∷ rows)
    (cond (ltb n r.name) (record { name = n; uses = u ∷ [] } ∷ (r ∷ rows)) (r ∷ push_use u n rows))

-- `for var in used`
unfoldable pub push_uses : Use → List ℕ → List MapEntry → List MapEntry
push_uses u [] rows = rows
push_uses u (n ∷ l) rows = push_uses u l (push_use u n rows)

-- The map made, or the error: a name without definition, a circle of aliases, an actor that is no service, a method that is no function.
pub data DefUse : Type 0 where
  made : List MapEntry → DefUse
  unbound : ℕ → DefUse
  circle : DefUse
  no_service : DefUse
  no_function : DefUse

-- `?`
unfoldable pub on_made : DefUse → (List MapEntry → DefUse) → DefUse
on_made (made rows) next = next rows
on_made (unbound n) next = unbound n
on_made circle next = circle
on_made no_service next = no_service
on_made no_function next = no_function

-- The names that `chase_type` listed are used at the entry.
unfoldable pub push_walk : Use → Walk → List MapEntry → DefUse
push_walk u (going seen out) rows = made (push_uses u out rows)
push_walk u (chased.unbound n) rows = unbound n

unfoldable pub chase_sites : List Definition → List Site → List MapEntry → DefUse
chase_sites ds [] rows = made rows
chase_sites ds (s ∷ all) rows = on_made (push_walk s.entry (chase_types ds s.type) rows) (chase_sites ds all)

-- The error at the end of a chain, where a type stands that is not the one looked for.
unfoldable pub failed : DefUse → End → DefUse
failed other (aliases.unbound n) = unbound n
failed other aliases.circle = circle
failed other (ends t) = other

-- Method m, whose chain has that end: `as_func`, then its arguments and its results.
unfoldable pub chase_method : List Definition → ℕ → End → List MapEntry → DefUse
chase_method ds m e rows = cond (root_passes is_func_kind e) (chase_sites ds (end_sites m e) rows) (failed no_function e)

unfoldable pub chase_methods : List Definition → ℕ → Forest Node → List MapEntry → DefUse
chase_methods ds m end rows = made rows
chase_methods ds m (tree n kids next) rows = on_made (chase_method ds m (alias_end ds (tree n kids end)) rows) (chase_methods ds (suc m) next)

-- `as_service`, then method by method. A class stands nowhere below an actor's root.
unfoldable pub chase_service : List Definition → End → List MapEntry → DefUse
chase_service ds e rows = cond (root_passes is_serv_kind e) (chase_methods ds 0 (methods_at e) rows) (failed no_service e)

-- `trace_type`, then the class's arguments and the service.
unfoldable pub chase_actor : List Definition → End → DefUse
chase_actor ds (aliases.unbound n) = unbound n
chase_actor ds aliases.circle = circle
chase_actor ds (ends t) = on_made (chase_sites ds (class_sites 0 (class_arguments t)) []) (chase_service ds (alias_end ds (below_class t)))

unfoldable pub chase_def_use : List Definition → Forest Node → DefUse
chase_def_use ds actor = chase_actor ds (alias_end ds actor)

-- ---- What the map is
abbrev pub row_name : MapEntry → ℕ
row_name r = r.name

-- A name that is reachable from an argument or a result.
abbrev pub FromSite : List Definition → Forest Node → ℕ → Type 0
FromSite ds actor n = (s : Site) × Memᴰ s (sites ds actor) × Reachable ds s.type n

-- Its names ascend and are just those reachable from a site, and the row of each is what `uses_of` gives, which has none for any other name.
pub record Mapped (ds : List Definition) (actor : Forest Node) (rows : List MapEntry) : Type 0 where
  pub ascends : Ascends (map row_name rows)
  pub keys : (n : ℕ) → Memᴰ n (map row_name rows) ↔ FromSite ds actor n
  pub row : (n : ℕ) → uses_for n rows ≡ uses_of ds actor n
  pub own : (r : MapEntry) → Memᴰ r rows → r.uses ≡ uses_of ds actor r.name

-- The entry of a name in it.
abbrev pub row_for : List Definition → Forest Node → ℕ → MapEntry
row_for ds actor n = record { name = n; uses = uses_of ds actor n }
