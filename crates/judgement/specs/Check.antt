-- The check: document 01's refusals in their order, function by function as typing.rs and syntax/mod.rs have them. Definitions; assumes nothing.
use Rattle.std.specs.Prelude.{Bool, true, false, cond, ◌&&◌, ◌||◌, not, List, [], ◌∷◌, ℕ, zero, suc, length, get_or, ltb, eqb}
use Rattle.labels.specs.Number.{label_number}
use Rattle.format.specs.declared.Place.TheVariants.{Root}
use Rattle.format.specs.Forest.{Forest, end, tree, breadth, no_trees}
use Rattle.format.specs.Node.{Kind, PrimT, VarT, OptT, VecT, RecordT, VariantT, FuncT, ServT, ClassT, InitT, FuncMode, Oneway, Query, CompositeQuery, Node, label_value}
use Rattle.format.specs.Book.{Definition, File, Book}
use Rattle.format.specs.Admission.{admitted, Source}
use Rattle.refusals.specs.declared.Refusal.{Refusal}
use Rattle.refusals.specs.declared.Refusal as refusal
use Rattle.std.specs.Prelude.{Err}
use Rattle.refusals.specs.Verdict.{Verdict, passes, and_then, unless}
use Rattle.refusals.specs.Outcome.{judged}
use Rattle.judgement.specs.Environment.{main_definitions, init_definitions, merge_definitions, Found, missing, body, find_type, is_serv_kind, kids_of, same_forest}
use Rattle.judgement.specs.Aliases.{End, unbound, circle, ends, alias_end, root_passes, as_func, as_service}
use Rattle.judgement.specs.Actor.{service_imports, main_actor, init_tree, is_class, below_class}
use Rattle.judgement.specs.Resolve.{resolve_actor}

-- ---- Types: `check_type`, `check_fields`, `check_meths`

-- A name has to have a definition.
unfoldable pub name_verdict : ℕ → Found → Verdict
name_verdict n missing = Err (refusal.Refusal.Unbound n)
name_verdict n (body t) = passes

unfoldable pub is_oneway : FuncMode → Bool
is_oneway Oneway = true
is_oneway Query = false
is_oneway CompositeQuery = false

-- At most one mode; oneway without results, where `kids` are the arguments and results.
unfoldable pub modes_verdict : ℕ → List FuncMode → ℕ → Verdict
modes_verdict arguments [] kids = passes
modes_verdict arguments (m ∷ []) kids = unless (not (is_oneway m && ltb arguments kids)) refusal.Refusal.Oneway
modes_verdict arguments (m ∷ (l ∷ ms)) kids = Err refusal.Refusal.Modes

-- A node, where `below` is the verdict of its children: they come before the modes, and a class is not opened.
unfoldable pub kind_verdict : List Definition → Kind → ℕ → Verdict → Verdict
kind_verdict ds (PrimT p) kids below = passes
kind_verdict ds (VarT n) kids below = name_verdict n (find_type ds n)
kind_verdict ds OptT kids below = below
kind_verdict ds VecT kids below = below
kind_verdict ds RecordT kids below = below
kind_verdict ds VariantT kids below = below
kind_verdict ds (FuncT a ms) kids below = and_then below (modes_verdict a ms kids)
kind_verdict ds ServT kids below = below
kind_verdict ds ClassT kids below = Err refusal.Refusal.Class
kind_verdict ds InitT kids below = below

-- A method that is to be tested has to be a function.
unfoldable pub method_verdict : Bool → List Definition → Node → Forest Node → Verdict
method_verdict tested ds n kids =
    unless (not tested || as_func ds (tree n kids end)) (refusal.Refusal.MethodNoFunction (label_value n.label))

-- Trees from left to right, children first. While bodies are walked (`pre`) methods are not tested; `tested`: these trees are methods
-- that are, each right after its own subtree.
unfoldable pub check_forest : Bool → Bool → List Definition → Forest Node → Verdict
check_forest pre tested ds end = passes
check_forest pre tested ds (tree n kids next) =
    and_then
    (and_then (kind_verdict ds n.kind (breadth kids) (check_forest pre (not pre && is_serv_kind n.kind) ds kids)) (method_verdict tested ds n kids))
    (check_forest pre tested ds next)

-- ---- Definitions: `check_decs`

unfoldable pub member : ℕ → List ℕ → Bool
member n [] = false
member n (m ∷ ms) = eqb n m || member n ms

-- 2: a name that an earlier definition has.
unfoldable pub once_verdict : List ℕ → List Definition → Verdict
once_verdict seen [] = passes
once_verdict seen (d ∷ ds) =
    and_then (unless (not (member d.name seen)) (refusal.Refusal.Twice d.name)) (once_verdict (d.name ∷ seen) ds)

-- 3 to 6, `check_defs`: the bodies of `ds`, where `all` are the definitions.
unfoldable pub bodies_verdict : List Definition → List Definition → Verdict
bodies_verdict all [] = passes
bodies_verdict all (d ∷ ds) = and_then (check_forest true false all d.body) (bodies_verdict all ds)

-- What f says of n, n + 1 and so on, k of them.
unfoldable pub each_name : (ℕ → Verdict) → ℕ → ℕ → Verdict
each_name f n zero = passes
each_name f n (suc k) = and_then (f n) (each_name f (suc n) k)

-- 7, `check_cycle`: the chain from a name's definition never ends.
unfoldable pub is_circle : End → Bool
is_circle (unbound n) = false
is_circle circle = true
is_circle (ends t) = false

unfoldable pub circle_verdict : List Definition → ℕ → Found → Verdict
circle_verdict ds n missing = passes
circle_verdict ds n (body t) = unless (not (is_circle (alias_end ds t))) (refusal.Refusal.Circle n)

-- 8, `validate_decs`: each method of each service in the trees is a function. `tested`: these trees are methods.
unfoldable pub methods_fit : List Definition → Bool → Forest Node → Bool
methods_fit ds tested end = true
methods_fit ds tested (tree n kids next) =
    (not tested || as_func ds (tree n kids end)) && methods_fit ds (is_serv_kind n.kind) kids && methods_fit ds tested next

unfoldable pub bodies_fit : List Definition → List Definition → Bool
bodies_fit all [] = true
bodies_fit all (d ∷ ds) = methods_fit all false d.body && bodies_fit all ds

-- `names` is the number of names.
unfoldable pub decs_verdict : ℕ → List Definition → Verdict
decs_verdict names ds =
    and_then (once_verdict [] ds)
    (and_then (bodies_verdict ds ds)
    (and_then (each_name (λ n. circle_verdict ds n (find_type ds n)) 0 names)
    (unless (bodies_fit ds ds) refusal.Refusal.NoFunction)))

-- ---- The actor: `IDLMergedProg::merge`, `resolve_actor` and `check_actor`

-- 12: a service import has an actor.
unfoldable pub imports_verdict : List File → Verdict
imports_verdict [] = passes
imports_verdict (f ∷ fs) = and_then (unless (not (no_trees f.actor)) (refusal.Refusal.ImportWithoutActor f.name)) (imports_verdict fs)

-- `chase_service`: the alias end is a service; `else'` where it is another type.
unfoldable pub service_verdict : Refusal → End → Verdict
service_verdict else' (unbound n) = Err (refusal.Refusal.Unbound n)
service_verdict else' circle = Err else'
service_verdict else' (ends t) = unless (root_passes is_serv_kind (ends t)) else'

-- 13
unfoldable pub imported_verdict : List Definition → List File → Verdict
imported_verdict ds [] = passes
imported_verdict ds (f ∷ fs) =
    and_then (service_verdict (refusal.Refusal.ImportNoService f.name) (alias_end ds f.actor)) (imported_verdict ds fs)

-- 14: a method whose hash an earlier one has.
unfoldable pub hashes_verdict : List (List ℕ) → List ℕ → Forest Node → Verdict
hashes_verdict names seen end = passes
hashes_verdict names seen (tree n kids next) =
    let hash = label_number (get_or names (label_value n.label) []) in
    and_then (unless (not (member hash seen)) (refusal.Refusal.SameHash (label_value n.label))) (hashes_verdict names (hash ∷ seen) next)

-- The main actor is resolved first, where there is one; a class's service for a class.
unfoldable pub main_verdict : List Definition → Forest Node → Verdict
main_verdict ds main = cond (no_trees main) passes (service_verdict refusal.Refusal.NoService (alias_end ds (below_class main)))

-- With service imports alone: main, each import, and then the hashes of all methods together.
unfoldable pub resolve_verdict : List (List ℕ) → List Definition → Forest Node → List File → Forest Node → Verdict
resolve_verdict names ds main [] resolved = passes
resolve_verdict names ds main (f ∷ fs) resolved =
    and_then (main_verdict ds main) (and_then (imported_verdict ds (f ∷ fs)) (hashes_verdict names [] (kids_of (below_class resolved))))

-- The actor walk, and 10: what stands below a class's top is a service.
unfoldable pub actor_verdict : List Definition → Forest Node → Verdict
actor_verdict ds t =
    cond (no_trees t) passes
    (and_then (check_forest false false ds (cond (is_class t) (kids_of t) t)) (unless (as_service ds (below_class t)) refusal.Refusal.NoService))

-- ---- The check and the init check
unfoldable pub check : Book → Verdict
check b =
    let ds = main_definitions b in
    let imports = service_imports b.files in
    and_then (imports_verdict imports)
    (and_then (decs_verdict (length b.names) ds)
    (and_then (resolve_verdict b.names ds (main_actor b) imports (resolve_actor b))
    (actor_verdict ds (resolve_actor b))))

-- 11, `merge`: the lowest name on which two sets of definitions differ.
unfoldable pub same_verdict : List (List ℕ) → ℕ → Found → Found → Verdict
same_verdict names n missing g = passes
same_verdict names n (body t) missing = passes
same_verdict names n (body t) (body u) = unless (same_forest names Root t u) (refusal.Refusal.Differs n)

unfoldable pub merge_verdict : List (List ℕ) → List Definition → List Definition → Verdict
merge_verdict names init main = each_name (λ n. same_verdict names n (find_type init n) (find_type main n)) 0 (length names)

-- `check_init_args`: the init file's own definitions, the merge, and its arguments under both.
unfoldable pub init_verdict : Book → Verdict
init_verdict b =
    let ids = init_definitions b in
    let ds = main_definitions b in
    and_then (decs_verdict (length b.names) ids)
    (and_then (merge_verdict b.names ids ds)
    (check_forest false false (merge_definitions ids ds) (kids_of (init_tree b.files))))

unfoldable pub init_check : Book → Verdict
init_check b = and_then (check b) (init_verdict b)

-- On bytes, after admission.
unfoldable pub check_bytes : Source → Verdict
check_bytes bs = judged check (admitted bs)

unfoldable pub init_check_bytes : Source → Verdict
init_check_bytes bs = judged init_check (admitted bs)
