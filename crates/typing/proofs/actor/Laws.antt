-- The walk over an actor, as written and merged. Assumes nothing.
--     top-stop, top-end, top-other    what is walked of an actor as written
--     MergedLeft                      the loop over services
--     merged-stop, written-stop, ..   the verdict
use mathlib.Core.Path.{◌≡◌, refl, sym, ap, ◌∙◌}
use mathlib.Core.Bool.{Bool, true, false, cond, not, ◌&&◌, and-false}
use mathlib.Core.List.{List}
use Rattle.std.proofs.Common.{drop}
use Prim.Native.Nat.{ℕ, ◌+◌, ◌≤◌, ◌<◌}
use native.Mathlib.Omega.{arith}
use borrow.Author.Tests.{ne_eqb}
use lib.ListN.{length, get_or}
use Rattle.std.specs.Prelude.{IsSome, Ok, Err}
use Rattle.std.specs.Option.{is_none}
use Rattle.format.specs.Forest.{Forest, end, tree, breadth, beside, no_trees}
use Rattle.format.specs.Node.{Node}
use Rattle.format.specs.Book.{Definition}
use Rattle.format.specs.Encode.{Row}
use Rattle.format.specs.Layout.{row_at, siblings}
use Rattle.format.specs.Whole.{WholeAt, tree_at}
use Rattle.std.proofs.lemmas.List.{at_drop_more, at_drop_all}
use Rattle.std.proofs.lemmas.List.Elements.{All-get_or}
use Rattle.format.proofs.Stored.{tree-opens}
use Rattle.refusals.specs.declared.Refusal.{Refusal}
use Rattle.refusals.specs.declared.Refusal.TheVariants.{NoService}
use Rattle.refusals.specs.Verdict.{Verdict, passes, and_then, unless}
use Rattle.refusals.proofs.Verdicts.{and-passed, and_assoc}
use Rattle.judgement.specs.Environment.{head, head_kind, is_serv_kind, kids_of}
use Rattle.judgement.specs.Aliases.{Chain, chain, alias_end, root_passes, as_service}
use Rattle.judgement.specs.Actor.{is_class_kind, is_class, all_but_last, class_arguments, below_class, service_of, class_of, merged_of}
use Rattle.judgement.specs.Check.{kind_verdict, method_verdict, check_forest, actor_verdict}
use Rattle.judgement.specs.WellFormed.{below_top}
use Rattle.judgement.proofs.Classes.{last-beside}
use Rattle.environment.proofs.Links.{chain-other}
use Rattle.syntax.specs.declared.interface.Interface.{Interface}
use Rattle.syntax.specs.declared.interface.Actor.TheVariants.{Absent, Written}
use Rattle.syntax.specs.Classes.{tree_of}
use Rattle.syntax.specs.Interfaces.{IsService, methods_in, IsMerged, main_of, actor_tree, interface_tree}
use Rattle.syntax.proofs.Stored.{tree-class, tree-kids}
use Rattle.syntax.proofs.interface.Laws.{tree-arguments}
use Rattle.typing.specs.declared.types.Walk.{Walk}
use Rattle.typing.specs.Walk.{type_verdict}
use Rattle.typing.specs.Types.{WalkEnv, Under}
use Rattle.typing.specs.Actors.{ActorOf}
use Rattle.typing.proofs.Nodes.{at-service}
use Rattle.typing.proofs.Walk.{Said, many-stops, many-pass, tree-verdict}
use Rattle.typing.proofs.Fits.{some-not-none}

-- ---- what is walked of an actor as written
whole : (w : Walk) {n : ℕ} → n < w.env.scope.nodes → WholeAt w.env.scope.rows.now n
whole w h = (w.env.trees.nodes.tree _ h).whole

module _ (w : Walk) {n : ℕ} (h : n < w.env.scope.nodes) {r : Row} (is : r ≡ row_at w.env.scope.rows.now n) where
  top-class : r.kind ≡ 25 → siblings w.env.scope.rows.now (n + 1) (n + r.size) ≡ below_top (tree_at w.env.scope.rows.now n)
  unfolding below_top
  top-class k =
      ap (λ (q : Row). siblings w.env.scope.rows.now (n + 1) (n + q.size)) is ∙ sym (tree-kids (whole w h))
      ∙ rw (tree-class (whole w h), ap (λ (q : Row). q.kind) (sym is) ∙ k)

  module _ (k : r.kind ≡ 25) where
    pub top-stop : {x : Refusal} → Said w false (n + 1) (n + r.size) (Err x) → Under w (λ pre ds. Err x ≡ check_forest pre false ds (below_top (tree_at w.env.scope.rows.now n)))
    top-stop s ds e = rw (and-false (not (is_none w.ends)), top-class k) at (sym (many-stops _ _ (sym (s ds e))))

    pub top-end : {j : ℕ} → Said w false (n + 1) (n + r.size) (Ok j) → Under w (λ pre ds. passes ≡ check_forest pre false ds (below_top (tree_at w.env.scope.rows.now n)))
    top-end s ds e = rw (and-false (not (is_none w.ends)), top-class k) at (sym (many-pass _ _ (sym (s ds e))).0)

  pub top-other : (r.kind ≡ 25 → ⊥) → {v : Verdict} → Under w (λ pre ds. v ≡ type_verdict pre ds w.env.scope.rows.now n) → Under w (λ pre ds. v ≡ check_forest pre false ds (below_top (tree_at w.env.scope.rows.now n)))
  unfolding below_top
  top-other k u ds e =
      u ds e ∙ tree-verdict (is_none w.ends) ds (whole w h)
      ∙ ap (check_forest (is_none w.ends) false ds) (rw (tree-class (whole w h), ne_eqb (row_at w.env.scope.rows.now n).kind 25 (λ e. k (ap (λ (q : Row). q.kind) is ∙ e))) refl)

-- ---- trees beside each other
check-beside : (pre tested : Bool) (ds : List Definition) (f g : Forest Node) → check_forest pre tested ds (beside f g) ≡ and_then (check_forest pre tested ds f) (check_forest pre tested ds g)
unfolding check_forest beside
check-beside pre tested ds end g = refl
check-beside pre tested ds (tree n k f) g =
    let v : Verdict = and_then (kind_verdict ds n.kind (breadth k) (check_forest pre (not pre && is_serv_kind n.kind) ds k)) (method_verdict tested ds n k) in
    ap (and_then v) (check-beside pre tested ds f g) ∙ and_assoc v (check_forest pre tested ds f) (check_forest pre tested ds g)

-- ---- a service of these methods
module _ (ds : List Definition) (methods : Forest Node) where
  service-verdict : check_forest false false ds (service_of methods) ≡ check_forest false true ds methods
  unfolding check_forest kind_verdict is_serv_kind method_verdict
  service-verdict =
      and-passed (and_then (check_forest false true ds methods) passes) ∙ and-passed (check_forest false true ds methods)

  service-is : as_service ds (service_of methods) ≡ true
  unfolding as_service alias_end chain head head_kind root_passes is_serv_kind
  service-is = ap (λ (c : Chain). root_passes is_serv_kind c.last) (chain-other ds (service_of methods) (length ds) refl)

  -- ---- a merged actor: a class with its arguments, or a service
  pub merged-verdict : (main : Forest Node) → and_then (check_forest false false ds (class_arguments main)) (check_forest false true ds methods) ≡ actor_verdict ds (merged_of main methods)
  unfolding actor_verdict no_trees is_class is_class_kind kids_of below_class class_arguments check_forest breadth
  merged-verdict main = go (is_class main)
    where
      go : (b : Bool) → and_then (check_forest false false ds (cond b (all_but_last (kids_of main)) end)) (check_forest false true ds methods) ≡ actor_verdict ds (cond b (class_of (cond b (all_but_last (kids_of main)) end) (service_of methods)) (service_of methods))
      go true =
          let arguments = all_but_last (kids_of main) in
          sym
          (rw (last-beside arguments (service_of methods) refl, service-is)
          (and-passed (check_forest false false ds (beside arguments (service_of methods)))
          ∙ check-beside false false ds arguments (service_of methods)
          ∙ ap (and_then (check_forest false false ds arguments)) service-verdict))
      go false = sym (rw service-is (and-passed (check_forest false false ds (service_of methods)) ∙ service-verdict))

-- ---- the loop over services
abbrev pub MergedLeft : Walk → List ℕ → ℕ → Type 0
MergedLeft w services k =
    Under w (λ pre ds. check_forest false true ds (methods_in w.env.scope.rows.now (drop k services)) ≡ check_forest false true ds (methods_in w.env.scope.rows.now services))

-- what is said of an actor merged from services
abbrev pub SaidOf : Walk → Interface → Verdict → Type 0
SaidOf w i v = IsSome w.ends → Under w (λ pre ds. ActorOf w i ds → IsMerged i.actor → v ≡ actor_verdict ds (interface_tree w.env.scope.rows.now i))

module _ (w : Walk) (i : Interface) where
  -- where the arguments have the verdict v and the methods the verdict u
  merged-is : {ds : List Definition} → ActorOf w i ds → IsMerged i.actor → (v u : Verdict) →
      v ≡ check_forest false false ds (siblings w.env.scope.rows.now i.from i.until) → u ≡ check_forest false true ds (methods_in w.env.scope.rows.now i.services) →
      and_then v u ≡ actor_verdict ds (interface_tree w.env.scope.rows.now i)
  unfolding actor_tree
  merged-is {ds} a m v u p q =
      rw (p, q, a.arguments.are ∙ tree-arguments w.env.scope.rows.now i.services m.1)
      (merged-verdict ds (methods_in w.env.scope.rows.now i.services) (tree_of w.env.scope.rows.now m.0) ∙ ap (actor_verdict ds) (rw m.1 refl))

  pub arguments-stop : {x : Refusal} → Said w false i.from i.until (Err x) → SaidOf w i (Err x)
  arguments-stop {x} s q ds e a m =
      merged-is a m (Err x) _ (rw (and-false (not (is_none w.ends)), some-not-none w.ends q) at (sym (many-stops _ _ (sym (s ds e))))) refl

  module _ {j : ℕ} (s : Said w false i.from i.until (Ok j)) where
    arguments-pass : IsSome w.ends → Under w (λ pre ds. passes ≡ check_forest false false ds (siblings w.env.scope.rows.now i.from i.until))
    arguments-pass q ds e = rw (and-false (not (is_none w.ends)), some-not-none w.ends q) at (sym (many-pass _ _ (sym (s ds e))).0)

    pub merged-end : {services : List ℕ} → services ≡ i.services → {k : ℕ} → length services ≤ k → (IsSome w.ends → MergedLeft w services k) → SaidOf w i passes
    unfolding methods_in check_forest
    merged-end {services} z {k} h l q ds e a m =
        let f = λ (l : List ℕ). check_forest false true ds (methods_in w.env.scope.rows.now l) in
        merged-is a m passes passes (arguments-pass q ds e) (sym (at_drop_all f services k h) ∙ l q ds e ∙ ap f z)

    module _ {services : List ℕ} (z : services ≡ i.services) {k : ℕ} (h : k < length services) (l : IsSome w.ends → MergedLeft w services k) {ds' : List Definition} (a' : ActorOf w i ds') where
      service : IsService w.env.scope.rows.now w.env.scope.nodes (get_or services k 0)
      service = All-get_or (IsService w.env.scope.rows.now w.env.scope.nodes) services k 0 h (rw z a'.nodes.service)

      merged-opens : {v : Verdict} → Under w (λ pre ds. v ≡ type_verdict pre ds w.env.scope.rows.now (get_or services k 0)) → IsSome w.ends →
          Under w (λ pre ds. and_then v (check_forest false true ds (methods_in w.env.scope.rows.now (drop (k + 1) services))) ≡ check_forest false true ds (methods_in w.env.scope.rows.now services))
      unfolding methods_in
      merged-opens {v} u q ds e =
          let n : ℕ = get_or services k 0 in
          let f = λ (l : List ℕ). check_forest false true ds (methods_in w.env.scope.rows.now l) in
          let is : v ≡ check_forest false true ds (kids_of (tree_at w.env.scope.rows.now n)) =
          (rw (some-not-none w.ends q) at (u ds e)) ∙ sym (at-service false ds w.env.scope.rows.now n (row_at w.env.scope.rows.now n) refl service.1)
          ∙ ap (check_forest false true ds) (sym (tree-kids (whole w service.0))) in
          ap (λ (u : Verdict). and_then u (f (drop (k + 1) services))) is
          ∙ sym (check-beside false true ds (kids_of (tree_at w.env.scope.rows.now n)) (methods_in w.env.scope.rows.now (drop (k + 1) services)))
          ∙ sym (at_drop_more f services k 0 h) ∙ l q ds e

      pub merged-stop : {x : Refusal} → Under w (λ pre ds. Err x ≡ type_verdict pre ds w.env.scope.rows.now (get_or services k 0)) → SaidOf w i (Err x)
      merged-stop {x} u q ds e a m =
          merged-is a m passes (Err x) (arguments-pass q ds e) (merged-opens u q ds e ∙ ap (λ (l : List ℕ). check_forest false true ds (methods_in w.env.scope.rows.now l)) z)

      pub merged-on : Under w (λ pre ds. passes ≡ type_verdict pre ds w.env.scope.rows.now (get_or services k 0)) → IsSome w.ends → MergedLeft w services (k + 1)
      merged-on u = merged-opens u

  -- ---- none, and an actor as written
  pub no-actor : (ds : List Definition) → i.actor ≡ Absent → passes ≡ actor_verdict ds (interface_tree w.env.scope.rows.now i)
  unfolding actor_verdict no_trees actor_tree
  no-actor ds m = rw m refl

  module _ {root : ℕ} (m : i.actor ≡ Written root) {ds : List Definition} (a : ActorOf w i ds) where
    tree-some : interface_tree w.env.scope.rows.now i ≡ tree_at w.env.scope.rows.now root
    unfolding actor_tree
    tree-some = rw m refl

    pub root-inside : root < w.env.scope.nodes
    unfolding main_of
    root-inside = rw m at a.nodes.main

    tree-is : no_trees (tree_at w.env.scope.rows.now root) ≡ false
    unfolding no_trees
    tree-is = rw (tree-opens (whole w root-inside))

    module _ (q : IsSome w.ends) (e : WalkEnv w ds) where
      written : {v : Verdict} → Under w (λ pre ds. v ≡ check_forest pre false ds (below_top (tree_at w.env.scope.rows.now root))) → (b : Bool) → b ≡ as_service ds (below_class (tree_at w.env.scope.rows.now root)) →
          and_then v (unless b NoService) ≡ actor_verdict ds (interface_tree w.env.scope.rows.now i)
      unfolding actor_verdict below_top
      written u b s = rw (tree-some, tree-is, s, rw (some-not-none w.ends q) at (u ds e)) refl

      -- 10 is a look at the number of services
      served : length i.services ≡ cond (as_service ds (below_class (tree_at w.env.scope.rows.now root))) 1 0
      served = a.served root m ∙ ap (λ (u : Forest Node). cond (as_service ds (below_class u)) 1 0) tree-some

      pub written-stop : {x : Refusal} → Under w (λ pre ds. Err x ≡ check_forest pre false ds (below_top (tree_at w.env.scope.rows.now root))) → Err x ≡ actor_verdict ds (interface_tree w.env.scope.rows.now i)
      written-stop u = written u _ refl

      module _ (u : Under w (λ pre ds. passes ≡ check_forest pre false ds (below_top (tree_at w.env.scope.rows.now root)))) where
        pub no-service : length i.services ≡ 0 → Err NoService ≡ actor_verdict ds (interface_tree w.env.scope.rows.now i)
        no-service z = written u false (sym (go (as_service ds (below_class (tree_at w.env.scope.rows.now root))) served))
          where
            go : (b : Bool) → length i.services ≡ cond b 1 0 → b ≡ false
            go true e = absurd (let f : ⊥ = omega (arith, e, z) in f)
            go false e = refl

        pub some-service : (length i.services ≡ 0 → ⊥) → passes ≡ actor_verdict ds (interface_tree w.env.scope.rows.now i)
        some-service z = written u true (sym (go (as_service ds (below_class (tree_at w.env.scope.rows.now root))) served))
          where
            go : (b : Bool) → length i.services ≡ cond b 1 0 → b ≡ true
            go true e = refl
            go false e = absurd (z e)
