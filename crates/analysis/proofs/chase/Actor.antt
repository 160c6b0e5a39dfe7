-- The walk from a start, and over an actor as written and merged. Assumes nothing.
--     holds-going, holds-on        a walk that goes on, and one that was stopped
--     fresh-started, fresh-..      the walk from a start
--     ServicesLeft, services-..    the loop over services
use mathlib.Core.Path.{◌≡◌, refl, sym, ap, subst, ◌∙◌}
use mathlib.Core.Bool.{Bool, true, false, cond}
use mathlib.Core.List.Memᴰ
use mathlib.Core.List.{List, [], ◌∷◌}
use Prim.Native.Nat.{ℕ, suc, ◌+◌, ◌≤◌, ◌<◌}
use native.Mathlib.Numerals.{add-one}
use native.Mathlib.Omega.{arith}
use lib.Dec.{eqb}
use Rattle.std.proofs.Common.{length, get_or, drop, replicate, drop-cons, Option, Result, Ok, Err}
use Rattle.std.proofs.lemmas.List.Elements.{All-same, All-get_or}
use lib.ListN.{length-replicate}
use lib.Seq.{drop-length}
use Rattle.refusals.specs.declared.Refusal.{Refusal}
use Rattle.format.specs.Forest.{Forest, end, tree, beside}
use Rattle.format.specs.Node.{Kind, PrimT, VarT, OptT, VecT, RecordT, VariantT, FuncT, ServT, ClassT, InitT, Node}
use Rattle.format.specs.Book.{Definition}
use Rattle.format.specs.Encode.{Row}
use Rattle.format.specs.Layout.{row_at, siblings}
use Rattle.format.specs.Whole.{WholeAt, tree_at}
use Rattle.format.proofs.References.{everywhere}
use Rattle.judgement.specs.Environment.{kids_of}
use Rattle.judgement.specs.Actor.{is_class, all_but_last, class_arguments, service_of, class_of, merged_of}
use Rattle.judgement.specs.Check.{member}
use Rattle.format.specs.Distinct.{none}
use Rattle.book.specs.Tables.{no_flags, is_set}
use Rattle.syntax.specs.declared.interface.Interface.{Interface}
use Rattle.environment.specs.Tables.{Binds}
use Rattle.syntax.specs.declared.interface.Actor.TheVariants.{Absent, Written}
use Rattle.syntax.specs.Classes.{tree_of}
use Rattle.syntax.specs.Interfaces.{IsService, methods_in, IsMerged, actor_tree, interface_tree}
use Rattle.syntax.proofs.Stored.{tree-kids}
use Rattle.listing.specs.Chase.{Walk as State, going, unbound, arm, chase, visit, chase_types}
use Rattle.analysis.specs.declared.chase.Walk.{Walk}
use Rattle.analysis.specs.Walking.{Goes, Holds, Started, fuel, ChasedAs, Counted, NothingMet, WalkedAs, InterfaceIn}
use Rattle.analysis.proofs.chase.Steps.{visit-stopped}

-- ---- A walk that goes on, and one that was stopped
pub record Going (ds : List Definition) (s : State) (w : Walk) : Type 0 where
  pub seen : List ℕ
  pub out : List ℕ
  pub is : s ≡ going seen out
  pub goes : Goes ds 0 seen out w

pub holds-going : (ds : List Definition) (s : State) (w : Walk) → Holds ds s (Ok w) → Going ds s w
holds-going ds (going seen out) w h = record { seen = seen; out = out; is = refl; goes = h }
holds-going ds (unbound n) w h = absurd h

module _ (ds : List Definition) (d m : ℕ) where
  arm-stopped : (below : State → State) → below (unbound m) ≡ unbound m → (k : Kind) → arm (visit d ds) below k (unbound m) ≡ unbound m
  unfolding arm
  arm-stopped below e (PrimT p) = refl
  arm-stopped below e (VarT n) = visit-stopped ds d n m
  arm-stopped below e OptT = e
  arm-stopped below e VecT = e
  arm-stopped below e RecordT = e
  arm-stopped below e VariantT = e
  arm-stopped below e (FuncT a ms) = e
  arm-stopped below e ServT = e
  arm-stopped below e ClassT = e
  arm-stopped below e InitT = e

  chase-stopped : (f : Forest Node) → chase (visit d ds) f (unbound m) ≡ unbound m
  unfolding chase
  chase-stopped end = refl
  chase-stopped (tree n kids next) =
      ap (chase (visit d ds) next) (arm-stopped (chase (visit d ds) kids) (chase-stopped kids) n.kind) ∙ chase-stopped next

-- what follows changes nothing
holds-on : (ds : List Definition) (d : ℕ) (f : Forest Node) (s : State) (why : Refusal) → Holds ds s (Err why) → Holds ds (chase (visit d ds) f s) (Err why)
holds-on ds d f (going seen out) why h = absurd h
holds-on ds d f (unbound n) why h = subst (λ (s : State). Holds ds s (Err why)) (sym (chase-stopped ds d n f)) h

-- ---- A walk that has met nothing
no-marks : (m n : ℕ) → eqb (get_or (replicate m 0) n 0) 1 ≡ member n []
unfolding member
no-marks m n = ap (λ (v : ℕ). eqb v 1) (everywhere m n 0)

nothing-goes : (ds : List Definition) (w : Walk) → NothingMet w → Goes ds 0 [] [] w
unfolding no_flags
nothing-goes ds w e =
    record {
      marks = λ n h. ap (λ (l : List ℕ). is_set l n) e.seen ∙ no-marks 1024 n;
      long = ap length e.seen ∙ length-replicate {A = ℕ} 1024 0;
      listed = e.listed;
      once = none;
      defined = λ n i. absurd (Memᴰ.not-nil i);
      slack = omega (arith, ap length e.listed);
    }

module _ {ns roots : List ℕ} (t : Counted ns roots) where
  pub fresh-started : {w : Walk} → NothingMet w → Started ns roots w
  fresh-started {w} e = record { definitions = t.ds; binds = t.binds; few = t.few; seen = []; out = []; goes = nothing-goes t.ds w e }

  -- the whole walk over trees of rows
  pub fresh-chased : (from until : ℕ) (w : Walk) (r : Result Walk Refusal) → NothingMet w → ChasedAs ns roots from until w r → WalkedAs ns roots (siblings ns from until) r
  unfolding chase_types
  fresh-chased from until w r e c ds b few = c ds [] [] b few (nothing-goes ds w e)

  -- and over none
  pub fresh-none : (f : Forest Node) → f ≡ end → (w : Walk) → NothingMet w → WalkedAs ns roots f (Ok w)
  unfolding chase_types chase
  fresh-none f z w e ds b few = rw z (nothing-goes ds w e)

  pub walked-same : {f g : Forest Node} (r : Result Walk Refusal) → f ≡ g → WalkedAs ns roots f r → WalkedAs ns roots g r
  walked-same r e h ds b few = subst (λ (x : Forest Node). Holds ds (chase_types ds x) r) e (h ds b few)

-- ---- trees beside each other, a service and a class
module _ (f : ℕ → State → State) where
  chase-beside : (t u : Forest Node) (s : State) → chase f (beside t u) s ≡ chase f u (chase f t s)
  unfolding chase beside
  chase-beside end u s = refl
  chase-beside (tree n kids next) u s = chase-beside next u (arm f (chase f kids) n.kind s)

  merged-chase : (main methods : Forest Node) (s : State) → chase f (merged_of main methods) s ≡ chase f methods (chase f (class_arguments main) s)
  unfolding class_arguments chase arm
  merged-chase main methods s = go (is_class main)
    where
      go : (b : Bool) → chase f (cond b (class_of (cond b (all_but_last (kids_of main)) end) (service_of methods)) (service_of methods)) s ≡ chase f methods (chase f (cond b (all_but_last (kids_of main)) end) s)
      go true = chase-beside (all_but_last (kids_of main)) (service_of methods) s
      go false = refl

-- ---- a node of the book
pub written-is : (ns : List ℕ) (n : ℕ) (q : Row) → q ≡ row_at ns n → siblings ns n (n + q.size) ≡ tree_at ns n
written-is ns n q is = ap (λ (r : Row). siblings ns n (n + r.size)) is

-- ---- The loop over services: those that are left lead where all of them do
abbrev pub over_services : List ℕ → List Definition → List ℕ → State → State
over_services ns ds services = chase (visit (fuel ds) ds) (methods_in ns services)

none-over : (ns : List ℕ) (ds : List Definition) (s : State) → over_services ns ds [] s ≡ s
unfolding methods_in chase
none-over ns ds s = refl

pub record ServiceCome (ns : List ℕ) (ds : List Definition) (main : Option ℕ) (services : List ℕ) (v : Walk) (k : ℕ) : Type 0 where
  pub seen : List ℕ
  pub out : List ℕ
  pub goes : Goes ds 0 seen out v
  pub same : over_services ns ds (drop k services) (going seen out) ≡ over_services ns ds services (chase_types ds (class_arguments (tree_of ns main)))

-- The interface is merged, and these are its services.
pub record MergedAs (a : Interface) (services : List ℕ) : Type 0 where
  pub merged : IsMerged a.actor
  pub are : services ≡ a.services

pub record ServicesLeft (ns roots : List ℕ) (a : Interface) (services : List ℕ) (v : Walk) (k : ℕ) : Type 0 where
  pub interface : MergedAs a services
  pub passed : k ≤ length services
  pub come : (ds : List Definition) → Binds ns roots ds → length ds ≤ 512 → ServiceCome ns ds interface.merged.0 services v k

pub actor-absent : {ns roots : List ℕ} → Counted ns roots → (a : Interface) → a.actor ≡ Absent → {w : Walk} → NothingMet w → WalkedAs ns roots (interface_tree ns a) (Ok w)
unfolding actor_tree
actor-absent {ns} t a m {w} n = fresh-none t (interface_tree ns a) (rw m refl) w n

pub actor-written : {ns roots : List ℕ} → Counted ns roots → (a : Interface) {root : ℕ} → a.actor ≡ Written root → (r : Result Walk Refusal) →
    WalkedAs ns roots (tree_at ns root) r → WalkedAs ns roots (interface_tree ns a) r
unfolding actor_tree
actor-written t a m r h = rw m h

module _ {ns roots : List ℕ} (t : Counted ns roots) {a : Interface} {services : List ℕ} where
  -- from the services to the interface
  actor-over : (m : MergedAs a services) → (r : Result Walk Refusal) →
      ((ds : List Definition) → Binds ns roots ds → length ds ≤ 512 → Holds ds (over_services ns ds services (chase_types ds (class_arguments (tree_of ns m.merged.0)))) r) →
      WalkedAs ns roots (interface_tree ns a) r
  unfolding actor_tree chase_types
  actor-over m r h ds b few =
      rw m.merged.1
      (subst (λ (s : State). Holds ds s r)
      (ap (λ (l : List ℕ). over_services ns ds l (chase_types ds (class_arguments (tree_of ns m.merged.0)))) m.are
      ∙ sym (merged-chase (visit (fuel ds) ds) (tree_of ns m.merged.0) (methods_in ns a.services) (going [] [])))
      (h ds b few))

  -- the class's arguments stop it
  pub arguments-stop : (m : MergedAs a services) → {f : Forest Node} → f ≡ class_arguments (tree_of ns m.merged.0) → (why : Refusal) → WalkedAs ns roots f (Err why) →
      WalkedAs ns roots (interface_tree ns a) (Err why)
  arguments-stop m e why h =
      actor-over m (Err why) λ ds b few.
      holds-on ds (fuel ds) (methods_in ns services) (chase_types ds (class_arguments (tree_of ns m.merged.0))) why (walked-same t (Err why) e h ds b few)

  pub services-start : (m : MergedAs a services) → {f : Forest Node} → f ≡ class_arguments (tree_of ns m.merged.0) → (v : Walk) → WalkedAs ns roots f (Ok v) →
      ServicesLeft ns roots a services v 0
  services-start m e v h =
      record {
        interface = m;
        passed = omega arith;
        come = λ ds b few.
            let g = holds-going ds (chase_types ds (class_arguments (tree_of ns m.merged.0))) v (walked-same t (Ok v) e h ds b few) in
            record { seen = g.seen; out = g.out; goes = g.goes; same = ap (over_services ns ds services) (sym g.is) };
      }

  module _ {v : Walk} {k : ℕ} (l : ServicesLeft ns roots a services v k) where
    pub services-started : Started ns roots v
    services-started =
        let c = l.come t.ds t.binds t.few in
        record { definitions = t.ds; binds = t.binds; few = t.few; seen = c.seen; out = c.out; goes = c.goes }

    pub services-over : length services ≤ k → WalkedAs ns roots (interface_tree ns a) (Ok v)
    services-over h =
        actor-over l.interface (Ok v) λ ds b few.
        let c = l.come ds b few in
        let z : k ≡ length services = omega (arith, l.passed) in
        subst (λ (s : State). Holds ds s (Ok v))
        (sym (none-over ns ds (going c.seen c.out)) ∙ ap (λ (j : List ℕ). over_services ns ds j (going c.seen c.out)) (sym (ap (λ (j : ℕ). drop j services) z ∙ drop-length services)) ∙ c.same) c.goes

    module _ (h : k < length services) where
      -- the next service is a node of the book
      pub service-in : {count : ℕ} → InterfaceIn ns count a → get_or services k 0 < count
      service-in {count} s =
          let all = All-same (IsService ns count) services a.services l.interface.are s.nodes.service in
          (All-get_or (IsService ns count) services k 0 h all).0

      module _ (s : ℕ) (at : s ≡ get_or services k 0) (w : WholeAt ns s) (q : Row) (is : q ≡ row_at ns s) where
        -- its methods, and then those of the services after it
        opens : (ds : List Definition) (x : State) →
            over_services ns ds (drop k services) x ≡ over_services ns ds (drop (k + 1) services) (chase (visit (fuel ds) ds) (siblings ns (s + 1) (s + q.size)) x)
        unfolding methods_in
        opens ds x =
            ap (λ (j : List ℕ). over_services ns ds j x) (drop-cons services k 0 h ∙ ap (λ (j : ℕ). j ∷ drop (suc k) services) (sym at) ∙ ap (λ (j : ℕ). s ∷ drop j services) (sym (add-one k)))
            ∙ ap (λ (f : Forest Node). chase (visit (fuel ds) ds) (beside f (methods_in ns (drop (k + 1) services))) x)
            (tree-kids w ∙ ap (λ (z : Row). siblings ns (s + 1) (s + z.size)) (sym is))
            ∙ chase-beside (visit (fuel ds) ds) (siblings ns (s + 1) (s + q.size)) (methods_in ns (drop (k + 1) services)) x

        pub services-on : (x : Walk) → ChasedAs ns roots (s + 1) (s + q.size) v (Ok x) → ServicesLeft ns roots a services x (k + 1)
        services-on x c =
            record {
              interface = l.interface;
              passed = omega arith;
              come = λ ds b few.
                  let y = l.come ds b few in
                  let g =
                  holds-going ds (chase (visit (fuel ds) ds) (siblings ns (s + 1) (s + q.size)) (going y.seen y.out)) x
                  (c ds y.seen y.out b few y.goes) in
                  record {
                    seen = g.seen;
                    out = g.out;
                    goes = g.goes;
                    same = ap (over_services ns ds (drop (k + 1) services)) (sym g.is) ∙ sym (opens ds (going y.seen y.out)) ∙ y.same;
                  };
            }

        pub services-stop : (why : Refusal) → ChasedAs ns roots (s + 1) (s + q.size) v (Err why) → WalkedAs ns roots (interface_tree ns a) (Err why)
        services-stop why c =
            actor-over l.interface (Err why) λ ds b few.
            let y = l.come ds b few in
            let x = chase (visit (fuel ds) ds) (siblings ns (s + 1) (s + q.size)) (going y.seen y.out) in
            subst (λ (z : State). Holds ds z (Err why)) (sym (opens ds (going y.seen y.out)) ∙ y.same)
            (holds-on ds (fuel ds) (methods_in ns (drop (k + 1) services)) x why (c ds y.seen y.out b few y.goes))
