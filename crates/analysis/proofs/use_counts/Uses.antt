-- The loops of `count_uses`: over services, whose methods are counted at nodes; over these nodes, for the types of functions; and over the types.
-- Assumes nothing.
use mathlib.Core.Path.{◌≡◌, refl, ap, ◌∙◌}
use mathlib.Core.List.{List}
use Prim.Native.Nat.{ℕ, ◌+◌, ◌*◌, ◌≤◌, ◌<◌}
use native.Mathlib.Omega.{arith}
use lib.ListN.{length, get_or, drop, replicate}
use Rattle.format.specs.Forest.{Forest}
use Rattle.format.specs.Node.{Node}
use Rattle.format.specs.Book.{Definition}
use Rattle.format.specs.Layout.{row_at, siblings}
use Rattle.format.specs.Whole.{WholeAt}
use Rattle.format.proofs.References.{everywhere}
use Rattle.environment.specs.Tables.{Chains, Ended}
use Rattle.syntax.specs.Interfaces.{methods_in}
use Rattle.analysis.specs.declared.use_counts.UsedTypes.{UsedTypes}
use Rattle.analysis.specs.Reaching.{no_rows, KeptFrom}
use Rattle.analysis.specs.Tallies.{Amount, ByWalk, stops, times_listed, each_type, tally, trees_tally, of_method, method_tally, offered_tally, node_tally, type_at, weighed, no_counts, NoMore, Countable, CountedIn, Stands, UsedIn, RoomFor, Offering}
use Rattle.analysis.proofs.BookNodes.{services-none, services-some, offer-ended}
use Rattle.analysis.proofs.reaching.Ownership.{rows-length, rows-at}
use Rattle.analysis.proofs.use_counts.ByWalk.{times-by-walk, stops-by-walk, each-type-by-walk}
use Rattle.analysis.proofs.use_counts.Types.{tally-beside}
use Rattle.analysis.proofs.use_counts.Weights.{weighed-drop, weighed-none, weighed-past}

no-counts-at : (n : ℕ) → get_or no_counts n 0 ≡ 0
unfolding no_counts
no-counts-at n = everywhere {A = ℕ} 1024 n 0

-- at first no type is used
none-used : {times : List ℕ} → times ≡ replicate 4096 0 → (i : ℕ) → get_or times i 0 ≡ 0
none-used none i = ap (λ (l : List ℕ). get_or l i 0) none ∙ everywhere {A = ℕ} 4096 i 0

module _ (ns roots ends' : List ℕ) (nodes from until : ℕ) (services : List ℕ) where
  abbrev Offers : Type 0
  Offers = Offering ns roots ends' nodes from until services

  abbrev offers : Offers → Amount → ℕ
  offers x = offered_tally ns x.counted.ds from until services

  -- ---- At service s
  pub record ServicesLeft (mid : List ℕ) (s : ℕ) : Type 0 where
    pub long : length mid ≡ 4096
    pub few : NoMore mid (4096 * s)
    pub beyond : (i : ℕ) → nodes ≤ i → get_or mid i 0 ≡ 0
    pub left : (x : Offers) (g : Amount) →
        weighed (node_tally ns) 0 mid g + method_tally g x.counted.ds (methods_in ns (drop s services)) ≡ method_tally g x.counted.ds (methods_in ns services)

  -- ---- At the function at node f
  pub record FunctionsLeft (methods : List ℕ) (types : UsedTypes) (f : ℕ) : Type 0 where
    pub long : length methods ≡ 4096
    pub beyond : (i : ℕ) → nodes ≤ i → get_or methods i 0 ≡ 0
    pub stands : Stands ns nodes types
    pub left : (x : Offers) (g : Amount) → ByWalk g → weighed (type_at ns) 0 types.times g + weighed (node_tally ns) f (drop f methods) g ≡ offers x g

  -- ---- At the type at node n
  pub record TypesLeft (times mid : List ℕ) (n : ℕ) : Type 0 where
    pub long : length times ≡ 4096
    pub beyond : (i : ℕ) → nodes ≤ i → get_or times i 0 ≡ 0
    pub goes_on : (x : Offers) → weighed (type_at ns) n (drop n times) (stops x.counted.ds) ≡ 0
    pub left : (x : Offers) (v : ℕ) → v < 1024 →
        get_or mid v 0 + weighed (type_at ns) n (drop n times) (times_listed x.counted.ds v) ≡ offers x (times_listed x.counted.ds v)

module _ {ns roots ends' : List ℕ} {nodes from until : ℕ} {services : List ℕ} where
  -- ---- The methods of services
  pub services-start : {mid : List ℕ} → mid ≡ no_rows → ServicesLeft ns roots ends' nodes from until services mid 0
  services-start {mid} e =
      let none : (i : ℕ) → get_or mid i 0 ≡ 0 = λ i. ap (λ (l : List ℕ). get_or l i 0) e ∙ rows-at i in
      record {
        long = ap length e ∙ rows-length;
        few = λ i. omega (arith, none i);
        beyond = λ i h. none i;
        left = λ x g. omega (arith, weighed-none (node_tally ns) g 0 mid none);
      }

  module _ {mid : List ℕ} {s : ℕ} (l : ServicesLeft ns roots ends' nodes from until services mid s) where
    module _ (h : s < length services) (w : WholeAt ns (get_or services s 0)) where
      abbrev service : ℕ
      service = get_or services s 0

      abbrev under : Forest Node
      under = siblings ns (service + 1) (service + (row_at ns service).size)

      pub services-on : {mid' : List ℕ} → length mid' ≡ 4096 → ((f : ℕ) → get_or mid' f 0 ≤ get_or mid f 0 + 4096) → ((x : Ended ns ends' service) → KeptFrom x.count mid mid') →
          ((x : Ended ns ends' service) (ds : List Definition) → Chains ns ends' x.names ds → (g : Amount) →
          weighed (node_tally ns) 0 mid' g ≡ weighed (node_tally ns) 0 mid g + method_tally g ds under) →
          Offering ns roots ends' nodes from until services → ServicesLeft ns roots ends' nodes from until services mid' (s + 1)
      services-on long few kept counted o =
          record {
            long = long;
            few = λ i. omega (arith, few i, l.few i);
            beyond = λ i n. (kept (offer-ended o.offer h)).kept i n ∙ l.beyond i n;
            left = λ x g.
                let ds = x.counted.ds in
                let one = counted (offer-ended x.offer h) ds x.chains g in
                let opens = ap (method_tally g ds) (services-some ns services h w refl) ∙ tally-beside (of_method g ds) under (methods_in ns (drop (s + 1) services)) in
                omega (arith, l.left x g, one, opens);
          }

    services-end : length services ≤ s → (x : Offering ns roots ends' nodes from until services) (g : Amount) →
        weighed (node_tally ns) 0 mid g ≡ method_tally g x.counted.ds (methods_in ns services)
    unfolding tally
    services-end h x g =
        let none : method_tally g x.counted.ds (methods_in ns (drop s services)) ≡ 0 = ap (method_tally g x.counted.ds) (services-none ns services h) in
        omega (arith, l.left x g, none)

    -- ---- The class's arguments are the first types, and those of functions follow
    pub functions-start : length services ≤ s → (old : UsedTypes) {new : UsedTypes} → old.times ≡ replicate 4096 0 → Stands ns nodes new → UsedIn ns old new 1 (trees_tally ns from until) →
        FunctionsLeft ns roots ends' nodes from until services mid new 0
    functions-start h old none stands used =
        record {
          long = l.long;
          beyond = l.beyond;
          stands = stands;
          left = λ x g b. omega (arith, services-end h x g, used g b, weighed-none (type_at ns) g 0 old.times (none-used none));
        }

  -- the arguments find room
  pub arguments-room : Offering ns roots ends' nodes from until services → (types : UsedTypes) → types.times ≡ replicate 4096 0 → RoomFor ns types 1 (trees_tally ns from until)
  arguments-room x types none = omega (arith, x.types_room, weighed-none (type_at ns) each_type 0 types.times (none-used none))

  module _ {methods : List ℕ} {types : UsedTypes} {f : ℕ} (l : FunctionsLeft ns roots ends' nodes from until services methods types f) where
    module _ (x : Offering ns roots ends' nodes from until services) (h : f < nodes) where
      this-function : (g : Amount) →
          weighed (node_tally ns) f (drop f methods) g ≡ get_or methods f 0 * node_tally ns f g + weighed (node_tally ns) (f + 1) (drop (f + 1) methods) g
      this-function g = weighed-drop (node_tally ns) g methods f (omega (arith, l.long, x.offer.book.few_nodes))

      pub function-room : RoomFor ns types (get_or methods f 0) (node_tally ns f)
      function-room = omega (arith, l.left x each_type each-type-by-walk, this-function each_type, x.types_room)

    pub functions-on : Offering ns roots ends' nodes from until services → f < nodes → {new : UsedTypes} → Stands ns nodes new →
        UsedIn ns types new (get_or methods f 0) (node_tally ns f) → FunctionsLeft ns roots ends' nodes from until services methods new (f + 1)
    functions-on o h stands used =
        record {
          long = l.long;
          beyond = l.beyond;
          stands = stands;
          left = λ x g b. omega (arith, l.left x g b, this-function x h g, used g b);
        }

    -- ---- and then each type
    functions-end : f ≡ nodes → (x : Offering ns roots ends' nodes from until services) (g : Amount) → ByWalk g →
        weighed (type_at ns) 0 types.times g ≡ offered_tally ns x.counted.ds from until services g
    functions-end e x g b =
        let none = weighed-past (node_tally ns) g f methods (λ j h. l.beyond j (omega arith)) in
        omega (arith, l.left x g b, none)

    pub types-start : f ≡ nodes → {counts : List ℕ} → counts ≡ no_counts → TypesLeft ns roots ends' nodes from until services types.times counts 0
    types-start e {counts} none =
        record {
          long = l.stands.long;
          beyond = l.stands.beyond;
          goes_on = λ x. functions-end e x (stops x.counted.ds) (stops-by-walk x.counted.ds) ∙ x.goes_on;
          left = λ x v i.
              let all = functions-end e x (times_listed x.counted.ds v) (times-by-walk x.counted.ds v) in
              omega (arith, all, ap (λ (q : List ℕ). get_or q v 0) none, no-counts-at v);
        }

  module _ {times mid : List ℕ} {n : ℕ} (l : TypesLeft ns roots ends' nodes from until services times mid n) where
    module _ (x : Offering ns roots ends' nodes from until services) (h : n < nodes) where
      this-type : (g : Amount) → weighed (type_at ns) n (drop n times) g ≡ get_or times n 0 * type_at ns n g + weighed (type_at ns) (n + 1) (drop (n + 1) times) g
      this-type g = weighed-drop (type_at ns) g times n (omega (arith, l.long, x.offer.book.few_nodes))

      pub type-countable : Countable ns roots mid (get_or times n 0) (type_at ns n)
      type-countable =
          record {
            counted = x.counted;
            goes_on = omega (arith, l.goes_on x, this-type (stops x.counted.ds));
            room = λ v i. omega (arith, l.left x v i, this-type (times_listed x.counted.ds v), x.room v i);
          }

    pub types-on : Offering ns roots ends' nodes from until services → n < nodes → {new : List ℕ} → CountedIn ns roots mid new (get_or times n 0) (type_at ns n) →
        TypesLeft ns roots ends' nodes from until services times new (n + 1)
    types-on o h counted =
        record {
          long = l.long;
          beyond = l.beyond;
          goes_on = λ x. omega (arith, l.goes_on x, this-type x h (stops x.counted.ds));
          left = λ x v i. omega (arith, l.left x v i, this-type x h (times_listed x.counted.ds v), counted x.counted.ds x.counted.binds x.counted.few v i);
        }

    pub types-end : n ≡ nodes → (x : Offering ns roots ends' nodes from until services) (v : ℕ) → v < 1024 →
        get_or mid v 0 ≡ offered_tally ns x.counted.ds from until services (times_listed x.counted.ds v)
    types-end e x v i =
        let none = weighed-past (type_at ns) (times_listed x.counted.ds v) n times (λ j h. l.beyond j (omega arith)) in
        omega (arith, l.left x v i, none)
