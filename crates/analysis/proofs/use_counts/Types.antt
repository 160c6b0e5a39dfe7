-- Amounts of types that stand beside each other, and what the walk from a type lists. Assumes nothing.
--     tally-none, tally-open, ..       the trees from node i up to node e: none, or a tree and the rest; and trees after others
--     node-func, node-other            the function at a node
--     walk-known                       each name that a walk lists has a definition
--     NamesLeft, names-on, ..          the loop of `count_type` over the names of a walk
--     never-stops, names-counted, ..   the walk from a type
use mathlib.Core.Path.{◌≡◌, refl, sym, ap, subst, ◌∙◌}
use mathlib.Core.Logic.{⊎_elim}
use mathlib.Core.Bool.{Bool, true, false, cond}
use mathlib.Core.List.Memᴰ
use mathlib.Core.List.{List, [], ◌∷◌, Memᴰ}
use Prim.Native.Nat.{ℕ, zero, suc, ◌+◌, ◌*◌, ◌≤◌, ◌<◌}
use native.Mathlib.Nat.{mul-zero, mul-add}
use native.Mathlib.Numerals.{add-one}
use native.Mathlib.Decide.{dec_lt, ℕ_discrete}
use native.Mathlib.Omega.{arith}
use borrow.Author.Tests.{eq-eqb, ne_eqb}
use lib.Dec.{eqb}
use lib.ListN.{length, get_or, set, drop, length-set, get_or-eq_default, drop_of_length-le}
use lib.Seq.{drop-cons}
use Rattle.std.proofs.Common.{Result, Ok, Err}
use Rattle.std.proofs.lemmas.List.{get_or-set_same, get_or-set_other}
use Rattle.std.proofs.lemmas.List.Sums.{sum_by-cons}
use Rattle.std.specs.List.{count_by}
use Rattle.refusals.specs.declared.Refusal.{Refusal}
use Rattle.format.specs.Forest.{Forest, end, tree, beside}
use Rattle.format.specs.Node.{Kind, PrimT, VarT, OptT, VecT, RecordT, VariantT, FuncT, ServT, ClassT, InitT, Node}
use Rattle.format.specs.Book.{Definition}
use Rattle.format.specs.Encode.{Row}
use Rattle.format.specs.Layout.{row_at, siblings, node_of, kind_of, kinds}
use Rattle.format.specs.Whole.{WholeAt, tree_at}
use Rattle.format.proofs.References.{kind-alone}
use Rattle.format.proofs.Rows.{Opened, siblings-none, siblings-opens}
use Rattle.format.proofs.Stored.{tree-opens}
use Rattle.judgement.specs.Environment.{Found, missing, body, find_type, is_func_kind}
use Rattle.judgement.specs.Check.{member}
use Rattle.environment.specs.Tables.{Binds}
use Rattle.environment.proofs.Links.{found-none, listed-at}
use Rattle.listing.specs.Chase.{Walk as State, going, unbound, push, arm, chase, meet_name, visit, chase_types}
use Rattle.analysis.specs.declared.chase.Walk.{Walk}
use Rattle.analysis.specs.Walking.{Holds, WalkedAs}
use Rattle.analysis.specs.Tallies.{Amount, times_in, times_listed, stopped, stops, tally, end_tally, trees_tally, node_tally, Countable, CountedIn}
use Rattle.analysis.proofs.chase.Actor.{Going, holds-going}

-- ---- Amounts of trees
module _ (f : Amount) where
  pub tally-none : (ns : List ℕ) (i until : ℕ) → until ≤ i → trees_tally ns i until f ≡ 0
  unfolding tally
  tally-none ns i until h = ap (tally f) (siblings-none ns i until h)

  pub tally-open : {ns : List ℕ} {i until : ℕ} → Opened ns i until → trees_tally ns i until f ≡ f (tree_at ns i) + trees_tally ns (i + (row_at ns i).size) until f
  unfolding tally
  tally-open {ns} {i} {until} o =
      ap (tally f) (siblings-opens o) ∙ ap (λ (t : Forest Node). f t + tally f (siblings ns (i + (row_at ns i).size) until)) (sym (tree-opens o.here))

  pub tally-beside : (e g : Forest Node) → tally f (beside e g) ≡ tally f e + tally f g
  unfolding tally beside
  tally-beside end g = omega arith
  tally-beside (tree n kids e) g = omega (arith, tally-beside e g)

  -- only a function has an amount of its own
  kind-tally : (k v : ℕ) (kids : Forest Node) → cond (is_func_kind (kind_of k v)) (tally f kids) 0 ≡ cond (eqb k 23) (tally f kids) 0
  unfolding is_func_kind kinds
  kind-tally k v kids = kind-alone (λ (κ : Kind). cond (is_func_kind κ) (tally f kids) 0) 0 (tally f kids) 23 v (omega arith) refl refl k

  function-tally : {ns : List ℕ} {e : ℕ} → WholeAt ns e → node_tally ns e f ≡ cond (eqb (row_at ns e).kind 23) (trees_tally ns (e + 1) (e + (row_at ns e).size) f) 0
  unfolding end_tally node_of
  function-tally {ns} {e} w = rw (tree-opens w) (kind-tally (row_at ns e).kind (row_at ns e).value (siblings ns (e + 1) (e + (row_at ns e).size)))

  module _ {ns : List ℕ} {e : ℕ} (w : WholeAt ns e) (q : Row) (is : q ≡ row_at ns e) where
    pub node-func : q.kind ≡ 23 → node_tally ns e f ≡ trees_tally ns (e + 1) (e + q.size) f
    node-func k = rw (is, function-tally w, eq-eqb (row_at ns e).kind 23 (sym (ap (λ (r : Row). r.kind) is) ∙ k)) refl

    pub node-other : (q.kind ≡ 23 → ⊥) → node_tally ns e f ≡ 0
    node-other k = rw (function-tally w, ne_eqb (row_at ns e).kind 23 (λ h. k (ap (λ (r : Row). r.kind) is ∙ h))) refl

-- ---- What a walk lists has a definition
abbrev Known : List Definition → State → Type 0
Known ds (going seen out) = (n : ℕ) → Memᴰ n out → find_type ds n ≡ missing → ⊥
Known ds (unbound m) = Unit {0}

module _ (ds : List Definition) where
  abbrev Keeps : (State → State) → Type 0
  Keeps step = (s : State) → Known ds s → Known ds (step s)

  push-known : {t : Forest Node} (n : ℕ) → find_type ds n ≡ body t → Keeps (push n)
  unfolding push
  push-known n f (going seen out) k =
      λ m i e.
      ⊎_elim (λ (j : Memᴰ m out). k m j e) (λ (j : Memᴰ m (n ∷ [])). let q = Memᴰ.eq_of_singleton j in let z : find_type ds n ≡ missing = ap (find_type ds) (sym q) ∙ e in cc) (Memᴰ.append_cases out i)
  push-known n f (unbound m) k = tt

  module _ (meet : ℕ → State → State) (keeps : (n : ℕ) → Keeps (meet n)) where
    arm-known : (below : State → State) → Keeps below → (k : Kind) → Keeps (arm meet below k)
    unfolding arm
    arm-known below b (PrimT p) s x = x
    arm-known below b (VarT n) s x = keeps n s x
    arm-known below b OptT s x = b s x
    arm-known below b VecT s x = b s x
    arm-known below b RecordT s x = b s x
    arm-known below b VariantT s x = b s x
    arm-known below b (FuncT a ms) s x = b s x
    arm-known below b ServT s x = b s x
    arm-known below b ClassT s x = b s x
    arm-known below b InitT s x = b s x

    chase-known : (f : Forest Node) → Keeps (chase meet f)
    unfolding chase
    chase-known end s x = x
    chase-known (tree n kids next) s x = chase-known next (arm meet (chase meet kids) n.kind s) (arm-known (chase meet kids) (chase-known kids) n.kind s x)

  visit-known : (d n : ℕ) → Keeps (visit d ds n)
  unfolding visit meet_name
  visit-known zero n s x = x
  visit-known (suc d) n (unbound m) x = tt
  visit-known (suc d) n (going seen out) x = go (member n seen) (find_type ds n) refl (visit-known d)
    where
      go : (b : Bool) (y : Found) → find_type ds n ≡ y → ((m : ℕ) → Keeps (visit d ds m)) → Known ds (meet_name (chase (visit d ds)) n b y seen out)
      go true y e below = x
      go false missing e below = tt
      go false (body t) e below = push-known n e (chase (visit d ds) t (going (n ∷ seen) out)) (chase-known (visit d ds) below t (going (n ∷ seen) out) x)

  walk-known : (f : Forest Node) → Known ds (chase_types ds f)
  unfolding chase_types
  walk-known f = chase-known (visit (suc (length ds)) ds) (visit-known (suc (length ds))) f (going [] []) (λ m i. absurd (Memᴰ.not-nil i))

-- ---- The loop over the names of a walk, at name k
pub record NamesLeft (times : ℕ) (names before mid : List ℕ) (k : ℕ) : Type 0 where
  pub long : length mid ≡ 1024
  pub small : (j : ℕ) → j < length names → get_or names j 0 < 1024
  pub room : (n : ℕ) → n < 1024 → get_or before n 0 + times * count_by (eqb n) names < 4294967296
  pub left : (n : ℕ) → n < 1024 → get_or mid n 0 + times * count_by (eqb n) (drop k names) ≡ get_or before n 0 + times * count_by (eqb n) names

module _ {times k : ℕ} {names before mid : List ℕ} (l : NamesLeft times names before mid k) where
  names-end : length names ≤ k → (n : ℕ) → n < 1024 → get_or mid n 0 ≡ get_or before n 0 + times * count_by (eqb n) names
  names-end h n m =
      let none : times * count_by (eqb n) (drop k names) ≡ 0 = ap (λ (r : List ℕ). times * count_by (eqb n) r) (drop_of_length-le names {i = k} h) ∙ mul-zero times in
      omega (arith, l.left n m, none)

  module _ (h : k < length names) where
    abbrev name : ℕ
    name = get_or names k 0

    abbrev more : ℕ
    more = get_or mid name 0 + times

    -- the name counts once, and then those after it
    opens-names : (n : ℕ) → times * count_by (eqb n) (drop k names) ≡ times * cond (eqb n name) 1 0 + times * count_by (eqb n) (drop (k + 1) names)
    opens-names n =
        ap (λ (r : List ℕ). times * count_by (eqb n) r) (drop-cons names k 0 h ∙ ap (λ (j : ℕ). name ∷ drop j names) (sym (add-one k)))
        ∙ ap (λ (c : ℕ). times * c) (sum_by-cons (λ (x : ℕ). cond (eqb n x) 1 0) name (drop (k + 1) names))
        ∙ mul-add times (cond (eqb n name) 1 0) (count_by (eqb n) (drop (k + 1) names))

    own : times * count_by (eqb name) (drop k names) ≡ times + times * count_by (eqb name) (drop (k + 1) names)
    own = omega (arith, opens-names name, ap (λ (b : Bool). times * cond b 1 0) (eq-eqb name name refl))

    pub names-room : more < 4294967296
    names-room = omega (arith, l.left name (l.small k h), own, l.room name (l.small k h))

    pub names-on : NamesLeft times names before (set mid name more) (k + 1)
    names-on = record { long = length-set mid name more ∙ l.long; small = l.small; room = l.room; left = λ n s. go n s (ℕ_discrete n name) }
      where
        go : (n : ℕ) → n < 1024 → Dec (n ≡ name) →
            get_or (set mid name more) n 0 + times * count_by (eqb n) (drop (k + 1) names) ≡ get_or before n 0 + times * count_by (eqb n) names
        go n s (yes e) =
            rw e (omega (arith, l.left name (l.small k h), own, get_or-set_same mid name more 0 (omega (arith, l.small k h, l.long))))
        go n s (no e) =
            omega (arith, l.left n s, opens-names n, ap (λ (b : Bool). times * cond b 1 0) (ne_eqb n name e), mul-zero times, get_or-set_other mid name n more 0 e)

-- ---- The walk from a type
-- what is none several times is none once
none-once : {times a : ℕ} → 1 ≤ times → times * a ≡ 0 → a ≡ 0
none-once {times} {a} h z = grind arith

not-stopped : (ds : List Definition) (s : State) (why : Refusal) → stopped s ≡ 0 → Holds ds s (Err why) → ⊥
unfolding stopped
not-stopped ds (going seen out) why z h = h
not-stopped ds (unbound n) why z h = absurd (omega (arith, z))

-- the trees that the code goes over are the type's
pub type-walked : (ns roots : List ℕ) (n : ℕ) (r : Result Walk Refusal) {q : Row} → q ≡ row_at ns n → WalkedAs ns roots (siblings ns n (n + q.size)) r → WalkedAs ns roots (tree_at ns n) r
type-walked ns roots n r = subst (λ (q : Row). WalkedAs ns roots (siblings ns n (n + q.size)) r)

-- it does not stop
pub never-stops : {ns roots old : List ℕ} {times : ℕ} (t : Forest Node) → Countable ns roots old times (λ f. f t) → 1 ≤ times →
    (why : Refusal) → WalkedAs ns roots t (Err why) → ⊥
unfolding stops
never-stops t c some why w =
    let ds = c.counted.ds in
    not-stopped ds (chase_types ds t) why (none-once some c.goes_on) (w ds c.counted.binds c.counted.few)

-- it lists these names
module _ (ns roots : List ℕ) (t : Forest Node) (w : Walk) (h : WalkedAs ns roots t (Ok w)) {names : List ℕ} (are : names ≡ w.listed.items) where
  module _ (ds : List Definition) (b : Binds ns roots ds) (few : length ds ≤ 512) where
    went : Going ds (chase_types ds t) w
    went = holds-going ds (chase_types ds t) w (h ds b few)

    listed-are : went.out ≡ names
    listed-are = sym (are ∙ went.goes.listed)

    counts-listed : (n : ℕ) → times_listed ds n t ≡ count_by (eqb n) names
    unfolding times_listed times_in
    counts-listed n = ap (times_in n) went.is ∙ ap (count_by (eqb n)) listed-are

    listed-small : length roots ≡ 1024 → (n : ℕ) → Memᴰ n names → n < 1024
    listed-small long n m = go (dec_lt n 1024)
      where
        go : Dec (n < 1024) → n < 1024
        go (yes k) = k
        go (no k) =
            absurd (subst (Known ds) went.is (walk-known ds t) n (subst (Memᴰ n) (sym listed-are) m) (b n ∙ found-none ns _ (get_or-eq_default roots 65535 (omega arith))))

  module _ {old : List ℕ} {times : ℕ} where
    pub names-start : Countable ns roots old times (λ f. f t) → length roots ≡ 1024 → length old ≡ 1024 → NamesLeft times names old old 0
    names-start c long few =
        let x = c.counted in
        record {
          long = few;
          small = λ k z. listed-small x.ds x.binds x.few long (get_or names k 0) (listed-at names k 0 z);
          room = λ n m. subst (λ (a : ℕ). get_or old n 0 + times * a < 4294967296) (counts-listed x.ds x.binds x.few n) (c.room n m);
          left = λ n m. refl;
        }

    pub names-counted : {new : List ℕ} {k : ℕ} → NamesLeft times names old new k → length names ≤ k → CountedIn ns roots old new times (λ f. f t)
    names-counted l z ds b few n m = names-end l z n m ∙ ap (λ (a : ℕ). get_or old n 0 + times * a) (sym (counts-listed ds b few n))
