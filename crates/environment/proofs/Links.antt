-- The links of an alias chain, on definitions and on stored nodes. Assumes nothing.
--     chain-other, chain-unbound, ..    one link of a chain
--     head-var, head-other              the head of a stored tree
--     found-none, found-some            what a table of roots has
--     rooted, unrooted                  by `root_of`
--     row-within, name-inside           a node, and the name that it is
--     LinkSays, Bound, link-says        what a link says of a name's definition
--     ChainLeft, chain-step, ..        the loop of `alias_end`
--     get_or-within, listed-at          a place within a table, and what it has there
use mathlib.Core.Path.{◌≡◌, refl, sym, ap, ◌∙◌}
use mathlib.Core.List.{List, [], ◌∷◌, Memᴰ}
use mathlib.Core.Bool.{true, false, false≢true}
use Rattle.std.specs.Prelude.{Option, Some, None, IfSome, IfNone}
use Rattle.std.specs.Option.{is_some}
use Prim.Native.Nat.{ℕ, zero, suc, ◌+◌, ◌-◌, ◌≤◌, ◌<◌}
use native.Mathlib.Decide.{ℕ_discrete}
use native.Mathlib.Omega.{arith}
use borrow.Author.Tests.{ne_eqb}
use lib.ListN.{length, get_or}
use Rattle.format.specs.Forest.{Forest}
use Rattle.format.specs.Node.{Kind, PrimT, VarT, OptT, VecT, RecordT, VariantT, FuncT, ServT, ClassT, InitT, Node}
use Rattle.format.specs.Book.{Definition}
use Rattle.format.specs.Encode.{Row}
use Rattle.format.specs.Layout.{row_at, node_of}
use Rattle.format.specs.Whole.{Within, WholeAt, tree_at}
use Rattle.format.proofs.References.{node-var, var-node}
use Rattle.format.proofs.Stored.{tree-opens}
use Rattle.judgement.specs.Environment.{missing, body, find_type, named, other, head_kind, head}
use Rattle.judgement.specs.Aliases.{End, unbound, circle, ends, Chain, met, link, cross, chain_from}
use Rattle.environment.specs.declared.Link.{Link}
use Rattle.environment.specs.declared.Alias.{Alias}
use Rattle.environment.specs.declared.End.TheVariants.{Unbound, Circle, Ends}
use Rattle.environment.specs.Tables.{Nodes, Roots, found_at, Binds, var_at, link_of, as_end, InRange}

-- ---- one link
module _ (ds : List Definition) (t : Forest Node) where
  pub chain-other : (k : ℕ) → head t ≡ other → chain_from k ds t ≡ record { crossed = []; last = ends t }
  unfolding chain_from link
  chain-other zero h = rw h
  chain-other (suc k) h = rw h

  module _ (n : ℕ) (h : head t ≡ named n) where
    pub chain-unbound : (k : ℕ) → find_type ds n ≡ missing → chain_from k ds t ≡ record { crossed = []; last = unbound n }
    unfolding chain_from link met
    chain-unbound zero f = rw (h, f)
    chain-unbound (suc k) f = rw (h, f)

    pub chain-circle : (u : Forest Node) → find_type ds n ≡ body u → chain_from 0 ds t ≡ record { crossed = []; last = circle }
    unfolding chain_from link met
    chain-circle u f = rw (h, f)

    pub chain-on : (u : Forest Node) (k : ℕ) → find_type ds n ≡ body u → 0 < k → chain_from k ds t ≡ cross n (chain_from (k - 1) ds u)
    unfolding chain_from link met
    chain-on u zero f l = absurd (omega arith)
    chain-on u (suc k) f l = let e : suc k - 1 ≡ k = omega arith in rw (h, f, e)

-- ---- the head of a stored tree
head-not : (κ : Kind) → ((n : ℕ) → κ ≡ VarT n → ⊥) → head_kind κ ≡ other
unfolding head_kind
head-not (PrimT p) h = refl
head-not (VarT n) h = absurd (h n refl)
head-not OptT h = refl
head-not VecT h = refl
head-not RecordT h = refl
head-not VariantT h = refl
head-not (FuncT a ms) h = refl
head-not ServT h = refl
head-not ClassT h = refl
head-not InitT h = refl

module _ {ns : List ℕ} {n : ℕ} (w : WholeAt ns n) (r : Row) (is : r ≡ row_at ns n) where
  pub head-var : r.kind ≡ 18 → head (tree_at ns n) ≡ named r.value
  unfolding head head_kind
  head-var k = rw (tree-opens w, ← is, node-var r k)

  pub head-other : (r.kind ≡ 18 → ⊥) → head (tree_at ns n) ≡ other
  unfolding head
  head-other k = rw (tree-opens w, ← is) (head-not (node_of r).kind (λ m e. k (var-node r e).0))

-- ---- what a table of roots has
pub found-none : (ns : List ℕ) (root : ℕ) → root ≡ 65535 → found_at ns root ≡ missing
unfolding found_at
found-none ns root e = rw e

pub found-some : (ns : List ℕ) (root : ℕ) → (root ≡ 65535 → ⊥) → found_at ns root ≡ body (tree_at ns root)
unfolding found_at
found-some ns root h = rw (ne_eqb root 65535 h)

-- ---- the name that a node is
module _ (ns : List ℕ) (at : ℕ) where
  var-none : ((row_at ns at).kind ≡ 18 → ⊥) → var_at ns at ≡ None
  unfolding var_at
  var-none k = rw (ne_eqb (row_at ns at).kind 18 k)

  var-some : (row_at ns at).kind ≡ 18 → var_at ns at ≡ Some (row_at ns at).value
  unfolding var_at
  var-some k = rw k

  is-var : {n : ℕ} → var_at ns at ≡ Some n → Dec ((row_at ns at).kind ≡ 18) → ((row_at ns at).kind ≡ 18) × ((row_at ns at).value ≡ n)
  is-var e (yes k) = (k, cc (var-some k))
  is-var e (no k) = cc (var-none k)

module _ {ns : List ℕ} {names count at : ℕ} (x : Nodes ns names count) (inside : at < count) where
  pub row-within : Within ns (at + 1)
  row-within = record { held = omega (arith, x.within.held); few = x.within.few }

  no-name : var_at ns at ≡ None → head (tree_at ns at) ≡ other
  no-name e = head-other (x.tree at inside).whole (row_at ns at) refl (λ k. cc (var-some ns at k))

  module _ {n : ℕ} (e : var_at ns at ≡ Some n) where
    a-name : head (tree_at ns at) ≡ named n
    a-name =
        let v = is-var ns at e (ℕ_discrete _ _) in
        head-var (x.tree at inside).whole (row_at ns at) refl v.0 ∙ ap named v.1

    pub name-inside : n < names
    name-inside =
        let v = is-var ns at e (ℕ_discrete _ _) in
        omega (arith, (x.row at inside).name v.0, v.1)

-- ---- whether a name has a definition, by what the table of roots has
module _ {root : ℕ} (o : Option ℕ) where
  pub rooted : IfSome o (λ r. (r ≡ root) × (r ≡ 65535 → ⊥)) → is_some o ≡ true → root ≡ 65535 → ⊥
  rooted = go o
    where
      go : (o : Option ℕ) → IfSome o (λ r. (r ≡ root) × (r ≡ 65535 → ⊥)) → is_some o ≡ true → root ≡ 65535 → ⊥
      go None s e z = false≢true e
      go (Some r) s e z = s.1 (s.0 ∙ z)

  pub unrooted : IfNone o (root ≡ 65535) → is_some o ≡ false → root ≡ 65535
  unrooted = go o
    where
      go : (o : Option ℕ) → IfNone o (root ≡ 65535) → is_some o ≡ false → root ≡ 65535
      go None s e = s
      go (Some r) s e = absurd (false≢true (sym e))

-- ---- what a link says of a name's definition
pub link-none : (ns : List ℕ) (root : ℕ) → root ≡ 65535 → link_of ns root ≡ None
unfolding link_of
link-none ns root e = rw e

pub link-some : (ns : List ℕ) (root : ℕ) → (root ≡ 65535 → ⊥) → link_of ns root ≡ Some (record { root = root; next = var_at ns root })
unfolding link_of
link-some ns root e = rw (ne_eqb root 65535 e)

-- where there is one
pub record Bound (ns roots : List ℕ) (names count n : ℕ) (s : Link) : Type 0 where
  pub inside : s.root < count
  pub is : (ds : List Definition) → Binds ns roots ds → find_type ds n ≡ body (tree_at ns s.root)
  pub next-is : s.next ≡ var_at ns s.root
  pub stops : s.next ≡ None → head (tree_at ns s.root) ≡ other
  pub goes-on : (m : ℕ) → s.next ≡ Some m → head (tree_at ns s.root) ≡ named m
  pub next-inside : (m : ℕ) → s.next ≡ Some m → m < names

pub record LinkSays (ns roots : List ℕ) (names count n : ℕ) (s : Option Link) : Type 0 where
  pub lacks : IfNone s ((get_or roots n 65535 ≡ 65535) × ((ds : List Definition) → Binds ns roots ds → find_type ds n ≡ missing))
  pub bound : IfSome s (Bound ns roots names count n)

pub link-says : {ns roots : List ℕ} {names count : ℕ} → Nodes ns names count → Roots roots count → (n : ℕ) (s : Option Link) →
    s ≡ link_of ns (get_or roots n 65535) → LinkSays ns roots names count n s
link-says {ns} {roots} {names} {count} x y n s is = go (ℕ_discrete (get_or roots n 65535) 65535)
  where
    root : ℕ
    root = get_or roots n 65535

    go : Dec (get_or roots n 65535 ≡ 65535) → LinkSays ns roots names count n s
    go (yes e) = rw (is, link-none ns (get_or roots n 65535) e) (record { lacks = (e, λ ds b. b n ∙ found-none ns _ e); bound = tt })
    go (no h) =
        let inside : get_or roots n 65535 < count = y.node n h in
        rw (is, link-some ns (get_or roots n 65535) h)
        (record {
          lacks = tt;
          bound =
              record {
                inside = inside;
                is = λ ds b. b n ∙ found-some ns _ h;
                next-is = refl;
                stops = λ e. no-name x inside e;
                goes-on = λ m e. a-name x inside e;
                next-inside = λ m e. name-inside x inside e;
              };
        })

-- ---- the loop: what is left of the chain ends where all of it does, and crosses the names that are not crossed yet
abbrev pub last_end : Chain → End
last_end c = c.last

abbrev pub length_of : Chain → ℕ
length_of c = length c.crossed

pub record ChainLeft (ns roots : List ℕ) (nodes left node at crossed : ℕ) (next : Option ℕ) : Type 0 where
  pub inside : at < nodes
  pub name : next ≡ var_at ns at
  pub few : crossed ≤ left
  pub same : (ds : List Definition) → Binds ns roots ds → last_end (chain_from (left - crossed) ds (tree_at ns at)) ≡ last_end (chain_from left ds (tree_at ns node))
  pub counted : (ds : List Definition) → Binds ns roots ds → crossed + length_of (chain_from (left - crossed) ds (tree_at ns at)) ≡ length_of (chain_from left ds (tree_at ns node))

pub record AliasAs (ns roots : List ℕ) (nodes left node : ℕ) (a : Alias) : Type 0 where
  pub within : InRange nodes a.end
  pub is : (ds : List Definition) → Binds ns roots ds → as_end ns a.end ≡ (chain_from left ds (tree_at ns node)).last
  pub crossed-is : (ds : List Definition) → Binds ns roots ds → a.crossed ≡ length (chain_from left ds (tree_at ns node)).crossed
  pub few : a.crossed ≤ left

module _ {ns roots : List ℕ} {names nodes left node at crossed : ℕ} {next : Option ℕ} (x : Nodes ns names nodes)
    (l : ChainLeft ns roots nodes left node at crossed next) where
  -- nothing more is crossed
  stopped : (e : End) → ((ds : List Definition) → Binds ns roots ds → chain_from (left - crossed) ds (tree_at ns at) ≡ record { crossed = []; last = e }) →
      (a : Alias) → a.crossed ≡ crossed → InRange nodes a.end → as_end ns a.end ≡ e → AliasAs ns roots nodes left node a
  stopped e c a j w i =
      record {
        within = w;
        is = λ ds b. i ∙ sym (ap last_end (c ds b)) ∙ l.same ds b;
        crossed-is = λ ds b. let z : length_of (chain_from (left - crossed) ds (tree_at ns at)) ≡ 0 = ap length_of (c ds b) in omega (arith, l.counted ds b);
        few = omega (arith, l.few);
      }

  pub alias-ends : next ≡ None → AliasAs ns roots nodes left node (record { crossed = crossed; end = Ends at })
  unfolding as_end
  alias-ends e = stopped (ends (tree_at ns at)) (λ ds b. chain-other ds (tree_at ns at) _ (no-name x l.inside (sym l.name ∙ e))) _ refl l.inside refl

  module _ {n : ℕ} (is-name : next ≡ Some n) where
    pub chain-name : n < names
    chain-name = name-inside x l.inside (sym l.name ∙ is-name)

    here : head (tree_at ns at) ≡ named n
    here = a-name x l.inside (sym l.name ∙ is-name)

    pub alias-unbound : LinkSays ns roots names nodes n None → AliasAs ns roots nodes left node (record { crossed = crossed; end = Unbound n })
    unfolding as_end
    alias-unbound i = stopped (unbound n) (λ ds b. chain-unbound ds (tree_at ns at) n here _ (i.lacks.1 ds b)) _ refl tt refl

    module _ {s : Link} (i : Bound ns roots names nodes n s) where
      pub alias-circle : crossed ≡ left → AliasAs ns roots nodes left node (record { crossed = left; end = Circle })
      unfolding as_end
      alias-circle z =
          let none : left - crossed ≡ 0 = omega arith in
          stopped circle
          (λ ds b. ap (λ (m : ℕ). chain_from m ds (tree_at ns at)) none ∙ chain-circle ds (tree_at ns at) n here _ (i.is ds b))
          _ (sym z) tt refl

      pub chain-step : (crossed ≡ left → ⊥) → ChainLeft ns roots nodes left node s.root (crossed + 1) s.next
      chain-step z =
          record {
            inside = i.inside;
            name = i.next-is;
            few = omega (arith, l.few);
            same = λ ds b. sym (ap last_end (crosses ds b)) ∙ l.same ds b;
            counted = λ ds b. omega (arith, ap length_of (crosses ds b), l.counted ds b);
          }
        where
          crosses : (ds : List Definition) → Binds ns roots ds → chain_from (left - crossed) ds (tree_at ns at) ≡ cross n (chain_from (left - (crossed + 1)) ds (tree_at ns s.root))
          crosses ds b =
              let one_less : left - crossed - 1 ≡ left - (crossed + 1) = omega arith in
              chain-on ds (tree_at ns at) n here _ (left - crossed) (i.is ds b) (omega (arith, l.few))
              ∙ ap (λ (k : ℕ). cross n (chain_from k ds (tree_at ns s.root))) one_less

-- ---- A place within a table has one number, whatever stands for places beyond
pub get_or-within : (l : List ℕ) (n a b : ℕ) → n < length l → get_or l n a ≡ get_or l n b
get_or-within [] n a b h = absurd (omega arith)
get_or-within (x ∷ l) zero a b h = refl
get_or-within (x ∷ l) (suc n) a b h = get_or-within l n a b (omega arith)

pub listed-at : (l : List ℕ) (n d : ℕ) → n < length l → Memᴰ (get_or l n d) l
listed-at [] n d h = absurd (omega arith)
listed-at (x ∷ l) zero d h = Memᴰ.head refl
listed-at (x ∷ l) (suc n) d h = Memᴰ.tail (listed-at l n d (omega arith))
