-- Where trees, definitions and files are in the nodes' bytes. Assumes nothing.
--     node-whole                          each node among whole trees is the root of a whole tree
--     tree-whole, tree-opens              the tree at a node
--     definitions-stored                  definitions that lie end to end are stored at the roots that their entries say
--     files-stored                        the same of files
use mathlib.Core.Path.{◌≡◌, refl, sym, ap, subst, ◌∙◌}
use mathlib.Core.List.{List, [], ◌∷◌, map}
use Prim.Native.Nat.{ℕ, zero, suc, ◌+◌, ◌-◌, ◌≤◌, ◌<◌}
use native.Mathlib.Nat.{add-zero}
use native.Mathlib.Decide.{dec_lt}
use native.Mathlib.Omega.{arith}
use borrow.Author.Tests.{ne_eqb}
use Rattle.format.specs.Forest.{Forest, end, tree, count, breadth, beside, first_tree, other_trees}
use Rattle.format.specs.Node.{Node}
use Rattle.format.specs.Book.{Definition, File, bodies, actors}
use Rattle.format.specs.Encode.{Entry, role_number, root_of, definition_entries, file_entries}
use Rattle.format.specs.Layout.{row_at, node_of, siblings, role_of}
use Rattle.format.specs.Whole.{Whole, WholeAt, WholeIn, tree_at, definition_at, actor_at, file_at}
use Rattle.format.proofs.Lists.{All}
use Rattle.format.proofs.Trees.{beside-assoc, count-beside, breadth-count, first-one, other-one}
use Rattle.format.proofs.Rows.{opens, closes, nothing, kids-whole, siblings-none, siblings-opens, count-siblings}
use Rattle.format.proofs.Entries.{role-back}

-- ---- Each node is the root of a whole tree

pub whole-later : {ns : List ℕ} {n e e' : ℕ} → e ≤ e' → WholeIn ns n e → WholeIn ns n e'
whole-later h w = record { whole = w.whole; ends = omega (arith, w.ends) }

-- By the number k of nodes at most: the first one, one below it, or one after that.
node-among : {ns : List ℕ} (k : ℕ) {i e : ℕ} → Whole ns i e → e ≤ i + k → (n : ℕ) → i ≤ n → n < e → WholeIn ns n e
node-among zero w h n l m = let z : ⊥ = omega arith in absurd z
node-among {ns} (suc k) {i} {e} w h n l m =
    let o = opens w (omega arith) in
    let one = o.here.one in
    let inside = o.rest.ordered in
    go (record { whole = o.here; ends = inside }) (node-among k (kids-whole o.here) (omega arith) n) (node-among k o.rest (omega arith) n)
    (dec_lt i n) (dec_lt n (i + (row_at ns i).size))
  where
    go : WholeIn ns i e → (i + 1 ≤ n → n < i + (row_at ns i).size → WholeIn ns n (i + (row_at ns i).size)) → (i + (row_at ns i).size ≤ n → n < e → WholeIn ns n e)
        → Dec (i < n) → Dec (n < i + (row_at ns i).size) → WholeIn ns n e
    go here below after (no x) d = let z : i ≡ n = omega arith in subst (λ (j : ℕ). WholeIn ns j e) z here
    go here below after (yes x) (yes y) = whole-later here.ends (below (omega arith) y)
    go here below after (yes x) (no y) = after (omega arith) m

pub node-whole : {ns : List ℕ} {i e : ℕ} → Whole ns i e → (n : ℕ) → i ≤ n → n < e → WholeIn ns n e
node-whole {i = i} {e = e} w = node-among e w (omega arith)

-- ---- The tree at a node
module _ {ns : List ℕ} {n : ℕ} (w : WholeAt ns n) where
  pub tree-whole : Whole ns n (n + (row_at ns n).size)
  tree-whole = closes w.one (kids-whole w) (nothing ns (n + (row_at ns n).size) (n + (row_at ns n).size) refl w.within)

  pub tree-opens : tree_at ns n ≡ tree (node_of (row_at ns n)) (siblings ns (n + 1) (n + (row_at ns n).size)) end
  tree-opens =
      let e : ℕ = n + (row_at ns n).size in
      siblings-opens (opens tree-whole (omega (arith, w.one))) ∙ ap (tree (node_of (row_at ns n)) (siblings ns (n + 1) e)) (siblings-none ns e e (omega arith))

  pub tree-count : count (tree_at ns n) ≡ (row_at ns n).size
  tree-count = count-siblings ns n (n + (row_at ns n).size) ∙ omega arith

-- A tree f that stands first from node i on, and the trees g after it.
record Rooted (ns : List ℕ) (i e : ℕ) (f g : Forest Node) : Type 0 where
  root : WholeIn ns i e
  is : tree_at ns i ≡ f
  rest : Whole ns (i + count f) e
  others : siblings ns (i + count f) e ≡ g

rooted : {ns : List ℕ} {i e : ℕ} (f g : Forest Node) → Whole ns i e → siblings ns i e ≡ beside f g → breadth f ≡ 1 → Rooted ns i e f g
unfolding first_tree other_trees
rooted {ns} {i} {e} f g w h one =
    let total : count f + count g ≡ e - i = sym (count-beside f g) ∙ ap count (sym h) ∙ count-siblings ns i e in
    let o = opens w (omega (arith, total, breadth-count f, one)) in
    let s = siblings-opens o in
    let is : tree_at ns i ≡ f = tree-opens o.here ∙ sym (ap first_tree s) ∙ ap first_tree h ∙ first-one f g one in
    let size : (row_at ns i).size ≡ count f = sym (tree-count o.here) ∙ ap count is in
    record {
      root = record { whole = o.here; ends = o.rest.ordered };
      is = is;
      rest = subst (λ (z : ℕ). Whole ns (i + z) e) size o.rest;
      others = ap (λ (z : ℕ). siblings ns (i + z) e) (sym size) ∙ sym (ap other_trees s) ∙ ap other_trees h ∙ other-one f g one;
    }

-- ---- Definitions

-- Definitions whose trees are those from node `next` on, before trees g, which end before node `last`.
pub record DefinitionsStored (ns : List ℕ) (next last : ℕ) (ds : List Definition) (g : Forest Node) : Type 0 where
  pub are : map (definition_at ns) (definition_entries next ds) ≡ ds
  pub roots : All (λ (e : Entry). WholeIn ns e.root last) (definition_entries next ds)
  pub rest : Whole ns (next + count (bodies ds)) last
  pub others : siblings ns (next + count (bodies ds)) last ≡ g

pub definitions-stored :
    {ns : List ℕ} {next last : ℕ} (ds : List Definition) (g : Forest Node) → All (λ (d : Definition). breadth d.body ≡ 1) ds → Whole ns next last
    → siblings ns next last ≡ beside (bodies ds) g → DefinitionsStored ns next last ds g
unfolding definition_entries bodies beside count
definitions-stored {next = next} [] g one w h = record { are = refl; roots = tt; rest = rw (add-zero next) w; others = rw (add-zero next) h }
definitions-stored {ns} {next} {last} (d ∷ ds) g one w h =
    let r = rooted d.body (beside (bodies ds) g) w (h ∙ beside-assoc d.body (bodies ds) g) one.0 in
    let s = definitions-stored {next = next + count d.body} ds g one.1 r.rest r.others in
    let e : next + count d.body + count (bodies ds) ≡ next + count (beside d.body (bodies ds)) = omega (arith, count-beside d.body (bodies ds)) in
    record {
      are = λ i. record { name = d.name; file = d.file; body = r.is i } ∷ s.are i;
      roots = (r.root, s.roots);
      rest = rw (← e) s.rest;
      others = rw (← e) s.others;
    }

-- ---- Files

pub actor-none : (ns : List ℕ) (root : ℕ) → root ≡ 65535 → actor_at ns root ≡ end
actor-none ns root h = rw h

pub actor-some : (ns : List ℕ) (root : ℕ) → (root ≡ 65535 → ⊥) → actor_at ns root ≡ tree_at ns root
actor-some ns root h = rw (ne_eqb root 65535 h)

-- One tree or none that stands first from node i on, and the trees g after it.
record ActorStored (ns : List ℕ) (i e : ℕ) (f g : Forest Node) : Type 0 where
  root : (root_of i f ≡ 65535 → ⊥) → WholeIn ns (root_of i f) e
  is : actor_at ns (root_of i f) ≡ f
  rest : Whole ns (i + count f) e
  others : siblings ns (i + count f) e ≡ g

actor-stored : {ns : List ℕ} {i e : ℕ} (f g : Forest Node) → e < 65535 → Whole ns i e → siblings ns i e ≡ beside f g → breadth f ≤ 1 → ActorStored ns i e f g
unfolding root_of count beside breadth
actor-stored {i = i} end g l w h one =
    record { root = λ n. absurd (n refl); is = refl; rest = rw (add-zero i) w; others = rw (add-zero i) h }
actor-stored {ns} {i} {e} (tree n k end) g l w h one =
    let r = rooted (tree n k end) g w h refl in
    record {
      root = λ x. r.root;
      is = actor-some ns i (omega (arith, r.root.ends)) ∙ r.is;
      rest = r.rest;
      others = r.others;
    }
actor-stored (tree n k (tree n' k' m)) g l w h one = let z : ⊥ = omega arith in absurd z

-- Files whose trees are those from node `next` up to node `last`.
pub record FilesStored (ns : List ℕ) (next last : ℕ) (fs : List File) : Type 0 where
  pub are : map (file_at ns) (file_entries next fs) ≡ fs
  pub roots : All (λ (e : Entry). (e.root ≡ 65535 → ⊥) → WholeIn ns e.root last) (file_entries next fs)
  pub roles : All (λ (e : Entry). role_number (role_of e.owner) ≡ e.owner) (file_entries next fs)

pub files-stored :
    {ns : List ℕ} {next last : ℕ} (fs : List File) → last < 65535 → All (λ (f : File). breadth f.actor ≤ 1) fs → Whole ns next last
    → siblings ns next last ≡ actors fs → FilesStored ns next last fs
unfolding file_entries actors
files-stored [] l one w h = record { are = refl; roots = tt; roles = tt }
files-stored {ns = ns} {next = next} {last = last} (f ∷ fs) l one w h =
    let r = actor-stored f.actor (actors fs) l w h one.0 in
    let s = files-stored {next = next + count f.actor} fs l one.1 r.rest r.others in
    let role = role-back f.role in
    record {
      are = λ i. record { name = f.name; role = role i; actor = r.is i } ∷ s.are i;
      roots = (r.root, s.roots);
      roles = (ap role_number role, s.roles);
    }
