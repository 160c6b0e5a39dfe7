-- The number of a node, by those of its parts. Assumes nothing.
--     none-valued, some-valued       the number of a type that does not fill is 0, and of no other
--     Numbered, Known                a node's number is right; or it fills, and is not counted
--     types-numbered, first-tested   the numbers of the types within a node
--     part-counted                   a node whose parts are counted
use mathlib.Core.Path.{◌≡◌, refl, sym, ap, ap₂, subst, ◌∙◌}
use mathlib.Core.Logic.{inl, inr}
use mathlib.Core.Bool.{Bool, cond}
use mathlib.Core.List.{List, ◌∷◌, Memᴰ}
use Prim.Native.Nat.{ℕ, suc, ◌+◌, ◌<◌}
use native.Mathlib.Decide.{ℕ_discrete}
use native.Mathlib.Omega.{arith}
use borrow.Author.Tests.{ne_eqb}
use lib.Dec.{T, eqb}
use lib.ListN.{length, get_or}
use Rattle.format.specs.Forest.{Forest}
use Rattle.format.specs.Node.{Kind, PrimT, VarT, OptT, VecT, RecordT, VariantT, FuncT, ServT, ClassT, InitT, kind_number}
use Rattle.format.specs.Node as node
use Rattle.format.specs.Book.{Definition}
use Rattle.format.specs.Layout.{row_at, node_of, siblings}
use Rattle.format.specs.Whole.{tree_at}
use Rattle.format.proofs.Logic.{is-true}
use Rattle.format.proofs.References.{node-var, var-node}
use Rattle.format.proofs.Rows.{siblings-none, siblings-opens, kids-whole}
use Rattle.format.proofs.Stored.{tree-opens}
use Rattle.judgement.specs.Environment.{find_type, body}
use Rattle.judgement.specs.Check.{member}
use Rattle.listing.specs.Empty.{Fills, kind_fills, rounds}
use Rattle.listing.specs.Values.{Has, Number, capped, sum, product, first_of, kind_values, each_values, found_values, name_values}
use Rattle.listing.proofs.Filling.{type-filled}
use Rattle.listing.proofs.Numbers.{number-zero}
use Rattle.listing.proofs.Sizes.{fills-has}
use Rattle.listing.proofs.Counting.{values-fill, name-fixed, names-filled}
use Rattle.listing.proofs.Values.{type-values-size}
use Rattle.environment.specs.Tables.{Binds}
use Rattle.environment.specs.declared.scope.Scope.{Scope}
use Rattle.environment.proofs.Links.{found-some}
use Rattle.inhabitants.specs.Waiting.{places_in, within, kind_at, root_at}
use Rattle.inhabitants.specs.Filling.{NodeFills}
use Rattle.inhabitants.specs.Counting.{numbers_of, root_number, number_at, node_values}
use Rattle.inhabitants.proofs.filling.Nodes.{kind-of}
use Rattle.inhabitants.proofs.waiting.Places.{Walk, done, on, walk, places-on, places-done}
use Rattle.inhabitants.proofs.counting.Waits.{OfParts}

-- ---- Which types have no value
module _ (ds : List Definition) (k : Kind) (kids : Forest node.Node) where
  abbrev number : ℕ
  number = kind_values (name_values ds) k (each_values (name_values ds) kids)

  pub none-valued : (Fills ds k kids → ⊥) → number ≡ 0
  none-valued h = go (ℕ_discrete number 0)
    where
      go : Dec (number ≡ 0) → number ≡ 0
      go (yes e) = e
      go (no e) = absurd (h (values-fill ds (name_values ds) (names-filled ds) k kids (omega (arith, e))))

  pub some-valued : Fills ds k kids → number ≡ 0 → ⊥
  some-valued x e =
      let v = fills-has x in
      number-zero (subst (Number (Has ds k kids)) e ((type-values-size ds k kids).exact (omega (arith, e)))) v.0 v.1

-- ---- Of the nodes of a scope
module _ (ns : List ℕ) (ds : List Definition) (numbers : List ℕ) where
  -- A node's number is right,
  abbrev pub Numbered : ℕ → Type 0
  Numbered n = get_or numbers n 0 ≡ node_values ns ds n

  -- all of the types beside each other are,
  types-walk : {until at : ℕ} → Walk ns until at → ((c : ℕ) → Memᴰ c (places_in ns at until) → Numbered c) →
      numbers_of numbers (places_in ns at until) ≡ each_values (name_values ds) (siblings ns at until)
  unfolding each_values
  types-walk {until} {at} (done h) all = rw (places-done ns h, siblings-none ns at until h) refl
  types-walk {until} {at} (on h o w) all =
      let rest = at + (row_at ns at).size in
      rw (places-on o, siblings-opens o)
      (ap₂ ◌∷◌ (all at (subst (Memᴰ at) (sym (places-on o)) (Memᴰ.head refl)))
      (types-walk w (λ c i. all c (subst (Memᴰ c) (sym (places-on o)) (Memᴰ.tail i)))))

  -- and the first of them has a value or not as its number says.
  first-walk : {until at : ℕ} → Walk ns until at → ((c : ℕ) → Memᴰ c (places_in ns at until) → eqb (get_or numbers c 0) 0 ≡ eqb (node_values ns ds c) 0) →
      eqb (first_of (numbers_of numbers (places_in ns at until))) 0 ≡ eqb (first_of (each_values (name_values ds) (siblings ns at until))) 0
  unfolding each_values first_of
  first-walk {until} {at} (done h) all = rw (places-done ns h, siblings-none ns at until h) refl
  first-walk {until} {at} (on h o w) all = rw (places-on o, siblings-opens o) (all at (subst (Memᴰ at) (sym (places-on o)) (Memᴰ.head refl)))

-- ---- A node whose parts are counted

-- The types within a node.
abbrev kids-at : List ℕ → ℕ → Forest node.Node
kids-at ns n = siblings ns (n + 1) (n + (row_at ns n).size)

module _ (s : Scope) (ds : List Definition) (b : Binds s.rows.now s.roots.now ds) (numbers : List ℕ) {n : ℕ} (inside : n < s.nodes) where
  -- the types within it, in order
  inner : Walk s.rows.now (n + (row_at s.rows.now n).size) (n + 1)
  inner = walk (kids-whole (s.whole.tree n inside).whole)

  -- a name, by its definition
  name-numbered : NodeFills s.rows.now ds n → kind_at s.rows.now n ≡ 18 → (root_at s.rows.now s.roots.now n ≡ 65535 → ⊥) →
      Numbered s.rows.now ds numbers (root_at s.rows.now s.roots.now n) →
      root_number s.roots.now numbers (row_at s.rows.now n).value ≡ name_values ds (row_at s.rows.now n).value
  unfolding root_number found_values kind_fills
  name-numbered x k some e =
      let ns = s.rows.now in
      let m = (row_at ns n).value in
      let root = root_at ns s.roots.now n in
      let found : find_type ds m ≡ body (tree_at ns root) = b m ∙ found-some ns root some in
      let filled : T (member m (rounds ds (length ds))) = (type-filled ds (VarT m) (kids-at ns n)).1 (rw (← node-var (row_at ns n) k) x) in
      let opened = tree-opens (s.whole.tree root (s.bound.node m some)).whole in
      rw (ne_eqb root 65535 some) (e ∙ sym (name-fixed ds m ∙ rw (is-true (member m (rounds ds (length ds))) filled, found, opened) refl))

  pub part-counted : NodeFills s.rows.now ds n →
      (kind_at s.rows.now n ≡ 18 → (root_at s.rows.now s.roots.now n ≡ 65535 → ⊥) × Numbered s.rows.now ds numbers (root_at s.rows.now s.roots.now n)) →
      (OfParts (kind_at s.rows.now n) → (c : ℕ) → Memᴰ c (within s.rows.now n) → Numbered s.rows.now ds numbers c) →
      (kind_at s.rows.now n ≡ 20 → (c : ℕ) → Memᴰ c (within s.rows.now n) → eqb (get_or numbers c 0) 0 ≡ eqb (node_values s.rows.now ds c) 0) →
      number_at s.rows.now s.roots.now numbers n ≡ node_values s.rows.now ds n
  unfolding number_at kind_values kind_number
  part-counted x name parts content = go (node_of (row_at s.rows.now n)).kind refl
    where
      of : {k : Kind} → (node_of (row_at s.rows.now n)).kind ≡ k → kind_at s.rows.now n ≡ kind_number k
      of {k} e = kind-of s.whole inside k e

      go : (k : Kind) → (node_of (row_at s.rows.now n)).kind ≡ k →
          kind_values (root_number s.roots.now numbers) k (numbers_of numbers (within s.rows.now n))
          ≡ kind_values (name_values ds) k (each_values (name_values ds) (kids-at s.rows.now n))
      go (PrimT p) e = refl
      go (VarT m) e =
          let v = var-node (row_at s.rows.now n) e in
          let r = name v.0 in
          rw (← v.1) (name-numbered x v.0 r.0 r.1)
      go OptT e = ap (λ (l : List ℕ). capped (suc (first_of l))) (types-walk s.rows.now ds numbers inner (parts (inl (of e))))
      go VecT e = ap (λ (b : Bool). cond b 1 4294967296) (first-walk s.rows.now ds numbers inner (content (of e)))
      go RecordT e = ap (λ (l : List ℕ). capped (product l)) (types-walk s.rows.now ds numbers inner (parts (inr (inl (of e)))))
      go VariantT e = ap (λ (l : List ℕ). capped (sum l)) (types-walk s.rows.now ds numbers inner (parts (inr (inr (of e)))))
      go (FuncT a ms) e = refl
      go ServT e = refl
      go ClassT e = refl
      go InitT e = refl
