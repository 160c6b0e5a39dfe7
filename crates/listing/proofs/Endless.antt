-- Types that have no end of values: each has a value, and more than the count goes to or a part among them. Assumes nothing.
--     size           how large a value is: larger than what it is made of
--     part-larger    a value of a part makes a larger one of the type, but of a name, whose values are those of its definition
--     endless        so there are values of every size, and no list holds them all
use mathlib.Core.Path.{◌≡◌, refl, sym, ap, ◌∙◌}
use mathlib.Core.Logic.{◌⊎◌, inl, inr}
use mathlib.Core.List.{List, [], ◌∷◌, Memᴰ}
use Prim.Native.Nat.{ℕ, zero, suc, ◌+◌, ◌≤◌, ◌<◌}
use native.Mathlib.Omega.{arith}
use Rattle.format.specs.Forest.{Forest, tree}
use Rattle.format.specs.Node.{Kind, VarT, Node}
use Rattle.format.specs.Book.{Definition}
use Rattle.format.specs.Occurs.{Beside, first, later}
use Rattle.format.proofs.Logic.{clash}
use Rattle.format.proofs.Occurs.{EachTree, in-others}
use Rattle.judgement.specs.Environment.{body, find_type}
use Rattle.listing.specs.Empty.{Fills}
use Rattle.listing.specs.Values.{Value, Values, atom, absent, present, items, fields, case, no_more, also, Has, HasFields, of_name, of_present, of_items, of_fields, of_case, no_items, item, field}
use Rattle.listing.proofs.Filling.{Closed, DefinitionIs, OfNode, fills-least, record-fills}
use Rattle.listing.proofs.Sizes.{More, Part, content, an_item, a_field, a_case, definition, Valued, all-fields, case-of, fills-has, part-more}

-- ---- How large a value is
mutual
  size : Value → ℕ
  size (atom n) = 0
  size absent = 0
  size (present v) = suc (size v)
  size (items vs) = suc (sizes vs)
  size (fields vs) = suc (sizes vs)
  size (case i v) = suc (size v)

  sizes : Values → ℕ
  sizes no_more = 0
  sizes (also v vs) = size v + sizes vs

total : List Value → ℕ
total [] = 0
total (v ∷ l) = size v + total l

in-total : {v : Value} {l : List Value} → Memᴰ v l → size v ≤ total l
unfolding total
in-total {v} (Memᴰ.head {x = x} {xs = xs} e) = omega (arith, ap size e)
in-total (Memᴰ.tail {x = x} {xs = xs} m) = omega (arith, in-total m)

-- ---- A value with one of a part in it
module _ {ds : List Definition} where
  with-field : {f : Node} {kids types : Forest Node} → Beside f kids types → EachTree (OfNode (Valued ds)) types →
      {v : Value} → Has ds f.kind kids v → (vs : Values) × HasFields ds types vs × (size v ≤ sizes vs)
  unfolding size sizes
  with-field (first {next = next}) h {v} x = let r = all-fields next (in-others h) in (also v r.0, field x r.1, omega arith)
  with-field (later {m = m} {lids = lids} b) h {v} x =
      let w = h m lids first in
      let r = with-field b (in-others h) x in
      (also w.0 r.0, field w.1 r.1, omega (arith, r.2))

  part-larger : {k k' : Kind} {kids kids' : Forest Node} → Part ds k kids k' kids' → ((m : ℕ) → k ≡ VarT m → ⊥) → Fills ds k kids →
      {v : Value} → Has ds k' kids' v → (w : Value) × Has ds k kids w × (size v < size w)
  unfolding size sizes
  part-larger content plain f {v} x = (present v, of_present x, omega arith)
  part-larger an_item plain f {v} x = (items (also v no_more), of_items (item x no_items), omega arith)
  part-larger (a_field {types = types} b) plain f {v} x =
      let r = with-field b (λ t lids i. fills-has ((record-fills ds types).0 f t lids i)) x in
      (fields r.0, of_fields r.1, omega (arith, r.2))
  part-larger (a_case b) plain f {v} x = let c = case-of b in (case c.0 v, of_case (c.1 v x), omega arith)
  part-larger (definition {m = m} e) plain f x = absurd (plain m refl)

-- ---- Values of every size
module _ (ds : List Definition) (S : Kind → Forest Node → Type 0) where
  -- each fills, and has more or a part among them
  abbrev pub Onward : Kind → Forest Node → Type 0
  Onward k kids = Fills ds k kids × (More (Has ds k kids) ⊎ ((k' : Kind) × (kids' : Forest Node) × Part ds k kids k' kids' × S k' kids'))

  module _ (onward : (k : Kind) (kids : Forest Node) → S k kids → Onward k kids) where
    abbrev Large : ℕ → Kind → Forest Node → Type 0
    Large n k kids = More (Has ds k kids) ⊎ ((v : Value) × Has ds k kids v × (n ≤ size v))

    module _ (n : ℕ) (before : (k : Kind) (kids : Forest Node) → S k kids → Large n k kids) where
      -- one step, but of a name
      larger : {k : Kind} {kids : Forest Node} → ((m : ℕ) → k ≡ VarT m → ⊥) → S k kids → Large (suc n) k kids
      larger {k} {kids} plain s = go (onward k kids s)
        where
          through : {k' : Kind} {kids' : Forest Node} → Fills ds k kids → Part ds k kids k' kids' → Large n k' kids' → Large (suc n) k kids
          through f p (inl m) = inl (part-more p f m)
          through f p (inr x) = let w = part-larger p plain f x.1 in inr (w.0, w.1, omega (arith, w.2, x.2))

          go : Onward k kids → Large (suc n) k kids
          go o = elim o.1 [ inl m ↦ inl m | inr p ↦ through o.0 p.2 (before p.0 p.1 p.3) ]

      abbrev Next : Kind → Forest Node → Type 0
      Next k kids = S k kids → Large (suc n) k kids

      -- a name goes on to its definition, which fills by less
      name-larger : {m : ℕ} {none : Forest Node} → DefinitionIs ds Next m → Next (VarT m) none
      name-larger {m} {none} d s = go (onward (VarT m) none s)
        where
          same : {t : Node} {kids next : Forest Node} → find_type ds m ≡ body (tree t kids next) → S t.kind kids → Large (suc n) t.kind kids
          same {t} {kids} {next} e s =
              let f : body (tree d.0 d.1 d.2) ≡ body (tree t kids next) = sym d.3 ∙ e in
              let p : d.0 ≡ t = cc in
              let q : d.1 ≡ kids = cc in
              rw (← p, ← q) (d.4 (rw (p, q) s))

          found : {k : Kind} {kids : Forest Node} → Part ds (VarT m) none k kids → S k kids → Fills ds (VarT m) none → Large (suc n) (VarT m) none
          found (definition {t = t} {kids = kids} {next = next} e) s f =
              elim (same e s) [
                | inl more ↦ inl (part-more (definition e) f more)
                | inr x ↦ inr (x.0, of_name e x.1, x.2)
              ]

          go : Onward (VarT m) none → Large (suc n) (VarT m) none
          go o = elim o.1 [ inl m ↦ inl m | inr p ↦ found p.2 p.3 o.0 ]

      closed : Closed (DefinitionIs ds Next) Next
      closed =
          record {
            fields = λ h s. larger (λ m e. clash cc) s;
            cases = λ h s. larger (λ m e. clash cc) s;
            names = name-larger;
            others = λ a s. larger a.no_name s;
          }

    large : (n : ℕ) (k : Kind) (kids : Forest Node) → S k kids → Large n k kids
    large zero k kids s = let v = fills-has (onward k kids s).0 in inr (v.0, v.1, omega arith)
    large (suc n) k kids s = fills-least (closed n (large n)) (onward k kids s).0 s

    -- Types of which each fills, and has more or a part among them, have more: values of every size.
    pub endless : (k : Kind) (kids : Forest Node) → S k kids → More (Has ds k kids)
    endless k kids s l all =
        elim (large (suc (total l)) k kids s) [
          | inl m ↦ m l all
          | inr x ↦ let z : ⊥ = omega (arith, x.2, in-total (all x.0 x.1)) in absurd z
        ]
