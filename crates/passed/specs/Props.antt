-- A book passes in one way at most, which a type that holds `Passes` needs. No definition that a contract cites; assumes nothing.
use Rattle.std.specs.Prelude.{◌≡◌, List, [], ℕ, Option, Some, None}
use Rattle.std.specs.Coded.{Unit-prop}
use mathlib.Core.Path.{refl, sym, ap, subst, ◌∙◌}
use mathlib.Core.HLevel.{collapsible→set, is_prop→PathP}
use Rattle.std.proofs.Props as std
use Rattle.format.specs.Node.{Node}
use Rattle.format.specs.Forest.{Forest, end, tree}
use Rattle.format.specs.Book.{Book}
use Rattle.format.specs.Layout.{Layout, broken, whole, layout}
use Rattle.format.specs.Whole.{tree_at}
use Rattle.judgement.specs.Aliases.{End, unbound, circle, ends}
use Rattle.environment.specs.Tables.{EndAt}
use Rattle.book.specs.declared.kinds.Contents.{Contents}
use Rattle.book.specs.Reading.{contents_of, Admitted}
use Rattle.syntax.specs.declared.interface.Interface.{Interface}
use Rattle.typing.specs.Props as typing
use Rattle.typing.specs.Passing.{PassedBook}
use Rattle.typing.specs.declared.prog.Passed.{Passed}
use Rattle.typing.specs.declared.tables.Tables.{Tables}
use Rattle.passed.specs.Passes.{Passes}

-- Two forests are equal exactly if their parts are.
abbrev Same : Forest Node → Forest Node → Type 0
Same end end = Unit {0}
Same end (tree n kids next) = ⊥
Same (tree n kids next) end = ⊥
Same (tree m kids next) (tree n kids' next') = (m ≡ n) × Same kids kids' × Same next next'

Node-set : IsSet Node
Node-set = Prim.hlevel std.props

Same-prop : (f g : Forest Node) → IsProp (Same f g)
Same-prop end end = Unit-prop
Same-prop end (tree n kids next) = Prim.hlevel std.props
Same-prop (tree n kids next) end = Prim.hlevel std.props
Same-prop (tree m kids next) (tree n kids' next') = Prim.hlevel (std.props, Node-set m n, Same-prop kids kids', Same-prop next next')

same-refl : (f : Forest Node) → Same f f
same-refl end = tt
same-refl (tree n kids next) = (refl, same-refl kids, same-refl next)

equal : (f g : Forest Node) → Same f g → f ≡ g
equal end end s = refl
equal end (tree n kids next) s = absurd s
equal (tree n kids next) end s = absurd s
equal (tree m kids next) (tree n kids' next') s = λ i. tree (s.0 i) (equal kids kids' s.1 i) (equal next next' s.2 i)

Forest-set : IsSet (Forest Node)
Forest-set = collapsible→set (λ f g p. equal f g (subst (Same f) p (same-refl f)))
    (λ f g p q i. equal f g (Same-prop f g (subst (Same f) p (same-refl f)) (subst (Same f) q (same-refl f)) i))

Layout-set : IsSet Layout
Layout-set = Prim.hlevel (std.props, Forest-set)

of : Layout → Book
of broken = record { names = []; definitions = []; files = [] }
of (whole b) = b

Admitted-prop : (bs : List ℕ) (c : Contents) → IsProp (Admitted bs c)
unfolding of
Admitted-prop bs c x y =
    let e : x.book ≡ y.book = ap of (sym x.laid ∙ y.laid) in
    λ i. record {
      book = e i;
      laid = is_prop→PathP (λ i. layout bs ≡ whole (e i)) (λ i. Layout-set (layout bs) (whole (e i))) x.laid y.laid i;
      table = is_prop→PathP (λ i. contents_of (e i) ≡ c) (λ i. Contents-set (contents_of (e i)) c) x.table y.table i;
    }
  where
    Contents-set : IsSet Contents
    Contents-set = Prim.hlevel std.props

Option-set : IsSet (Option ℕ)
Option-set = Prim.hlevel std.props

or_zero : Option ℕ → ℕ
or_zero None = 0
or_zero (Some n) = n

EndAt-prop : (ns : List ℕ) (o : Option ℕ) (e : End) → IsProp (EndAt ns o e)
unfolding or_zero
EndAt-prop ns o (unbound n) x y = Option-set o None x y
EndAt-prop ns o circle x y = absurd x
EndAt-prop ns o (ends t) x y =
    let e : x.0 ≡ y.0 = ap or_zero (sym x.1 ∙ y.1) in
    λ i. (
      e i,
      is_prop→PathP (λ i. o ≡ Some (e i)) (λ i. Option-set o (Some (e i))) x.1 y.1 i,
      is_prop→PathP (λ i. t ≡ tree_at ns (e i)) (λ i. Forest-set t (tree_at ns (e i))) x.2 y.2 i,
    )

PassedBook-prop : (bs : List ℕ) (c : Contents) (roots ends' : List ℕ) (p : Passed) → IsProp (PassedBook bs c roots ends' p)
PassedBook-prop bs c roots ends' p = Prim.hlevel (typing.props, Forest-set, Admitted-prop, EndAt-prop)

pub Passes-prop : (bs : List ℕ) (c : Contents) (main : ℕ) (i : Interface) (t : Tables) → IsProp (Passes bs c main i t)
Passes-prop bs c main i t = PassedBook-prop bs c t.roots t.ends (record { main = main; interface = i })
