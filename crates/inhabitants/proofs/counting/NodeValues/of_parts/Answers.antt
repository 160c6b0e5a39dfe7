-- `NodeValues::of_parts` meets its contract, by the kind of a node. Assumes nothing.
use mathlib.Core.Path.{◌≡◌, sym, ap, ◌∙◌}
use mathlib.Core.List.{List}
use native.Mathlib.Omega.{arith}
use Prim.Native.Nat.{ℕ, ◌+◌, ◌-◌, ◌^◌}
use Rattle.std.specs.Prelude.{min}
use Rattle.format.specs.Encode.{Row}
use Rattle.listing.specs.Values.{capped, sum, product, first_of}
use Rattle.inhabitants.proofs.counting.Types.{within-of}
use Rattle.inhabitants.proofs.counting.ByKind.{of-primitive, named, unnamed, of-opt, of-vec-none, of-vec, of-record, of-variant, of-other}
use Rattle.inhabitants.proofs.counting.NodeValues.of_parts.Goals as goal

-- what is stored of a node
kind-read : {r s : Row} → r ≡ s → s.kind ≡ r.kind
kind-read e = ap (λ (r : Row). r.kind) (sym e)

value-read : {r s : Row} → r ≡ s → r.value ≡ s.value
value-read e = ap (λ (r : Row). r.value) e

size-read : {r s : Row} → r ≡ s → r.size ≡ s.size
size-read e = ap (λ (r : Row). r.size) e

pub returns-then-t : goal.returns-then-t
returns-then-t c = of-primitive _ _ _ _ (kind-read c.at-t.ensures) c.if-t.true

pub returns-in-Some : goal.returns-in-Some
returns-in-Some c = named _ _ _ _ (kind-read c.at-t.ensures ∙ c.if-t-2.true) (value-read c.at-t.ensures) c.in-Some.ensures.some.0 c.in-Some.ensures.some.1

pub returns-in-None : goal.returns-in-None
returns-in-None c = unnamed _ _ _ _ (kind-read c.at-t.ensures ∙ c.if-t-2.true) (value-read c.at-t.ensures) c.in-None.ensures.none

pub returns-then-t-3 : goal.returns-then-t-3
returns-then-t-3 c =
    let within = within-of c.args.self.now.numbers c.args.n c.new-types.ensures.over c.new-types.ensures.at (size-read c.at-t.ensures) in
    c.capped.ensures
    ∙ ap capped (c.saturating_add.ensures ∙ ap (λ (x : ℕ). min (x + 1) (2 ^ 64 - 1)) (c.first.ensures ∙ ap first_of within))
    ∙ of-opt _ _ _ _ (kind-read c.at-t.ensures ∙ c.if-t-3.true)

pub returns-then-first-eq0 : goal.returns-then-first-eq0
returns-then-first-eq0 c =
    let within = within-of c.args.self.now.numbers c.args.n c.new-types.ensures.over c.new-types.ensures.at (size-read c.at-t.ensures) in
    of-vec-none _ _ _ _ (kind-read c.at-t.ensures ∙ c.if-t-4.true) (sym (c.first-then-t-4.ensures ∙ ap first_of within) ∙ c.if-first-eq0.true)

pub returns-else-first-eq0 : goal.returns-else-first-eq0
returns-else-first-eq0 c =
    let within = within-of c.args.self.now.numbers c.args.n c.new-types.ensures.over c.new-types.ensures.at (size-read c.at-t.ensures) in
    of-vec _ _ _ _ (kind-read c.at-t.ensures ∙ c.if-t-4.true) (λ z. c.if-first-eq0.false (c.first-then-t-4.ensures ∙ ap first_of within ∙ z))

pub returns-then-t-5 : goal.returns-then-t-5
returns-then-t-5 c =
    let within = within-of c.args.self.now.numbers c.args.n c.new-types.ensures.over c.new-types.ensures.at (size-read c.at-t.ensures) in
    c.product.ensures ∙ ap (λ (l : List ℕ). capped (product l)) within ∙ of-record _ _ _ _ (kind-read c.at-t.ensures ∙ c.if-t-5.true)

pub returns-then-t-6 : goal.returns-then-t-6
returns-then-t-6 c =
    let within = within-of c.args.self.now.numbers c.args.n c.new-types.ensures.over c.new-types.ensures.at (size-read c.at-t.ensures) in
    c.sum.ensures ∙ ap (λ (l : List ℕ). capped (sum l)) within ∙ of-variant _ _ _ _ (kind-read c.at-t.ensures ∙ c.if-t-6.true)

pub returns : goal.returns
returns c =
    let k = kind-read c.at-t.ensures in
    of-other _ _ _ _ k
    (omega (arith, c.if-t.false, c.if-t-2.false, c.if-t-3.false, c.if-t-4.false, c.if-t-5.false, c.if-t-6.false))
    (omega (arith, k, (c.args.scope.whole.row c.args.n c.requires).kind))
