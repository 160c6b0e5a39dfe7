-- `reaching::reaching` meets its contract: where nothing waits, all that refers to a flagged name is flagged. Assumes nothing.
use mathlib.Core.List.{List, [], ◌∷◌}
use mathlib.Core.Path.{◌≡◌, sym, ap, subst}
use Prim.Native.Nat.{ℕ, suc, ◌+◌, ◌-◌, ◌≤◌}
use native.Mathlib.Decide.{dec_lt}
use native.Mathlib.Omega.{arith}
use lib.ListN.{length, length-append}
use Rattle.analysis.proofs.reaching.Ownership.{owner-small}
use Rattle.analysis.proofs.reaching.Worklist.{none-set, WantedLeft, marked-most, work-room, wanted-start, wanted-end, wanted-met, wanted-room, wanted-new, name-small, name-start, name-end, name-skip, name-met, name-new, next-most, work-end}
use Rattle.analysis.proofs.reaching.reaching.Goals as goal

-- what a link or an owner is, one more than a number
more : {x n : ℕ} → (1 ≤ x) × (n ≡ x - 1) → x ≡ n + 1
more h = omega (arith, h)

owned : {x n : ℕ} → (1 ≤ x) × (n ≡ x - 1) → x ≡ suc n
owned h = omega (arith, h)

pub wanted-init : goal.wanted-init
wanted-init c = λ y.
    subst (λ (l : List ℕ). WantedLeft y.rows y.entries c.args.owner.now y.nodes y.definitions c.args.wanted.now none-set l 0) (sym c.new-waiting.ensures)
    (wanted-start y.rows y.entries c.args.owner.now y.nodes y.definitions c.args.wanted.now)

pub wanted-preserved-then-i-ge-NAMES : goal.wanted-preserved-then-i-ge-NAMES
wanted-preserved-then-i-ge-NAMES c = λ y.
    wanted-met (c.wanted.invariant y) c.wanted-test.true (λ h. let z : ⊥ = omega (arith, c.if-i-ge-NAMES.true) in absurd z)

pub wanted-preserved-then-flagged-i-eq1 : goal.wanted-preserved-then-flagged-i-eq1
wanted-preserved-then-flagged-i-eq1 c = λ y. wanted-met (c.wanted.invariant y) c.wanted-test.true (λ h. c.if-flagged-i-eq1.true)

pub push-requires : goal.push-requires
push-requires c = (omega arith, wanted-room (c.wanted.invariant c.requires) c.wanted-test.true c.if-i-ge-NAMES.false c.if-flagged-i-eq1.false)

pub wanted-preserved : goal.wanted-preserved
wanted-preserved c = λ y. wanted-new (c.wanted.invariant y) c.wanted-test.true c.if-i-ge-NAMES.false c.if-flagged-i-eq1.false c.push.ensures.items

pub names-init : goal.names-init
names-init c = λ y. wanted-end (c.wanted.invariant y) c.wanted-test.false

pub bounds-head-m : goal.bounds-head-m
bounds-head-m c = name-small _ _ c.in-Some.ensures.items (c.names.invariant c.requires).work

pub rows-init : goal.rows-init
rows-init c = λ y. name-start y.book y.owned y.links c.in-Some.ensures.items (c.names.invariant y)

pub bounds-next-row : goal.bounds-next-row
bounds-next-row c = let y = c.requires in omega (arith, more c.in-Some-checked_sub.ensures, (c.rows.invariant y).few, y.book.known.few_nodes)

pub bounds-owner-row : goal.bounds-owner-row
bounds-owner-row c = let y = c.requires in omega (arith, more c.in-Some-checked_sub.ensures, (c.rows.invariant y).few, y.book.known.few_nodes)

pub rows-smaller-in_default-checked_sub-2 : goal.rows-smaller-in_default-checked_sub-2
rows-smaller-in_default-checked_sub-2 c =
    let y = c.requires in
    let e = more c.in-Some-checked_sub.ensures in
    omega (arith, next-most y.book y.owned y.links (c.rows.invariant y) c.in-Some-checked_sub.row e, e)

pub rows-preserved-in_default-checked_sub-2 : goal.rows-preserved-in_default-checked_sub-2
rows-preserved-in_default-checked_sub-2 c = λ y. name-skip y.book y.owned y.links (c.rows.invariant y) c.in-Some-checked_sub.row (more c.in-Some-checked_sub.ensures) (omega (arith, c.in_default-checked_sub-2.ensures))

pub bounds-flagged-n : goal.bounds-flagged-n
bounds-flagged-n c = let y = c.requires in owner-small y.book y.owned c.in-Some-checked_sub.row _ (owned c.in-Some-checked_sub-2.ensures)

pub rows-smaller-then-flagged-n-eq1 : goal.rows-smaller-then-flagged-n-eq1
rows-smaller-then-flagged-n-eq1 c =
    let y = c.requires in
    let e = more c.in-Some-checked_sub.ensures in
    omega (arith, next-most y.book y.owned y.links (c.rows.invariant y) c.in-Some-checked_sub.row e, e)

pub rows-preserved-then-flagged-n-eq1 : goal.rows-preserved-then-flagged-n-eq1
rows-preserved-then-flagged-n-eq1 c = λ y.
    name-met y.book y.owned y.links (c.rows.invariant y) c.in-Some-checked_sub.row (more c.in-Some-checked_sub.ensures) _ (owned c.in-Some-checked_sub-2.ensures) c.if-flagged-n-eq1.true

pub bounds-flagged-n-in-Some-checked_sub : goal.bounds-flagged-n-in-Some-checked_sub
bounds-flagged-n-in-Some-checked_sub c = let y = c.requires in owner-small y.book y.owned c.in-Some-checked_sub.row _ (owned c.in-Some-checked_sub-2.ensures)

pub push-requires-in-Some-checked_sub : goal.push-requires-in-Some-checked_sub
push-requires-in-Some-checked_sub c =
    let y = c.requires in
    (omega arith, work-room (c.rows.invariant y).work _ (owner-small y.book y.owned c.in-Some-checked_sub.row _ (owned c.in-Some-checked_sub-2.ensures)) c.if-flagged-n-eq1.false)

pub rows-smaller : goal.rows-smaller
rows-smaller c =
    let y = c.requires in
    let e = more c.in-Some-checked_sub.ensures in
    omega (arith, next-most y.book y.owned y.links (c.rows.invariant y) c.in-Some-checked_sub.row e, e)

pub rows-preserved : goal.rows-preserved
rows-preserved c = λ y.
    name-new y.book y.owned y.links (c.rows.invariant y) c.in-Some-checked_sub.row (more c.in-Some-checked_sub.ensures) _ (owned c.in-Some-checked_sub-2.ensures) c.if-flagged-n-eq1.false c.push-in-Some-checked_sub.ensures.items

pub names-smaller : goal.names-smaller
names-smaller c =
    let y = c.requires in
    let w = (c.names.invariant y).work in
    omega (arith, (c.rows.invariant y).even, ap length c.in-Some.ensures.items, length-append c.pop.new.self.items (c.in-Some.m ∷ []), marked-most c.names.flagged, w.long, w.few)

pub names-preserved : goal.names-preserved
names-preserved c = λ y. name-end y.book y.owned y.links (c.rows.invariant y) (omega (arith, c.in_default-checked_sub.ensures))

pub returns : goal.returns
returns c = λ y. work-end y.book y.owned y.links (c.names.invariant y) (
    elim (dec_lt 0 (length c.names.waiting.items)) [
      | yes p ↦ let f = c.in_default.ensures.variant.1 p in cc
      | no p ↦ omega arith
    ])
