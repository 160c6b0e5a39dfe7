-- `Places::put` meets its contract: what is stored is the entry at its place, where it has one. Assumes nothing.
use mathlib.Core.Path.{◌≡◌, sym, ap, ap₂, ◌∙◌}
use mathlib.Core.List.{List, ◌++◌}
use Prim.Native.Nat.{ℕ, ◌+◌, ◌-◌, ◌*◌, ◌≤◌}
use native.Mathlib.Omega.{arith}
use lib.ListN.{length, take, drop, take-append-drop}
use Rattle.std.proofs.lemmas.Bool.{le-leb, lt-leb}
use Rattle.std.proofs.lemmas.List.Edits.{sets-eq}
use Rattle.std.proofs.lemmas.Slice.{take-put_mid, drop-put_mid}
use borrow.Rule.Slice.PartMut.{put_mid}
use Rattle.analysis.specs.declared.places.Places.{Places}
use Rattle.analysis.specs.Places.{put_at}
use Rattle.analysis.proofs.places.Places.put.Goals.{then-until-self, else-until-self}
use Rattle.analysis.proofs.places.Places.put.Goals as goal

-- what a part of a slice holds after another was copied to it
stored : (e old : List ℕ) (at : ℕ) → at + length e ≤ length old → {part : List ℕ} → part ≡ e →
    put_mid at (at + length e - at) old part ≡ take at old ++ e ++ drop (at + length e) old
stored e old at h {part} is =
    let n = at + length e in
    let long : length part ≡ length e = ap length is in
    sym (take-append-drop n (put_mid at (n - at) old part))
    ∙ ap₂ (λ (a b : List ℕ). a ++ b) (take-put_mid at (n - at) old part n (omega (arith, long)) (omega arith) ∙ ap (λ (q : List ℕ). take at old ++ q) is)
    (drop-put_mid at (n - at) old part n (omega arith) (omega arith) (omega (arith, long)))

pub returns-clause-put : goal.returns-clause-put
unfolding put_at
returns-clause-put c =
    let e = c.args.entry.now in
    let k = c.args.self.now.count in
    let old = c.args.self.now.out.now in
    elim c.if-until-self.branch [
      | then-until-self w ↦ rw (le-leb (length e * k + length e) (length old) w.if-until-self.true, sets-eq e old (length e * k) w.if-until-self.true) (ap (λ (p : Places). p.out.now) w.self-is ∙ stored e old (length e * k) w.if-until-self.true w.copy_from_slice.ensures.after)
      | else-until-self w ↦ rw (lt-leb (length e * k + length e) (length old) w.if-until-self.false) (ap (λ (p : Places). p.out.now) w.self-is)
    ]
