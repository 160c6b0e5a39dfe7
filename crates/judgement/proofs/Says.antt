-- What a verdict says, both ways: exactly when it passes, and exactly what it refuses. Assumes nothing.
--     Says                  of a verdict
--     says-unless, says-if  of a test that has to hold, and of one that has to fail
--     says-then             of two in order: what the second says may rest on what the first passes
--     says-as               the same in other words
use mathlib.Core.Path.{◌≡◌}
use mathlib.Core.Logic.{◌↔◌, ◌⊎◌, ⊎_elim, ⊎_map}
use mathlib.Core.Bool.{Bool, true, false, not}
use lib.Dec.{T}
use Rattle.refusals.specs.declared.Refusal.{Refusal}
use Rattle.std.specs.Prelude.{Err}
use Rattle.refusals.specs.Verdict.{Verdict, passes, and_then, unless}
use Rattle.refusals.proofs.Verdicts.{both-pass, pass-both, which-refused, unless-passed, passed-unless, unless-refused, not-says, fails-not}

pub record Says (v : Verdict) (Passes : Type 0) (Refuses : Refusal → Type 0) : Type 0 where
  pub passed : (v ≡ passes) ↔ Passes
  pub refused : (r : Refusal) → (v ≡ Err r) ↔ Refuses r

-- A test that fails, with its refusal.
abbrev pub Fails : Type 0 → Refusal → Refusal → Type 0
Fails Good r s = (s ≡ r) × (Good → ⊥)

refused-unless : (t : Bool) (r : Refusal) {s : Refusal} → Fails (T t) r s → unless t r ≡ Err s
refused-unless true r x = absurd (x.1 tt)
refused-unless false r x = cc

pub says-unless : (t : Bool) (r : Refusal) {Good : Type 0} → T t ↔ Good → Says (unless t r) Good (Fails Good r)
says-unless t r i = record {
  passed = (λ e. i.0 (unless-passed t r e), λ g. passed-unless t r (i.1 g));
  refused = λ s. (λ e. let u = unless-refused t r e in (u.1, λ g. u.0 (i.1 g)), λ x. refused-unless t r (x.0, λ g. x.1 (i.0 g)));
}

pub says-if : (t : Bool) (r : Refusal) {Bad : Type 0} → T t ↔ Bad → Says (unless (not t) r) (Bad → ⊥) (λ s. (s ≡ r) × Bad)
says-if t r i = record {
  passed = (λ e b. (not-says t).0 (unless-passed (not t) r e) (i.1 b), λ h. passed-unless (not t) r ((not-says t).1 (λ x. h (i.0 x))));
  refused = λ s. (
    λ e. let u = unless-refused (not t) r e in (u.1, i.0 (fails-not t u.0)),
    λ x. refused-unless (not t) r (x.0, λ g. (not-says t).0 g (i.1 x.1)),
  );
}

-- A verdict of two in order refuses by the first, or by the second where the first passes.
refused-first : (v w : Verdict) {r : Refusal} → v ≡ Err r → and_then v w ≡ Err r
refused-first v w e = rw e

refused-second : (v w : Verdict) {r : Refusal} → v ≡ passes → w ≡ Err r → and_then v w ≡ Err r
refused-second v w d e = rw d e

module _ {v w : Verdict} {P Q : Type 0} {R S : Refusal → Type 0} where
  pub says-then : Says v P R → (P → Says w Q S) → Says (and_then v w) (P × Q) (λ r. R r ⊎ (P × S r))
  says-then x y = record {
    passed = (
      λ e. let p = both-pass v w e in let g = x.passed.0 p.0 in (g, (y g).passed.0 p.1),
      λ g. pass-both v w (x.passed.1 g.0) ((y g.0).passed.1 g.1),
    );
    refused = λ r. (
      λ e. ⊎_map (x.refused r).0 (λ h. let g = x.passed.0 h.0 in (g, ((y g).refused r).0 h.1)) (which-refused v w e),
      ⊎_elim (λ h. refused-first v w ((x.refused r).1 h)) (λ h. refused-second v w (x.passed.1 h.0) (((y h.0).refused r).1 h.1)),
    );
  }

module _ {v : Verdict} {P Q : Type 0} {R S : Refusal → Type 0} where
  pub says-as : Says v P R → P ↔ Q → ((r : Refusal) → R r ↔ S r) → Says v Q S
  says-as x i j = record {
    passed = (λ e. i.0 (x.passed.0 e), λ q. x.passed.1 (i.1 q));
    refused = λ r. (λ e. (j r).0 ((x.refused r).0 e), λ s. (x.refused r).1 ((j r).1 s));
  }
