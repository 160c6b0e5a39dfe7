-- The order of the check from outside: it refuses exactly what the definitions of Order.antt say, of a book that fits, and of bytes, where
-- admission comes first. Assumes nothing; a book that was read from bytes fits.
--     check-refuses, init-refuses                      of a book
--     check-bytes-refuses, init-check-bytes-refuses    of bytes
--     refuses-one, refuses-once                        what it comes to: one refusal, and after 12 and 2 each name is defined once
use mathlib.Core.Path.{◌≡◌, refl, sym, ◌∙◌}
use mathlib.Core.Logic.{◌↔◌, ⊎_map}
use Prim.Native.Nat.{ℕ}
use Rattle.format.specs.Book.{Book}
use Rattle.format.specs.Fits.{Fits}
use Rattle.format.specs.Admission.{InRow, Source}
use Rattle.format.proofs.Admission.{judged-refuses}
use Rattle.refusals.specs.declared.Refusal.{Refusal}
use Rattle.refusals.specs.declared.Refusal.TheVariants.{Twice, ImportWithoutActor}
use Rattle.std.specs.Prelude.{Err}
use Rattle.judgement.specs.Environment.{main_definitions}
use Rattle.judgement.specs.Check.{check, init_check, check_bytes, init_check_bytes}
use Rattle.judgement.specs.Order.{Once, ImportsHaveActors, CheckRefuses, InitCheckRefuses}
use Rattle.judgement.specs.Order as order
use Rattle.judgement.proofs.Steps.{check-say, init-check-say}
use Rattle.judgement.proofs.Theorems.{steps-typed}

pub check-refuses : (b : Book) → Fits b → (r : Refusal) → (check b ≡ Err r) ↔ CheckRefuses b r
check-refuses b fits r = (check-say b fits).refused r

pub init-refuses : (b : Book) → Fits b → (r : Refusal) → (init_check b ≡ Err r) ↔ InitCheckRefuses b r
init-refuses b fits r =
    let says = (init-check-say b fits).refused r in
    let typed = steps-typed b fits in
    (λ e. ⊎_map (λ x. x) (λ x. (typed.0 x.0, x.1)) (says.0 e), λ h. says.1 (⊎_map (λ x. x) (λ x. (typed.1 x.0, x.1)) h))

-- ---- What it comes to: there is one refusal, and a later one tells that the earlier steps pass
pub refuses-one : (b : Book) → Fits b → {r s : Refusal} → CheckRefuses b r → CheckRefuses b s → r ≡ s
refuses-one b fits {r} {s} x y = let e : Err r ≡ Err s = sym ((check-refuses b fits r).1 x) ∙ (check-refuses b fits s).1 y in cc

pub refuses-once : {b : Book} {r : Refusal} → CheckRefuses b r → ((n : ℕ) → r ≡ ImportWithoutActor n → ⊥) → ((n : ℕ) → r ≡ Twice n → ⊥) →
    ImportsHaveActors b × Once (main_definitions b)
refuses-once (order.without_actor {n = n} x) h k = absurd (h n refl)
refuses-once (order.definitions a (order.twice {d = d} x)) h k = absurd (k d.name refl)
refuses-once (order.definitions a (order.body once x)) h k = (a, once)
refuses-once (order.definitions a (order.circle once s c l)) h k = (a, once)
refuses-once (order.definitions a (order.no_function once s c x)) h k = (a, once)
refuses-once (order.resolving a p i x) h k = (a, p.0.once)
refuses-once (order.actor a p i x) h k = (a, p.0.once)

-- ---- On bytes
pub check-bytes-refuses : (bs : Source) (r : Refusal) → (check_bytes bs ≡ Err r) ↔ InRow bs CheckRefuses r
unfolding check_bytes
check-bytes-refuses bs r = judged-refuses bs check CheckRefuses (λ b fits. check-refuses b fits r)

pub init-check-bytes-refuses : (bs : Source) (r : Refusal) → (init_check_bytes bs ≡ Err r) ↔ InRow bs InitCheckRefuses r
unfolding init_check_bytes
init-check-bytes-refuses bs r = judged-refuses bs init_check InitCheckRefuses (λ b fits. init-refuses b fits r)
