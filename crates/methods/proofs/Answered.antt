-- The positions that the question gives: how many there are, that each is one of a method, and what is handed over. Assumes nothing.
use mathlib.Core.Path.{◌≡◌, refl, sym, ap, subst, ◌∙◌}
use mathlib.Core.List.{List, [], ◌∷◌, Memᴰ}
use Prim.Native.Nat.{ℕ, zero, suc, ◌≤◌, ◌<◌}
use native.Mathlib.Omega.{arith}
use lib.ListN.{length, take}
use Rattle.std.specs.Prelude.{Ok, Err}
use Rattle.std.specs.List.{All}
use Rattle.refusals.specs.declared.Refusal.{Refusal}
use Rattle.refusals.specs.Outcome.{Outcome, refused, given, fit}
use Rattle.refusals.specs.Handed.{Answer, HandedAs, answer_of}
use Rattle.refusals.proofs.Outcomes.{same-given}
use Rattle.format.specs.Book.{Book, trees}
use Rattle.format.specs.Fits.{Fits}
use Rattle.format.specs.Labels.{Labels}
use Rattle.format.proofs.Logic.{clash}
use Rattle.judgement.specs.Environment.{main_definitions}
use Rattle.judgement.specs.Aliases.{alias_end, methods_at}
use Rattle.judgement.specs.Actor.{below_class}
use Rattle.judgement.specs.Resolve.{resolve_actor}
use Rattle.listing.specs.Demand3.{Delivered}
use Rattle.listing.specs.Methods.{methods_using, methods, offered_names}
use Rattle.listing.proofs.Delivered.{handed-delivers}
use Rattle.listing.proofs.Methods.{names-long}
use Rattle.listing.proofs.MethodNames.{methods-fewer}
use Rattle.listing.proofs.MethodsUsing.{using-says, using-length, methods-answered, methods-using-few}
use Rattle.listing.proofs.Room.{actor-given}

-- What holds of each that stands in a list holds at each place.
listed-all : (P : ℕ → Type 0) (l : List ℕ) → ((n : ℕ) → Memᴰ n l → P n) → All P l
listed-all P [] h k d i = absurd (omega arith)
listed-all P (n ∷ l) h zero d i = h n (Memᴰ.head refl)
listed-all P (n ∷ l) h (suc k) d i = listed-all P l (λ m j. h m (Memᴰ.tail j)) k d (omega arith)

module _ (b : Book) (asked : List ℕ) {l : List ℕ} (e : methods b asked ≡ given l) where
  positions-are : methods_using (main_definitions b) (resolve_actor b) asked ≡ l
  unfolding methods
  positions-are = let p = actor-given b _ e in same-given (sym (methods-answered b p.0 p.1 asked) ∙ e)

  pub positions-within : All (λ p. p < length (offered_names b)) l
  positions-within = listed-all _ l (λ p m.
      let x = (using-says (main_definitions b) (resolve_actor b) asked p).0 (subst (Memᴰ p) (sym positions-are) m) in
      let q : p < length (offered_names b) = omega (arith, x.0, names-long (methods_at (alias_end (main_definitions b) (below_class (resolve_actor b))))) in q)

  pub positions-few : Fits b → Labels b.names (trees b) → length l ≤ 1025
  unfolding methods
  positions-few fits labels =
      let p = actor-given b _ e in
      omega (arith, ap length positions-are, using-length (main_definitions b) (resolve_actor b) asked, methods-fewer b fits labels p.0)

-- ---- What is handed over into 4,096 places, which are always enough
module _ (b : Book) (fits : Fits b) (asked : List ℕ) {old new : List ℕ} {a : Answer} (n : 4096 ≡ length old) (h : HandedAs (methods b asked) old new a) where
  delivered : {l : List ℕ} → methods b asked ≡ given l → Delivered (length l) l old new a
  delivered {l} e = (handed-delivers (methods b asked) e).enough h (omega (arith, n, methods-using-few b fits asked l e))

  pub handed-given : {k : ℕ} → a ≡ Ok k → (methods b asked ≡ given (take k new)) × (k ≤ length new)
  unfolding fit answer_of
  handed-given {k} f = go (methods b asked) refl
    where
      go : (o : Outcome (List ℕ)) → methods b asked ≡ o → (o ≡ given (take k new)) × (k ≤ length new)
      go (refused r) e = let same : Ok k ≡ Err r = sym f ∙ h.answer ∙ rw e in clash cc
      go (given l) e =
          let d = delivered e in
          let few = methods-using-few b fits asked l e in
          let ok : Ok k ≡ Ok (length l) = sym f ∙ d.answer in
          let same : k ≡ length l = cc in
          (ap given (sym d.front ∙ ap (λ (j : ℕ). take j new) (sym same)), omega (arith, same, few, d.long, n))

  pub handed-refused : {r : Refusal} → a ≡ Err r → methods b asked ≡ refused r
  unfolding fit answer_of
  handed-refused {r} f = go (methods b asked) refl
    where
      go : (o : Outcome (List ℕ)) → methods b asked ≡ o → o ≡ refused r
      go (refused s) e = let same : Err r ≡ Err s = sym f ∙ h.answer ∙ rw e in ap refused cc
      go (given l) e = let d = sym f ∙ (delivered e).answer in clash cc
