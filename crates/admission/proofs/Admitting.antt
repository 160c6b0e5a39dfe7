-- What the answer of admission says of the bytes, whatever it refuses. Assumes nothing.
use mathlib.Core.Path.{◌≡◌, refl, ap}
use Prim.Native.Nat.{ℕ}
use native.Mathlib.Omega.{arith}
use Rattle.refusals.specs.declared.Refusal.{Refusal}
use Rattle.refusals.specs.Outcome.{Outcome, refused, given}
use Rattle.format.specs.Book.{Book}
use Rattle.format.specs.Admission.{Source, admitted}
use Rattle.format.proofs.Admission.{admitted-laid}
use Rattle.book.specs.declared.kinds.Contents.{Contents}
use Rattle.book.specs.Reading as read
use Rattle.std.specs.Prelude.{Ok, Err}
use Rattle.admission.specs.Admitting.{admission_of}

module _ (bs : Source) where
  pub admission-refuses : {r : Refusal} → Err r ≡ admission_of (admitted bs) → admitted bs ≡ refused r
  unfolding admission_of
  admission-refuses {r} = go (admitted bs)
    where
      go : (o : Outcome Book) → Err r ≡ admission_of o → o ≡ refused r
      go (refused q) e = ap refused cc
      go (given b) e = let z : ◌≡◌ {A = ℕ} 0 1 = cc in absurd (omega arith)

  -- the book, as all code after admission has it
  pub record Gives (c : Contents) : Type 0 where
    pub read : read.Admitted bs.bytes c
    pub is : admitted bs ≡ given (read).book

  pub admission-gives : {c : Contents} → Ok c ≡ admission_of (admitted bs) → Gives c
  unfolding admission_of
  admission-gives {c} = go (admitted bs) refl
    where
      go : (o : Outcome Book) → admitted bs ≡ o → Ok c ≡ admission_of o → Gives c
      go (refused q) w e = let z : ◌≡◌ {A = ℕ} 0 1 = cc in absurd (omega arith)
      go (given b) w e = record { read = record { book = b; laid = admitted-laid bs w; table = cc }; is = w }
