-- P5 of document 01, as it is read from its bytes, is a method ring: its function steps to itself. (That it passes is in the table.)
-- Assumes nothing.
use mathlib.Core.Path.{◌≡◌, refl}
use mathlib.Core.List.Memᴰ
use mathlib.Core.List.{[], ◌∷◌}
use Rattle.format.specs.Book.{Definition}
use Rattle.format.specs.Layout.{whole, layout}
use Rattle.judgement.specs.Environment.{main_definitions}
use Rattle.format.specs.Occurs.{here, first}
use Rattle.judgement.specs.WellFormed.{arrived, onward}
use Rattle.samples.specs.Bytes as bytes
use Rattle.samples.specs.Written.{p5}
use Rattle.samples.specs.Table.{samples}
use Rattle.samples.proofs.Computed.{samples-computed}
use Rattle.samples.proofs.Theorems.{all-read}
use Rattle.examples.specs.Ring.{by, last, OnRing}
use Rattle.examples.proofs.Computed.{marks-computed}

pub p5-read : layout bytes.p5 ≡ whole p5
unfolding samples
p5-read = all-read _ (Memᴰ.tail (Memᴰ.tail (Memᴰ.tail (Memᴰ.head refl))))

-- Its one definition is on a ring.
pub p5-ring : (f : Definition) × (main_definitions p5 ≡ f ∷ []) × OnRing (main_definitions p5) f.body
unfolding marks-computed samples-computed
p5-ring = (_, refl, last (by refl refl here refl first (onward refl (Memᴰ.head refl) refl (arrived refl))))
