-- The first repeats of the types in the table are those told; the smallest book with one is refused with 18, where document 01's check, which the
-- Rust's is, passes. By computation. Assumes nothing.
use mathlib.Core.Path.{◌≡◌, refl, ap, ◌∙◌}
use mathlib.Core.Bool.{Bool, cond}
use mathlib.Core.List.{[], Memᴰ}
use Rattle.refusals.specs.declared.Refusal.TheVariants.{Repeated, OverLimit}
use Rattle.refusals.specs.Verdict.{passes}
use Rattle.refusals.specs.Outcome.{refused, after}
use Rattle.format.specs.declared.Limits.{Limits}
use Rattle.format.specs.declared.Place.TheVariants.{Root}
use Rattle.format.specs.Encode.{encode}
use Rattle.format.specs.Fits.{Fits}
use Rattle.format.specs.Layout.{whole, layout}
use Rattle.format.specs.Within.{size_of, Within, within}
use Rattle.format.specs.Repeats.{first_repeat}
use Rattle.format.specs.Admission.{◌under◌, admitted}
use Rattle.format.proofs.Logic.{is-true}
use Rattle.format.proofs.Theorems.{found}
use Rattle.format.proofs.Within.{within-says}
use Rattle.format.proofs.Admission.{admitted-whole}
use Rattle.judgement.specs.Check.{check}
use Rattle.samples.specs.Notation.{ascii_bytes, spelled, unlabelled_tree}
use Rattle.samples.proofs.Theorems.{in-row}
use Rattle.examples.specs.Repeats.{Case, label_names, repeats, twins}
use Rattle.examples.proofs.Computed.{labels-computed, marks-computed}

pub all-told : (e : Case) → Memᴰ e repeats → first_repeat label_names Root [] 0 (unlabelled_tree e.type) ≡ e.first
unfolding labels-computed ascii_bytes spelled label_names repeats
all-told = in-row (λ e. first_repeat label_names Root [] 0 (unlabelled_tree e.type)) (λ e. e.first) repeats refl

-- Its bytes are a book's.
twins-fit : Fits twins
unfolding labels-computed ascii_bytes spelled twins
twins-fit = tt

twins-laid : layout (encode twins) ≡ whole twins
twins-laid = (found (encode twins) twins).1 (twins-fit, refl)

-- 18, naming nothing, under all limits that it is within
pub twins-refused : (l : Limits) → Within (size_of twins) l → admitted (encode twins under l) ≡ refused (Repeated 65535)
unfolding labels-computed ascii_bytes spelled twins after
twins-refused l h =
    admitted-whole (encode twins under l) twins twins-laid
    ∙ ap (λ (t : Bool). cond t (refused (Repeated 65535)) (refused OverLimit)) (is-true (within (size_of twins) l) ((within-says (size_of twins) l).1 h))

pub twins-pass : check twins ≡ passes
unfolding marks-computed ascii_bytes spelled twins
twins-pass = refl
