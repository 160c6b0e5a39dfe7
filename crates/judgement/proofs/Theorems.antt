-- The theorems that pin what passes the check and the init check. Assumes nothing; a book that was read from bytes fits (crate format, `found`).
-- What is refused: Order.antt and Rows.antt.
--     check-says, init-check-says                  what passes: exactly what lays out a book within the limits that Candid calls well-formed, labels
--                                                  included, and the Rust takes
--     check-typed, init-check-typed                the same of a book, whose labels admission has looked at
--     actor-means                                  the actor of a book that passes is the one that is resolved
--     actor-trees, actor-hashes                    it is well-formed, and its methods differ by hash where there are service imports
--     without-init                                 without an init file both say the same
--     no-init-definitions, no-init-tree            there are then no definitions and no arguments of it
--     check-raised, init-check-raised              raising limits turns no verdict into another, but 24 into what the roomier model says
use mathlib.Core.Path.{◌≡◌, refl, sym, subst}
use mathlib.Core.Logic.{◌↔◌, ◌⊎◌}
use mathlib.Core.Bool.{false}
use mathlib.Core.List.Memᴰ
use mathlib.Core.List.{List, [], ◌∷◌}
use Prim.Native.Nat.{ℕ, zero, suc}
use lib.ListN.{length}
use Rattle.format.specs.Forest.{Forest, end}
use Rattle.format.specs.Node.{Node}
use Rattle.format.specs.Book.{Role, Main, TypeImport, ServiceImport, InitArgs, File, Book, trees}
use Rattle.format.specs.Fits.{is_init_role, Fits}
use Rattle.format.specs.declared.Limits.{Limits}
use Rattle.format.specs.Within.{Within}
use Rattle.format.specs.Admission.{LaidIn, Source, ◌under◌, Raised}
use Rattle.format.specs.Distinct.{Distinct}
use Rattle.format.specs.Labels.{Labels}
use Rattle.format.proofs.Lists.{all-of}
use Rattle.format.proofs.Admission.{judged-laid}
use Rattle.format.proofs.Raising.{raised-check}
use Rattle.refusals.specs.declared.Refusal.TheVariants.{OverLimit}
use Rattle.std.specs.Prelude.{Err}
use Rattle.refusals.specs.Verdict.{passes}
use Rattle.refusals.proofs.Verdicts.{pass-both, and-passed}
use Rattle.judgement.specs.Environment.{role_at, main_definitions, init_definitions, find_type, merge_definitions, kids_of}
use Rattle.judgement.specs.Actor.{service_imports, init_tree, NoInit, below_class}
use Rattle.judgement.specs.Resolve.{resolve_actor}
use Rattle.judgement.specs.Check.{check_forest, once_verdict, bodies_verdict, each_name, circle_verdict, bodies_fit, decs_verdict, check, same_verdict, merge_verdict, init_verdict, init_check, check_bytes, init_check_bytes}
use Rattle.judgement.specs.WellFormed.{WellFormedTrees, below_top, Typed, TypedInit, WellFormed}
use Rattle.judgement.specs.Meaning.{ActorOf}
use Rattle.judgement.specs.Rust.{hashes_of, Rust, RustInit}
use Rattle.judgement.proofs.Lookup.{keep-none}
use Rattle.judgement.proofs.Each.{passed-names}
use Rattle.judgement.proofs.Walks.{sound-formed}
use Rattle.judgement.proofs.Meaning.{none-stands, actor-of, actor-unique}
use Rattle.judgement.proofs.Resolve.{Resolved}
use Rattle.judgement.proofs.Written.{resolved-typed, typed-resolved}
use Rattle.judgement.proofs.Merge.{agree-says}
use Rattle.judgement.proofs.Steps.{Steps, check-say, InitSteps, init-check-say}

-- ---- The check
pub steps-typed : (b : Book) → Fits b → Steps b ↔ (Typed b × Rust b)
steps-typed b fits = (
  λ s. let p = s.1.0 in resolved-typed b fits p.0 p.1 s.1.1,
  λ h. let x = typed-resolved b fits h.0.definitions h.1.modes h.0 h.1 in (λ f m. none-stands (x.imported f m), ((h.0.definitions, h.1.modes), x)),
)

pub check-typed : (b : Book) → Fits b → (check b ≡ passes) ↔ (Typed b × Rust b)
check-typed b fits =
    let p = (check-say b fits).passed in
    let s = steps-typed b fits in
    (λ e. s.0 (p.0 e), λ h. p.1 (s.1 h))

-- ---- The actor of a book that passes
module _ (b : Book) (fits : Fits b) (passed : check b ≡ passes) where
  abbrev steps : Steps b
  steps = (check-say b fits).passed.0 passed

  abbrev walked : Resolved b
  walked = steps.1.1

  pub actor-trees : WellFormedTrees (main_definitions b) (below_top (resolve_actor b))
  actor-trees = walked.actor

  pub actor-hashes : (service_imports b.files ≡ []) ⊎ Distinct (hashes_of b.names (kids_of (below_class (resolve_actor b))))
  actor-hashes = walked.hashes

  pub actor-means : (t : Forest Node) → ActorOf b t ↔ (t ≡ resolve_actor b)
  actor-means t =
      let once = steps.1.0.0.once in
      (actor-unique b once, λ e. subst (ActorOf b) (sym e) (actor-of b once walked.service walked.imported))

-- ---- The init check
init-typed : (b : Book) → Fits b → InitSteps b ↔ (TypedInit b × RustInit b)
init-typed b fits =
    let formed = sound-formed (merge_definitions (init_definitions b) (main_definitions b)) (kids_of (init_tree b.files)) in
    let agree = agree-says b fits in (
      λ s. let w = formed.0 s.1.1 in (record { definitions = s.0.0; arguments = w.0 }, record { modes = s.0.1; argument_modes = w.1; merged = agree.0 s.1.0 }),
      λ h. ((h.0.definitions, h.1.modes), (agree.1 h.1.merged, formed.1 (h.0.arguments, h.1.argument_modes))),
    )

pub init-check-typed : (b : Book) → Fits b → (init_check b ≡ passes) ↔ ((Typed b × Rust b) × (TypedInit b × RustInit b))
init-check-typed b fits =
    let p = (init-check-say b fits).passed in
    let s = steps-typed b fits in
    let i = init-typed b fits in
    (λ e. let x = p.0 e in (s.0 x.0, i.0 x.1), λ h. p.1 (s.1 h.0, i.1 h.1))

-- ---- Without an init file
other-role : (r : Role) → (r ≡ InitArgs → ⊥) → is_init_role r ≡ false
unfolding is_init_role
other-role Main h = refl
other-role TypeImport h = refl
other-role ServiceImport h = refl
other-role InitArgs h = absurd (h refl)

no-role : (fs : List File) → NoInit fs → (k : ℕ) → is_init_role (role_at fs k) ≡ false
unfolding role_at is_init_role
no-role [] h k = refl
no-role (f ∷ fs) h zero = other-role f.role (h f (Memᴰ.head refl))
no-role (f ∷ fs) h (suc k) = no-role fs (λ g m. h g (Memᴰ.tail m)) k

pub no-init-definitions : (b : Book) → NoInit b.files → init_definitions b ≡ []
unfolding init_definitions
no-init-definitions b h = keep-none _ b.definitions (all-of _ (λ d. no-role b.files h d.file) b.definitions)

pub no-init-tree : (fs : List File) → NoInit fs → init_tree fs ≡ end
unfolding init_tree
no-init-tree [] h = refl
no-init-tree (f ∷ fs) h = rw (other-role f.role (h f (Memᴰ.head refl))) (no-init-tree fs (λ g m. h g (Memᴰ.tail m)))

no-decs : (n : ℕ) → decs_verdict n [] ≡ passes
unfolding decs_verdict once_verdict bodies_verdict bodies_fit circle_verdict find_type
no-decs n = pass-both (each_name (λ k. passes) 0 n) passes (passed-names (λ k. passes) 0 n (λ i l u. refl)) refl

pub init-verdict : (b : Book) → NoInit b.files → init_verdict b ≡ passes
unfolding init_verdict merge_verdict same_verdict find_type kids_of check_forest
init-verdict b h =
    rw (no-init-definitions b h, no-init-tree b.files h, no-decs (length b.names))
    (pass-both (each_name (λ k. passes) 0 (length b.names)) passes (passed-names (λ k. passes) 0 (length b.names) (λ i l u. refl)) refl)

pub without-init : (b : Book) → NoInit b.files → init_check b ≡ check b
unfolding init_check
without-init b h = rw (init-verdict b h) (and-passed (check b))

-- ---- On bytes

-- Candid.md's labels, and what else it asks
formed : (b : Book) → (Labels b.names (trees b) × (Typed b × Rust b)) ↔ (WellFormed b × Rust b)
formed b = (λ p. (record { typed = p.1.0; labels = p.0 }, p.1.1), λ p. (p.0.labels, (p.0.typed, p.1)))

pub check-says : (bs : Source) → (check_bytes bs ≡ passes) ↔ LaidIn bs (λ b. WellFormed b × Rust b)
unfolding check_bytes
check-says bs = judged-laid bs check (λ b. Typed b × Rust b) check-typed (λ b. WellFormed b × Rust b) formed

pub init-check-says : (bs : Source) → (init_check_bytes bs ≡ passes) ↔ LaidIn bs (λ b. (WellFormed b × Rust b) × (TypedInit b × RustInit b))
unfolding init_check_bytes
init-check-says bs =
    judged-laid bs init_check (λ b. (Typed b × Rust b) × (TypedInit b × RustInit b)) init-check-typed (λ b. (WellFormed b × Rust b) × (TypedInit b × RustInit b))
    (λ b. let f = formed b in (λ p. (f.0 (p.0, p.1.0), p.1.1), λ p. let q = f.1 p.0 in (q.0, (q.1, p.1))))

-- ---- Under limits
module _ (bs : List ℕ) {l m : Limits} (h : Within l m) where
  pub check-raised : Raised (Err OverLimit) (check_bytes (bs under l)) (check_bytes (bs under m))
  unfolding check_bytes
  check-raised = raised-check bs h check

  pub init-check-raised : Raised (Err OverLimit) (init_check_bytes (bs under l)) (init_check_bytes (bs under m))
  unfolding init_check_bytes
  init-check-raised = raised-check bs h init_check
