-- The other side of the questions' rows: what lies in a row is not answered. Assumes that the book fits; one that was read from bytes does.
--     list-refuses, init-list-refuses, ..      a row of the question, and no list is given
--     alias-refuses, values-refuses            the same of the questions that give no list
--     bytes-unanswered, bytes-not-given        the same on bytes, of any question
use mathlib.Core.Path.{◌≡◌, refl, sym, ◌∙◌}
use mathlib.Core.Logic.{◌⊎◌, inl, inr}
use mathlib.Core.List.{List}
use Prim.Native.Nat.{ℕ}
use native.Mathlib.Omega.{arith}
use Rattle.format.specs.Forest.{Forest, end, tree}
use Rattle.format.specs.Node.{Node}
use Rattle.format.specs.Book.{Book}
use Rattle.format.specs.Fits.{Fits}
use Rattle.format.specs.Admission.{InRow, Source, on_bytes}
use Rattle.format.proofs.Admission.{admitted-fits, admission-refuses, asked-is}
use Rattle.refusals.specs.declared.Refusal.{Refusal}
use Rattle.std.specs.Prelude.{Ok, Err}
use Rattle.refusals.specs.Verdict.{Verdict}
use Rattle.refusals.specs.Outcome.{Outcome, refused, asked}
use Rattle.refusals.proofs.Outcomes.{given-refused, fit-given}
use Rattle.judgement.specs.Resolve.{resolve_actor}
use Rattle.judgement.specs.Check.{check}
use Rattle.judgement.specs.Rows.{CheckRow}
use Rattle.judgement.proofs.Rows.{row-refuses, init-row-refuses}
use Rattle.listing.specs.Room.{ShortRow, AfterCheck, NotGiven, Unanswered}
use Rattle.listing.specs.List.{list, ListRow}
use Rattle.listing.specs.InitList.{init_list, InitListRow}
use Rattle.listing.specs.Marks.{marks_over, MarksRow}
use Rattle.listing.specs.Uses.{uses, UsesRow}
use Rattle.listing.specs.UseCounts.{use_counts}
use Rattle.listing.specs.Methods.{methods, MethodsRow}
use Rattle.listing.specs.Alias.{alias, AliasRow}
use Rattle.listing.specs.Values.{values, ValuesRow}
use Rattle.listing.specs.Project.{project, ProjectRow}
use Rattle.listing.specs.Empty.{emptiness, EmptinessRow}
use Rattle.listing.specs.List as listed
use Rattle.listing.specs.InitList as inits
use Rattle.listing.specs.Marks as marks
use Rattle.listing.specs.Uses as used
use Rattle.listing.specs.Methods as changed
use Rattle.listing.specs.Alias as aliased
use Rattle.listing.specs.Values as counted
use Rattle.listing.specs.Project as projected
use Rattle.listing.specs.Empty as empty
use Rattle.listing.proofs.Room.{short-refuses, actor-lacks}
use Rattle.listing.proofs.List.{list-after}
use Rattle.listing.proofs.InitList.{init-says}
use Rattle.listing.proofs.Marks.{marks-unbound, marks-after}
use Rattle.listing.proofs.Uses.{uses-after}
use Rattle.listing.proofs.UseCounts.{given-alike}
use Rattle.listing.proofs.MethodsUsing.{methods-after}
use Rattle.listing.proofs.Alias.{alias-unbound, alias-after}
use Rattle.listing.proofs.Values.{values-unbound, values-after}
use Rattle.listing.proofs.Project.{project-absent, project-after}
use Rattle.listing.proofs.Empty.{emptiness-after}

module _ {A : Type 0} where
  refused-not-given : (o : Outcome A) {r : Refusal} → o ≡ refused r → NotGiven o
  refused-not-given o e a g = given-refused (sym e ∙ g)

  -- a row of the check
  checked-not-given : (question : Book → Outcome A) → AfterCheck question → (b : Book) → Fits b → {r : Refusal} → CheckRow b r → NotGiven (question b)
  checked-not-given question stops b fits x = go (check b) refl
    where
      go : (v : Verdict) → check b ≡ v → NotGiven (question b)
      go (Ok tt) e = absurd (row-refuses b fits x e)
      go (Err s) e = refused-not-given (question b) (stops b s e)

  -- on bytes: a row of admission, or of the book
  pub bytes-not-given : (question : Book → Outcome A) (Row : Book → Refusal → Type 0) {r : Refusal} → ((b : Book) → Fits b → Row b r → NotGiven (question b)) →
      (bs : Source) → InRow bs Row r → NotGiven (on_bytes question bs)
  unfolding asked
  bytes-not-given question Row {r} row bs (inl x) = refused-not-given (on_bytes question bs) {r = r} (rw (admission-refuses bs x))
  bytes-not-given question Row row bs (inr x) = rw (asked-is bs question x.laid_out) (row x.book (admitted-fits bs x.laid_out) x.holds)

module _ {A : Type 0} (places : ℕ) where
  -- what is refused, whatever the places
  refused-unanswered : (o : Outcome (List A)) {r : Refusal} → o ≡ refused r → Unanswered places o
  refused-unanswered o e l g = refused-not-given o e l (fit-given places o g)

  short-unanswered : (o : Outcome (List A)) {Result : List A → Type 0} {k : ℕ} → ShortRow places o Result k → Unanswered places o
  short-unanswered o x l g = given-refused (sym (short-refuses places o x) ∙ g)

  checked-unanswered : (question : Book → Outcome (List A)) → AfterCheck question → (b : Book) → Fits b → {r : Refusal} → CheckRow b r → Unanswered places (question b)
  checked-unanswered question stops b fits x l g = checked-not-given question stops b fits x l (fit-given places (question b) g)

  pub bytes-unanswered : (question : Book → Outcome (List A)) (Row : Book → Refusal → Type 0) {r : Refusal} →
      ((b : Book) → Fits b → Row b r → Unanswered places (question b)) → (bs : Source) → InRow bs Row r → Unanswered places (on_bytes question bs)
  unfolding asked
  bytes-unanswered question Row {r} row bs (inl x) = refused-unanswered (on_bytes question bs) {r = r} (rw (admission-refuses bs x))
  bytes-unanswered question Row {r} row bs (inr x) = rw (asked-is bs question x.laid_out) (row x.book (admitted-fits bs x.laid_out) x.holds)

none-or-some : (t : Forest Node) → (t ≡ end) ⊎ (t ≡ end → ⊥)
none-or-some end = inl refl
none-or-some (tree n kids next) = inr (λ e. let z : ◌≡◌ {A = ℕ} 0 1 = cc in omega arith)

-- ---- Each question
module _ (b : Book) (fits : Fits b) (places : ℕ) where
  pub list-refuses : {r : Refusal} → ListRow b places r → Unanswered places (list b)
  unfolding list
  list-refuses (listed.checked x) = checked-unanswered places list list-after b fits x
  list-refuses (listed.no_actor x) = refused-unanswered places (list b) (actor-lacks b _ x.0 x.1)
  list-refuses (listed.short x) = short-unanswered places (list b) x

  -- the numbers of uses have the list's rows
  pub use-counts-refuses : {r : Refusal} → ListRow b places r → Unanswered places (use_counts b)
  use-counts-refuses x counts g = let p = (given-alike b places).0 g in list-refuses x p.0 p.1

  pub init-list-refuses : {r : Refusal} → InitListRow b places r → Unanswered places (init_list b)
  init-list-refuses (inits.checked x) = λ l g. init-row-refuses b fits x ((init-says b fits l).0 (fit-given places (init_list b) g)).0
  init-list-refuses (inits.short x) = short-unanswered places (init_list b) x

  pub emptiness-refuses : {r : Refusal} → EmptinessRow b places r → Unanswered places (emptiness b)
  emptiness-refuses (empty.checked x) = checked-unanswered places emptiness emptiness-after b fits x
  emptiness-refuses (empty.short x) = short-unanswered places (emptiness b) x

  pub marks-refuses : (names : List ℕ) {r : Refusal} → MarksRow b names places r → Unanswered places (marks_over b names)
  marks-refuses names (marks.checked x) = checked-unanswered places (λ c. marks_over c names) (marks-after names) b fits x
  marks-refuses names (marks.unbound {n = n} x) = refused-unanswered places (marks_over b names) ((marks-unbound b fits x.0 names n).1 x.1)
  marks-refuses names (marks.short x) = short-unanswered places (marks_over b names) x

  pub uses-refuses : (n : ℕ) {r : Refusal} → UsesRow b n places r → Unanswered places (uses b n)
  unfolding uses
  uses-refuses n (used.checked x) = checked-unanswered places (λ c. uses c n) (uses-after n) b fits x
  uses-refuses n (used.no_actor x) = refused-unanswered places (uses b n) (actor-lacks b _ x.0 x.1)
  uses-refuses n (used.short x) = short-unanswered places (uses b n) x

  pub methods-refuses : (asked : List ℕ) {r : Refusal} → MethodsRow b asked places r → Unanswered places (methods b asked)
  unfolding methods
  methods-refuses asked (changed.checked x) = checked-unanswered places (λ c. methods c asked) (methods-after asked) b fits x
  methods-refuses asked (changed.no_actor x) = refused-unanswered places (methods b asked) (actor-lacks b _ x.0 x.1)
  methods-refuses asked (changed.short x) = short-unanswered places (methods b asked) x

  pub project-refuses : (names : List ℕ) {r : Refusal} → ProjectRow b names places r → Unanswered places (project b names)
  unfolding project
  project-refuses names (projected.checked x) = checked-unanswered places (λ c. project c names) (project-after names) b fits x
  project-refuses names (projected.no_actor x) = refused-unanswered places (project b names) (actor-lacks b _ x.0 x.1)
  project-refuses names (projected.absent x) =
      elim (none-or-some (resolve_actor b)) [
        | inl e ↦ refused-unanswered places (project b names) (actor-lacks b _ x.0 e)
        | inr some ↦ refused-unanswered places (project b names) (project-absent b fits x.0 some x.3 names x.4)
      ]
  project-refuses names (projected.short x) = short-unanswered places (project b names) x

-- 3 of a book that passed is refused so: `alias-unbound`.
pub alias-refuses : (b : Book) → Fits b → (n : ℕ) {r : Refusal} → AliasRow b n r → NotGiven (alias b n)
alias-refuses b fits n (aliased.checked x) = checked-not-given (λ c. alias c n) (alias-after n) b fits x
alias-refuses b fits n (aliased.unbound x) = refused-not-given (alias b n) ((alias-unbound b fits x.0 n).1 x.1)

-- So is 3 of the values of a name: `values-unbound`.
pub values-refuses : (b : Book) → Fits b → (n : ℕ) {r : Refusal} → ValuesRow b n r → NotGiven (values b n)
values-refuses b fits n (counted.checked x) = checked-not-given (λ c. values c n) (values-after n) b fits x
values-refuses b fits n (counted.unbound x) = refused-not-given (values b n) ((values-unbound b n x.0).1 x.1)
