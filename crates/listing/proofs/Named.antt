-- What a question's refusal names is a name of the book, but for 3 of a number that marks, an alias chain or values were asked with, and 15.
-- Assumes that the book fits; one that was read from bytes does.
--     reachable-named                     a reachable name is one of the book
--     list-names, init-list-names, ..     of each question
--     list-bytes-names, ..                the same on bytes, which are refused by admission or a book
use mathlib.Core.Path.{◌≡◌, refl, subst}
use mathlib.Core.Logic.{inl, inr}
use mathlib.Core.List.{List, [], ◌∷◌, Memᴰ}
use Prim.Native.Nat.{ℕ, ◌<◌}
use native.Mathlib.Omega.{arith}
use lib.ListN.{length}
use Rattle.format.specs.declared.Place.TheVariants.{Root}
use Rattle.format.specs.Forest.{Forest}
use Rattle.format.specs.Node.{Node}
use Rattle.format.specs.Book.{Definition, Book}
use Rattle.format.specs.Fits.{Fits}
use Rattle.format.specs.Admission.{InRow, Source, on_bytes}
use Rattle.format.proofs.Admission.{asked-in-row, asked-row}
use Rattle.refusals.specs.declared.Refusal.{Refusal}
use Rattle.refusals.specs.declared.Refusal.TheVariants.{Unbound, Absent}
use Rattle.refusals.specs.Outcome.{refused, fit}
use Rattle.judgement.specs.Actor.{main_actor}
use Rattle.judgement.specs.Rows.{NamesPlace}
use Rattle.judgement.proofs.Decs.{FitDefinitions}
use Rattle.judgement.proofs.Fitting.{Fitting}
use Rattle.judgement.proofs.Books.{kept-fit, main-actor-fits}
use Rattle.judgement.proofs.Rows.{middle}
use Rattle.judgement.proofs.Named.{nameless, reference-named, defined-named, row-names, init-row-names}
use Rattle.listing.specs.References.{Reachable, direct, onward}
use Rattle.listing.specs.Room.{NamesAsked}
use Rattle.listing.specs.List.{list, ListRow}
use Rattle.listing.specs.InitList.{init_list, InitListRow}
use Rattle.listing.specs.DraftList.{draft_definitions, draft_list, DraftRow}
use Rattle.listing.specs.Marks.{marks_over, MarksRow}
use Rattle.listing.specs.Uses.{uses, UsesRow}
use Rattle.listing.specs.UseCounts.{use_counts}
use Rattle.listing.specs.Methods.{methods, MethodsRow}
use Rattle.listing.specs.Alias.{alias, AliasRow}
use Rattle.listing.specs.Values.{values, ValuesRow}
use Rattle.listing.specs.Project.{project, ProjectRow}
use Rattle.listing.specs.Empty.{emptiness, EmptinessRow}
use Rattle.listing.specs.List as listed
use Rattle.listing.specs.InitList as inits
use Rattle.listing.specs.DraftList as drafts
use Rattle.listing.specs.Marks as marks
use Rattle.listing.specs.Uses as used
use Rattle.listing.specs.Methods as changed
use Rattle.listing.specs.Alias as aliased
use Rattle.listing.specs.Values as counted
use Rattle.listing.specs.Project as projected
use Rattle.listing.specs.Empty as empty
use Rattle.listing.proofs.List.{list-in-row}
use Rattle.listing.proofs.InitList.{init-list-in-row}
use Rattle.listing.proofs.DraftList.{draft-in-row}
use Rattle.listing.proofs.Marks.{marks-in-row}
use Rattle.listing.proofs.Uses.{uses-in-row}
use Rattle.listing.proofs.UseCounts.{refused-alike, bytes-refused-alike}
use Rattle.listing.proofs.MethodsUsing.{methods-in-row}
use Rattle.listing.proofs.Alias.{alias-in-row}
use Rattle.listing.proofs.Values.{values-in-row}
use Rattle.listing.proofs.Project.{listed-times, project-in-row}
use Rattle.listing.proofs.Empty.{emptiness-in-row}

pub reachable-named : (names : ℕ) {ds : List Definition} → ((d : Definition) → Memᴰ d ds → Fitting names d.body) → (start : Forest Node) → Fitting names start →
    {n : ℕ} → Reachable ds start n → n < names
reachable-named names bodies start x (direct m) = reference-named names start x m
reachable-named names bodies start x (onward r y) = reference-named names y.definition.body (bodies y.definition y.listed) y.refers

-- ---- The rows
module _ (b : Book) (fits : Fits b) (places : ℕ) where
  abbrev names : ℕ
  names = length b.names

  list-row-names : {r : Refusal} → ListRow b places r → NamesPlace names r
  list-row-names (listed.checked x) = row-names b fits x
  list-row-names (listed.no_actor x) = λ u. nameless u
  list-row-names (listed.short x) = λ u. nameless u

  init-list-row-names : {r : Refusal} → InitListRow b places r → NamesPlace names r
  init-list-row-names (inits.checked x) = init-row-names b fits x
  init-list-row-names (inits.short x) = λ u. nameless u

  draft-fits : FitDefinitions names (draft_definitions b)
  unfolding draft_definitions
  draft-fits = kept-fit b fits _

  draft-row-names : {r : Refusal} → DraftRow b places r → NamesPlace names r
  draft-row-names (drafts.no_actor x) = λ u. nameless u
  draft-row-names (drafts.twice x) = λ u. defined-named names draft-fits (middle x.0 x.1 x.2)
  draft-row-names (drafts.unbound x) = λ u.
      reachable-named names (λ d m. record { place = Root; fit = draft-fits.fit d m }) (main_actor b) (main-actor-fits b fits) x.0
  draft-row-names (drafts.short x) = λ u. nameless u

  emptiness-row-names : {r : Refusal} → EmptinessRow b places r → NamesPlace names r
  emptiness-row-names (empty.checked x) = row-names b fits x
  emptiness-row-names (empty.short x) = λ u. nameless u

  uses-row-names : (n : ℕ) {r : Refusal} → UsesRow b n places r → NamesPlace names r
  uses-row-names n (used.checked x) = row-names b fits x
  uses-row-names n (used.no_actor x) = λ u. nameless u
  uses-row-names n (used.short x) = λ u. nameless u

  methods-row-names : (asked : List ℕ) {r : Refusal} → MethodsRow b asked places r → NamesPlace names r
  methods-row-names asked (changed.checked x) = row-names b fits x
  methods-row-names asked (changed.no_actor x) = λ u. nameless u
  methods-row-names asked (changed.short x) = λ u. nameless u

  marks-row-names : (l : List ℕ) {r : Refusal} → MarksRow b l places r → NamesAsked Unbound names l r
  marks-row-names l (marks.checked x) = inl (row-names b fits x)
  marks-row-names l (marks.unbound {n = n} x) =
      let p = x.1 in inr (n, refl, subst (λ (k : ℕ). Memᴰ k l) p.holds.0 (middle p.before p.following p.parts))
  marks-row-names l (marks.short x) = inl (λ u. nameless u)

  project-row-names : (asked : List ℕ) {r : Refusal} → ProjectRow b asked places r → NamesAsked Absent names asked r
  project-row-names asked (projected.checked x) = inl (row-names b fits x)
  project-row-names asked (projected.no_actor x) = inl (λ u. nameless u)
  project-row-names asked (projected.absent {n = n} x) = inr (n, refl, (listed-times n asked).1 (omega (arith, x.4.short)))
  project-row-names asked (projected.short x) = inl (λ u. nameless u)

  -- ---- What is refused
  pub list-names : {r : Refusal} → fit places (list b) ≡ refused r → NamesPlace names r
  list-names e = list-row-names (list-in-row b fits places e)

  pub use-counts-names : {r : Refusal} → fit places (use_counts b) ≡ refused r → NamesPlace names r
  use-counts-names {r} e = list-names ((refused-alike b places r).0 e)

  pub init-list-names : {r : Refusal} → fit places (init_list b) ≡ refused r → NamesPlace names r
  init-list-names e = init-list-row-names (init-list-in-row b fits places e)

  pub draft-names : {r : Refusal} → fit places (draft_list b) ≡ refused r → NamesPlace names r
  draft-names e = draft-row-names (draft-in-row b fits places e)

  pub emptiness-names : {r : Refusal} → fit places (emptiness b) ≡ refused r → NamesPlace names r
  emptiness-names e = emptiness-row-names (emptiness-in-row b fits places e)

  pub uses-names : (n : ℕ) {r : Refusal} → fit places (uses b n) ≡ refused r → NamesPlace names r
  uses-names n e = uses-row-names n (uses-in-row b fits n places e)

  pub methods-names : (asked : List ℕ) {r : Refusal} → fit places (methods b asked) ≡ refused r → NamesPlace names r
  methods-names asked e = methods-row-names asked (methods-in-row b fits asked places e)

  pub marks-names : (l : List ℕ) {r : Refusal} → fit places (marks_over b l) ≡ refused r → NamesAsked Unbound names l r
  marks-names l e = marks-row-names l (marks-in-row b fits l places e)

  pub project-names : (asked : List ℕ) {r : Refusal} → fit places (project b asked) ≡ refused r → NamesAsked Absent names asked r
  project-names asked e = project-row-names asked (project-in-row b fits asked places e)

-- 3 names the number that is asked.
alias-row-names : (b : Book) → Fits b → (n : ℕ) {r : Refusal} → AliasRow b n r → NamesAsked Unbound (length b.names) (n ∷ []) r
alias-row-names b fits n (aliased.checked x) = inl (row-names b fits x)
alias-row-names b fits n (aliased.unbound x) = inr (n, refl, Memᴰ.head refl)

pub alias-names : (b : Book) → Fits b → (n : ℕ) {r : Refusal} → alias b n ≡ refused r → NamesAsked Unbound (length b.names) (n ∷ []) r
alias-names b fits n e = alias-row-names b fits n (alias-in-row b fits n e)

values-row-names : (b : Book) → Fits b → (n : ℕ) {r : Refusal} → ValuesRow b n r → NamesAsked Unbound (length b.names) (n ∷ []) r
values-row-names b fits n (counted.checked x) = inl (row-names b fits x)
values-row-names b fits n (counted.unbound x) = inr (n, refl, Memᴰ.head refl)

pub values-names : (b : Book) → Fits b → (n : ℕ) {r : Refusal} → values b n ≡ refused r → NamesAsked Unbound (length b.names) (n ∷ []) r
values-names b fits n e = values-row-names b fits n (values-in-row b fits n e)

-- ---- On bytes
module _ (bs : Source) (places : ℕ) {r : Refusal} where
  pub list-bytes-names : fit places (on_bytes list bs) ≡ refused r → InRow bs (λ b. NamesPlace (length b.names)) r
  list-bytes-names = asked-row bs places list (λ b. NamesPlace (length b.names)) (λ b fits. list-names b fits places)

  pub use-counts-bytes-names : fit places (on_bytes use_counts bs) ≡ refused r → InRow bs (λ b. NamesPlace (length b.names)) r
  use-counts-bytes-names e = list-bytes-names ((bytes-refused-alike bs places r).0 e)

  pub init-list-bytes-names : fit places (on_bytes init_list bs) ≡ refused r → InRow bs (λ b. NamesPlace (length b.names)) r
  init-list-bytes-names = asked-row bs places init_list (λ b. NamesPlace (length b.names)) (λ b fits. init-list-names b fits places)

  pub draft-bytes-names : fit places (on_bytes draft_list bs) ≡ refused r → InRow bs (λ b. NamesPlace (length b.names)) r
  draft-bytes-names = asked-row bs places draft_list (λ b. NamesPlace (length b.names)) (λ b fits. draft-names b fits places)

  pub emptiness-bytes-names : fit places (on_bytes emptiness bs) ≡ refused r → InRow bs (λ b. NamesPlace (length b.names)) r
  emptiness-bytes-names = asked-row bs places emptiness (λ b. NamesPlace (length b.names)) (λ b fits. emptiness-names b fits places)

  pub uses-bytes-names : (n : ℕ) → fit places (on_bytes (λ b. uses b n) bs) ≡ refused r → InRow bs (λ b. NamesPlace (length b.names)) r
  uses-bytes-names n = asked-row bs places (λ b. uses b n) (λ b. NamesPlace (length b.names)) (λ b fits. uses-names b fits places n)

  pub methods-bytes-names : (asked : List ℕ) → fit places (on_bytes (λ b. methods b asked) bs) ≡ refused r → InRow bs (λ b. NamesPlace (length b.names)) r
  methods-bytes-names asked = asked-row bs places (λ b. methods b asked) (λ b. NamesPlace (length b.names)) (λ b fits. methods-names b fits places asked)

  pub marks-bytes-names : (l : List ℕ) → fit places (on_bytes (λ b. marks_over b l) bs) ≡ refused r → InRow bs (λ b. NamesAsked Unbound (length b.names) l) r
  marks-bytes-names l = asked-row bs places (λ b. marks_over b l) (λ b. NamesAsked Unbound (length b.names) l) (λ b fits. marks-names b fits places l)

  pub project-bytes-names : (asked : List ℕ) → fit places (on_bytes (λ b. project b asked) bs) ≡ refused r → InRow bs (λ b. NamesAsked Absent (length b.names) asked) r
  project-bytes-names asked = asked-row bs places (λ b. project b asked) (λ b. NamesAsked Absent (length b.names) asked) (λ b fits. project-names b fits places asked)

pub alias-bytes-names : (bs : Source) (n : ℕ) {r : Refusal} → on_bytes (λ b. alias b n) bs ≡ refused r → InRow bs (λ b. NamesAsked Unbound (length b.names) (n ∷ [])) r
alias-bytes-names bs n = asked-in-row bs (λ b. alias b n) (λ b. NamesAsked Unbound (length b.names) (n ∷ [])) (λ b fits. alias-names b fits n)

pub values-bytes-names : (bs : Source) (n : ℕ) {r : Refusal} → on_bytes (λ b. values b n) bs ≡ refused r → InRow bs (λ b. NamesAsked Unbound (length b.names) (n ∷ [])) r
values-bytes-names bs n = asked-in-row bs (λ b. values b n) (λ b. NamesAsked Unbound (length b.names) (n ∷ [])) (λ b fits. values-names b fits n)
