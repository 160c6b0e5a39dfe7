-- What a refusal of the check names is a name of the book. Assumes that the book fits; one that was read from bytes does.
--     reference-named, method-named     the names and the methods of trees that fit
--     defined-named                     the names of definitions that fit
--     nameless                          a refusal that names nothing
--     row-names, init-row-names         a row's refusal names a place in the table of names
--     check-names, init-check-names     so does what is refused
--     repeat-names, admission-names     and the label that 18 names
--     check-bytes-names, ..             the same on bytes, which are refused by admission or a book
use mathlib.Core.Path.{◌≡◌, refl, sym, ap, subst, ◌∙◌}
use mathlib.Core.Logic.{◌⊎◌, inl, inr, ⊎_elim}
use mathlib.Core.Bool.{true, false, not}
use mathlib.Core.List.Memᴰ
use mathlib.Core.List.{List, Memᴰ}
use Prim.Native.Nat.{ℕ, suc, ◌<◌}
use lib.Dec.{T, ltb, eqb}
use lib.ListN.{length}
use Rattle.labels.specs.declared.Label.TheVariants.{Id, Named, Unnamed}
use Rattle.format.specs.declared.Place.{Place}
use Rattle.format.specs.declared.Place.TheVariants.{Root, Field, Method, Inner}
use Rattle.format.specs.Forest.{Forest, end, tree, breadth}
use Rattle.format.specs.Node.{Kind, Labelled, unlabelled, labelled, Node, label_value}
use Rattle.format.specs.Book.{Definition, Book}
use Rattle.format.specs.Fits.{place_below, kind_fits, kind_allowed, label_fits, node_fits, forest_fits, Fits}
use Rattle.format.specs.References.{references}
use Rattle.format.specs.Occurs.{Occurs, here, below, after, Beside, first, later}
use Rattle.format.specs.Labels.{keys_of, method_names}
use Rattle.format.specs.Numbered.{TreeAt}
use Rattle.format.specs.Numbered as numbered
use Rattle.format.specs.Repeats.{RepeatAt, spelling, RepeatOf}
use Rattle.format.specs.Layout.{whole, layout}
use Rattle.format.specs.Admission.{Source, AdmissionRow, is_broken, is_over, is_repeated, InRow}
use Rattle.format.proofs.Logic.{both, both₃, le-says, clash}
use Rattle.format.proofs.Occurs.{reference-occurs}
use Rattle.format.proofs.Theorems.{found}
use Rattle.format.proofs.Encoded.{fit-parts, all-fit}
use Rattle.format.proofs.Numbered.{node-occurs}
use Rattle.format.proofs.Admission.{judged-row}
use Rattle.refusals.specs.declared.Refusal.{Refusal}
use Rattle.refusals.specs.declared.Refusal.TheVariants.{Repeated}
use Rattle.std.specs.Prelude.{Err}
use Rattle.judgement.specs.Actor.{init_tree}
use Rattle.judgement.specs.Check.{check, init_check, check_bytes, init_check_bytes}
use Rattle.judgement.specs.WellFormed.{defined_name, Defined}
use Rattle.judgement.specs.Meaning.{ComesTo}
use Rattle.judgement.specs.Meaning as meaning
use Rattle.judgement.specs.Rows.{HasMethod, WalkRow, DefinitionsRow, TreesRow, ActorRow, CheckRow, InitRow, NamesPlace}
use Rattle.judgement.specs.Rows as rows
use Rattle.judgement.proofs.Heads.{head-refers}
use Rattle.judgement.proofs.Decs.{FitDefinitions}
use Rattle.judgement.proofs.Fitting.{Fitting, tree-fits, fitting-kids}
use Rattle.judgement.proofs.Books.{main-definitions-fit, init-definitions-fit, imports-named, init-tree-fits, bodies-fit, services-fit, together-methods-fit, actor-fits}
use Rattle.judgement.proofs.Rows.{middle, check-row, init-check-row}

-- A refusal that names nothing.
pub nameless : {A : Type 0} → false ≡ true → A
nameless e = clash cc

-- ---- Names in trees that fit
module _ (names : ℕ) where
  -- A node of these trees fits at its place, and so do its children.
  abbrev NodeFits : Node → Forest Node → Type 0
  NodeFits n kids = (p : Place) × T (node_fits names p n (breadth kids)) × T (forest_fits names (place_below n.kind) kids)

  occurs-fits : {n : Node} {kids f : Forest Node} → Occurs n kids f → Fitting names f → NodeFits n kids
  occurs-fits {n} {kids} (here {next = next}) x = let t = tree-fits names x.place n kids next x.fit in (x.place, t.0, t.1)
  occurs-fits (below {m = m} {lids = lids} {next = next} o) x =
      occurs-fits o record { place = place_below m.kind; fit = (tree-fits names x.place m lids next x.fit).1 }
  occurs-fits (after {m = m} {lids = lids} {next = next} o) x = occurs-fits o record { place = x.place; fit = (tree-fits names x.place m lids next x.fit).2 }

  pub reference-named : (f : Forest Node) {k : ℕ} → Fitting names f → Memᴰ k (references f) → k < names
  unfolding node_fits kind_fits
  reference-named f {k} x m =
      let o = reference-occurs f m in
      let n = o.0 in
      let p = occurs-fits o.2 x in
      let own = (both₃ (kind_fits names n.kind (breadth o.1)) (kind_allowed p.0 n.kind) (label_fits names p.0 n.label) p.1).0 in
      (le-says (suc k) names).0 (both (ltb k names) (eqb (breadth o.1) 0) (subst (λ (κ : Kind). T (kind_fits names κ (breadth o.1))) o.3 own)).0

  -- a method's label
  label-named : (l : Labelled) → T (label_fits names Method l) → label_value l < names
  unfolding label_fits label_value
  label-named unlabelled t = absurd t
  label-named (labelled (Id n)) t = absurd t
  label-named (labelled (Named n)) t = (le-says (suc n) names).0 t
  label-named (labelled (Unnamed n)) t = absurd t

  pub method-named : (f : Forest Node) {k : ℕ} → T (forest_fits names Method f) → Memᴰ k (method_names f) → k < names
  unfolding node_fits keys_of
  method-named end t m = absurd (Memᴰ.not-nil m)
  method-named (tree n kids next) t m =
      let p = tree-fits names Method n kids next t in
      let own = (both₃ (kind_fits names n.kind (breadth kids)) (kind_allowed Method n.kind) (label_fits names Method n.label) p.0).2 in
      ⊎_elim (λ e. subst (λ (j : ℕ). j < names) (sym e) (label-named n.label own)) (method-named next p.2) (Memᴰ.cases_cons m)

  beside-listed : {n : Node} {kids f : Forest Node} → Beside n kids f → Memᴰ (label_value n.label) (method_names f)
  unfolding keys_of
  beside-listed first = Memᴰ.head refl
  beside-listed (later o) = Memᴰ.tail (beside-listed o)

  -- a method of a service in these trees
  has-named : {ds : List Definition} {k : ℕ} {f : Forest Node} → Fitting names f → HasMethod ds k f → k < names
  unfolding place_below
  has-named x h =
      let kids = h.1 in
      let t = subst (λ (κ : Kind). T (forest_fits names (place_below κ) kids)) h.5 (occurs-fits h.4 x).2 in
      subst (λ (j : ℕ). j < names) h.7 (method-named kids t (beside-listed h.6))

  -- a name that an alias chain comes to
  comes-named : {ds : List Definition} → ((d : Definition) → Memᴰ d ds → Fitting names d.body) → {t : Forest Node} {k : ℕ} → ComesTo ds t k → Fitting names t → k < names
  comes-named h {t} (meaning.here e) x = reference-named t x (head-refers t e)
  comes-named h (meaning.onward {d = d} e m q c) x = comes-named h c (h d m)

  -- ---- The rows of trees and definitions
  walk-names : {ds : List Definition} {f : Forest Node} {r : Refusal} → Fitting names f → WalkRow ds f r → NamesPlace names r
  walk-names {f = f} x (rows.unbound u) = λ t. reference-named f x u.0
  walk-names x (rows.class c) = λ t. nameless t
  walk-names x (rows.modes m) = λ t. nameless t
  walk-names x (rows.oneway o) = λ t. nameless t

  trees-names : {ds : List Definition} {f : Forest Node} {r : Refusal} → Fitting names f → TreesRow ds f r → NamesPlace names r
  trees-names x (rows.walked w) = walk-names x w
  trees-names x (rows.method_no_function m) = λ t. has-named x m

  module _ {ds : List Definition} (fits : FitDefinitions names ds) where
    pub defined-named : {k : ℕ} → Defined ds k → k < names
    defined-named m = let d = Memᴰ.of_map defined_name ds m in subst (λ (j : ℕ). j < names) d.2 (fits.exists d.0 d.1)

    definitions-names : {r : Refusal} → DefinitionsRow ds r → NamesPlace names r
    definitions-names (rows.twice x) = λ t. defined-named (middle x.0 x.1 x.2)
    definitions-names (rows.walked (d, m, w)) = walk-names record { place = Root; fit = fits.fit d m } w
    definitions-names (rows.circle (d, m, e, c)) = λ t. subst (λ (j : ℕ). j < names) e (fits.exists d m)
    definitions-names (rows.no_function x) = λ t. nameless t

-- ---- The rows of a book
module _ (b : Book) (fits : Fits b) where
  abbrev names : ℕ
  names = length b.names

  actor-names : {r : Refusal} → ActorRow b r → NamesPlace names r
  actor-names (rows.unbound {t = t} m x) = λ u. comes-named names (bodies-fit b fits) x.0 (services-fit b fits t m)
  actor-names (rows.no_service some l) = λ u. nameless u
  actor-names (rows.import_no_service {f = f} m some l) = λ u. imports-named b fits f m
  actor-names (rows.import_without_actor {f = f} m e) = λ u. imports-named b fits f m
  actor-names (rows.same_hash {methods = methods} some t x) = λ u. method-named names methods (together-methods-fit b fits t) (middle x.0 x.1 x.2)

  pub row-names : {r : Refusal} → CheckRow b r → NamesPlace names r
  row-names (rows.definitions x) = definitions-names names (main-definitions-fit b fits) x
  row-names (rows.walk a x) = trees-names names (actor-fits b fits a) x
  row-names (rows.actor x) = actor-names x

  init-names : {r : Refusal} → InitRow b r → NamesPlace names r
  init-names (rows.definitions x) = definitions-names names (init-definitions-fit b fits) x
  init-names (rows.differs (d, e, i, m, p, q, h) least) = λ u. subst (λ (j : ℕ). j < names) p ((init-definitions-fit b fits).exists d i)
  init-names (rows.walk x) = trees-names names (fitting-kids names (init_tree b.files) (init-tree-fits b fits)) x

  pub init-row-names : {r : Refusal} → CheckRow b r ⊎ InitRow b r → NamesPlace names r
  init-row-names = ⊎_elim row-names init-names

-- ---- What is refused
pub check-names : (b : Book) → Fits b → {r : Refusal} → check b ≡ Err r → NamesPlace (length b.names) r
check-names b fits e = row-names b fits (check-row b fits e)

pub init-check-names : (b : Book) → Fits b → {r : Refusal} → init_check b ≡ Err r → NamesPlace (length b.names) r
init-check-names b fits e = init-row-names b fits (init-check-row b fits e)

-- ---- On bytes

-- 18: the label of a child of a node that fits
module _ (names : ℕ) where
  spelled-named : (p : Place) (l : Labelled) → T (label_fits names p l) → (spelling l ≡ 65535) ⊎ (spelling l < names)
  unfolding label_fits spelling
  spelled-named p unlabelled t = inl refl
  spelled-named p (labelled (Id n)) t = inl refl
  spelled-named Root (labelled (Named n)) t = absurd t
  spelled-named Field (labelled (Named n)) t = inr ((le-says (suc n) names).0 t)
  spelled-named Method (labelled (Named n)) t = inr ((le-says (suc n) names).0 t)
  spelled-named Inner (labelled (Named n)) t = absurd t
  spelled-named p (labelled (Unnamed n)) t = inl refl

  tree-label : {n : Node} {kids f : Forest Node} {i : ℕ} (p : Place) → TreeAt n kids i f → T (forest_fits names p f) → T (label_fits names p n.label)
  unfolding node_fits
  tree-label {n} {kids} p (numbered.first {next = next}) t =
      (both₃ (kind_fits names n.kind (breadth kids)) (kind_allowed p n.kind) (label_fits names p n.label) (tree-fits names p n kids next t).0).2
  tree-label p (numbered.later {m = m} {lids = lids} {next = next} o) t = tree-label p o (tree-fits names p m lids next t).2

  repeat-spelled : {table : List (List ℕ)} {f : Forest Node} {j : ℕ} {l : Labelled} → T (forest_fits names Root f) → RepeatAt table f j l → (spelling l ≡ 65535) ⊎ (spelling l < names)
  repeat-spelled {l = l} t r =
      let w = occurs-fits names (node-occurs r.stands) record { place = Root; fit = t } in
      rw r.label (spelled-named _ r.later.label (tree-label _ r.other w.2))

pub repeat-names : (b : Book) → Fits b → {n : ℕ} → RepeatOf b n → NamesPlace (length b.names) (Repeated n)
repeat-names b fits {n} o = go (repeat-spelled (length b.names) (all-fit (fit-parts fits)) o.first.is)
  where
    go : (spelling o.l ≡ 65535) ⊎ (spelling o.l < length b.names) → NamesPlace (length b.names) (Repeated n)
    go (inl e) t = nameless (sym (ap (λ (k : ℕ). not (eqb k 65535)) (o.named ∙ e)) ∙ t)
    go (inr l) t = rw o.named l

-- what admission names of a book
pub admission-names : (bs : Source) {r : Refusal} → AdmissionRow bs r → (b : Book) → layout bs.bytes ≡ whole b → NamesPlace (length b.names) r
admission-names bs (is_broken x) b w = λ t. nameless t
admission-names bs (is_over x) b w = λ t. nameless t
admission-names bs (is_repeated {n = n} x) b w =
    let same : x.book ≡ b = whole-one (sym x.laid_out ∙ w) in
    subst (λ (c : Book). NamesPlace (length c.names) (Repeated n)) same (repeat-names x.book ((found bs.bytes x.book).0 x.laid_out).0 x.holds)
  where
    whole-one : {c d : Book} → whole c ≡ whole d → c ≡ d
    whole-one e = cc

pub check-bytes-names : (bs : Source) {r : Refusal} → check_bytes bs ≡ Err r → InRow bs (λ b. NamesPlace (length b.names)) r
unfolding check_bytes
check-bytes-names bs = judged-row bs check (λ b. NamesPlace (length b.names)) (λ b fits. check-names b fits)

pub init-check-bytes-names : (bs : Source) {r : Refusal} → init_check_bytes bs ≡ Err r → InRow bs (λ b. NamesPlace (length b.names)) r
unfolding init_check_bytes
init-check-bytes-names bs = judged-row bs init_check (λ b. NamesPlace (length b.names)) (λ b fits. init-check-names b fits)
