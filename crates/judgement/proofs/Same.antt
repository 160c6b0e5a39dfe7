-- The merge's test of two types says that they are the same by the rules of specs/Same.antt. Assumes that the trees fit, and that the names
-- are in order; `definitions-same` is of a book that fits.
--     names-apart                              names of the same bytes are one name
--     same-says, definitions-same              the test and the rules
--     same-refl, same-symmetric, same-trans    the rules tell trees apart as an equality does
use mathlib.Core.Path.{◌≡◌, refl, sym, ap, ap₂, subst, ◌∙◌}
use mathlib.Core.Logic.{◌↔◌, ◌⊎◌, inl, inr, ⊎_elim, ⊎_map}
use mathlib.Core.Bool.{Bool, true, false, not, ◌&&◌, ◌||◌}
use mathlib.Core.List.{List, [], ◌∷◌, Memᴰ}
use Prim.Native.Nat.{ℕ, zero, suc, ◌<◌}
use native.Mathlib.Nat.{not-suc-le-zero, le_of_suc-le-suc}
use native.Mathlib.Omega.{arith}
use lib.Dec.{T, ltb, eqb, ltb→lt, lt→ltb, eqb→eq, eqb_refl}
use lib.ListN.{length}
use Rattle.labels.specs.declared.Label.TheVariants.{Id, Named, Unnamed}
use Rattle.format.specs.declared.Place.{Place}
use Rattle.format.specs.declared.Place.TheVariants.{Root, Field, Method, Inner}
use Rattle.format.specs.Forest.{Forest, end, tree, breadth}
use Rattle.format.specs.Node.{Kind, Labelled, unlabelled, labelled, Node, kind_number, value_number, label_value}
use Rattle.format.specs.Book.{Definition, Book}
use Rattle.format.specs.Fits.{is_init_role, before, ascending, place_below, kind_fits, label_fits, node_fits, forest_fits, Fits}
use Rattle.format.specs.Layout.{kind_of}
use Rattle.format.specs.Labels.{label_id, same_label}
use Rattle.format.proofs.Logic.{both, join, of-true, and-says, eq-says, says}
use Rattle.format.proofs.Nodes.{kind-read}
use Rattle.format.proofs.Encoded.{fit-parts}
use Rattle.judgement.specs.Environment.{role_at, main_definitions, init_definitions, same_kind, same_forest}
use Rattle.judgement.specs.Same.{bytes_of, HasNumber, numbered, unnamed, spelled, SameLabels, fields, methods, roots, inners, Same, none, beside}
use Rattle.judgement.proofs.Lookup.{keep-says}
use Rattle.judgement.proofs.Books.{main-definitions-fit, init-definitions-fit}

-- ---- Names: of those in order, no two have the same bytes

or-says : (a b : Bool) → T (a || b) ↔ (T a ⊎ T b)
or-says true b = (λ t. inl tt, λ s. tt)
or-says false b = (inr, ⊎_elim (λ t. absurd t) (λ t. t))

-- A name before another: smaller at their first difference, or its beginning.
cons-before : (a b : ℕ) (m n : List ℕ) → T (before (a ∷ m) (b ∷ n)) ↔ ((a < b) ⊎ ((a ≡ b) × T (before m n)))
unfolding before
cons-before a b m n =
    let either = or-says (ltb a b) (eqb a b && before m n) in
    (λ t. ⊎_map (ltb→lt a b) (λ u. simp says at u) (either.0 t), λ s. either.1 (⊎_map (lt→ltb a b) (λ p. simp says p) s))

before-self : (m : List ℕ) → T (before m m) → ⊥
unfolding before
before-self [] t = t
before-self (a ∷ m) t = ⊎_elim (λ h. omega arith) (λ p. before-self m p.1) ((cons-before a a m m).0 t)

before-trans : (l m n : List ℕ) → T (before l m) → T (before m n) → T (before l n)
unfolding before
before-trans [] [] n t u = u
before-trans [] (b ∷ m) [] t u = absurd u
before-trans [] (b ∷ m) (c ∷ n) t u = tt
before-trans (a ∷ l) [] n t u = absurd t
before-trans (a ∷ l) (b ∷ m) [] t u = absurd u
before-trans (a ∷ l) (b ∷ m) (c ∷ n) t u =
    (cons-before a c l n).1 (go ((cons-before a b l m).0 t) ((cons-before b c m n).0 u) (before-trans l m n))
  where
    go : (a < b) ⊎ ((a ≡ b) × T (before l m)) → (b < c) ⊎ ((b ≡ c) × T (before m n)) → (T (before l m) → T (before m n) → T (before l n)) →
        (a < c) ⊎ ((a ≡ c) × T (before l n))
    go (inl h) (inl k) on = inl (omega arith)
    go (inl h) (inr k) on = inl (omega (arith, k.0))
    go (inr h) (inl k) on = inl (omega (arith, h.0))
    go (inr h) (inr k) on = inr (h.0 ∙ k.0, on h.1 k.1)

first-before : (m : List ℕ) (ns : List (List ℕ)) → T (ascending (m ∷ ns)) → (j : ℕ) → j < length ns → T (before m (bytes_of ns j))
unfolding ascending
first-before m [] t j h = absurd (not-suc-le-zero h)
first-before m (n ∷ ns) t zero h = (both (before m n) (ascending (n ∷ ns)) t).0
first-before m (n ∷ ns) t (suc j) h =
    let p = both (before m n) (ascending (n ∷ ns)) t in
    before-trans m n (bytes_of ns j) p.0 (first-before n ns p.1 j (le_of_suc-le-suc h))

others-ascend : (m : List ℕ) (ns : List (List ℕ)) → T (ascending (m ∷ ns)) → T (ascending ns)
unfolding ascending
others-ascend m [] t = tt
others-ascend m (n ∷ ns) t = (both (before m n) (ascending (n ∷ ns)) t).1

pub names-apart : (names : List (List ℕ)) → T (ascending names) → (i j : ℕ) → i < length names → j < length names → bytes_of names i ≡ bytes_of names j → i ≡ j
names-apart [] t i j h k e = absurd (not-suc-le-zero h)
names-apart (m ∷ ns) t zero zero h k e = refl
names-apart (m ∷ ns) t zero (suc j) h k e =
    absurd (before-self m (subst (λ (n : List ℕ). T (before m n)) (sym e) (first-before m ns t j (le_of_suc-le-suc k))))
names-apart (m ∷ ns) t (suc i) zero h k e =
    absurd (before-self m (subst (λ (n : List ℕ). T (before m n)) e (first-before m ns t i (le_of_suc-le-suc h))))
names-apart (m ∷ ns) t (suc i) (suc j) h k e =
    ap suc (names-apart ns (others-ascend m ns t) i j (le_of_suc-le-suc h) (le_of_suc-le-suc k) e)

-- ---- Kinds: their numbers and values are those of one kind
kind-says : (names : ℕ) (k l : Kind) (kids lids : ℕ) → T (kind_fits names k kids) → T (kind_fits names l lids) → T (same_kind k l) ↔ (k ≡ l)
unfolding same_kind
kind-says names k l kids lids f g = (
  λ t.
      let p = both (eqb (kind_number k) (kind_number l)) (eqb (value_number k) (value_number l)) t in
      sym (kind-read names k kids f).same ∙ ap₂ kind_of (eqb→eq _ _ p.0) (eqb→eq _ _ p.1) ∙ (kind-read names l lids g).same,
  λ e. rw e (join (eqb (kind_number l) (kind_number l)) (eqb (value_number l) (value_number l)) (eqb_refl (kind_number l)) (eqb_refl (value_number l))),
)

module _ (names : List (List ℕ)) where
  -- ---- Labels
  has-number : (l : Labelled) → T (label_fits (length names) Field l) → HasNumber names l (label_id names l)
  unfolding label_fits label_id
  has-number unlabelled t = absurd t
  has-number (labelled (Id n)) t = numbered
  has-number (labelled (Named n)) t = spelled
  has-number (labelled (Unnamed n)) t = unnamed

  number-is : {l : Labelled} {k : ℕ} → HasNumber names l k → label_id names l ≡ k
  unfolding label_id
  number-is numbered = refl
  number-is unnamed = refl
  number-is spelled = refl

  same-numbers : {l m : Labelled} → SameLabels names Field l m → label_id names l ≡ label_id names m
  same-numbers (fields h k) = number-is h ∙ sym (number-is k)

  same-bytes : {i j : ℕ} → SameLabels names Method (labelled (Named i)) (labelled (Named j)) → bytes_of names i ≡ bytes_of names j
  same-bytes (methods e) = e

  label-refl : (p : Place) (l : Labelled) → T (label_fits (length names) p l) → SameLabels names p l l
  unfolding label_fits
  label-refl Root unlabelled f = roots
  label-refl Root (labelled l) f = absurd f
  label-refl Field l f = fields (has-number l f) (has-number l f)
  label-refl Method unlabelled f = absurd f
  label-refl Method (labelled (Id n)) f = absurd f
  label-refl Method (labelled (Named n)) f = methods refl
  label-refl Method (labelled (Unnamed n)) f = absurd f
  label-refl Inner unlabelled f = inners
  label-refl Inner (labelled l) f = absurd f

  label-symmetric : {p : Place} {l m : Labelled} → SameLabels names p l m → SameLabels names p m l
  label-symmetric (fields h k) = fields k h
  label-symmetric (methods e) = methods (sym e)
  label-symmetric roots = roots
  label-symmetric inners = inners

  label-trans : {p : Place} {l m o : Labelled} → SameLabels names p l m → SameLabels names p m o → SameLabels names p l o
  label-trans (fields h k) s = onward h k s
    where
      onward : {l m o : Labelled} {k : ℕ} → HasNumber names l k → HasNumber names m k → SameLabels names Field m o → SameLabels names Field l o
      onward {l} h k (fields i j) = fields (subst (HasNumber names l) (sym (number-is k) ∙ number-is i) h) j
  label-trans (methods e) s = onward e s
    where
      onward : {i j : ℕ} {o : Labelled} → bytes_of names i ≡ bytes_of names j → SameLabels names Method (labelled (Named j)) o → SameLabels names Method (labelled (Named i)) o
      onward e (methods d) = methods (e ∙ d)
  label-trans roots s = s
  label-trans inners s = s

  -- ---- Trees
  record Parts (p : Place) (n : Node) (kids next : Forest Node) : Type 0 where
    kind : T (kind_fits (length names) n.kind (breadth kids))
    label : T (label_fits (length names) p n.label)
    below : T (forest_fits (length names) (place_below n.kind) kids)
    after : T (forest_fits (length names) p next)

  parts : (p : Place) (n : Node) (kids next : Forest Node) → T (forest_fits (length names) p (tree n kids next)) → Parts p n kids next
  unfolding forest_fits node_fits
  parts p n kids next t = let s = simp says at t in record { kind = s.0.0.0.0; label = s.0.0.1; below = s.0.1; after = s.1 }

  pub same-refl : (p : Place) (t : Forest Node) → T (forest_fits (length names) p t) → Same names p t t
  same-refl p end f = none
  same-refl p (tree n kids next) f =
      let s = parts p n kids next f in
      beside refl (label-refl p n.label s.label) (same-refl (place_below n.kind) kids s.below) (same-refl p next s.after)

  pub same-symmetric : {p : Place} {t u : Forest Node} → Same names p t u → Same names p u t
  same-symmetric none = none
  same-symmetric (beside {kids = kids} {lids = lids} e l k r) =
      beside (sym e) (label-symmetric l) (subst (λ (κ : Kind). Same names (place_below κ) lids kids) e (same-symmetric k)) (same-symmetric r)

  pub same-trans : {p : Place} {t u v : Forest Node} → Same names p t u → Same names p u v → Same names p t v
  same-trans none s = s
  same-trans (beside e l k r) s = onward e l (λ w. same-trans k) (λ w. same-trans r) s
    where
      onward : {p : Place} {n m : Node} {kids lids next rest v : Forest Node} → n.kind ≡ m.kind → SameLabels names p n.label m.label →
          ((w : Forest Node) → Same names (place_below n.kind) lids w → Same names (place_below n.kind) kids w) →
          ((w : Forest Node) → Same names p rest w → Same names p next w) → Same names p (tree m lids rest) v → Same names p (tree n kids next) v
      onward {lids = lids} e l k r (beside {lids = w} {rest = v} d j i s) =
          beside (e ∙ d) (label-trans l j) (k w (subst (λ (κ : Kind). Same names (place_below κ) lids w) (sym e) i)) (r v s)

  module _ (rising : T (ascending names)) where
    method-says : (i j : ℕ) → i < length names → j < length names → T (eqb i j) ↔ SameLabels names Method (labelled (Named i)) (labelled (Named j))
    method-says i j h k = (
      λ t. methods (ap (bytes_of names) (eqb→eq i j t)),
      λ s. (eq-says i j).1 (names-apart names rising i j h k (same-bytes s)),
    )

    label-says : (p : Place) (l m : Labelled) → T (label_fits (length names) p l) → T (label_fits (length names) p m) →
        T (same_label names p l m) ↔ SameLabels names p l m
    unfolding label_fits same_label label_value
    label-says Root unlabelled unlabelled f g = (λ t. roots, λ s. tt)
    label-says Root unlabelled (labelled m) f g = absurd g
    label-says Root (labelled l) m f g = absurd f
    label-says Field l m f g = (
      λ t. fields (has-number l f) (subst (HasNumber names m) (sym (eqb→eq _ _ t)) (has-number m g)),
      λ s. (eq-says (label_id names l) (label_id names m)).1 (same-numbers s),
    )
    label-says Method (labelled (Named i)) (labelled (Named j)) f g = method-says i j (ltb→lt i (length names) f) (ltb→lt j (length names) g)
    label-says Method (labelled (Named i)) unlabelled f g = absurd g
    label-says Method (labelled (Named i)) (labelled (Id j)) f g = absurd g
    label-says Method (labelled (Named i)) (labelled (Unnamed j)) f g = absurd g
    label-says Method unlabelled m f g = absurd f
    label-says Method (labelled (Id i)) m f g = absurd f
    label-says Method (labelled (Unnamed i)) m f g = absurd f
    label-says Inner unlabelled unlabelled f g = (λ t. inners, λ s. tt)
    label-says Inner unlabelled (labelled m) f g = absurd g
    label-says Inner (labelled l) m f g = absurd f

    below-too : (n m : Node) (lids : Forest Node) → n.kind ≡ m.kind →
        T (forest_fits (length names) (place_below m.kind) lids) → T (forest_fits (length names) (place_below n.kind) lids)
    below-too n m lids e = subst (λ (κ : Kind). T (forest_fits (length names) (place_below κ) lids)) (sym e)

    test-same : (p : Place) (t u : Forest Node) → T (forest_fits (length names) p t) → T (forest_fits (length names) p u) →
        T (same_forest names p t u) → Same names p t u
    unfolding same_forest
    test-same p end end f g t = none
    test-same p end (tree m lids rest) f g t = absurd t
    test-same p (tree n kids next) end f g t = absurd t
    test-same p (tree n kids next) (tree m lids rest) f g t =
        let s = simp and-says at t in
        let x = parts p n kids next f in
        let y = parts p m lids rest g in
        let e = (kind-says (length names) n.kind m.kind (breadth kids) (breadth lids) x.kind y.kind).0 s.0.0.0 in
        beside e ((label-says p n.label m.label x.label y.label).0 s.0.0.1)
        (test-same (place_below n.kind) kids lids x.below (below-too n m lids e y.below) s.0.1)
        (test-same p next rest x.after y.after s.1)

    same-test : {p : Place} {t u : Forest Node} → Same names p t u → T (forest_fits (length names) p t) → T (forest_fits (length names) p u) →
        T (same_forest names p t u)
    unfolding same_forest
    same-test none f g = tt
    same-test {p} (beside {n = n} {m = m} {kids = kids} {lids = lids} {next = next} {rest = rest} e l k r) f g =
        let x = parts p n kids next f in
        let y = parts p m lids rest g in
        let t : T (same_kind n.kind m.kind) = (kind-says (length names) n.kind m.kind (breadth kids) (breadth lids) x.kind y.kind).1 e in
        let i : T (same_label names p n.label m.label) = (label-says p n.label m.label x.label y.label).1 l in
        simp and-says (((t, i), same-test k x.below (below-too n m lids e y.below)), same-test r x.after y.after)

    pub same-says : (p : Place) (t u : Forest Node) → T (forest_fits (length names) p t) → T (forest_fits (length names) p u) →
        T (same_forest names p t u) ↔ Same names p t u
    same-says p t u f g = (test-same p t u f g, λ s. same-test s f g)

-- ---- The definitions of a book: those of the init file, and all others
definition-tree : (b : Book) → Fits b → (d : Definition) → Memᴰ d b.definitions → T (forest_fits (length b.names) Root d.body)
unfolding main_definitions init_definitions
definition-tree b fits d i = go (is_init_role (role_at b.files d.file)) refl
  where
    go : (c : Bool) → is_init_role (role_at b.files d.file) ≡ c → T (forest_fits (length b.names) Root d.body)
    go true e = (init-definitions-fit b fits).fit d ((keep-says _ b.definitions d).1 (i, of-true _ e))
    go false e = (main-definitions-fit b fits).fit d ((keep-says _ b.definitions d).1 (i, of-true _ (ap not e)))

pub definitions-same : (b : Book) → Fits b → (d e : Definition) → Memᴰ d b.definitions → Memᴰ e b.definitions →
    T (same_forest b.names Root d.body e.body) ↔ Same b.names Root d.body e.body
definitions-same b fits d e i j =
    same-says b.names (fit-parts fits).rising Root d.body e.body (definition-tree b fits d i) (definition-tree b fits e j)
