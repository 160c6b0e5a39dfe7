-- The first repeated label: what is computed is what the paper says, and none is found exactly if labels differ everywhere. Assumes nothing.
--     first-found, none-found         the computation finds the first repeat, and none where there is none
--     found-first, found-none         and only these
--     labels-apart, apart-labels      no node is a repeat exactly if `Labels` holds
--     repeat-node                     a repeat is a node of the trees
--     labels-say                      a book has no repeat exactly if labels differ
--     labels-refuse, first-refused    18 is that of the first
use mathlib.Core.Path.{◌≡◌, refl, sym, ap, ap₂, subst, ◌∙◌}
use mathlib.Core.Logic.{◌↔◌, ◌⊎◌, inl, inr}
use mathlib.Core.Bool.{Bool, true, false, cond, ◌&&◌, ◌||◌}
use mathlib.Core.List.Memᴰ
use mathlib.Core.List.{List, [], ◌∷◌, Memᴰ}
use Prim.Native.Nat.{ℕ, suc, ◌+◌, ◌≤◌, ◌<◌}
use native.Mathlib.Omega.{arith}
use lib.Dec.{T}
use borrow.Author.Tests.{eqb-true, eq-eqb}
use Rattle.refusals.specs.declared.Refusal.{Refusal}
use Rattle.refusals.specs.declared.Refusal.TheVariants.{Repeated}
use Rattle.std.specs.Prelude.{Err}
use Rattle.refusals.specs.Verdict.{passes}
use Rattle.format.specs.declared.Place.{Place}
use Rattle.format.specs.declared.Place.TheVariants.{Root}
use Rattle.format.specs.Forest.{Forest, end, tree, count}
use Rattle.format.specs.Node.{Kind, PrimT, VarT, OptT, VecT, RecordT, VariantT, FuncT, ServT, ClassT, InitT, Labelled, Node, label_value}
use Rattle.format.specs.Book.{Book, trees}
use Rattle.format.specs.Fits.{place_below}
use Rattle.format.specs.Occurs as occurs
use Rattle.format.specs.Distinct.{Distinct}
use Rattle.format.specs.Distinct as distinct
use Rattle.format.specs.Labels.{label_id, same_label, keys_of, Labels}
use Rattle.format.specs.Numbered.{NodeAt, root, below, after, TreeAt, first, later}
use Rattle.format.specs.Repeats.{OneLabel, fields, methods, RepeatAt, FirstRepeatAt, spelling, RepeatOf, has_labels, is_among, Repeat, none, repeat, or_else, first_repeat, repeat_verdict, labels_verdict}
use Rattle.format.proofs.Logic.{is-true, of-true, clash}
use Rattle.format.proofs.Distinct.{distinct-head, distinct-tail}
use Rattle.format.proofs.Numbered.{node-occurs, occurs-node, child-node, node-only}

module _ (names : List (List ℕ)) where
  -- ---- The computation as a relation: after siblings with the labels E, node j of the trees at place p is a repeat with the label l
  abbrev Hit : Place → List Labelled → Labelled → Type 0
  Hit p E l = T (has_labels p && is_among names p l E)

  data Again : Place → List Labelled → Forest Node → ℕ → Labelled → Type 0 where
    here : {p : Place} {E : List Labelled} {n : Node} {kids next : Forest Node} → Hit p E n.label → Again p E (tree n kids next) 0 n.label
    inside : {p : Place} {E : List Labelled} {n : Node} {kids next : Forest Node} {j : ℕ} {l : Labelled} → Again (place_below n.kind) [] kids j l → Again p E (tree n kids next) (suc j) l
    beyond : {p : Place} {E : List Labelled} {n : Node} {kids next : Forest Node} {j : ℕ} {l : Labelled} → Again p (n.label ∷ E) next j l → Again p E (tree n kids next) (suc (count kids + j)) l

  again-few : {p : Place} {E : List Labelled} {f : Forest Node} {j : ℕ} {l : Labelled} → Again p E f j l → j < count f
  unfolding count
  again-few (here h) = omega arith
  again-few (inside a) = omega (arith, again-few a)
  again-few (beyond a) = omega (arith, again-few a)

  -- what a result says of trees whose nodes are numbered from i on
  abbrev Finds : Place → List Labelled → ℕ → Forest Node → Repeat → Type 0
  Finds p E i f none = (j : ℕ) (l : Labelled) → Again p E f j l → ⊥
  Finds p E i f (repeat k l) = (j : ℕ) × (k ≡ i + j) × Again p E f j l × ((m : ℕ) (l' : Labelled) → Again p E f m l' → j ≤ m)

  module _ (p : Place) (E : List Labelled) (i : ℕ) (n : Node) (kids next : Forest Node) (not-here : Hit p E n.label → ⊥) where
    join : (r s : Repeat) → Finds (place_below n.kind) [] (suc i) kids r → Finds p (n.label ∷ E) (suc (i + count kids)) next s →
        Finds p E i (tree n kids next) (or_else r s)
    join none none g h = nowhere
      where
        nowhere : (j : ℕ) (l : Labelled) → Again p E (tree n kids next) j l → ⊥
        nowhere j l (here x) = not-here x
        nowhere j l (inside a) = g _ _ a
        nowhere j l (beyond a) = h _ _ a
    join none (repeat k l) g h = let (j, e, a, low) = h in (suc (count kids + j), omega arith, beyond a, lowest j low)
      where
        lowest : (j : ℕ) → ((m : ℕ) (l' : Labelled) → Again p (n.label ∷ E) next m l' → j ≤ m) → (m : ℕ) (l' : Labelled) → Again p E (tree n kids next) m l' → suc (count kids + j) ≤ m
        lowest j low m l' (here x) = absurd (not-here x)
        lowest j low m l' (inside a) = absurd (g _ _ a)
        lowest j low m l' (beyond a) = omega (arith, low _ _ a)
    join (repeat k l) s g h = let (j, e, a, low) = g in (suc j, omega arith, inside a, lowest j (again-few a) low)
      where
        lowest : (j : ℕ) → j < count kids → ((m : ℕ) (l' : Labelled) → Again (place_below n.kind) [] kids m l' → j ≤ m) →
            (m : ℕ) (l' : Labelled) → Again p E (tree n kids next) m l' → suc j ≤ m
        lowest j few low m l' (here x) = absurd (not-here x)
        lowest j few low m l' (inside a) = omega (arith, low _ _ a)
        lowest j few low m l' (beyond a) = omega arith

  finds : (f : Forest Node) (p : Place) (E : List Labelled) (i : ℕ) → Finds p E i f (first_repeat names p E i f)
  unfolding first_repeat
  finds end p E i = λ j l a. elim a [ ]
  finds (tree n kids next) p E i =
      go (has_labels p && is_among names p n.label E) refl (first_repeat names (place_below n.kind) [] (suc i) kids) (first_repeat names p (n.label ∷ E) (suc (i + count kids)) next)
      (finds kids (place_below n.kind) [] (suc i)) (finds next p (n.label ∷ E) (suc (i + count kids)))
    where
      go : (t : Bool) → (has_labels p && is_among names p n.label E) ≡ t → (r s : Repeat) →
          Finds (place_below n.kind) [] (suc i) kids r → Finds p (n.label ∷ E) (suc (i + count kids)) next s →
          Finds p E i (tree n kids next) (cond t (repeat i n.label) (or_else r s))
      go true e r s g h = (0, omega arith, here (of-true _ e), λ m l' a. omega arith)
      go false e r s g h = join p E i n kids next (λ x. subst T e x) r s g h

  -- ---- Labels of children, by the parent's kind and by their place
  one-label : (k : Kind) (l m : Labelled) → OneLabel names k l m → T (has_labels (place_below k)) × T (same_label names (place_below k) l m)
  unfolding has_labels place_below same_label
  one-label k l m (fields (inl e) s) = rw e (tt, of-true _ (eq-eqb _ _ s))
  one-label k l m (fields (inr e) s) = rw e (tt, of-true _ (eq-eqb _ _ s))
  one-label k l m (methods e s) = rw e (tt, of-true _ (eq-eqb _ _ s))

  label-one : (k : Kind) (l m : Labelled) → T (has_labels (place_below k)) → T (same_label names (place_below k) l m) → OneLabel names k l m
  unfolding has_labels place_below same_label
  label-one (PrimT p) l m h s = absurd h
  label-one (VarT n) l m h s = absurd h
  label-one OptT l m h s = absurd h
  label-one VecT l m h s = absurd h
  label-one RecordT l m h s = fields (inl refl) (eqb-true _ _ (is-true _ s))
  label-one VariantT l m h s = fields (inr refl) (eqb-true _ _ (is-true _ s))
  label-one (FuncT a ms) l m h s = absurd h
  label-one ServT l m h s = methods refl (eqb-true _ _ (is-true _ s))
  label-one ClassT l m h s = absurd h
  label-one InitT l m h s = absurd h

  -- ---- A repeat is found
  among-later : (p : Place) (l m : Labelled) (E : List Labelled) → Hit p E l → Hit p (m ∷ E) l
  unfolding is_among
  among-later p l m E h = go (has_labels p) (same_label names p m l) (is_among names p l E) h
    where
      go : (a b c : Bool) → T (a && c) → T (a && (b || c))
      go true true c h = tt
      go true false c h = h
      go false b c h = absurd h

  among-first : (p : Place) (l m : Labelled) (E : List Labelled) → T (has_labels p) → T (same_label names p m l) → Hit p (m ∷ E) l
  unfolding is_among
  among-first p l m E h s = rw (is-true (has_labels p) h, is-true (same_label names p m l) s) tt

  late-again : {n : Node} {kids : Forest Node} (p : Place) (E : List Labelled) {f : Forest Node} {j : ℕ} → TreeAt n kids j f → Hit p E n.label → Again p E f j n.label
  late-again p E first h = here h
  late-again {n = n} p E (later {m = m} t) h = beyond (late-again p (m.label ∷ E) t (among-later p n.label m.label E h))

  pair-again : {n m : Node} {kids lids : Forest Node} (p : Place) (E : List Labelled) {f : Forest Node} {i j : ℕ} → TreeAt n kids i f → TreeAt m lids j f → i < j →
      T (has_labels p) → T (same_label names p n.label m.label) → Again p E f j m.label
  pair-again p E first first o h s = absurd (omega arith)
  pair-again {n = n} {m = m} p E first (later u) o h s = beyond (late-again p (n.label ∷ E) u (among-first p m.label n.label E h s))
  pair-again p E (later t) first o h s = absurd (omega arith)
  pair-again p E (later {m = m'} t) (later u) o h s = beyond (pair-again p (m'.label ∷ E) t u (omega arith) h s)

  moved : {p : Place} {E : List Labelled} {f : Forest Node} {i j : ℕ} {l : Labelled} → i ≡ j → Again p E f i l → Again p E f j l
  moved {p} {E} {f} {l = l} e a = subst (λ (k : ℕ). Again p E f k l) e a

  repeat-again : {parent : Node} {kids : Forest Node} {j : ℕ} {l : Labelled} (p : Place) (E : List Labelled) {f : Forest Node} {at : ℕ} → NodeAt parent kids at f →
      Again (place_below parent.kind) [] kids j l → Again p E f (suc (at + j)) l
  repeat-again {j = j} {l = l} p E (root {next = next}) a = moved (omega arith) (inside a)
  repeat-again p E (below {m = m} o) a = moved (omega arith) (inside (repeat-again (place_below m.kind) [] o a))
  repeat-again p E (after {m = m} o) a = moved (omega arith) (beyond (repeat-again p (m.label ∷ E) o a))

  is-again : {f : Forest Node} {j : ℕ} {l : Labelled} (p : Place) (E : List Labelled) → RepeatAt names f j l → Again p E f j l
  is-again {f} {j} {l} p E r =
      let s = one-label _ _ _ r.same in
      rw (r.node, r.label) (repeat-again p E r.stands (pair-again _ [] r.one r.other r.order s.0 s.1))

  -- ---- What is found is a repeat: below a node of the trees, of two of them, or of one and an earlier sibling of theirs
  record Pair (p : Place) (f : Forest Node) (j : ℕ) (l : Labelled) : Type 0 where
    node : Node
    kids : Forest Node
    at : ℕ
    one : TreeAt node kids at f
    again : Node
    lids : Forest Node
    other : TreeAt again lids j f
    order : at < j
    labels : T (has_labels p)
    same : T (same_label names p node.label again.label)
    label : l ≡ again.label

  record Late (p : Place) (E : List Labelled) (f : Forest Node) (j : ℕ) (l : Labelled) : Type 0 where
    again : Node
    lids : Forest Node
    stands : TreeAt again lids j f
    hit : Hit p E again.label
    label : l ≡ again.label

  data Is (p : Place) (E : List Labelled) (f : Forest Node) (j : ℕ) (l : Labelled) : Type 0 where
    below' : RepeatAt names f j l → Is p E f j l
    pair : Pair p f j l → Is p E f j l
    late : Late p E f j l → Is p E f j l

  -- the same children, of a parent that stands elsewhere
  moved-to : {f g : Forest Node} {j k at : ℕ} {l : Labelled} (r : RepeatAt names f j l) → NodeAt r.parent r.kids at g → k ≡ suc (at + r.later_at) →
      RepeatAt names g k l
  moved-to {at = at} r s e =
      record {
        parent = r.parent;
        kids = r.kids;
        at = at;
        stands = s;
        earlier = r.earlier;
        earlier_kids = r.earlier_kids;
        earlier_at = r.earlier_at;
        one = r.one;
        later = r.later;
        later_kids = r.later_kids;
        later_at = r.later_at;
        other = r.other;
        order = r.order;
        same = r.same;
        node = e;
        label = r.label;
      }

  -- two children of the first node
  of-root : {n : Node} {kids next : Forest Node} {j : ℕ} {l : Labelled} → Pair (place_below n.kind) kids j l → RepeatAt names (tree n kids next) (suc j) l
  of-root {n} {kids} {next} {j} q =
      record {
        parent = n;
        kids = kids;
        at = 0;
        stands = root;
        earlier = q.node;
        earlier_kids = q.kids;
        earlier_at = q.at;
        one = q.one;
        later = q.again;
        later_kids = q.lids;
        later_at = j;
        other = q.other;
        order = q.order;
        same = label-one n.kind _ _ q.labels q.same;
        node = omega arith;
        label = q.label;
      }

  not-among : (p : Place) (l : Labelled) {A : Type 0} → Hit p [] l → A
  unfolding is_among
  not-among p l h = go (has_labels p) h
    where
      go : (a : Bool) {A : Type 0} → T (a && false) → A
      go true h = absurd h
      go false h = absurd h

  -- a label that is that of the first tree, or of an earlier one
  among-cases : (p : Place) (l m : Labelled) (E : List Labelled) → Hit p (m ∷ E) l → (T (has_labels p) × T (same_label names p m l)) ⊎ Hit p E l
  unfolding is_among
  among-cases p l m E h = go (has_labels p) (same_label names p m l) (is_among names p l E) h
    where
      go : (a b c : Bool) → T (a && (b || c)) → (T a × T b) ⊎ T (a && c)
      go true true c h = inl (tt, tt)
      go true false c h = inr h
      go false b c h = absurd h

  inside-is : {p : Place} {E : List Labelled} {n : Node} {kids next : Forest Node} {j : ℕ} {l : Labelled} → Is (place_below n.kind) [] kids j l → Is p E (tree n kids next) (suc j) l
  inside-is (below' r) = below' (moved-to r (below r.stands) (omega (arith, r.node)))
  inside-is (pair q) = below' (of-root q)
  inside-is {n = n} (late q) = not-among (place_below n.kind) _ q.hit

  beyond-is : {p : Place} {E : List Labelled} {n : Node} {kids next : Forest Node} {j : ℕ} {l : Labelled} → Is p (n.label ∷ E) next j l → Is p E (tree n kids next) (suc (count kids + j)) l
  beyond-is (below' r) = below' (moved-to r (after r.stands) (omega (arith, r.node)))
  beyond-is (pair q) =
      pair record {
        node = q.node;
        kids = q.kids;
        at = _;
        one = later q.one;
        again = q.again;
        lids = q.lids;
        other = later q.other;
        order = omega (arith, q.order);
        labels = q.labels;
        same = q.same;
        label = q.label;
      }
  beyond-is {p} {E} {n} {kids} {next} {j} {l} (late q) = go (among-cases p q.again.label n.label E q.hit)
    where
      go : (T (has_labels p) × T (same_label names p n.label q.again.label)) ⊎ Hit p E q.again.label → Is p E (tree n kids next) (suc (count kids + j)) l
      go (inl s) =
          pair record {
            node = n;
            kids = kids;
            at = 0;
            one = first;
            again = q.again;
            lids = q.lids;
            other = later q.stands;
            order = omega arith;
            labels = s.0;
            same = s.1;
            label = q.label;
          }
      go (inr h) = late record { again = q.again; lids = q.lids; stands = later q.stands; hit = h; label = q.label }

  again-is : {p : Place} {E : List Labelled} {f : Forest Node} {j : ℕ} {l : Labelled} → Again p E f j l → Is p E f j l
  again-is (here {n = n} {kids = kids} h) = late record { again = n; lids = kids; stands = first; hit = h; label = refl }
  again-is (inside a) = inside-is (again-is a)
  again-is (beyond a) = beyond-is (again-is a)

  -- trees that stand nowhere are no children
  top : {f : Forest Node} {j : ℕ} {l : Labelled} → Again Root [] f j l → RepeatAt names f j l
  unfolding has_labels
  top a = go (again-is a)
    where
      go : {f : Forest Node} {j : ℕ} {l : Labelled} → Is Root [] f j l → RepeatAt names f j l
      go (below' r) = r
      go (pair q) = absurd q.labels
      go (late q) = absurd q.hit

  -- the later child is node j
  pub repeat-node : {f : Forest Node} {j : ℕ} {l : Labelled} (r : RepeatAt names f j l) → NodeAt r.later r.later_kids j f
  repeat-node {f} r = subst (λ (k : ℕ). NodeAt r.later r.later_kids k f) (sym r.node) (child-node r.stands r.other)

  -- ---- The theorems, of trees
  module _ (f : Forest Node) where
    says-none : (r : Repeat) → Finds Root [] 0 f r → r ≡ none → (j : ℕ) (l : Labelled) → RepeatAt names f j l → ⊥
    says-none none g e = λ j l x. g j l (is-again Root [] x)
    says-none (repeat i m) g e = clash cc

    says-first : (r : Repeat) → Finds Root [] 0 f r → (j : ℕ) (l : Labelled) → r ≡ repeat j l → FirstRepeatAt names f j l
    says-first none g j l e = clash cc
    says-first (repeat i m) g j l e =
        let (k, at, a, low) = g in
        let same : k ≡ j = omega (arith, at, index e) in
        record { is = rw (← same, ← label e) (top a); lowest = λ n l' x. rw (← same) (low n l' (is-again Root [] x)) }
      where
        index : {i j : ℕ} {m l : Labelled} → repeat i m ≡ repeat j l → i ≡ j
        index e = cc

        label : {i j : ℕ} {m l : Labelled} → repeat i m ≡ repeat j l → m ≡ l
        label e = cc

    found : Finds Root [] 0 f (first_repeat names Root [] 0 f)
    found = finds f Root [] 0

    pub found-none : first_repeat names Root [] 0 f ≡ none → (j : ℕ) (l : Labelled) → RepeatAt names f j l → ⊥
    found-none = says-none _ found

    pub found-first : (j : ℕ) (l : Labelled) → first_repeat names Root [] 0 f ≡ repeat j l → FirstRepeatAt names f j l
    found-first = says-first _ found

    pub none-found : ((j : ℕ) (l : Labelled) → RepeatAt names f j l → ⊥) → first_repeat names Root [] 0 f ≡ none
    none-found h = go (first_repeat names Root [] 0 f) refl
      where
        go : (r : Repeat) → first_repeat names Root [] 0 f ≡ r → r ≡ none
        go none e = refl
        go (repeat j l) e = absurd (h j l (found-first j l e).is)

    -- a node has one label
    one-label-at : {i j : ℕ} {l m : Labelled} → i ≡ j → RepeatAt names f i l → RepeatAt names f j m → l ≡ m
    one-label-at {j = j} e r s =
        let n = node-only (subst (λ (k : ℕ). NodeAt r.later r.later_kids k f) e (repeat-node r)) (repeat-node s) in
        r.label ∙ ap (λ (x : Node). x.label) n.0 ∙ sym s.label

    pub first-found : (j : ℕ) (l : Labelled) → FirstRepeatAt names f j l → first_repeat names Root [] 0 f ≡ repeat j l
    first-found j l h = go (first_repeat names Root [] 0 f) refl
      where
        go : (r : Repeat) → first_repeat names Root [] 0 f ≡ r → r ≡ repeat j l
        go none e = absurd (found-none e j l h.is)
        go (repeat i m) e =
            let g = found-first i m e in
            let same : i ≡ j = omega (arith, g.lowest j l h.is, h.lowest i m g.is) in
            ap₂ repeat same (one-label-at same g.is h.is)

  -- ---- No node is a repeat exactly if the labels of each node's children differ
  module _ (g : Labelled → ℕ) where
    key-tree : {k : ℕ} (f : Forest Node) → Memᴰ k (keys_of g f) → (n : Node) × (kids : Forest Node) × (i : ℕ) × TreeAt n kids i f × (k ≡ g n.label)
    unfolding keys_of
    key-tree end m = absurd (Memᴰ.not-nil m)
    key-tree {k} (tree n kids next) m = go (Memᴰ.cases_cons m) (key-tree next)
      where
        go : (k ≡ g n.label) ⊎ Memᴰ k (keys_of g next) → (Memᴰ k (keys_of g next) → (m : Node) × (lids : Forest Node) × (i : ℕ) × TreeAt m lids i next × (k ≡ g m.label)) →
            (m : Node) × (lids : Forest Node) × (i : ℕ) × TreeAt m lids i (tree n kids next) × (k ≡ g m.label)
        go (inl e) on = (n, kids, 0, first, e)
        go (inr x) on = let (m, lids, i, t, e) = on x in (m, lids, suc (count kids + i), later t, e)

    tree-key : {n : Node} {kids f : Forest Node} {i : ℕ} → TreeAt n kids i f → Memᴰ (g n.label) (keys_of g f)
    unfolding keys_of
    tree-key first = Memᴰ.head refl
    tree-key (later t) = Memᴰ.tail (tree-key t)

    abbrev Apart : Forest Node → Type 0
    Apart f = (n : Node) (kids : Forest Node) (i : ℕ) (m : Node) (lids : Forest Node) (j : ℕ) → TreeAt n kids i f → TreeAt m lids j f → i < j → g n.label ≡ g m.label → ⊥

    apart-distinct : (f : Forest Node) → Apart f → Distinct (keys_of g f)
    unfolding keys_of
    apart-distinct end h = distinct.none
    apart-distinct (tree n kids next) h =
        distinct.more (λ x. let (m, lids, i, t, e) = key-tree next x in h n kids 0 m lids (suc (count kids + i)) first (later t) (omega arith) e)
        (apart-distinct next (λ m lids i o mids j t u l e. h m lids (suc (count kids + i)) o mids (suc (count kids + j)) (later t) (later u) (omega arith) e))

    distinct-apart : (f : Forest Node) → Distinct (keys_of g f) → Apart f
    unfolding keys_of
    distinct-apart end d m lids i o mids j x5 _ l e = elim x5 [ ]
    distinct-apart (tree n kids next) d m lids i o mids j first first l e = omega arith
    distinct-apart (tree n kids next) d m lids i o mids j first (later u) l e = distinct-head d (rw e (tree-key u))
    distinct-apart (tree n kids next) d m lids i o mids j (later t) first l e = omega arith
    distinct-apart (tree n kids next) d m lids i o mids j (later t) (later u) l e = distinct-apart next (distinct-tail d) _ _ _ _ _ _ t u (omega arith) e

  module _ (f : Forest Node) where
    pub apart-labels : ((j : ℕ) (l : Labelled) → RepeatAt names f j l → ⊥) → Labels names f
    apart-labels h =
        record {
          fields = λ n kids o k. apart-distinct (label_id names) kids (apart n kids o (λ l m e. fields k e));
          methods = λ n kids o k. apart-distinct label_value kids (apart n kids o (λ l m e. methods k e));
        }
      where
        apart : {g : Labelled → ℕ} (n : Node) (kids : Forest Node) → occurs.Occurs n kids f → ((l m : Labelled) → g l ≡ g m → OneLabel names n.kind l m) → Apart g kids
        apart n kids o one m lids i q mids j t u l e =
            let (k, s) = occurs-node o in
            h (suc (k + j)) q.label
            (record {
              parent = n;
              kids = kids;
              at = k;
              stands = s;
              earlier = m;
              earlier_kids = lids;
              earlier_at = i;
              one = t;
              later = q;
              later_kids = mids;
              later_at = j;
              other = u;
              order = l;
              same = one m.label q.label e;
              node = refl;
              label = refl;
            })

    pub labels-apart : Labels names f → (j : ℕ) (l : Labelled) → RepeatAt names f j l → ⊥
    labels-apart h j l r = go r.same
      where
        go : OneLabel names r.parent.kind r.earlier.label r.later.label → ⊥
        go (fields k e) =
            distinct-apart (label_id names) r.kids (h.fields _ _ (node-occurs r.stands) k) _ _ _ _ _ _ r.one r.other r.order e
        go (methods k e) =
            distinct-apart label_value r.kids (h.methods _ _ (node-occurs r.stands) k) _ _ _ _ _ _ r.one r.other r.order e

-- ---- Of a book
module _ (b : Book) where
  pub labels-say : (labels_verdict b ≡ passes) ↔ Labels b.names (trees b)
  unfolding labels_verdict
  labels-say = (
    λ e. apart-labels b.names (trees b) (found-none b.names (trees b) (passed (first_repeat b.names Root [] 0 (trees b)) e)),
    λ h. ap repeat_verdict (none-found b.names (trees b) (labels-apart b.names (trees b) h)),
  )
    where
      passed : (r : Repeat) → repeat_verdict r ≡ passes → r ≡ none
      passed none e = refl
      passed (repeat j l) e = clash cc

  -- 18 is that of the first repeat
  pub labels-refuse : {r : Refusal} → labels_verdict b ≡ Err r → (n : ℕ) × (r ≡ Repeated n) × RepeatOf b n
  unfolding labels_verdict
  labels-refuse {r} = go (first_repeat b.names Root [] 0 (trees b)) refl
    where
      go : (x : Repeat) → first_repeat b.names Root [] 0 (trees b) ≡ x → repeat_verdict x ≡ Err r → (n : ℕ) × (r ≡ Repeated n) × RepeatOf b n
      go none w e = clash cc
      go (repeat j l) w e = (spelling l, cc, record { j = j; l = l; first = found-first b.names (trees b) j l w; named = refl })

  pub first-refused : {n : ℕ} → RepeatOf b n → labels_verdict b ≡ Err (Repeated n)
  unfolding labels_verdict
  first-refused o = ap repeat_verdict (first-found b.names (trees b) o.j o.l o.first) ∙ ap (λ (k : ℕ). Err (Repeated k)) (sym o.named)
