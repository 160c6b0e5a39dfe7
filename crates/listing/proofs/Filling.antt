-- Which types have a value of finite height: laws of `Fills`, and the rounds that tell of it. Assumes nothing.
--     fills-closed, fills-least        the least relation that is closed under the rules
--     record-fills, variant-fills, ..  the rules of each kind, both ways
--     fills-on, fills-more             what fills does so under more definitions, too
--     rounds-fill, fills-rounds        the names of a round fill; with as many rounds as definitions there are no others
--     filled-exact, type-filled        so these rounds' names are those that fill, and with them the test of a type tells whether it fills
--     fills-or-not                     it can be decided
use mathlib.Core.Path.{◌≡◌, refl, sym, ap, subst, ◌∙◌}
use mathlib.Core.Logic.{◌↔◌, ◌⊎◌, inl, inr}
use mathlib.Core.Bool.{Bool, true, false, cond}
use mathlib.Core.List.Memᴰ
use mathlib.Core.List.{List, [], ◌∷◌, map, Memᴰ}
use Prim.Native.Nat.{ℕ, zero, suc, ◌<◌}
use native.Mathlib.Omega.{arith}
use lib.Dec.{T}
use lib.ListN.{length, length-map}
use Rattle.format.specs.Forest.{Forest, end, tree}
use Rattle.format.specs.Node.{PrimType, prim_number, Kind, PrimT, VarT, OptT, VecT, RecordT, VariantT, FuncT, ServT, FuncMode, Node}
use Rattle.format.specs.Book.{Definition}
use Rattle.format.specs.Occurs.{Beside, first, later}
use Rattle.format.specs.Distinct.{Distinct}
use Rattle.format.specs.Fits.{every}
use Rattle.format.proofs.Occurs.{EachTree, beside-none, each-tree, in-others}
use Rattle.format.proofs.Logic.{clash, and-says}
use Rattle.judgement.specs.Environment.{Found, missing, body, find_type}
use Rattle.judgement.specs.WellFormed.{defined_name, Defined}
use Rattle.judgement.proofs.Lookup.{member-says, not-both-found, found-defined, find-named}
use Rattle.listing.specs.Uses.{kept}
use Rattle.listing.specs.Empty.{AllElse, Fills, of_fields, of_case, of_name, of_else, one_true, prim_fills, kind_fills, each_fills, found_fills, rounds}
use Rattle.listing.proofs.Uses.{kept-says, kept-length, kept-more}

-- ---- The rules

-- One of the trees beside each other.
abbrev pub SomeTree : (Node → Forest Node → Type 0) → Forest Node → Type 0
SomeTree P f = (n : Node) × (kids : Forest Node) × Beside n kids f × P n kids

-- A relation on types, of a node's.
abbrev pub OfNode : (Kind → Forest Node → Type 0) → Node → Forest Node → Type 0
OfNode P n kids = P n.kind kids

-- The rules hold of P, where N is what a name needs.
pub record Closed (N : ℕ → Type 0) (P : Kind → Forest Node → Type 0) : Type 0 where
  pub fields : {f : Forest Node} → EachTree (OfNode P) f → P RecordT f
  pub cases : {f : Forest Node} → SomeTree (OfNode P) f → P VariantT f
  pub names : {m : ℕ} {none : Forest Node} → N m → P (VarT m) none
  pub others : {k : Kind} {kids : Forest Node} → AllElse k → P k kids

-- They hold of what fills, where all names fill of which N holds.
fills-by : {ds : List Definition} {N : ℕ → Type 0} → ((m : ℕ) (none : Forest Node) → N m → Fills ds (VarT m) none) → Closed N (Fills ds)
fills-by h = record { fields = of_fields; cases = λ s. of_case s.2 s.3; names = λ {m} {none} x. h m none x; others = of_else }

-- A name's definition is one of which P holds.
abbrev pub DefinitionIs : List Definition → (Kind → Forest Node → Type 0) → ℕ → Type 0
DefinitionIs ds P m = (t : Node) × (kids : Forest Node) × (next : Forest Node) × (find_type ds m ≡ body (tree t kids next)) × P t.kind kids

-- What fills is such a relation, and the least.
pub fills-closed : (ds : List Definition) → Closed (DefinitionIs ds (Fills ds)) (Fills ds)
fills-closed ds = fills-by (λ m none d. of_name d.3 d.4)

pub fills-least : {ds : List Definition} {P : Kind → Forest Node → Type 0} → Closed (DefinitionIs ds P) P →
    {k : Kind} {kids : Forest Node} → Fills ds k kids → P k kids
fills-least c (of_fields h) = c.fields (λ f kids b. fills-least c (h f kids b))
fills-least c (of_case {c = n} {kids = kids} b x) = c.cases (n, kids, b, fills-least c x)
fills-least c (of_name {t = t} {kids = kids} {next = next} e x) = c.names (t, kids, next, e, fills-least c x)
fills-least c (of_else a) = c.others a

-- the primitive types, and all other types
prim-says : (p : PrimType) → T (prim_fills p) ↔ (p ≡ PrimType.Empty → ⊥)
unfolding prim_fills prim_number
prim-says PrimType.Empty = (λ (t : ⊥). absurd t, λ h. h refl)
prim-says p = (λ t e. clash cc, λ h. tt)

unfoldable pub other_kind : Kind → Bool
other_kind (PrimT p) = prim_fills p
other_kind (VarT m) = false
other_kind RecordT = false
other_kind VariantT = false
other_kind k = true

pub all-else : (k : Kind) → T (other_kind k) → AllElse k
unfolding other_kind
all-else (PrimT p) t =
    record { no_empty = λ e. (prim-says p).0 t cc; no_record = λ e. clash cc; no_variant = λ e. clash cc; no_name = λ m e. clash cc }
all-else (VarT m) t = absurd t
all-else RecordT t = absurd t
all-else VariantT t = absurd t
all-else k t = record { no_empty = λ e. clash cc; no_record = λ e. clash cc; no_variant = λ e. clash cc; no_name = λ m e. clash cc }

-- ---- In the paper's words
module _ (ds : List Definition) where
  -- A record fills exactly if each field does.
  pub record-fills : (fields : Forest Node) → Fills ds RecordT fields ↔ EachTree (OfNode (Fills ds)) fields
  record-fills fields = (there, of_fields)
    where
      there : Fills ds RecordT fields → EachTree (OfNode (Fills ds)) fields
      there (of_fields h) = h
      there (of_else a) = absurd (a.no_record refl)

  -- `record {}` does.
  pub without-fields : Fills ds RecordT end
  without-fields = of_fields (λ f kids b. beside-none b)

  -- A variant fills exactly if some case does.
  pub variant-fills : (cases : Forest Node) → Fills ds VariantT cases ↔ SomeTree (OfNode (Fills ds)) cases
  variant-fills cases = (there, λ s. of_case s.2 s.3)
    where
      there : Fills ds VariantT cases → SomeTree (OfNode (Fills ds)) cases
      there (of_case {c = c} {kids = kids} b x) = (c, kids, b, x)
      there (of_else a) = absurd (a.no_variant refl)

  -- `variant {}` does not.
  pub without-cases : Fills ds VariantT end → ⊥
  without-cases x = beside-none ((variant-fills end).0 x).2

  -- Of the primitive types all fill but `empty`.
  pub prim-fills : (p : PrimType) (kids : Forest Node) → Fills ds (PrimT p) kids ↔ (p ≡ PrimType.Empty → ⊥)
  unfolding other_kind
  prim-fills p kids = (there, λ h. of_else (all-else (PrimT p) ((prim-says p).1 h)))
    where
      there : Fills ds (PrimT p) kids → p ≡ PrimType.Empty → ⊥
      there (of_else a) e = a.no_empty (ap PrimT e)

  pub never-empty : (kids : Forest Node) → Fills ds (PrimT PrimType.Empty) kids → ⊥
  never-empty kids x = (prim-fills PrimType.Empty kids).0 x refl

  same-body : {t u : Node} {kids lids next mext : Forest Node} → body (tree t kids next) ≡ body (tree u lids mext) →
      Fills ds t.kind kids → Fills ds u.kind lids
  same-body {t} {u} {kids} {lids} e x = let p : t ≡ u = cc in let q : kids ≡ lids = cc in rw (← p, ← q) x

  -- A name fills exactly if its definition does.
  pub name-fills : {m : ℕ} {t : Node} {kids next : Forest Node} (none : Forest Node) → find_type ds m ≡ body (tree t kids next) →
      Fills ds (VarT m) none ↔ Fills ds t.kind kids
  name-fills {m} {t} {kids} none e = (there, of_name e)
    where
      there : Fills ds (VarT m) none → Fills ds t.kind kids
      there (of_name f x) = same-body (sym f ∙ e) x
      there (of_else a) = absurd (a.no_name m refl)

  pub definition-fills : Distinct (map defined_name ds) → {d : Definition} {t : Node} {kids next : Forest Node} (none : Forest Node) →
      Memᴰ d ds → d.body ≡ tree t kids next → Fills ds (VarT d.name) none ↔ Fills ds t.kind kids
  definition-fills once {d = d} none i e = name-fills none (find-named ds once d d.name i refl ∙ ap body e)

  -- A name without definition does not.
  pub never-unbound : {m : ℕ} (none : Forest Node) → find_type ds m ≡ missing → Fills ds (VarT m) none → ⊥
  never-unbound none e (of_name f x) = not-both-found e f
  never-unbound {m} none e (of_else a) = a.no_name m refl

  -- All else does.
  pub opt-fills : (kids : Forest Node) → Fills ds OptT kids
  unfolding other_kind
  opt-fills kids = of_else (all-else OptT tt)

  pub vec-fills : (kids : Forest Node) → Fills ds VecT kids
  unfolding other_kind
  vec-fills kids = of_else (all-else VecT tt)

  pub func-fills : (a : ℕ) (ms : List FuncMode) (kids : Forest Node) → Fills ds (FuncT a ms) kids
  unfolding other_kind
  func-fills a ms kids = of_else (all-else (FuncT a ms) tt)

  pub service-fills : (kids : Forest Node) → Fills ds ServT kids
  unfolding other_kind
  service-fills kids = of_else (all-else ServT tt)

-- ---- More definitions

-- What a name stands for among some definitions it stands for among others: what fills among those fills among these.
pub fills-on : (ds es : List Definition) → ((n : ℕ) (t : Forest Node) → find_type ds n ≡ body t → find_type es n ≡ body t)
    → {k : Kind} {kids : Forest Node} → Fills ds k kids → Fills es k kids
fills-on ds es h = fills-least (fills-by (λ m none d. of_name (h m (tree d.0 d.1 d.2) d.3) d.4))

-- What fills alone does so under any definitions.
pub fills-more : (ds : List Definition) {k : Kind} {kids : Forest Node} → Fills [] k kids → Fills ds k kids
unfolding find_type
fills-more ds = fills-on [] ds (λ n t e. not-both-found refl e)

-- ---- The tests

-- The test of a type, if the names in `known` fill.
abbrev pub Passes : List ℕ → Kind → Forest Node → Type 0
Passes known k kids = T (kind_fills known k (each_fills known kids))

one-passes : (b c : Bool) → T (cond b true c) ↔ (T b ⊎ T c)
one-passes true c = (λ t. inl tt, λ s. tt)
one-passes false c = (inr, λ s. elim s [ inl t ↦ absurd t | inr t ↦ t ])

module _ (known : List ℕ) where
  pub all-pass : (f : Forest Node) → T (every (λ b. b) (each_fills known f)) ↔ EachTree (OfNode (Passes known)) f
  unfolding every each_fills
  all-pass end = (λ t n kids b. beside-none b, λ h. tt)
  all-pass (tree m lids next) =
      let both = and-says (kind_fills known m.kind (each_fills known lids)) (every (λ b. b) (each_fills known next)) in
      let rest = all-pass next in
      (λ t. let p = both.0 t in each-tree p.0 (rest.0 p.1), λ h. both.1 (h m lids first, rest.1 (in-others h)))

  pub some-passes : (f : Forest Node) → T (one_true (each_fills known f)) ↔ SomeTree (OfNode (Passes known)) f
  unfolding one_true each_fills
  some-passes end = (λ t. absurd t, λ s. beside-none s.2)
  some-passes (tree m lids next) =
      let one = one-passes (kind_fills known m.kind (each_fills known lids)) (one_true (each_fills known next)) in
      let rest = some-passes next in
      (λ t. there rest.0 (one.0 t), λ s. one.1 (back rest.1 s.2 s.3))
    where
      there : {B : Type 0} → (B → SomeTree (OfNode (Passes known)) next) → Passes known m.kind lids ⊎ B →
          SomeTree (OfNode (Passes known)) (tree m lids next)
      there rest (inl t) = (m, lids, first, t)
      there rest (inr t) = let s = rest t in (s.0, s.1, later s.2, s.3)

      back : {B : Type 0} → (SomeTree (OfNode (Passes known)) next → B) → {n : Node} {kids : Forest Node} → Beside n kids (tree m lids next) →
          Passes known n.kind kids → Passes known m.kind lids ⊎ B
      back rest first t = inl t
      back rest {n = n} {kids = kids} (later b) t = inr (rest (n, kids, b, t))

  others-pass : (k : Kind) (kids : Forest Node) → AllElse k → Passes known k kids
  unfolding kind_fills
  others-pass (PrimT p) kids a = (prim-says p).1 (λ e. a.no_empty (ap PrimT e))
  others-pass (VarT m) kids a = absurd (a.no_name m refl)
  others-pass RecordT kids a = absurd (a.no_record refl)
  others-pass VariantT kids a = absurd (a.no_variant refl)
  others-pass k kids a = tt

  -- The test follows the rules, if names of which N holds are known.
  passes-closed : (N : ℕ → Type 0) → ((n : ℕ) → N n → Memᴰ n known) → Closed N (Passes known)
  unfolding kind_fills
  passes-closed N h = record {
    fields = λ {f} x. (all-pass f).1 x;
    cases = λ {f} x. (some-passes f).1 x;
    names = λ {m} x. (member-says m known).1 (h m x);
    others = λ {k} {kids} a. others-pass k kids a;
  }

  -- What the test tells holds of every relation that follows the rules, where known names are enough.
  module _ {P : Kind → Forest Node → Type 0} (c : Closed (λ n. Memᴰ n known) P) where
    kind-least : (k : Kind) (kids : Forest Node) → EachTree (λ n lids. Passes known n.kind lids → P n.kind lids) kids → Passes known k kids → P k kids
    unfolding kind_fills other_kind
    kind-least (PrimT p) kids h t = c.others (all-else (PrimT p) t)
    kind-least (VarT m) kids h t = c.names ((member-says m known).0 t)
    kind-least RecordT kids h t = c.fields (λ n lids b. h n lids b ((all-pass kids).0 t n lids b))
    kind-least VariantT kids h t = let s = (some-passes kids).0 t in c.cases (s.0, s.1, s.2, h s.0 s.1 s.2 s.3)
    kind-least k kids h t = c.others (all-else k tt)

    trees-least : (f : Forest Node) → EachTree (λ n kids. Passes known n.kind kids → P n.kind kids) f
    trees-least end = λ n kids b. beside-none b
    trees-least (tree m lids next) = each-tree (kind-least m.kind lids (trees-least lids)) (trees-least next)

    pub passes-least : (k : Kind) (kids : Forest Node) → Passes known k kids → P k kids
    passes-least k kids = kind-least k kids (trees-least kids)

-- ---- Names that are known to fill
abbrev pub NameFills : List Definition → ℕ → Type 0
NameFills ds n = Fills ds (VarT n) end

-- whatever follows it
pub other-kids : (ds : List Definition) {m : ℕ} (none : Forest Node) → NameFills ds m → Fills ds (VarT m) none
other-kids ds none (of_name e x) = of_name e x
other-kids ds {m} none (of_else a) = absurd (a.no_name m refl)

module _ (ds : List Definition) (known : List ℕ) where
  -- Where all known names fill, so does all that passes.
  pub passes-fill : ((n : ℕ) → Memᴰ n known → NameFills ds n) → (k : Kind) (kids : Forest Node) → Passes known k kids → Fills ds k kids
  passes-fill h = passes-least known (fills-by (λ m none i. other-kids ds none (h m i)))

  -- Where each name is known whose definition passes, all passes that fills.
  pub fills-pass : ((n : ℕ) → T (found_fills known (find_type ds n)) → Memᴰ n known) →
      {k : Kind} {kids : Forest Node} → Fills ds k kids → Passes known k kids
  unfolding found_fills
  fills-pass h = fills-least (passes-closed known (DefinitionIs ds (Passes known)) (λ n d. h n (rw d.3 d.4)))

  -- A name's test.
  pub found-passes : (n : ℕ) → T (found_fills known (find_type ds n)) → DefinitionIs ds (Passes known) n
  unfolding found_fills
  found-passes n t = go (find_type ds n) refl t
    where
      go : (f : Found) → find_type ds n ≡ f → T (found_fills known f) → DefinitionIs ds (Passes known) n
      go missing e t = absurd t
      go (body end) e t = absurd t
      go (body (tree u kids next)) e t = (u, kids, next, e, t)

-- ---- The rounds
module _ (ds : List Definition) where
  -- The names of a round fill.
  pub rounds-fill : (k n : ℕ) → Memᴰ n (rounds ds k) → NameFills ds n
  unfolding rounds
  rounds-fill zero n i = absurd (Memᴰ.not-nil i)
  rounds-fill (suc k) n i =
      let known = rounds ds k in
      let t = ((kept-says (λ m. found_fills known (find_type ds m)) (map defined_name ds) n).0 i).1 in
      let d = found-passes ds known n t in
      of_name d.3 (passes-fill ds known (rounds-fill k) d.0.kind d.1 d.4)

  -- what is known more passes more
  more-pass : (known more : List ℕ) → ((n : ℕ) → Memᴰ n known → Memᴰ n more) →
      (n : ℕ) → T (found_fills known (find_type ds n)) → T (found_fills more (find_type ds n))
  unfolding found_fills
  more-pass known more h n t =
      let d = found-passes ds known n t in
      rw d.3 (passes-least known (passes-closed more (λ m. Memᴰ m known) h) d.0.kind d.1 d.4)

  -- the test of a name in the round after k others
  abbrev passed : ℕ → ℕ → Bool
  passed k n = found_fills (rounds ds k) (find_type ds n)

  round-says : (k n : ℕ) → Memᴰ n (rounds ds (suc k)) ↔ (Defined ds n × T (passed k n))
  unfolding rounds
  round-says k n = kept-says (passed k) (map defined_name ds) n

  -- a round has the names of the one before
  rounds-grow : (k n : ℕ) → Memᴰ n (rounds ds k) → Memᴰ n (rounds ds (suc k))
  unfolding rounds
  rounds-grow zero n i = absurd (Memᴰ.not-nil i)
  rounds-grow (suc k) n i =
      let p = (round-says k n).0 i in
      (round-says (suc k) n).1 (p.0, more-pass (rounds ds k) (rounds ds (suc k)) (rounds-grow k) n p.1)

  -- the next round has no others, or there are more than k
  still-or-many : (k : ℕ) → (rounds ds k ≡ rounds ds (suc k)) ⊎ (k < length (rounds ds (suc k)))
  unfolding rounds
  still-or-many zero = go (rounds ds 1)
    where
      go : (l : List ℕ) → ([] ≡ l) ⊎ (0 < length l)
      go [] = inl refl
      go (n ∷ l) = inr (omega arith)
  still-or-many (suc k) = go (still-or-many k)
    where
      go : (rounds ds k ≡ rounds ds (suc k)) ⊎ (k < length (rounds ds (suc k))) →
          (rounds ds (suc k) ≡ rounds ds (suc (suc k))) ⊎ (suc k < length (rounds ds (suc (suc k))))
      go (inl e) = inl (ap (λ (l : List ℕ). kept (λ n. found_fills l (find_type ds n)) (map defined_name ds)) e)
      go (inr h) =
          elim (kept-more (passed k) (passed (suc k)) (map defined_name ds) (more-pass (rounds ds k) (rounds ds (suc k)) (rounds-grow k))) [
            | inl e ↦ inl e
            | inr m ↦ inr (omega (arith, h, m))
          ]

  -- With as many rounds as definitions no more follow.
  pub rounds-settle : rounds ds (length ds) ≡ rounds ds (suc (length ds))
  unfolding rounds
  rounds-settle =
      elim (still-or-many (length ds)) [
        | inl e ↦ e
        | inr h ↦ let z : ⊥ = omega (arith, h, kept-length (passed (length ds)) (map defined_name ds), length-map ds defined_name) in absurd z
      ]

  -- so their names have each name whose definition passes
  settled : (n : ℕ) → T (passed (length ds) n) → Memᴰ n (rounds ds (length ds))
  settled n t =
      let d = found-passes ds (rounds ds (length ds)) n t in
      subst (λ (l : List ℕ). Memᴰ n l) (sym rounds-settle) ((round-says (length ds) n).1 (found-defined ds n (tree d.0 d.1 d.2) d.3, t))

  pub fills-rounds : (n : ℕ) → NameFills ds n → Memᴰ n (rounds ds (length ds))
  unfolding kind_fills
  fills-rounds n x = (member-says n (rounds ds (length ds))).0 (fills-pass ds (rounds ds (length ds)) settled x)

  -- The names that fill are exactly those of as many rounds as there are definitions.
  pub filled-exact : (n : ℕ) → Memᴰ n (rounds ds (length ds)) ↔ NameFills ds n
  filled-exact n = (rounds-fill (length ds) n, fills-rounds n)

  -- With these names a type's test tells exactly whether it fills.
  pub type-filled : (k : Kind) (kids : Forest Node) → Passes (rounds ds (length ds)) k kids ↔ Fills ds k kids
  type-filled k kids = (passes-fill ds (rounds ds (length ds)) (rounds-fill (length ds)) k kids, fills-pass ds (rounds ds (length ds)) settled)

  pub fills-or-not : (k : Kind) (kids : Forest Node) → Fills ds k kids ⊎ (Fills ds k kids → ⊥)
  fills-or-not k kids = go (kind_fills (rounds ds (length ds)) k (each_fills (rounds ds (length ds)) kids)) (type-filled k kids)
    where
      go : (b : Bool) → T b ↔ Fills ds k kids → Fills ds k kids ⊎ (Fills ds k kids → ⊥)
      go true i = inl (i.0 tt)
      go false i = inr i.1
