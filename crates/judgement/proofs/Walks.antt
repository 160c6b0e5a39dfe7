-- The walk over trees and the test of their methods, against the predicates of WellFormed.antt and Order.antt. Assumes that each name is
-- defined once. The walk does not look below a leaf; so the trees have to fit: then a leaf has no children.
--     walk-say                      the walk of a definition's body, of an actor or of init arguments: sound trees pass, else the first fault
--     sound-nodes, sound-formed     sound trees node by node; where methods are tested they are well-formed, and have one mode
--     methods-fit, methods-unfit    the test of methods alone passes, and does not
--     is-service, ..                the kind that a test tells
use mathlib.Core.Path.{◌≡◌, refl, sym, ap, subst, ◌∙◌}
use mathlib.Core.Logic.{◌⊎◌, inl, inr, ◌↔◌}
use mathlib.Core.Bool.{Bool, true, false, ◌&&◌, ◌||◌, not, false≢true}
use mathlib.Core.List.Memᴰ
use mathlib.Core.List.{List, [], ◌∷◌, map, Memᴰ}
use Prim.Native.Nat.{ℕ, ◌≤◌, ◌<◌}
use native.Mathlib.Omega.{arith}
use lib.ListN.{length}
use lib.Dec.{T, ltb, eqb, ltb→lt, nltb→le, eqb→eq}
use borrow.Author.Tests.{le-ltb, lt-ltb}
use Rattle.format.specs.declared.Place.{Place}
use Rattle.format.specs.Forest.{Forest, end, tree, breadth}
use Rattle.format.specs.Node.{Kind, PrimT, VarT, OptT, VecT, RecordT, VariantT, FuncT, ServT, ClassT, InitT, FuncMode, Oneway, Query, CompositeQuery, Node, label_value}
use Rattle.format.specs.Book.{Definition}
use Rattle.format.specs.Fits.{place_below, kind_fits, kind_allowed, label_fits, node_fits, forest_fits}
use Rattle.format.specs.Distinct.{Distinct}
use Rattle.format.specs.Occurs.{here, Beside, first, later}
use Rattle.format.proofs.Logic.{both, both₃, join₃}
use Rattle.format.proofs.Occurs.{Everywhere, Somewhere, EachTree, occurs-end, beside-none, everywhere-tree, in-kids, in-next, each-tree, in-others, somewhere-below, somewhere-after, reference-occurs, occurs-reference}
use Rattle.refusals.specs.declared.Refusal.{Refusal}
use Rattle.refusals.specs.declared.Refusal.TheVariants.{Unbound, Class, Modes, Oneway as OnewayResults, MethodNoFunction}
use Rattle.std.specs.Prelude.{Err}
use Rattle.refusals.specs.Verdict.{Verdict, passes}
use Rattle.refusals.proofs.Verdicts.{refused-passed, passed-refused, both-pass, pass-both, which-refused, unless-passed, unless-refused, fails-not}
use Rattle.judgement.specs.Environment.{Found, missing, body, find_type, is_func_kind, is_serv_kind}
use Rattle.judgement.specs.Aliases.{as_func}
use Rattle.judgement.specs.Actor.{is_class_kind}
use Rattle.judgement.specs.Check.{name_verdict, is_oneway, modes_verdict, kind_verdict, method_verdict, check_forest, methods_fit}
use Rattle.judgement.specs.WellFormed.{defined_name, Defined, StandsFor, MethodsAreFunctions, WellFormedTrees}
use Rattle.judgement.specs.Rust.{OneMode}
use Rattle.judgement.specs.Rows.{HasMethod}
use Rattle.judgement.specs.Order.{Sound, Fault}
use Rattle.judgement.specs.Order as order
use Rattle.judgement.proofs.Lookup.{found-says, missing-says}
use Rattle.judgement.proofs.Chains.{func-says}
use Rattle.judgement.proofs.Says.{Says, says-unless, says-then, says-as}

-- ---- Tests

-- "if a then b" as a test
if-says : (a b : Bool) → T (not a || b) ↔ (T a → T b)
if-says true b = (λ t h. t, λ h. h tt)
if-says false b = (λ t (h : ⊥). absurd h, λ h. tt)

if-fails : (a : Bool) {B : Type 0} → ((T a → B) → ⊥) → T a × (B → ⊥)
if-fails true h = (tt, λ b. h (λ t. b))
if-fails false h = absurd (h (λ (z : ⊥). absurd z))

pub one-fails : (a b : Bool) → (T (a && b) → ⊥) → (T a → ⊥) ⊎ (T b → ⊥)
one-fails true b h = inr h
one-fails false b h = inl (λ x. x)

-- ---- Kinds
pub is-service : (κ : Kind) → T (is_serv_kind κ) → κ ≡ ServT
unfolding is_serv_kind
is-service (PrimT p) t = absurd t
is-service (VarT n) t = absurd t
is-service OptT t = absurd t
is-service VecT t = absurd t
is-service RecordT t = absurd t
is-service VariantT t = absurd t
is-service (FuncT a ms) t = absurd t
is-service ServT t = refl
is-service ClassT t = absurd t
is-service InitT t = absurd t

pub service-is : (κ : Kind) → κ ≡ ServT → T (is_serv_kind κ)
unfolding is_serv_kind
service-is κ e = rw e tt

pub not-class : {κ : Kind} → is_class_kind κ ≡ false → κ ≡ ClassT → ⊥
unfolding is_class_kind
not-class {κ} h e = false≢true (sym h ∙ ap is_class_kind e)

-- ---- Modes: at most one, and oneway goes without results

-- Where `a` are the arguments of a function, and `kids` its arguments and results.
abbrev pub ModesGood : ℕ → List FuncMode → ℕ → Type 0
ModesGood a ms kids = (length ms ≤ 1) × (Memᴰ Oneway ms → kids ≤ a)

data ModesBad (a : ℕ) (ms : List FuncMode) (kids : ℕ) : Refusal → Type 0 where
  many : 1 < length ms → ModesBad a ms kids Modes
  results : ms ≡ Oneway ∷ [] → a < kids → ModesBad a ms kids OnewayResults

modes-passed : (a : ℕ) (ms : List FuncMode) (kids : ℕ) → modes_verdict a ms kids ≡ passes → ModesGood a ms kids
unfolding modes_verdict is_oneway
modes-passed a [] kids e = (omega arith, λ m. absurd (Memᴰ.not-nil m))
modes-passed a (m ∷ []) kids e = (
  omega arith,
  λ i. let d = subst (λ (k : FuncMode). modes_verdict a (k ∷ []) kids ≡ passes) (sym (Memᴰ.eq_of_singleton i)) e in
      nltb→le a kids (unless-passed (not (ltb a kids)) OnewayResults d),
)
modes-passed a (m ∷ (l ∷ ms)) kids e = refused-passed e

passed-modes : (a : ℕ) (ms : List FuncMode) (kids : ℕ) → ModesGood a ms kids → modes_verdict a ms kids ≡ passes
unfolding modes_verdict is_oneway
passed-modes a [] kids g = refl
passed-modes a (Oneway ∷ []) kids g = rw (le-ltb a kids (g.1 (Memᴰ.head refl)))
passed-modes a (Query ∷ []) kids g = refl
passed-modes a (CompositeQuery ∷ []) kids g = refl
passed-modes a (m ∷ (l ∷ ms)) kids g = let z : ⊥ = omega arith in absurd z

modes-refused : (a : ℕ) (ms : List FuncMode) (kids : ℕ) {r : Refusal} → modes_verdict a ms kids ≡ Err r → ModesBad a ms kids r
unfolding modes_verdict is_oneway
modes-refused a [] kids e = passed-refused e
modes-refused a (Oneway ∷ []) kids e =
    let u = unless-refused (not (ltb a kids)) OnewayResults e in
    subst (ModesBad a (Oneway ∷ []) kids) (sym u.1) (results refl (ltb→lt a kids (fails-not (ltb a kids) u.0)))
modes-refused a (Query ∷ []) kids e = passed-refused e
modes-refused a (CompositeQuery ∷ []) kids e = passed-refused e
modes-refused a (m ∷ (l ∷ ms)) kids {r} e = let z : Modes ≡ r = cc in subst (ModesBad a (m ∷ (l ∷ ms)) kids) z (many (omega arith))

refused-modes : (a : ℕ) (ms : List FuncMode) (kids : ℕ) {r : Refusal} → ModesBad a ms kids r → modes_verdict a ms kids ≡ Err r
unfolding modes_verdict is_oneway
refused-modes a [] kids (many l) = let z : ⊥ = omega arith in absurd z
refused-modes a (m ∷ []) kids (many l) = let z : ⊥ = omega arith in absurd z
refused-modes a (m ∷ (l ∷ ms)) kids (many g) = refl
refused-modes a ms kids (results e l) = rw (e, lt-ltb a kids l)

-- ---- One node

-- What the walk asks of a node of the kind κ with so many children, these left aside.
pub record Asked (ds : List Definition) (κ : Kind) (kids : ℕ) : Type 0 where
  pub bound : (n : ℕ) → κ ≡ VarT n → Defined ds n
  pub no_class : κ ≡ ClassT → ⊥
  pub modes : (a : ℕ) (ms : List FuncMode) → κ ≡ FuncT a ms → ModesGood a ms kids

-- Why it refuses one, where `below` is the verdict on its children.
data Unasked (ds : List Definition) (κ : Kind) (kids : ℕ) (below : Verdict) : Refusal → Type 0 where
  unbound : {n : ℕ} → κ ≡ VarT n → (Defined ds n → ⊥) → Unasked ds κ kids below (Unbound n)
  class : κ ≡ ClassT → Unasked ds κ kids below Class
  under : {r : Refusal} → (κ ≡ ClassT → ⊥) → below ≡ Err r → Unasked ds κ kids below r
  modes : {r : Refusal} {a : ℕ} {ms : List FuncMode} → κ ≡ FuncT a ms → below ≡ passes → ModesBad a ms kids r → Unasked ds κ kids below r

name-passed : (n : ℕ) (g : Found) → name_verdict n g ≡ passes → g ≡ missing → ⊥
unfolding name_verdict
name-passed n missing e h = refused-passed e
name-passed n (body t) e h = let z : ◌≡◌ {A = ℕ} 0 1 = cc in omega arith

passed-name : (n : ℕ) (g : Found) → (g ≡ missing → ⊥) → name_verdict n g ≡ passes
unfolding name_verdict
passed-name n missing h = absurd (h refl)
passed-name n (body t) h = refl

name-refused : (n : ℕ) (g : Found) {r : Refusal} → name_verdict n g ≡ Err r → (Unbound n ≡ r) × (g ≡ missing)
unfolding name_verdict
name-refused n missing e = (cc, refl)
name-refused n (body t) e = passed-refused e

module _ (ds : List Definition) where
  kind-asked : (κ : Kind) (kids : ℕ) (below : Verdict) → kind_verdict ds κ kids below ≡ passes → Asked ds κ kids
  unfolding kind_verdict
  kind-asked κ kids below e =
      let at : (k : Kind) → κ ≡ k → kind_verdict ds k kids below ≡ passes = λ k d. subst (λ (l : Kind). kind_verdict ds l kids below ≡ passes) d e in
      record {
        bound = λ n d. (found-says ds n).0 (name-passed n (find_type ds n) (at (VarT n) d));
        no_class = λ d. refused-passed (at ClassT d);
        modes = λ a ms d. modes-passed a ms kids (both-pass below (modes_verdict a ms kids) (at (FuncT a ms) d)).1;
      }

  -- the children are walked, but for those of a leaf, which has none
  below-passed : (names : ℕ) (κ : Kind) (kids : ℕ) (below : Verdict) → T (kind_fits names κ kids) → (kids ≡ 0 → below ≡ passes) →
      kind_verdict ds κ kids below ≡ passes → below ≡ passes
  unfolding kind_verdict kind_fits
  below-passed names (PrimT p) kids below t h e = h (eqb→eq kids 0 t)
  below-passed names (VarT n) kids below t h e = h (eqb→eq kids 0 (both (ltb n names) (eqb kids 0) t).1)
  below-passed names OptT kids below t h e = e
  below-passed names VecT kids below t h e = e
  below-passed names RecordT kids below t h e = e
  below-passed names VariantT kids below t h e = e
  below-passed names (FuncT a ms) kids below t h e = (both-pass below (modes_verdict a ms kids) e).0
  below-passed names ServT kids below t h e = e
  below-passed names ClassT kids below t h e = refused-passed e
  below-passed names InitT kids below t h e = e

  passed-kind : (κ : Kind) (kids : ℕ) (below : Verdict) → Asked ds κ kids → below ≡ passes → kind_verdict ds κ kids below ≡ passes
  unfolding kind_verdict
  passed-kind (PrimT p) kids below a e = refl
  passed-kind (VarT n) kids below a e = passed-name n (find_type ds n) ((found-says ds n).1 (a.bound n refl))
  passed-kind OptT kids below a e = e
  passed-kind VecT kids below a e = e
  passed-kind RecordT kids below a e = e
  passed-kind VariantT kids below a e = e
  passed-kind (FuncT k ms) kids below a e = pass-both below (modes_verdict k ms kids) e (passed-modes k ms kids (a.modes k ms refl))
  passed-kind ServT kids below a e = e
  passed-kind ClassT kids below a e = absurd (a.no_class refl)
  passed-kind InitT kids below a e = e

  kind-refused : (κ : Kind) (kids : ℕ) (below : Verdict) {r : Refusal} → kind_verdict ds κ kids below ≡ Err r → Unasked ds κ kids below r
  unfolding kind_verdict is_class_kind
  kind-refused (PrimT p) kids below e = passed-refused e
  kind-refused (VarT n) kids below e =
      let g = name-refused n (find_type ds n) e in
      subst (Unasked ds (VarT n) kids below) g.0 (unbound refl ((missing-says ds n).0 g.1))
  kind-refused OptT kids below e = under (not-class refl) e
  kind-refused VecT kids below e = under (not-class refl) e
  kind-refused RecordT kids below e = under (not-class refl) e
  kind-refused VariantT kids below e = under (not-class refl) e
  kind-refused (FuncT a ms) kids below e =
      elim (which-refused below (modes_verdict a ms kids) e) [
        | inl h ↦ under (not-class refl) h
        | inr h ↦ modes refl h.0 (modes-refused a ms kids h.1)
      ]
  kind-refused ServT kids below e = under (not-class refl) e
  kind-refused ClassT kids below {r} e = let z : Class ≡ r = cc in subst (Unasked ds ClassT kids below) z (class refl)
  kind-refused InitT kids below e = under (not-class refl) e

  refused-under : (names : ℕ) (κ : Kind) (kids : ℕ) (below : Verdict) {r : Refusal} → T (kind_fits names κ kids) → (kids ≡ 0 → below ≡ passes) →
      (κ ≡ ClassT → ⊥) → below ≡ Err r → kind_verdict ds κ kids below ≡ Err r
  unfolding kind_verdict kind_fits
  refused-under names (PrimT p) kids below t h c e = passed-refused (sym (h (eqb→eq kids 0 t)) ∙ e)
  refused-under names (VarT n) kids below t h c e = passed-refused (sym (h (eqb→eq kids 0 (both (ltb n names) (eqb kids 0) t).1)) ∙ e)
  refused-under names OptT kids below t h c e = e
  refused-under names VecT kids below t h c e = e
  refused-under names RecordT kids below t h c e = e
  refused-under names VariantT kids below t h c e = e
  refused-under names (FuncT a ms) kids below t h c e = rw e
  refused-under names ServT kids below t h c e = e
  refused-under names ClassT kids below t h c e = absurd (c refl)
  refused-under names InitT kids below t h c e = e

  refused-kind : (names : ℕ) (κ : Kind) (kids : ℕ) (below : Verdict) {r : Refusal} → T (kind_fits names κ kids) → (kids ≡ 0 → below ≡ passes) →
      Unasked ds κ kids below r → kind_verdict ds κ kids below ≡ Err r
  unfolding kind_verdict name_verdict
  refused-kind names κ kids below t h (unbound {n = n} e d) = rw (e, (missing-says ds n).1 d)
  refused-kind names κ kids below t h (class e) = rw e
  refused-kind names κ kids below t h (under c e) = refused-under names κ kids below t h c e
  refused-kind names κ kids below t h (modes {a = a} {ms = ms} e p b) = rw (e, p) (refused-modes a ms kids b)

  kind-say : (names : ℕ) (κ : Kind) (kids : ℕ) (below : Verdict) → T (kind_fits names κ kids) → (kids ≡ 0 → below ≡ passes) →
      Says (kind_verdict ds κ kids below) (Asked ds κ kids × (below ≡ passes)) (Unasked ds κ kids below)
  kind-say names κ kids below t h = record {
    passed = (λ e. (kind-asked κ kids below e, below-passed names κ kids below t h e), λ a. passed-kind κ kids below a.0 a.1);
    refused = λ r. (kind-refused κ kids below, refused-kind names κ kids below t h);
  }

-- ---- Sound trees, node by node

-- A tree stands for a function.
abbrev pub IsFunction : List Definition → Node → Forest Node → Type 0
IsFunction ds n kids = StandsFor is_func_kind ds (tree n kids end)

-- The children of a service are functions where methods are tested.
abbrev pub Served : List Definition → Bool → Node → Forest Node → Type 0
Served ds tests n kids = T (tests && is_serv_kind n.kind) → EachTree (IsFunction ds) kids

abbrev pub SoundNode : List Definition → Bool → Node → Forest Node → Type 0
SoundNode ds tests n kids = Asked ds n.kind (breadth kids) × Served ds tests n kids

pub tested-service : (tests : Bool) (κ : Kind) → T (tests && is_serv_kind κ) ↔ (T tests × (κ ≡ ServT))
tested-service true κ = (λ t. (tt, is-service κ t), λ p. service-is κ p.1)
tested-service false κ = (λ (z : ⊥). absurd z, λ p. p.0)

pub sound-nodes : (ds : List Definition) (tests : Bool) (f : Forest Node) → Everywhere (SoundNode ds tests) f ↔ Sound ds tests f
sound-nodes ds tests f = (
  λ h. record {
    bound = λ k m. let s = reference-occurs f m in (h s.0 s.1 s.2).0.bound k s.3;
    no_class = λ n kids o. (h n kids o).0.no_class;
    oneway = λ n kids a ms o e. ((h n kids o).0.modes a ms e).1;
    one_mode = λ n kids a ms o e. ((h n kids o).0.modes a ms e).0;
    methods = λ t n kids o e. (h n kids o).1 ((tested-service tests n.kind).1 (t, e));
  },
  λ s n kids o. (
    record {
      bound = λ k e. s.bound k (occurs-reference o e);
      no_class = s.no_class n kids o;
      modes = λ a ms e. (s.one_mode n kids a ms o e, s.oneway n kids a ms o e);
    },
    λ t. let p = (tested-service tests n.kind).0 t in s.methods p.0 n kids o p.1,
  ),
)

sound-tree : (ds : List Definition) (tests : Bool) (n : Node) (kids next : Forest Node) →
    ((SoundNode ds tests n kids × Sound ds tests kids) × Sound ds tests next) ↔ Sound ds tests (tree n kids next)
sound-tree ds tests n kids next =
    let of = sound-nodes ds tests in (
      λ h. (of (tree n kids next)).0 (everywhere-tree h.0.0 ((of kids).1 h.0.1) ((of next).1 h.1)),
      λ s. let e = (of (tree n kids next)).1 s in ((e n kids here, (of kids).0 (in-kids e)), (of next).0 (in-next e)),
    )

sound-end : (ds : List Definition) (tests : Bool) → Sound ds tests end
sound-end ds tests = (sound-nodes ds tests end).0 (λ n kids o. occurs-end o)

sole-tree : (ds : List Definition) (tests : Bool) (n : Node) (kids : Forest Node) →
    (SoundNode ds tests n kids × Sound ds tests kids) ↔ Sound ds tests (tree n kids end)
sole-tree ds tests n kids =
    let i = sound-tree ds tests n kids end in (λ h. i.0 (h, sound-end ds tests), λ s. (i.1 s).0)

-- Where methods are tested, that is well-formed, and one mode.
pub sound-formed : (ds : List Definition) (f : Forest Node) → Sound ds true f ↔ (WellFormedTrees ds f × OneMode f)
sound-formed ds f = (
  λ s. (record { bound = s.bound; no_class = s.no_class; oneway = s.oneway; methods = s.methods tt }, s.one_mode),
  λ h. record { bound = h.0.bound; no_class = h.0.no_class; oneway = h.0.oneway; one_mode = h.1; methods = λ t. h.0.methods },
)

-- Methods may be asked for later.
pub sound-methods : (ds : List Definition) (f : Forest Node) → (Sound ds false f × MethodsAreFunctions ds f) ↔ Sound ds true f
sound-methods ds f = (
  λ h. record { bound = h.0.bound; no_class = h.0.no_class; oneway = h.0.oneway; one_mode = h.0.one_mode; methods = λ t. h.1 },
  λ s. (record { bound = s.bound; no_class = s.no_class; oneway = s.oneway; one_mode = s.one_mode; methods = λ (z : ⊥). absurd z }, s.methods tt),
)

-- ---- The walk
no-trees : (pre tested : Bool) (ds : List Definition) (f : Forest Node) → breadth f ≡ 0 → check_forest pre tested ds f ≡ passes
unfolding check_forest breadth
no-trees pre tested ds end e = refl
no-trees pre tested ds (tree n kids next) e = let z : ⊥ = omega arith in absurd z

func-serves : (tests : Bool) (κ : Kind) {a : ℕ} {ms : List FuncMode} {A : Type 0} → κ ≡ FuncT a ms → T (tests && is_serv_kind κ) → A
func-serves tests κ e t = let q = ((tested-service tests κ).0 t).1 in let z : ◌≡◌ {A = ℕ} 0 1 = cc in absurd (omega arith)

module _ (ds : List Definition) (once : Distinct (map defined_name ds)) where
  -- What the walk asks of trees, and of the trees themselves if they are methods.
  abbrev Good : Bool → Bool → Forest Node → Type 0
  Good tests method f = Sound ds tests f × (T method → EachTree (IsFunction ds) f)

  own-says : (tested : Bool) (n : Node) (kids : Forest Node) → T (not tested || as_func ds (tree n kids end)) ↔ (T tested → IsFunction ds n kids)
  own-says tested n kids =
      let i = if-says tested (as_func ds (tree n kids end)) in
      let func = func-says ds once (tree n kids end) in
      (λ t h. func.0 (i.0 t h), λ h. i.1 (λ t. func.1 (h t)))

  method-say : (tested : Bool) (n : Node) (kids : Forest Node) →
      Says (method_verdict tested ds n kids) (T tested → IsFunction ds n kids) (λ r. (r ≡ MethodNoFunction (label_value n.label)) × (T tested × (IsFunction ds n kids → ⊥)))
  unfolding method_verdict
  method-say tested n kids =
      says-as (says-unless (not tested || as_func ds (tree n kids end)) (MethodNoFunction (label_value n.label)) (own-says tested n kids))
      (λ h. h, λ h. h) (λ r. (λ x. (x.0, if-fails tested x.1), λ x. (x.0, λ h. x.1.1 (h x.1.0))))

  -- One tree and those after it, where `below` is the verdict on its children.
  module _ (tests method : Bool) (n : Node) (kids next : Forest Node) (below : Verdict)
      (says : Says below (Good tests (tests && is_serv_kind n.kind) kids) (Fault ds tests (tests && is_serv_kind n.kind) kids)) where
    abbrev Node-good : Type 0
    Node-good = Asked ds n.kind (breadth kids) × (below ≡ passes)

    abbrev Method-good : Type 0
    Method-good = T method → IsFunction ds n kids

    sole : Node-good ↔ Sound ds tests (tree n kids end)
    sole =
        let i = sole-tree ds tests n kids in (
          λ h. let g = says.passed.0 h.1 in i.0 ((h.0, g.1), g.0),
          λ s. let g = i.1 s in (g.0.0, says.passed.1 (g.1, g.0.1)),
        )

    good-tree : ((Node-good × Method-good) × Good tests method next) ↔ Good tests method (tree n kids next)
    good-tree = (
      λ h. ((sound-tree ds tests n kids next).0 ((sole-tree ds tests n kids).1 (sole.0 h.0.0), h.1.0), λ t. each-tree (h.0.1 t) (h.1.1 t)),
      λ g. let s = (sound-tree ds tests n kids next).1 g.0 in
          ((sole.1 ((sole-tree ds tests n kids).0 s.0), λ t. g.1 t n kids first), (s.1, λ t. in-others (g.1 t))),
    )

    abbrev Refuses : Refusal → Type 0
    Refuses r =
        (Unasked ds n.kind (breadth kids) below r ⊎ (Node-good × ((r ≡ MethodNoFunction (label_value n.label)) × (T method × (IsFunction ds n kids → ⊥)))))
        ⊎ ((Node-good × Method-good) × Fault ds tests method next r)

    refuses-fault : (r : Refusal) → Refuses r → Fault ds tests method (tree n kids next) r
    refuses-fault r (inl (inl (unbound e h))) = order.unbound e h
    refuses-fault r (inl (inl (class e))) = order.class e
    refuses-fault r (inl (inl (under c e))) = order.below c ((says.refused r).0 e)
    refuses-fault r (inl (inl (modes {a = a} {ms = ms} e p (many l)))) = order.modes e (says.passed.0 p).0 l
    refuses-fault r (inl (inl (modes {a = a} {ms = ms} e p (results q l)))) = order.oneway (e ∙ ap (FuncT a) q) (says.passed.0 p).0 l
    refuses-fault r (inl (inr x)) = subst (Fault ds tests method (tree n kids next)) (sym x.1.0) (order.no_function x.1.1.0 (sole.0 x.0) x.1.1.1)
    refuses-fault r (inr x) = order.later (sole.0 x.0.0) x.0.1 x.1

    fault-refuses : (r : Refusal) → Fault ds tests method (tree n kids next) r → Refuses r
    fault-refuses r (order.unbound e h) = inl (inl (unbound e h))
    fault-refuses r (order.class e) = inl (inl (class e))
    fault-refuses r (order.below c f) = inl (inl (under c ((says.refused r).1 f)))
    fault-refuses r (order.modes e s l) = inl (inl (modes e (says.passed.1 (s, λ t. func-serves tests n.kind e t)) (many l)))
    fault-refuses r (order.oneway e s l) = inl (inl (modes e (says.passed.1 (s, λ t. func-serves tests n.kind e t)) (results refl l)))
    fault-refuses r (order.no_function t s h) = inl (inr (sole.1 s, (refl, (t, h))))
    fault-refuses r (order.later s h f) = inr ((sole.1 s, h), f)

  pub walk-say : (names : ℕ) (p : Place) (pre method : Bool) (f : Forest Node) → T (forest_fits names p f) →
      Says (check_forest pre method ds f) (Good (not pre) method f) (Fault ds (not pre) method f)
  unfolding check_forest forest_fits node_fits
  walk-say names p pre method end t =
      record { passed = (λ e. (sound-end ds (not pre), λ h n kids o. beside-none o), λ g. refl); refused = λ r. (λ e. passed-refused e, λ x. elim x [ ]) }
  walk-say names p pre method (tree n kids next) t =
      let κ = n.kind in
      let serv = not pre && is_serv_kind κ in
      let fit = both₃ (node_fits names p n (breadth kids)) (forest_fits names (place_below κ) kids) (forest_fits names p next) t in
      let kind = both₃ (kind_fits names κ (breadth kids)) (kind_allowed p κ) (label_fits names p n.label) fit.0 in
      let below = check_forest pre serv ds kids in
      let under = walk-say names (place_below κ) pre serv kids fit.1 in
      says-as
      (says-then (says-then (kind-say ds names κ (breadth kids) below kind.0 (no-trees pre serv ds kids)) (λ g. method-say method n kids))
      (λ g. walk-say names p pre method next fit.2))
      (good-tree (not pre) method n kids next below under)
      (λ r. (refuses-fault (not pre) method n kids next below under r, fault-refuses (not pre) method n kids next below under r))

  -- ---- Methods alone

  -- The methods of each service in the trees are functions, and so are the trees themselves if they are methods.
  abbrev Fit : Bool → Forest Node → Type 0
  Fit tested f = Everywhere (Served ds true) f × (T tested → EachTree (IsFunction ds) f)

  -- One of the trees beside each other is no function.
  abbrev Unfit : Forest Node → Type 0
  Unfit f = (m : Node) × (lids : Forest Node) × Beside m lids f × (IsFunction ds m lids → ⊥)

  fit-says : (tested : Bool) (f : Forest Node) → T (methods_fit ds tested f) ↔ Fit tested f
  unfolding methods_fit
  fit-says tested end = (λ t. (λ n kids o. occurs-end o, λ h n kids o. beside-none o), λ h. tt)
  fit-says tested (tree n kids next) =
      let own = not tested || as_func ds (tree n kids end) in
      let serv = is_serv_kind n.kind in
      let o = own-says tested n kids in
      let w = fit-says serv kids in
      let x = fit-says tested next in (
        λ t. let g = both₃ own (methods_fit ds serv kids) (methods_fit ds tested next) t in
            let k = w.0 g.1 in
            let l = x.0 g.2 in
            (everywhere-tree k.1 k.0 l.0, λ h. each-tree (o.0 g.0 h) (l.1 h)),
        λ f. join₃ own (methods_fit ds serv kids) (methods_fit ds tested next) (o.1 (λ h. f.1 h n kids first)) (w.1 (in-kids f.0, f.0 n kids here))
            (x.1 (in-next f.0, λ h. in-others (f.1 h))),
      )

  -- Where the test fails: at a service in the trees, or at one of the trees that are to be tested.
  unfit-methods : (tested : Bool) (f : Forest Node) → (T (methods_fit ds tested f) → ⊥) →
      Somewhere (λ n kids. T (is_serv_kind n.kind) × Unfit kids) f ⊎ (T tested × Unfit f)
  unfolding methods_fit
  unfit-methods tested end h = absurd (h tt)
  unfit-methods tested (tree n kids next) h =
      let own = not tested || as_func ds (tree n kids end) in
      let serv = is_serv_kind n.kind in
      elim (one-fails (own && methods_fit ds serv kids) (methods_fit ds tested next) h) [
        | inl g ↦ elim (one-fails own (methods_fit ds serv kids) g) [
          | inl k ↦ let t = if-fails tested (λ (i : T tested → IsFunction ds n kids). k ((own-says tested n kids).1 i)) in inr (t.0, (n, kids, first, t.1))
          | inr k ↦ elim (unfit-methods serv kids k) [ inl s ↦ inl (somewhere-below s) | inr u ↦ inl (n, kids, here, u) ]
        ]
        | inr g ↦ elim (unfit-methods tested next g) [
          | inl s ↦ inl (somewhere-after s)
          | inr u ↦ let v = u.1 in inr (u.0, (v.0, v.1, later v.2, v.3))
        ]
      ]

  pub methods-fit : (f : Forest Node) → T (methods_fit ds false f) ↔ MethodsAreFunctions ds f
  methods-fit f = (
    λ t n kids o e. ((fit-says false f).0 t).0 n kids o (service-is n.kind e),
    λ h. (fit-says false f).1 (λ n kids o t. h n kids o (is-service n.kind t), λ (z : ⊥). absurd z),
  )

  pub methods-unfit : (f : Forest Node) → (T (methods_fit ds false f) → ⊥) → (n : ℕ) × HasMethod ds n f
  methods-unfit f h =
      elim (unfit-methods false f h) [
        | inl s ↦ let u = s.3.1 in (label_value u.0.label, (s.0, s.1, u.0, u.1, s.2, is-service s.0.kind s.3.0, u.2, refl, u.3))
        | inr u ↦ absurd u.0
      ]
