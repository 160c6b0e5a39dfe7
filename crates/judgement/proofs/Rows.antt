-- The rows of Rows.antt, both sides: what is refused lies in the row of its refusal, and a row holds only of what is refused. Assumes that the
-- book fits; one that was read from bytes does.
--     check-row, init-check-row        what is refused lies in its row
--     row-refuses, init-row-refuses    what lies in a row does not pass
--     check-numbers, init-numbers      the rows that there are
--     check-bytes-row, ..              all of this on bytes, which are refused by admission or a book
use mathlib.Core.Path.{◌≡◌, refl, sym, ap, subst, ◌∙◌}
use mathlib.Core.Logic.{◌⊎◌, inl, inr, ⊎_elim, ⊎_map}
use mathlib.Core.Bool.{Bool, true, false}
use mathlib.Core.List.Memᴰ
use mathlib.Core.List.{List, [], ◌∷◌, ◌++◌, map, map-append, Memᴰ}
use Prim.Native.Nat.{ℕ}
use native.Mathlib.Omega.{arith}
use lib.Dec.{T}
use Rattle.format.specs.Forest.{Forest, end, tree}
use Rattle.format.specs.Node.{Oneway, Node, label_value}
use Rattle.format.specs.Book.{Definition, File, Book}
use Rattle.format.specs.Fits.{Fits}
use Rattle.format.specs.Occurs.{Occurs, here, below, after, Beside, first, later}
use Rattle.format.specs.Distinct.{Distinct}
use Rattle.format.specs.Labels.{method_names}
use Rattle.format.specs.Admission.{admission_rows, InRow, Source}
use Rattle.format.proofs.Occurs.{reference-occurs, occurs-reference}
use Rattle.format.proofs.Distinct.{distinct-head, distinct-tail}
use Rattle.format.proofs.Admission.{judged-row, row-judged, row-numbers}
use Rattle.refusals.specs.declared.Refusal.{Refusal}
use Rattle.refusals.specs.declared.Refusal.TheVariants.{NoService, ImportWithoutActor, ImportNoService, MethodNoFunction}
use Rattle.std.specs.Prelude.{Err}
use Rattle.refusals.specs.Verdict.{passes}
use Rattle.refusals.specs.Refusal.{number_of}
use Rattle.judgement.specs.Environment.{main_definitions, is_func_kind, is_serv_kind}
use Rattle.judgement.specs.Actor.{service_imports, main_actor, below_class}
use Rattle.judgement.specs.Resolve.{resolve_actor}
use Rattle.judgement.specs.Check.{member, check, init_check, check_bytes, init_check_bytes}
use Rattle.judgement.specs.WellFormed.{defined_name, StandsFor, below_top}
use Rattle.judgement.specs.Rust.{hash_of, hashes_of}
use Rattle.judgement.specs.Meaning.{main_service, actor_of, services}
use Rattle.judgement.specs.Order.{First, Sound, Fault, DefinitionsRefuse, DefinitionsPass, Unserved, ImportsHaveActors, CheckRefuses, InitRefuses}
use Rattle.judgement.specs.Order as order
use Rattle.judgement.specs.Rows.{StandsTwice, HasMethod, WalkRow, DefinitionsRow, TreesRow, HashRepeated, ActorRow, CheckRow, check_rows, InitRow}
use Rattle.judgement.specs.Rows as rows
use Rattle.judgement.proofs.Lookup.{member-says}
use Rattle.judgement.proofs.Chains.{no-circle}
use Rattle.judgement.proofs.Walks.{tested-service, sound-formed}
use Rattle.judgement.proofs.Decs.{stands-again, first-repeated, has-no-methods}
use Rattle.judgement.proofs.Meaning.{all-services, none-stands, resolved-methods, actor-unique}
use Rattle.judgement.proofs.Actors.{stands-elsewhere, stands-meets}
use Rattle.judgement.proofs.Resolve.{Resolved}
use Rattle.judgement.proofs.Steps.{InitSteps, check-say, init-check-say}
use Rattle.judgement.proofs.Order.{check-refuses, init-refuses}

-- ---- Faults of trees

-- What stands in trees stands in others that hold all their nodes.
module _ {ds : List Definition} {f g : Forest Node} (lift : (n : Node) (kids : Forest Node) → Occurs n kids f → Occurs n kids g) where
  walk-within : {r : Refusal} → WalkRow ds f r → WalkRow ds g r
  walk-within (rows.unbound x) = let s = reference-occurs f x.0 in rows.unbound (occurs-reference (lift s.0 s.1 s.2) s.3, x.1)
  walk-within (rows.class x) = rows.class (x.0, x.1, lift x.0 x.1 x.2, x.3)
  walk-within (rows.modes x) = rows.modes (x.0, x.1, x.2, x.3, lift x.0 x.1 x.4, x.5, x.6)
  walk-within (rows.oneway x) = rows.oneway (x.0, x.1, x.2, lift x.0 x.1 x.3, x.4, x.5)

  method-within : {n : ℕ} → HasMethod ds n f → HasMethod ds n g
  method-within x = (x.0, x.1, x.2, x.3, lift x.0 x.1 x.4, x.5, x.6, x.7, x.8)

-- One of the trees beside each other is a method and no function.
abbrev NoFunctionIn : List Definition → Forest Node → Refusal → Type 0
NoFunctionIn ds f r =
    (m : Node) × (lids : Forest Node) × Beside m lids f × (StandsFor is_func_kind ds (tree m lids end) → ⊥) × (r ≡ MethodNoFunction (label_value m.label))

abbrev FaultRow : List Definition → Bool → Bool → Forest Node → Refusal → Type 0
FaultRow ds tests method f r =
    WalkRow ds f r ⊎ ((T tests × ((n : ℕ) × (r ≡ MethodNoFunction n) × HasMethod ds n f)) ⊎ (T method × NoFunctionIn ds f r))

module _ {ds : List Definition} {tests : Bool} where
  fault-row : {method : Bool} {f : Forest Node} {r : Refusal} → Fault ds tests method f r → FaultRow ds tests method f r
  fault-row (order.unbound e h) = inl (rows.unbound (occurs-reference here e, h))
  fault-row (order.class {x = x} {kids = kids} e) = inl (rows.class (x, kids, here, e))
  fault-row (order.below {x = x} {kids = kids} c f) =
      elim (fault-row f) [
        | inl w ↦ inl (walk-within (λ n k o. below o) w)
        | inr (inl (t, m)) ↦ inr (inl (t, (m.0, m.1, method-within (λ n k o. below o) m.2)))
        | inr (inr (t, m)) ↦
            let p = (tested-service tests x.kind).0 t in
            inr (inl (p.0, (label_value m.0.label, m.4, (x, kids, m.0, m.1, here, p.1, m.2, refl, m.3))))
      ]
  fault-row (order.modes {x = x} {kids = kids} {a = a} {ms = ms} e s l) = inl (rows.modes (x, kids, a, ms, here, e, l))
  fault-row (order.oneway {x = x} {kids = kids} {a = a} e s l) = inl (rows.oneway (x, kids, a, here, e, l))
  fault-row (order.no_function {x = x} {kids = kids} t s h) = inr (inr (t, (x, kids, first, h, refl)))
  fault-row (order.later s h f) =
      elim (fault-row f) [
        | inl w ↦ inl (walk-within (λ n k o. after o) w)
        | inr (inl (t, m)) ↦ inr (inl (t, (m.0, m.1, method-within (λ n k o. after o) m.2)))
        | inr (inr (t, m)) ↦ inr (inr (t, (m.0, m.1, later m.2, m.3, m.4)))
      ]

body-row : {ds : List Definition} {f : Forest Node} {r : Refusal} → Fault ds false false f r → WalkRow ds f r
body-row x = elim (fault-row x) [ inl w ↦ w | inr (inl (t, m)) ↦ absurd t | inr (inr (t, m)) ↦ absurd t ]

trees-row : {ds : List Definition} {f : Forest Node} {r : Refusal} → Fault ds true false f r → TreesRow ds f r
trees-row {ds} {f} x =
    elim (fault-row x) [
      | inl w ↦ rows.walked w
      | inr (inl (t, m)) ↦ subst (TreesRow ds f) (sym m.1) (rows.method_no_function m.2)
      | inr (inr (t, m)) ↦ absurd t
    ]

-- ---- What is refused lies in its row
pub middle : {A : Type 0} {a : A} {l : List A} (xs ys : List A) → l ≡ xs ++ (a ∷ ys) → Memᴰ a l
middle {A} {a} xs ys e = subst (λ (l : List A). Memᴰ a l) (sym e) (Memᴰ.append_right xs (Memᴰ.head refl))

first-listed : {A : Type 0} {Fine Bad : A → Type 0} {l : List A} → (x : First Fine Bad l) → Memᴰ x.it l
first-listed x = middle x.before x.following x.parts

definitions-row : {ds : List Definition} {r : Refusal} → DefinitionsRefuse ds r → DefinitionsRow ds r
definitions-row (order.twice x) = rows.twice (first-repeated x)
definitions-row (order.body once x) = rows.walked (x.it, first-listed x, body-row x.bad)
definitions-row (order.circle once sound x l) = rows.circle x
definitions-row (order.no_function once sound none x) = rows.no_function x

-- the actors that are to be services
main-listed : (main : Forest Node) (ts : List (Forest Node)) → (main ≡ end → ⊥) → Memᴰ (below_class main) (main_service main ++ ts)
unfolding main_service
main-listed end ts h = absurd (h refl)
main-listed (tree n kids next) ts h = Memᴰ.head refl

module _ (b : Book) where
  abbrev ds : List Definition
  ds = main_definitions b

  import-listed : {f : File} → Memᴰ f (service_imports b.files) → Memᴰ f.actor (services b)
  unfolding services
  import-listed m = Memᴰ.append_right (main_service (main_actor b)) (Memᴰ.map actor_of m)

  main-row : (main_actor b ≡ end → ⊥) → {r : Refusal} → Unserved ds NoService (below_class (main_actor b)) r → ActorRow b r
  unfolding services
  main-row some (order.unbound m) = rows.unbound (main-listed (main_actor b) _ some) m
  main-row some (order.elsewhere l) = rows.no_service some l

  import-row : ImportsHaveActors b → {f : File} → Memᴰ f (service_imports b.files) → {r : Refusal} → Unserved ds (ImportNoService f.name) f.actor r → ActorRow b r
  import-row actors m (order.unbound x) = rows.unbound (import-listed m) x
  import-row actors {f} m (order.elsewhere l) = rows.import_no_service m (actors f m) l

  refuses-row : {r : Refusal} → CheckRefuses b r → CheckRow b r
  refuses-row (order.without_actor x) = subst (λ (n : ℕ). CheckRow b (ImportWithoutActor n)) x.bad.0 (rows.actor (rows.import_without_actor (first-listed x) x.bad.1))
  refuses-row (order.definitions actors x) = rows.definitions (definitions-row x)
  refuses-row (order.resolving actors pass some (order.main h u)) = rows.actor (main-row h u)
  refuses-row (order.resolving actors pass some (order.imported m x)) = rows.actor (import-row actors (first-listed x) x.bad)
  refuses-row (order.resolving actors pass some (order.same_hash t x)) = rows.actor (rows.same_hash some t (x.before, x.following, x.parts, x.again))
  refuses-row (order.actor actors pass hashed (order.walk a f)) = rows.walk a (trees-row f)
  refuses-row (order.actor actors pass hashed (order.no_service e some sound l)) = rows.actor (rows.no_service some l)

  init-refuses-row : {r : Refusal} → InitRefuses b r → InitRow b r
  init-refuses-row (order.definitions x) = rows.definitions (definitions-row x)
  init-refuses-row (order.differs pass d l) = rows.differs d l
  init-refuses-row (order.arguments pass agree f) = rows.walk (trees-row f)

pub check-row : (b : Book) → Fits b → {r : Refusal} → check b ≡ Err r → CheckRow b r
check-row b fits {r} e = refuses-row b ((check-refuses b fits r).0 e)

pub init-check-row : (b : Book) → Fits b → {r : Refusal} → init_check b ≡ Err r → CheckRow b r ⊎ InitRow b r
init-check-row b fits {r} e = ⊎_map (refuses-row b) (λ x. init-refuses-row b x.1) ((init-refuses b fits r).0 e)

-- ---- What lies in a row does not pass
pub repeated-distinct : {A : Type 0} {a : A} {l : List A} → StandsTwice a l → Distinct l → ⊥
repeated-distinct {A} {a} x d = go x.0 (subst Distinct x.2 d)
  where
    go : (xs : List A) → Distinct (xs ++ (a ∷ x.1)) → ⊥
    go [] d = distinct-head d x.3
    go (c ∷ xs) d = go xs (distinct-tail d)

walk-unsound : {ds : List Definition} {tests : Bool} {f : Forest Node} {r : Refusal} → WalkRow ds f r → Sound ds tests f → ⊥
walk-unsound (rows.unbound {n = n} x) s = x.1 (s.bound n x.0)
walk-unsound (rows.class x) s = s.no_class x.0 x.1 x.2 x.3
walk-unsound (rows.modes x) s = omega (arith, x.6, s.one_mode x.0 x.1 x.2 x.3 x.4 x.5)
walk-unsound (rows.oneway x) s = omega (arith, x.5, s.oneway x.0 x.1 x.2 (Oneway ∷ []) x.3 x.4 (Memᴰ.head refl))

trees-unsound : {ds : List Definition} {f : Forest Node} {r : Refusal} → TreesRow ds f r → Sound ds true f → ⊥
trees-unsound (rows.walked w) s = walk-unsound w s
trees-unsound (rows.method_no_function x) s = x.8 (s.methods tt x.0 x.1 x.4 x.5 x.2 x.3 x.6)

definitions-refused : {ds : List Definition} {r : Refusal} → DefinitionsRow ds r → DefinitionsPass ds → ⊥
definitions-refused (rows.twice x) p = repeated-distinct x p.0.once
definitions-refused {ds} (rows.walked (d, m, w)) p = walk-unsound w ((sound-formed ds d.body).1 (p.0.trees d m, p.1 d m))
definitions-refused {ds} (rows.circle c) p = no-circle ds p.0.once p.0.chains c.0.body c.3
definitions-refused (rows.no_function x) p = has-no-methods x (λ d m. (p.0.trees d m).methods)

hash-distinct : (names : List (List ℕ)) (methods : Forest Node) {n : ℕ} → HashRepeated names (method_names methods) n → Distinct (hashes_of names methods) → ⊥
hash-distinct names methods {n} x d =
    let hash = hash_of names in
    let e : hashes_of names methods ≡ map hash x.0 ++ (hash n ∷ map hash x.1) = ap (map hash) x.2 ∙ map-append hash x.0 (n ∷ x.1) in
    repeated-distinct (stands-again (map hash x.1) e x.3) d

module _ (b : Book) (pass : DefinitionsPass (main_definitions b)) (resolved : Resolved b) where
  abbrev once : Distinct (map defined_name (main_definitions b))
  once = pass.0.once

  services-stand : (t : Forest Node) → Memᴰ t (services b) → StandsFor is_serv_kind (main_definitions b) t
  unfolding services
  services-stand = all-services (StandsFor is_serv_kind (main_definitions b)) (main_actor b) (service_imports b.files) resolved.service resolved.imported

  actor-refused : {r : Refusal} → ActorRow b r → ⊥
  actor-refused (rows.unbound {t = t} m x) = stands-meets (main_definitions b) pass x (services-stand t m)
  actor-refused (rows.no_service some l) = ⊎_elim some (stands-elsewhere (main_definitions b) pass l) resolved.service
  actor-refused (rows.import_without_actor {f = f} m e) = none-stands (resolved.imported f m) e
  actor-refused (rows.import_no_service {f = f} m some l) = stands-elsewhere (main_definitions b) pass l (resolved.imported f m)
  actor-refused (rows.same_hash {methods = methods} some t x) =
      ⊎_elim some (λ d. hash-distinct b.names methods x (rw (resolved-methods b once some t) at d)) resolved.hashes

  row-refused : {r : Refusal} → CheckRow b r → ⊥
  row-refused (rows.definitions x) = definitions-refused x pass
  row-refused {r} (rows.walk a x) =
      trees-unsound (subst (λ (t : Forest Node). TreesRow (main_definitions b) (below_top t) r) (actor-unique b once a) x)
      ((sound-formed (main_definitions b) (below_top (resolve_actor b))).1 (resolved.actor, resolved.modes))
  row-refused (rows.actor x) = actor-refused x

pub row-refuses : (b : Book) → Fits b → {r : Refusal} → CheckRow b r → check b ≡ passes → ⊥
row-refuses b fits x e = let s = (check-say b fits).passed.0 e in row-refused b s.1.0 s.1.1 x

init-refused : {b : Book} {r : Refusal} → InitRow b r → InitSteps b → ⊥
init-refused (rows.definitions y) i = definitions-refused y i.0
init-refused (rows.differs {n = n} d l) i = i.1.0 n d
init-refused (rows.walk y) i = trees-unsound y i.1.1

pub init-row-refuses : (b : Book) → Fits b → {r : Refusal} → CheckRow b r ⊎ InitRow b r → init_check b ≡ passes → ⊥
init-row-refuses b fits x e =
    let s = (init-check-say b fits).passed.0 e in
    ⊎_elim (row-refused b s.0.1.0 s.0.1.1) (λ y. init-refused y s.1) x

-- ---- The rows that there are: 2 to 10 and 12 to 14 in the check of a book, and 11 besides in the init check
module _ {ds : List Definition} where
  walk-number : {f : Forest Node} {r : Refusal} → WalkRow ds f r → T (member (number_of r) check_rows)
  unfolding member
  walk-number (rows.unbound x) = tt
  walk-number (rows.class x) = tt
  walk-number (rows.modes x) = tt
  walk-number (rows.oneway x) = tt

  definitions-number : {r : Refusal} → DefinitionsRow ds r → T (member (number_of r) check_rows)
  unfolding member
  definitions-number (rows.twice x) = tt
  definitions-number (rows.walked x) = walk-number x.2
  definitions-number (rows.circle x) = tt
  definitions-number (rows.no_function x) = tt

  trees-number : {f : Forest Node} {r : Refusal} → TreesRow ds f r → T (member (number_of r) check_rows)
  unfolding member
  trees-number (rows.walked x) = walk-number x
  trees-number (rows.method_no_function x) = tt

row-number : {b : Book} {r : Refusal} → CheckRow b r → T (member (number_of r) check_rows)
unfolding member
row-number (rows.definitions x) = definitions-number x
row-number (rows.walk a x) = trees-number x
row-number (rows.actor (rows.unbound m x)) = tt
row-number (rows.actor (rows.no_service s l)) = tt
row-number (rows.actor (rows.import_without_actor m e)) = tt
row-number (rows.actor (rows.import_no_service m s l)) = tt
row-number (rows.actor (rows.same_hash s t x)) = tt

init-number : {b : Book} {r : Refusal} → InitRow b r → T (member (number_of r) check_rows) ⊎ (number_of r ≡ 11)
init-number (rows.definitions x) = inl (definitions-number x)
init-number (rows.differs d l) = inr refl
init-number (rows.walk x) = inl (trees-number x)

module _ (b : Book) (r : Refusal) where
  among : T (member (number_of r) check_rows) → Memᴰ (number_of r) check_rows
  among = (member-says (number_of r) check_rows).0

  pub check-numbers : CheckRow b r → Memᴰ (number_of r) check_rows
  check-numbers x = among (row-number x)

  pub init-numbers : CheckRow b r ⊎ InitRow b r → Memᴰ (number_of r) (11 ∷ check_rows)
  init-numbers =
      ⊎_elim (λ x. Memᴰ.tail (check-numbers x)) (λ x. ⊎_elim (λ t. Memᴰ.tail (among t)) Memᴰ.head (init-number x))

-- ---- On bytes
pub check-bytes-row : (bs : Source) {r : Refusal} → check_bytes bs ≡ Err r → InRow bs CheckRow r
unfolding check_bytes
check-bytes-row bs = judged-row bs check CheckRow (λ b fits. check-row b fits)

pub init-check-bytes-row : (bs : Source) {r : Refusal} → init_check_bytes bs ≡ Err r → InRow bs (λ b r. CheckRow b r ⊎ InitRow b r) r
unfolding init_check_bytes
init-check-bytes-row bs = judged-row bs init_check (λ b r. CheckRow b r ⊎ InitRow b r) (λ b fits. init-check-row b fits)

pub bytes-row-refuses : (bs : Source) {r : Refusal} → InRow bs CheckRow r → check_bytes bs ≡ passes → ⊥
unfolding check_bytes
bytes-row-refuses bs = row-judged bs check CheckRow (λ b fits. row-refuses b fits)

pub init-bytes-row-refuses : (bs : Source) {r : Refusal} → InRow bs (λ b r. CheckRow b r ⊎ InitRow b r) r → init_check_bytes bs ≡ passes → ⊥
unfolding init_check_bytes
init-bytes-row-refuses bs = row-judged bs init_check (λ b r. CheckRow b r ⊎ InitRow b r) (λ b fits. init-row-refuses b fits)

-- The rows that there are, with those of admission.
pub check-bytes-numbers : (bs : Source) {r : Refusal} → check_bytes bs ≡ Err r → Memᴰ (number_of r) (admission_rows ++ check_rows)
check-bytes-numbers bs {r} e = row-numbers bs CheckRow check_rows r (λ b. check-numbers b r) (check-bytes-row bs e)

pub init-check-bytes-numbers : (bs : Source) {r : Refusal} → init_check_bytes bs ≡ Err r → Memᴰ (number_of r) (admission_rows ++ 11 ∷ check_rows)
init-check-bytes-numbers bs {r} e = row-numbers bs (λ b r. CheckRow b r ⊎ InitRow b r) (11 ∷ check_rows) r (λ b. init-numbers b r) (init-check-bytes-row bs e)
