-- The verdict on definitions against well-formed definitions, and the first refusal. Assumes that the definitions fit, as those of a book that
-- fits do.
--     FitDefinitions              each definition has a name that exists and one tree that fits
--     once-says, once-say         2: a name that is defined twice
--     decs-say                    all of it
use mathlib.Core.Path.{◌≡◌, refl, sym, ap, subst, ◌∙◌}
use mathlib.Core.Logic.{◌↔◌, ◌⊎◌, inl, inr}
use mathlib.Core.Bool.{true, false}
use mathlib.Core.List.Memᴰ
use mathlib.Core.List.{List, [], ◌∷◌, ◌++◌, map, map-append, append_assoc, Memᴰ}
use Prim.Native.Nat.{ℕ, ◌<◌}
use lib.Dec.{T}
use Rattle.format.specs.declared.Place.TheVariants.{Root}
use Rattle.format.specs.Forest.{Forest, breadth}
use Rattle.format.specs.Node.{Node}
use Rattle.format.specs.Book.{Definition}
use Rattle.format.specs.Fits.{forest_fits}
use Rattle.format.specs.Distinct.{Distinct, FirstRepeat}
use Rattle.format.proofs.Logic.{both, join, is-false}
use Rattle.refusals.specs.declared.Refusal.{Refusal}
use Rattle.refusals.specs.declared.Refusal.TheVariants.{Twice, Circle, NoFunction}
use Rattle.refusals.specs.Verdict.{passes, unless}
use Rattle.refusals.proofs.Verdicts.{passed-refused}
use Rattle.judgement.specs.Environment.{Found, missing, body, find_type}
use Rattle.judgement.specs.Aliases.{alias_end}
use Rattle.judgement.specs.Check.{check_forest, once_verdict, bodies_verdict, each_name, is_circle, circle_verdict, methods_fit, bodies_fit, decs_verdict}
use Rattle.judgement.specs.WellFormed.{defined_name, MethodsAreFunctions}
use Rattle.judgement.specs.Rows.{StandsTwice, NeverEnds, HasMethod, InBodies, CircleFrom}
use Rattle.judgement.specs.Order.{First, Sound, Fault, SoundBodies, DefinitionsRefuse, DefinitionsPass, twice, body as in_body, circle, no_function}
use Rattle.judgement.proofs.Lookup.{find-body, find-named, find-missing, listed-defined}
use Rattle.judgement.proofs.Chains.{circle-says, no-circle, bound-stands}
use Rattle.judgement.proofs.Walks.{one-fails, walk-say, sound-formed, sound-methods, methods-fit, methods-unfit}
use Rattle.judgement.proofs.Says.{Says, says-unless, says-if, says-then, says-as}
use Rattle.judgement.proofs.Each.{each, says-each, all-cons, says-names, repeats, says-repeats}

-- Each definition has a name that exists and one tree that fits.
pub record FitDefinitions (names : ℕ) (ds : List Definition) : Type 0 where
  pub exists : (d : Definition) → Memᴰ d ds → d.name < names
  pub sole : (d : Definition) → Memᴰ d ds → breadth d.body ≡ 1
  pub fit : (d : Definition) → Memᴰ d ds → T (forest_fits names Root d.body)

-- ---- 2: a name that is defined twice
once-repeats : (seen : List ℕ) (ds : List Definition) → once_verdict seen ds ≡ repeats defined_name (λ d. Twice d.name) seen ds
unfolding once_verdict repeats
once-repeats seen [] = refl
once-repeats seen (d ∷ ds) = rw (once-repeats (d.name ∷ seen) ds)

-- The first definition whose name an earlier one has.
abbrev pub FirstTwice : List Definition → Refusal → Type 0
FirstTwice ds r = (d : Definition) × (r ≡ Twice d.name) × FirstRepeat defined_name ds d

pub once-say : (ds : List Definition) → Says (once_verdict [] ds) (Distinct (map defined_name ds)) (FirstTwice ds)
once-say ds = rw (once-repeats [] ds) (says-repeats defined_name (λ d. Twice d.name) ds)

pub once-says : (ds : List Definition) → (once_verdict [] ds ≡ passes) ↔ Distinct (map defined_name ds)
once-says ds = (once-say ds).passed

-- an element of a list that stands in its first part stands again
split : {A : Type 0} {a : A} {l : List A} → Memᴰ a l → (xs : List A) × (ys : List A) × (l ≡ xs ++ (a ∷ ys))
split {A} (Memᴰ.head {xs = xs} e) = ([], xs, ap (λ (b : A). b ∷ xs) (sym e))
split {A} (Memᴰ.tail {x = x} m) = let p = split m in (x ∷ p.0, p.1, ap (λ (l : List A). x ∷ l) p.2)

pub stands-again : {A : Type 0} {a : A} {l xs : List A} (ys : List A) → l ≡ xs ++ (a ∷ ys) → Memᴰ a xs → StandsTwice a l
stands-again {A} {a} ys e m =
    let p = split m in
    let q = ap (λ (l : List A). l ++ (a ∷ ys)) p.2 ∙ append_assoc p.0 (a ∷ p.1) (a ∷ ys) in
    (p.0, p.1 ++ (a ∷ ys), e ∙ q, Memᴰ.append_right p.1 (Memᴰ.head refl))

pub first-repeated : {ds : List Definition} {d : Definition} → FirstRepeat defined_name ds d → StandsTwice d.name (map defined_name ds)
first-repeated {ds} {d} x =
    let p : map defined_name ds ≡ map defined_name x.before ++ (d.name ∷ map defined_name x.following) =
    ap (map defined_name) x.parts ∙ map-append defined_name x.before (d ∷ x.following) in
    stands-again (map defined_name x.following) p x.again

-- ---- 3 to 6: the bodies
bodies-each : (all ds : List Definition) → bodies_verdict all ds ≡ each (λ d. check_forest true false all d.body) ds
unfolding bodies_verdict each
bodies-each all [] = refl
bodies-each all (d ∷ ds) = rw (bodies-each all ds)

-- The first body with a fault.
abbrev FirstFault : List Definition → Refusal → Type 0
FirstFault ds r = First (λ d. Sound ds false d.body) (λ d. Fault ds false false d.body r) ds

-- ---- 7: the lowest name whose chain runs in a circle
abbrev LowestCircle : List Definition → Refusal → Type 0
LowestCircle ds r = (n : ℕ) × (r ≡ Circle n) × CircleFrom ds n × ((m : ℕ) → m < n → CircleFrom ds m → ⊥)

abbrev NoCircle : List Definition → Type 0
NoCircle ds = (n : ℕ) → CircleFrom ds n → ⊥

-- ---- 8: a method that is no function
abbrev Methods : List Definition → Type 0
Methods ds = (d : Definition) → Memᴰ d ds → MethodsAreFunctions ds d.body

abbrev SomeMethod : List Definition → Refusal → Type 0
SomeMethod ds r = (r ≡ NoFunction) × ((n : ℕ) × InBodies ds (HasMethod ds n))

pub has-no-methods : {ds : List Definition} {n : ℕ} → InBodies ds (HasMethod ds n) → Methods ds → ⊥
has-no-methods x h = let y = x.2 in y.8 (h x.0 x.1 y.0 y.1 y.4 y.5 y.2 y.3 y.6)

module _ (names : ℕ) (ds : List Definition) (fits : FitDefinitions names ds) where
  -- ---- Where each name is defined once
  module _ (once : Distinct (map defined_name ds)) where
    body-say : (d : Definition) → Memᴰ d ds → Says (check_forest true false ds d.body) (Sound ds false d.body) (Fault ds false false d.body)
    body-say d m =
        says-as (walk-say ds once names Root true false d.body (fits.fit d m)) (λ g. g.0, λ s. (s, λ (z : ⊥). absurd z)) (λ r. (λ f. f, λ f. f))

    bodies-say : Says (bodies_verdict ds ds) (SoundBodies ds) (FirstFault ds)
    bodies-say = rw (bodies-each ds ds) (says-each (λ d. check_forest true false ds d.body) ds body-say)

    circle-from : (n : ℕ) (t : Forest Node) → find_type ds n ≡ body t → NeverEnds ds t ↔ CircleFrom ds n
    circle-from n t g =
        let x = find-body ds n t g in (
          λ h. (x.definition, x.listed, x.of-name, rw x.of-body h),
          λ c. let p : body c.0.body ≡ body t = sym (find-named ds once c.0 n c.1 c.2) ∙ g in let q : c.0.body ≡ t = cc in subst (NeverEnds ds) q c.3,
        )

    circle-say : (n : ℕ) → Says (circle_verdict ds n (find_type ds n)) (CircleFrom ds n → ⊥) (λ r. (r ≡ Circle n) × CircleFrom ds n)
    unfolding circle_verdict
    circle-say n = go (find_type ds n) refl
      where
        go : (f : Found) → find_type ds n ≡ f → Says (circle_verdict ds n f) (CircleFrom ds n → ⊥) (λ r. (r ≡ Circle n) × CircleFrom ds n)
        go missing g =
            let none : CircleFrom ds n → ⊥ = λ c. find-missing ds n g (listed-defined c.1 c.2) in
            record { passed = (λ e. none, λ h. refl); refused = λ r. (λ e. passed-refused e, λ x. absurd (none x.1)) }
        go (body t) g =
            let i = circle-says ds once t in
            let j = circle-from n t g in
            says-if (is_circle (alias_end ds t)) (Circle n) (λ c. j.0 (i.0 c), λ c. i.1 (j.1 c))

    circles-say : Says (each_name (λ n. circle_verdict ds n (find_type ds n)) 0 names) (NoCircle ds) (LowestCircle ds)
    circles-say =
        says-names (λ n. circle_verdict ds n (find_type ds n)) Circle (CircleFrom ds) circle-say names (λ n c. subst (λ m. m < names) c.2 (fits.exists c.0 c.1))

    bodies-fit : (es : List Definition) → T (bodies_fit ds es) ↔ ((d : Definition) → Memᴰ d es → MethodsAreFunctions ds d.body)
    unfolding bodies_fit
    bodies-fit [] = (λ t d m. absurd (Memᴰ.not-nil m), λ h. tt)
    bodies-fit (d ∷ es) =
        let i = methods-fit ds once d.body in
        let j = bodies-fit es in
        let k = all-cons d es in (
          λ t. let p = both (methods_fit ds false d.body) (bodies_fit ds es) t in k.0 (i.0 p.0, j.0 p.1),
          λ h. let p = k.1 h in join (methods_fit ds false d.body) (bodies_fit ds es) (i.1 p.0) (j.1 p.1),
        )

    bodies-unfit : (es : List Definition) → (T (bodies_fit ds es) → ⊥) → (d : Definition) × Memᴰ d es × ((n : ℕ) × HasMethod ds n d.body)
    unfolding bodies_fit
    bodies-unfit [] h = absurd (h tt)
    bodies-unfit (d ∷ es) h =
        elim (one-fails (methods_fit ds false d.body) (bodies_fit ds es) h) [
          | inl g ↦ (d, Memᴰ.head refl, methods-unfit ds once d.body g)
          | inr g ↦ let x = bodies-unfit es g in (x.0, Memᴰ.tail x.1, x.2)
        ]

    methods-say : Says (unless (bodies_fit ds ds) NoFunction) (Methods ds) (SomeMethod ds)
    methods-say =
        let i = bodies-fit ds in
        says-as (says-unless (bodies_fit ds ds) NoFunction i) (λ h. h, λ h. h) (λ r. (
          λ x. let y = bodies-unfit ds (λ t. x.1 (i.0 t)) in (x.0, (y.2.0, (y.0, y.1, y.2.1))),
          λ x. (x.0, has-no-methods x.1.1),
        ))

  -- ---- All of it
  abbrev AllPass : Type 0
  AllPass = Distinct (map defined_name ds) × (SoundBodies ds × (NoCircle ds × Methods ds))

  pass-formed : AllPass ↔ DefinitionsPass ds
  pass-formed = (there, back)
    where
      there : AllPass → DefinitionsPass ds
      there p =
          let once = p.0 in
          let sound = p.1.0 in
          let formed : (d : Definition) → Memᴰ d ds → _ = λ d m. (sound-formed ds d.body).0 ((sound-methods ds d.body).0 (sound d m, p.1.1.1 d m)) in
          let ended : (d : Definition) → Memᴰ d ds → is_circle (alias_end ds d.body) ≡ false = λ d m.
          is-false (is_circle (alias_end ds d.body)) (λ c. p.1.1.0 d.name (d, m, refl, (circle-says ds once d.body).0 c)) in (
            record {
              once = once;
              trees = λ d m. (formed d m).0;
              chains = λ d m. bound-stands ds (λ c k. (sound c k).bound) fits.sole d.body (sound d m).bound (fits.sole d m) (ended d m);
            },
            λ d m. (formed d m).1,
          )

      back : DefinitionsPass ds → AllPass
      back w =
          let once = w.0.once in
          let parts : (d : Definition) → Memᴰ d ds → Sound ds false d.body × MethodsAreFunctions ds d.body = λ d m.
          (sound-methods ds d.body).1 ((sound-formed ds d.body).1 (w.0.trees d m, w.1 d m)) in
          (once, (λ d m. (parts d m).0, (λ n c. no-circle ds once w.0.chains c.0.body c.3, λ d m. (parts d m).1)))

  abbrev Refuses : Refusal → Type 0
  Refuses r =
      FirstTwice ds r
      ⊎ (Distinct (map defined_name ds) × (FirstFault ds r ⊎ (SoundBodies ds × (LowestCircle ds r ⊎ (NoCircle ds × SomeMethod ds r)))))

  refuses-order : (r : Refusal) → Refuses r ↔ DefinitionsRefuse ds r
  refuses-order r = (there, back)
    where
      there : Refuses r → DefinitionsRefuse ds r
      there (inl x) = subst (DefinitionsRefuse ds) (sym x.1) (twice x.2)
      there (inr (once, inl x)) = in_body once x
      there (inr (once, inr (sound, inl x))) = subst (DefinitionsRefuse ds) (sym x.1) (circle once sound x.2 x.3)
      there (inr (once, inr (sound, inr (none, x)))) = subst (DefinitionsRefuse ds) (sym x.0) (no_function once sound none x.1.1)

      back : {s : Refusal} → DefinitionsRefuse ds s → Refuses s
      back (twice {d = d} x) = inl (d, refl, x)
      back (in_body once x) = inr (once, inl x)
      back (circle {n = n} once sound x l) = inr (once, inr (sound, inl (n, refl, x, l)))
      back (no_function {n = n} once sound none x) = inr (once, inr (sound, inr (none, (refl, (n, x)))))

  pub decs-say : Says (decs_verdict names ds) (DefinitionsPass ds) (DefinitionsRefuse ds)
  unfolding decs_verdict
  decs-say =
      says-as (says-then (once-say ds) (λ once. says-then (bodies-say once) (λ s. says-then (circles-say once) (λ c. methods-say once)))) pass-formed refuses-order
