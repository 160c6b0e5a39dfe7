-- The check of an admitted book, stage by stage. Assumes nothing.
--     imports-refused, decs-refused, ..     a refusal at each stage
--     defined, actor-of, ..                 what the next stage asks
--     prog-passed                           what is handed on
use mathlib.Core.Path.{◌≡◌, refl, sym, ap, subst, ◌∙◌}
use mathlib.Core.Bool.{true, false, cond, false≢true}
use mathlib.Core.List.{List}
use Prim.Native.Nat.{ℕ}
use native.Mathlib.Nat.{sub-zero}
use native.Mathlib.Omega.{arith}
use lib.ListN.{length}
use denote.Bor.{Bor}
use Rattle.std.specs.Prelude.{Some, IsSome, Result, Ok, Err, is_err}
use Rattle.format.specs.Forest.{Forest, end, tree, no_trees}
use Rattle.format.specs.Node.{Node}
use Rattle.format.specs.Book.{Definition, Book}
use Rattle.format.specs.Layout.{nodes_part, definitions_part, files_part}
use Rattle.format.proofs.Logic.{is-true}
use Rattle.refusals.specs.declared.Refusal.{Refusal}
use Rattle.refusals.specs.declared.Refusal.TheVariants.{NoService}
use Rattle.refusals.specs.Verdict.{Verdict, passes, and_then}
use Rattle.refusals.proofs.Verdicts.{both-pass, unless-passed}
use Rattle.book.specs.declared.kinds.Contents.{Contents}
use Rattle.book.specs.Reading.{Admitted}
use Rattle.book.proofs.Opened.{names-count, nodes-count, definitions-count, files-count}
use Rattle.judgement.specs.Environment.{main_definitions, kids_of}
use Rattle.judgement.specs.Aliases.{as_service}
use Rattle.judgement.specs.Actor.{service_imports, main_actor, is_class, below_class}
use Rattle.judgement.specs.Resolve.{resolve_actor}
use Rattle.judgement.specs.Check.{check, check_forest, imports_verdict, decs_verdict, resolve_verdict, actor_verdict}
use Rattle.environment.specs.Tables.{Roots, EndNodes, Tabled, Chains, definitions_in}
use Rattle.environment.proofs.Definitions.{defined-length}
use Rattle.syntax.specs.declared.files.Files.{Files}
use Rattle.syntax.specs.declared.interface.Interface.{Interface}
use Rattle.syntax.specs.Files.{init_at, SplitAs, FilesAs, FilesPassed}
use Rattle.syntax.specs.Interfaces.{interface_tree, ActorAs, InterfaceAs}
use Rattle.syntax.specs.Resolving.{ResolvedAs}
use Rattle.environment.proofs.Book.{book-trees, entries-of}
use Rattle.syntax.proofs.Book.{main-definitions-are}
use Rattle.syntax.proofs.interface.Laws.{interface-as}
use Rattle.typing.specs.declared.types.Walk.{Walk}
use Rattle.typing.specs.Walk.{Env}
use Rattle.typing.specs.Tables.{IsBlank}
use Rattle.typing.specs.declared.tables.Tables.{Tables}
use Rattle.typing.specs.Types.{Reads, WalkEnv, Under}
use Rattle.typing.specs.Decs.{Checked, DecsAs}
use Rattle.typing.specs.Actors.{ActorOf}
use Rattle.typing.specs.declared.prog.Passed.{Passed}
use Rattle.typing.specs.Passing.{DecsPassed, ActorFoundAs, FoundAs}

-- ---- The actor of a book that passes is a service below its top
actor-service : (ds : List Definition) (t : Forest Node) → (t ≡ end → ⊥) → actor_verdict ds t ≡ passes → as_service ds (below_class t) ≡ true
unfolding actor_verdict no_trees
actor-service ds end h e = absurd (h refl)
actor-service ds (tree n kids next) h e =
    let t = tree n kids next in
    let p = both-pass (check_forest false false ds (cond (is_class t) (kids_of t) t)) _ e in
    is-true (as_service ds (below_class t)) (unless-passed (as_service ds (below_class t)) NoService p.1)

-- ---- A book that passes has definitions that pass
pub definitions-passed : (b : Book) → check b ≡ passes → decs_verdict (length b.names) (main_definitions b) ≡ passes
unfolding check
definitions-passed b e =
    let p = both-pass (imports_verdict (service_imports b.files)) _ e in
    (both-pass (decs_verdict (length b.names) (main_definitions b)) _ p.1).0

-- ---- A refusal, wherever it comes from
module _ {bs : List ℕ} {c : Contents} (a : Admitted bs c) where
  abbrev ds : List Definition
  ds = main_definitions a.book

  -- a refusal before anything is in the tables
  stop-blank : {x : Refusal} → Err x ≡ check a.book → {t : Tables} → IsBlank t → FoundAs a t (Err x)
  stop-blank is z = record { found = record { verdict = is; passed = tt }; left = z }

  -- ---- 12
  pub imports-refused : {x : Refusal} → FilesAs bs c (Err x) → {t : Tables} → IsBlank t → FoundAs a t (Err x)
  unfolding check
  imports-refused x = stop-blank (sym (rw (← x.verdict a) refl))

  -- ---- The tables: with nothing again where the actor is refused, and else as they are
  pub left-blank : (r : Result Passed Refusal) → is_err r ≡ true → {roots ends' : List ℕ} → ActorFoundAs a roots ends' r → {t : Tables} → IsBlank t → FoundAs a t r
  left-blank (Ok p) e f z = absurd (false≢true e)
  left-blank (Err x) e f z = stop-blank f.verdict z

  pub left-whole : (r : Result Passed Refusal) → is_err r ≡ false → {t : Tables} → ActorFoundAs a t.roots t.ends r → FoundAs a t r
  left-whole (Ok p) e f = record { found = f; left = tt }
  left-whole (Err x) e f = absurd (false≢true (sym e))

  past-imports : {r : Files} → FilesPassed bs c r →
      check a.book ≡ and_then (decs_verdict (length a.book.names) ds) (and_then (resolve_verdict a.book.names ds (main_actor a.book) (service_imports a.book.files) (resolve_actor a.book)) (actor_verdict ds (resolve_actor a.book)))
  unfolding check
  past-imports x = rw (x.passed a) refl

  pub split-files : {r : Files} → FilesPassed bs c r → {es : List ℕ} → es ≡ definitions_part bs → {main : ℕ} → SplitAs es c.definitions r.init main →
      SplitAs (definitions_part bs) c.definitions (init_at (files_part bs) c.files) main
  split-files {r} x e {main} s =
      subst (λ (i : ℕ). SplitAs (definitions_part bs) c.definitions i main) x.init (subst (λ (l : List ℕ). SplitAs l c.definitions r.init main) e s)

  -- ---- The definitions that are not the init file's
  module _ {main : ℕ} (s : SplitAs (definitions_part bs) c.definitions (init_at (files_part bs) c.files) main) where
    definitions-are : ds ≡ definitions_in (nodes_part bs) (definitions_part bs) 0 main
    definitions-are = main-definitions-are bs a.laid (rw (← definitions-count a, ← files-count a) s)

    module _ {r : Files} (x : FilesPassed bs c r) {t : Tables} where
      decs-is : {w : Verdict} → DecsAs (definitions_part bs) (nodes_part bs) c.names c.nodes 0 main w t → w ≡ decs_verdict (length a.book.names) ds
      decs-is d = d.entered.verdict ∙ ap (λ (k : ℕ). decs_verdict k (definitions_in (nodes_part bs) (definitions_part bs) 0 main)) (names-count a) ∙ ap (decs_verdict (length a.book.names)) (sym definitions-are)

      pub decs-refused : {y : Refusal} → DecsAs (definitions_part bs) (nodes_part bs) c.names c.nodes 0 main (Err y) t → FoundAs a t (Err y)
      decs-refused d = stop-blank (sym (past-imports x ∙ rw (← decs-is d) refl)) d.left

      pub defined : DecsAs (definitions_part bs) (nodes_part bs) c.names c.nodes 0 main passes t → DecsPassed a main t
      defined d = record { split = s; passed = d }

  -- ---- The resolved actor
  module _ {r : Files} (x : FilesPassed bs c r) {main : ℕ} {t : Tables} (o : DecsPassed a main t) where
    abbrev roots : List ℕ
    roots = t.roots

    abbrev ends' : List ℕ
    ends' = t.ends

    tables : Checked (nodes_part bs) roots ends' c.nodes ds
    tables = rw (definitions-are o.split) o.passed.entered.checked

    pub roots-table : Roots roots c.nodes
    roots-table = tables.table

    pub ends-table : EndNodes ends' c.nodes
    ends-table = tables.ended

    pub ends-chains : Chains (nodes_part bs) ends' c.names ds
    ends-chains = subst (λ (l : List Definition). Chains (nodes_part bs) ends' c.names l) (sym (definitions-are o.split)) o.passed.entered.chains

    counted : length ds ≡ main
    counted = ap length (definitions-are o.split) ∙ defined-length (nodes_part bs) (entries-of a (omega arith) o.split.within) ∙ sub-zero main

    pub env : Env (nodes_part bs) roots ends' false ds
    env = tables.env

    pub tabled : Tabled (nodes_part bs) roots main ds
    tabled = (tables.env.binds, counted)

    past-decs : check a.book ≡ and_then (resolve_verdict a.book.names ds (main_actor a.book) (service_imports a.book.files) (resolve_actor a.book)) (actor_verdict ds (resolve_actor a.book))
    past-decs = past-imports x ∙ rw (← decs-is o.split x o.passed) refl

    pub resolve-refused : {y : Refusal} → ResolvedAs a ds (Err y) → ActorFoundAs a roots ends' (Err y)
    unfolding resolve_actor
    resolve-refused y = record { verdict = sym (past-decs ∙ rw (← y.verdict) refl); passed = tt }

    module _ {i : Interface} (y : ResolvedAs a ds (Ok i)) where
      actor-as : ActorAs (nodes_part bs) c.nodes ds (resolve_actor a.book) i
      unfolding resolve_actor
      actor-as = y.actor

      module _ {o' : Bor (List ℕ)} (same : o'.now ≡ ends') {w : Walk} (q : Reads bs c roots (Some o') w) where
        walk-env : WalkEnv w ds
        walk-env = rw (q.rows-are, q.roots-are, q.ends-are, same) env

        pub actor-of : ActorOf w i ds
        actor-of = rw (q.rows-are, q.nodes-are) (subst (λ (t : Forest Node). ActorAs (nodes_part bs) c.nodes ds t i) (sym actor-as.tree) actor-as)

        module _ {v : Verdict} (said : IsSome w.ends → Under w (λ pre ds. ActorOf w i ds → v ≡ actor_verdict ds (interface_tree w.env.scope.rows.now i))) where
          walked-is : v ≡ actor_verdict ds (resolve_actor a.book)
          walked-is = (rw q.rows-are at (said (rw q.ends-are refl) ds walk-env actor-of)) ∙ ap (actor_verdict ds) actor-as.tree

          check-is : v ≡ check a.book
          unfolding resolve_actor
          check-is = walked-is ∙ sym (past-decs ∙ rw (← y.verdict) refl)

        pub actor-refused : {y' : Refusal} → (IsSome w.ends → Under w (λ pre ds. ActorOf w i ds → Err y' ≡ actor_verdict ds (interface_tree w.env.scope.rows.now i))) → ActorFoundAs a roots ends' (Err y')
        actor-refused said = record { verdict = check-is said; passed = tt }

        pub prog-passed : (IsSome w.ends → Under w (λ pre ds. ActorOf w i ds → passes ≡ actor_verdict ds (interface_tree w.env.scope.rows.now i))) →
            ActorFoundAs a roots ends' (Ok (record { main = main; interface = i }))
        prog-passed said =
            record {
              verdict = check-is said;
              passed =
                  record {
                    passed = sym (check-is said);
                    definitions = definitions-are o.split;
                    split = o.split;
                    within = omega (arith, o.split.within, definitions-count a);
                    counted = counted;
                    checked = rw (← nodes-count a) tables;
                    chains = subst (λ (k : ℕ). Chains (nodes_part bs) ends' k ds) (names-count a) ends-chains;
                    beyond = λ n h. o.passed.entered.beyond n (omega (arith, names-count a));
                    all = book-trees a;
                    tree = actor-as.tree;
                    nodes = rw (← nodes-count a) actor-as.nodes;
                    offers =
                        λ some.
                        subst (λ (k : ℕ). InterfaceAs (nodes_part bs) k ds (resolve_actor a.book) i) (nodes-count a)
                        (interface-as actor-as (actor-service ds (resolve_actor a.book) some (sym (walked-is said))));
                  };
            }
