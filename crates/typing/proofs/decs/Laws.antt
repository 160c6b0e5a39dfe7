-- The verdict of definitions, test by test as code makes them. Assumes nothing.
--     admitted, entries, nodes         what the definitions of a book give
--     bodies-stop, bodies-on, ..       the loop over their bodies
--     fits-all                         whether all their methods fit
--     decs-body, decs-circle, ..       the verdict
use mathlib.Core.Path.{◌≡◌, refl, sym, ap, ap₂, ◌∙◌}
use mathlib.Core.Bool.{Bool, true, false, true≢false, false≢true, ◌&&◌, and-false}
use mathlib.Core.List.{List, [], ◌∷◌, map}
use Prim.Native.Nat.{ℕ, zero, suc, ◌+◌, ◌-◌, ◌≤◌, ◌<◌}
use native.Mathlib.Omega.{arith}
use lib.ListN.{length, get_or}
use Rattle.std.specs.Prelude.{None, Some, IsSome, Ok, Err}
use Rattle.std.specs.Bool.{MatchBool}
use Rattle.std.specs.List.{AllWithin, HoldsAt}
use Rattle.std.specs.Result.{is_err}
use denote.Bor.{Bor}
use Rattle.format.specs.Book.{Definition}
use Rattle.format.specs.Encode.{Entry}
use Rattle.format.specs.Layout.{run, nodes_part, definitions_part, entry_at, row_at, siblings}
use Rattle.format.specs.Whole.{WholeIn, tree_at, definition_at}
use Rattle.format.proofs.Lists.{run-none, run-cons}
use Rattle.refusals.specs.declared.Refusal.{Refusal}
use Rattle.refusals.specs.declared.Refusal.TheVariants.{NoFunction}
use Rattle.refusals.specs.Verdict.{Verdict, passes, and_then, unless}
use Rattle.judgement.specs.Check.{once_verdict, bodies_verdict, check_forest, methods_fit, bodies_fit, decs_verdict}
use Rattle.book.specs.Reading.{EntryWithin, Admitted}
use Rattle.book.specs.Tables.{zero_table}
use Rattle.book.proofs.Named.{book-of}
use Rattle.environment.specs.Tables.{Nodes, Entries, Roots, Binds, Tabled, DefinesAs, AliasEndsAs, definitions_in}
use Rattle.environment.proofs.Definitions.{defined-length, defined-binds, defined-once}
use Rattle.environment.proofs.FuncEnds.{ends-func}
use Rattle.environment.proofs.Book.{all-trees, rows-exact, entries-of, entries-held, few-all}
use Rattle.typing.specs.declared.types.Walk.{Walk}
use Rattle.typing.specs.declared.decs.Decs.{Decs}
use Rattle.typing.specs.Walk.{type_verdict}
use Rattle.typing.specs.Tables.{IsBlank}
use Rattle.typing.specs.declared.tables.Tables.{Tables}
use Rattle.typing.specs.Types.{Reads, WalkEnv, Under}
use Rattle.typing.specs.Decs.{Checked, definitions_of, Defined, EndsFound, EnteredOf, DecsOf}
use Rattle.typing.proofs.Walk.{tree-verdict}

-- ---- the definitions that are left at entry k: none, or that of k and those after it
module _ (ns es : List ℕ) {k to : ℕ} where
  pub definitions-none : to ≤ k → definitions_in ns es k to ≡ []
  definitions-none h = let z : to - k ≡ 0 = omega arith in rw (z, run-none (entry_at es) k)

  pub definitions-cons : k < to → definitions_in ns es k to ≡ definition_at ns (entry_at es k) ∷ definitions_in ns es (k + 1) to
  definitions-cons h = let z : to - k ≡ suc (to - (k + 1)) = omega arith in rw (z, run-cons (entry_at es) k (to - (k + 1)))

-- ---- definitions of a book
module _ (d : Decs) where
  abbrev ns : List ℕ
  ns = nodes_part d.book.bytes.now

  abbrev es : List ℕ
  es = definitions_part d.book.bytes.now

  abbrev ds : List Definition
  ds = definitions_of d

  pub admitted : Admitted d.book.bytes.now d.book.contents
  admitted = book-of _ _ d.book.laid

  pub entries : Entries es d.book.contents.names d.book.contents.nodes d.from d.to
  entries = entries-of admitted d.ordered d.within

  pub entries-within : EntryWithin es d.to
  entries-within = record { held = omega (arith, (entries-held admitted).held, d.within); few = (entries-held admitted).few }

  pub nodes : Nodes ns d.book.contents.names d.book.contents.nodes
  nodes = (all-trees admitted).nodes

  pub few : d.to - d.from ≤ 512
  few = omega (arith, few-all admitted, d.within)

  many : length ds ≡ d.to - d.from
  many = defined-length ns entries

  -- entry k, and the tree of its body
  module _ {k : ℕ} (b : d.from ≤ k) (h : k < d.to) where
    module _ {e : Entry} (is : e ≡ entry_at es k) where
      pub body-inside : e.root < d.book.contents.nodes
      body-inside = rw is (entries.root k b h)

      pub body-in : WholeIn ns e.root d.book.contents.nodes
      body-in = nodes.tree e.root body-inside

  -- ---- in the table of roots
  module _ {roots : List ℕ} (t : Defined d roots) where
    pub binds : Binds ns roots ds
    binds = defined-binds ns entries t nodes.few_nodes

    pub tabled : Tabled ns roots (d.to - d.from) ds
    tabled = (binds, many)

    pub table : Roots roots d.book.contents.nodes
    table = t.table

    once-passed : once_verdict [] ds ≡ passes
    once-passed = sym (defined-once ns entries t)

    -- while bodies are walked no method is tested
    module _ {w : Walk} (r : Reads d.book.bytes.now d.book.contents roots None w) where
      env-pre : WalkEnv w ds
      env-pre = rw (r.rows-are, r.roots-are, r.ends-are) (record { binds = binds; func = λ e. absurd (true≢false e) })

      module _ {k : ℕ} (b : d.from ≤ k) (h : k < d.to) {e : Entry} (is : e ≡ entry_at es k) (left : bodies_verdict ds (definitions_in ns es k d.to) ≡ bodies_verdict ds ds)
          {v : Verdict} (u : Under w (λ pre ds. v ≡ type_verdict pre ds w.env.scope.rows.now e.root)) where
        body-says : v ≡ check_forest true false ds (tree_at ns (entry_at es k).root)
        body-says =
            (rw (r.rows-are, r.ends-are) at (u ds env-pre)) ∙ tree-verdict true ds (body-in b h is).whole
            ∙ ap (λ (q : Entry). check_forest true false ds (tree_at ns q.root)) is

        bodies-here : and_then v (bodies_verdict ds (definitions_in ns es (k + 1) d.to)) ≡ bodies_verdict ds ds
        unfolding bodies_verdict
        bodies-here = rw body-says (sym (ap (bodies_verdict ds) (definitions-cons ns es h))) ∙ left

      module _ {k : ℕ} (b : d.from ≤ k) (h : k < d.to) {e : Entry} (is : e ≡ entry_at es k) (left : bodies_verdict ds (definitions_in ns es k d.to) ≡ bodies_verdict ds ds) where
        pub bodies-stop : {x : Refusal} → Under w (λ pre ds. Err x ≡ type_verdict pre ds w.env.scope.rows.now e.root) → Err x ≡ bodies_verdict ds ds
        bodies-stop u = bodies-here b h is left u

        pub bodies-on : Under w (λ pre ds. passes ≡ type_verdict pre ds w.env.scope.rows.now e.root) → bodies_verdict ds (definitions_in ns es (k + 1) d.to) ≡ bodies_verdict ds ds
        bodies-on u = bodies-here b h is left u

    pub bodies-end : {k : ℕ} → d.to ≤ k → bodies_verdict ds (definitions_in ns es k d.to) ≡ bodies_verdict ds ds → passes ≡ bodies_verdict ds ds
    unfolding bodies_verdict
    bodies-end h left = sym (ap (bodies_verdict ds) (definitions-none ns es h)) ∙ left

    -- ---- and their ends in that of alias ends
    module _ {ends' : List ℕ} (a : EndsFound d roots ends') where
      checked : Checked ns roots ends' d.book.contents.nodes ds
      checked =
          record {
            table = t.table;
            ended = a.nodes;
            env = record { binds = binds; func = λ e i u. ends-func nodes a ds binds many i (omega (arith, u.held, rows-exact admitted)) };
          }

      module _ {o : Bor (List ℕ)} (same : o.now ≡ ends') {w : Walk} (r : Reads d.book.bytes.now d.book.contents roots (Some o) w) where
        env-ends : WalkEnv w ds
        env-ends = rw (r.rows-are, r.roots-are, r.ends-are, same) checked.env

        -- what is said of the body of an entry
        abbrev pub Says : Bool → Entry → Type 0
        Says b e = IsSome w.ends → Under w (λ pre ds. b ≡ methods_fit ds false (siblings w.env.scope.rows.now e.root (e.root + (row_at w.env.scope.rows.now e.root).size)))

        abbrev pub fit-at : Entry → Bool
        fit-at e = methods_fit ds false (tree_at ns e.root)

        says-fit : (b : Bool) (e : Entry) → Says b e → b ≡ fit-at e
        says-fit b e u = rw r.rows-are at (u (rw r.ends-are refl) ds env-ends)

        all-fit : (xs : List Entry) → AllWithin (λ e. true ≡ fit-at e) xs 0 (length xs) → true ≡ bodies_fit ds (map (definition_at ns) xs)
        unfolding bodies_fit
        all-fit [] h = refl
        all-fit (x ∷ xs) h = ap₂ ◌&&◌ (h 0 x (omega arith) (omega arith)) (all-fit xs (λ k e a l. h (suc k) e (omega arith) (omega arith)))

        one-not : (xs : List Entry) (k : ℕ) → k < length xs → HoldsAt (λ e. false ≡ fit-at e) xs k → false ≡ bodies_fit ds (map (definition_at ns) xs)
        unfolding bodies_fit
        one-not [] k l f = absurd (omega arith)
        one-not (x ∷ xs) zero l f = ap (λ b. b && bodies_fit ds (map (definition_at ns) xs)) (f x)
        one-not (x ∷ xs) (suc k) l f = sym (and-false (fit-at x)) ∙ ap (λ b. fit-at x && b) (one-not xs k (omega arith) f)

        pub fits-all : (fit : Bool) → MatchBool fit (AllWithin (Says true) (run (entry_at es) d.from (d.to - d.from)) 0 (length (run (entry_at es) d.from (d.to - d.from))))
            ((k : ℕ) × (k < length (run (entry_at es) d.from (d.to - d.from))) × HoldsAt (Says false) (run (entry_at es) d.from (d.to - d.from)) k) → fit ≡ bodies_fit ds ds
        fits-all true z = all-fit _ (λ k e a l. says-fit true (get_or (run (entry_at es) d.from (d.to - d.from)) k e) (z k e a l))
        fits-all false z = one-not _ z.0 z.1 (λ e. says-fit false (get_or (run (entry_at es) d.from (d.to - d.from)) z.0 e) (z.2 e))

    -- ---- the verdict
    refuse : {x : Refusal} → Err x ≡ decs_verdict d.book.contents.names ds → {ends' : List ℕ} → EnteredOf d (Err x) roots ends'
    refuse is = record { verdict = is; checked = tt; chains = tt; beyond = tt }

    pub decs-body : {x : Refusal} → Err x ≡ bodies_verdict ds ds → {ends' : List ℕ} → EnteredOf d (Err x) roots ends'
    unfolding decs_verdict
    decs-body q = refuse (sym (rw (once-passed, ← q) refl))

    module _ (q : passes ≡ bodies_verdict ds ds) where
      pub decs-circle : {x : Refusal} {ends' : List ℕ} → AliasEndsAs ns roots d.book.contents.names d.book.contents.nodes (d.to - d.from) ends' (Err x) → EnteredOf d (Err x) roots ends'
      unfolding decs_verdict
      decs-circle a = refuse (sym (rw (once-passed, ← q, ← a.lowest ds binds many) refl))

      module _ {ends' : List ℕ} (a : EndsFound d roots ends') where
        said : (b : Bool) → b ≡ bodies_fit ds ds → unless b NoFunction ≡ decs_verdict d.book.contents.names ds
        unfolding decs_verdict
        said b e = sym (rw (once-passed, ← q, ← a.lowest ds binds many, e) refl)

        pub decs-unfit : false ≡ bodies_fit ds ds → EnteredOf d (Err NoFunction) roots ends'
        decs-unfit e = refuse (said false e)

        pub decs-passed : true ≡ bodies_fit ds ds → EnteredOf d passes roots ends'
        decs-passed e = record { verdict = said true e; checked = checked a; chains = a.all ds binds many; beyond = a.beyond }

  -- ---- the tables where they are refused
  pub decs-twice : {x : Refusal} {t : Tables} → DefinesAs es d.book.contents.nodes d.from d.to t.roots (Err x) → t.ends ≡ zero_table → DecsOf d (Err x) t
  unfolding decs_verdict
  decs-twice t z =
      record {
        entered = record { verdict = sym (rw (← defined-once ns entries t) refl); checked = tt; chains = tt; beyond = tt };
        left = record { roots = t.left; ends = z };
      }

  pub decs-cleared : (v : Verdict) → is_err v ≡ true → {roots ends' : List ℕ} → EnteredOf d v roots ends' → {after : Tables} → IsBlank after → DecsOf d v after
  decs-cleared (Ok u) h e z = absurd (false≢true h)
  decs-cleared (Err x) h e z = record { entered = record { verdict = e.verdict; checked = tt; chains = tt; beyond = tt }; left = z }
