-- One service: by its alias end, and main's. Assumes nothing.
use mathlib.Core.Path.{◌≡◌, refl, sym, ap, subst, ◌∙◌}
use mathlib.Core.Bool.{false}
use mathlib.Core.List.{List, [], ◌∷◌}
use Prim.Native.Nat.{ℕ, ◌<◌}
use native.Mathlib.Decide.{ℕ_discrete}
use native.Mathlib.Omega.{arith}
use borrow.Author.Tests.{ne_eqb}
use lib.Dec.{eqb}
use lib.ListN.{length}
use Rattle.std.specs.Prelude.{Some, None, Result, Ok, Err}
use Rattle.std.proofs.lemmas.List.Elements.{All-nil, All-cons}
use Rattle.format.specs.Forest.{Forest, end, no_trees}
use Rattle.format.specs.Node.{Node}
use Rattle.format.specs.Book.{Definition}
use Rattle.format.specs.Layout.{row_at}
use Rattle.format.specs.Whole.{WholeAt, tree_at}
use Rattle.format.proofs.Trees.{beside-end}
use Rattle.format.proofs.Stored.{tree-opens}
use Rattle.refusals.specs.declared.Refusal.{Refusal}
use Rattle.refusals.specs.declared.Refusal as refusal
use Rattle.refusals.specs.Verdict.{Verdict, unless}
use Rattle.judgement.specs.Environment.{head, kids_of}
use Rattle.judgement.specs.Aliases.{ends, chain, chain_from, alias_end, alias_length, methods_at}
use Rattle.judgement.specs.Actor.{is_class, below_class}
use Rattle.judgement.specs.Resolve.{methods_of}
use Rattle.judgement.specs.Check.{service_verdict, main_verdict}
use Rattle.environment.specs.declared.Alias.{Alias}
use Rattle.environment.specs.declared.End.{End}
use Rattle.environment.specs.declared.End.TheVariants.{Unbound, Circle, Ends}
use Rattle.environment.specs.Tables.{Nodes, as_end, InRange, Tabled}
use Rattle.environment.specs.Trees.{AllTrees}
use Rattle.environment.proofs.Links.{last_end, AliasAs, chain-other}
use Rattle.syntax.specs.declared.class.Top.{Top}
use Rattle.syntax.specs.declared.interface.Actor.TheVariants.{Merged}
use Rattle.syntax.specs.Classes.{tree_of, TopAs}
use Rattle.syntax.specs.Interfaces.{IsService, methods_in}
use Rattle.syntax.specs.Resolving.{service_at, ServesAs, ServiceAs, MainAs}
use Rattle.syntax.proofs.class.Laws.{none-arguments}
use Rattle.syntax.proofs.Stored.{tree-service, tree-methods}

-- ---- no tree at all
end-alias : (ds : List Definition) → alias_end ds end ≡ ends end
unfolding alias_end chain head
end-alias ds = ap last_end (chain-other ds end (length ds) refl)

end-methods : (ds : List Definition) → methods_of ds end ≡ end
unfolding methods_of methods_at
end-methods ds = rw (end-alias ds)

-- ---- the service at the end of a chain
abbrev said : List ℕ → ℕ → Refusal → List Definition → Verdict
said ns node else' ds = service_verdict else' (alias_end ds (tree_at ns node))

abbrev held : List ℕ → ℕ → List Definition → Forest Node
held ns node ds = methods_of ds (tree_at ns node)

abbrev long : List ℕ → ℕ → List Definition → ℕ
long ns node ds = alias_length ds (tree_at ns node)

abbrev ChasedAs : List ℕ → List ℕ → ℕ → ℕ → ℕ → Refusal → Result ℕ Refusal → Type 0
ChasedAs ns roots count definitions node else' s = ServesAs ns roots count definitions (said ns node else') (held ns node) s

module _ {ns roots : List ℕ} {names count definitions node : ℕ} (nodes : Nodes ns names count) (else' : Refusal) {a : Alias} (x : AliasAs ns roots count definitions node a) where
  ends-as : (ds : List Definition) → Tabled ns roots definitions ds → as_end ns a.end ≡ alias_end ds (tree_at ns node)
  unfolding alias_end chain
  ends-as ds t = x.is ds t.0 ∙ ap (λ (k : ℕ). (chain_from k ds (tree_at ns node)).last) (sym t.1)

  crossed-as : (ds : List Definition) → Tabled ns roots definitions ds → a.crossed ≡ alias_length ds (tree_at ns node)
  unfolding alias_length chain
  crossed-as ds t = x.crossed-is ds t.0 ∙ ap (λ (k : ℕ). length (chain_from k ds (tree_at ns node)).crossed) (sym t.1)

  -- with what was found, the names that were crossed
  pub chased : {s : Result ℕ Refusal} → ChasedAs ns roots count definitions node else' s →
      ServiceAs ns roots count definitions (said ns node else') (held ns node) (long ns node) (record { found = s; crossed = a.crossed })
  chased f = record { found = f; length-is = crossed-as; few = x.few }

  pub chase-unbound : {n : ℕ} → a.end ≡ Unbound n → ChasedAs ns roots count definitions node else' (Err (refusal.Refusal.Unbound n))
  unfolding as_end service_verdict
  chase-unbound {n} q =
      record {
        verdict = λ ds t. ap (λ (e : End). service_verdict else' (as_end ns e)) (sym q) ∙ ap (service_verdict else') (ends-as ds t);
        service = tt;
        methods = tt;
      }

  pub chase-circle : a.end ≡ Circle → ChasedAs ns roots count definitions node else' (Err else')
  unfolding as_end service_verdict
  chase-circle q =
      record {
        verdict = λ ds t. ap (λ (e : End). service_verdict else' (as_end ns e)) (sym q) ∙ ap (service_verdict else') (ends-as ds t);
        service = tt;
        methods = tt;
      }

  module _ {e : ℕ} (q : a.end ≡ Ends e) where
    pub chase-inside : e < count
    chase-inside = subst (InRange count) q x.within

    whole : WholeAt ns e
    whole = (nodes.tree e chase-inside).whole

    comes : (ds : List Definition) → Tabled ns roots definitions ds → ends (tree_at ns e) ≡ alias_end ds (tree_at ns node)
    unfolding as_end
    comes ds t = ap (as_end ns) (sym q) ∙ ends-as ds t

    at-end : (ds : List Definition) → Tabled ns roots definitions ds → unless (eqb (row_at ns e).kind 24) else' ≡ said ns node else' ds
    unfolding service_verdict
    at-end ds t = rw (← tree-service whole) (ap (service_verdict else') (comes ds t))

    methods-end : (row_at ns e).kind ≡ 24 → (ds : List Definition) → Tabled ns roots definitions ds → kids_of (tree_at ns e) ≡ held ns node ds
    unfolding methods_of
    methods-end k ds t = tree-methods whole k ∙ ap methods_at (comes ds t)

    pub chase-ends : ChasedAs ns roots count definitions node else' (service_at ns else' e)
    chase-ends = go (ℕ_discrete (row_at ns e).kind 24)
      where
        go : Dec ((row_at ns e).kind ≡ 24) → ChasedAs ns roots count definitions node else' (service_at ns else' e)
        go (yes k) = rw k (record { verdict = λ ds t. rw k at (at-end ds t); service = (chase-inside, k); methods = methods-end k })
        go (no k) =
            let other = ne_eqb (row_at ns e).kind 24 k in
            rw other (record { verdict = λ ds t. rw other at (at-end ds t); service = tt; methods = tt })

-- ---- main alone
module _ (ns roots : List ℕ) (count definitions : ℕ) where
  pub main-none : {names : ℕ} → AllTrees ns names count → MainAs ns roots count definitions None (Ok (record { actor = Merged None; from = 0; until = 0; services = [] }))
  unfolding tree_of main_verdict no_trees below_class is_class methods_in
  main-none a =
      record {
        verdict = λ ds t. refl;
        main = record {
          merged = refl;
          arguments = none-arguments a;
          serves = record {
            passed = λ ds t. refl;
            one = omega arith;
            service = All-nil (IsService ns count);
            methods = λ ds t. sym (end-methods ds);
          };
        };
      }

  module _ {names root : ℕ} (a : AllTrees ns names count) (h : root < count) {top : Top} (x : TopAs ns count root top) where
    some-trees : no_trees (tree_at ns root) ≡ false
    unfolding no_trees
    some-trees = rw (tree-opens (a.nodes.tree root h).whole)

    verdict-same : (ds : List Definition) → said ns top.below refusal.Refusal.NoService ds ≡ main_verdict ds (tree_of ns (Some root))
    unfolding main_verdict tree_of
    verdict-same ds = rw some-trees (ap (λ (t : Forest Node). service_verdict refusal.Refusal.NoService (alias_end ds t)) x.below.is)

    pub main-refused : {r : Refusal} → ChasedAs ns roots count definitions top.below refusal.Refusal.NoService (Err r) → MainAs ns roots count definitions (Some root) (Err r)
    main-refused s = record { verdict = λ ds t. s.verdict ds t ∙ verdict-same ds; main = tt }

    pub main-found : {n : ℕ} → ChasedAs ns roots count definitions top.below refusal.Refusal.NoService (Ok n) → {services : List ℕ} → services ≡ n ∷ [] →
        MainAs ns roots count definitions (Some root) (Ok (record { actor = Merged (Some root); from = top.from; until = top.until; services = services }))
    unfolding methods_in tree_of
    main-found {n} s z =
        rw z
        (record {
          verdict = λ ds t. s.verdict ds t ∙ verdict-same ds;
          main = record {
            merged = refl;
            arguments = x.arguments;
            serves = record {
              passed = λ ds t. sym (s.verdict ds t ∙ verdict-same ds);
              one = omega arith;
              service = All-cons (IsService ns count) n [] s.service (All-nil (IsService ns count));
              methods = λ ds t. beside-end (kids_of (tree_at ns n)) ∙ s.methods ds t ∙ ap (methods_of ds) x.below.is;
            };
          };
        })
