-- An actor merged from services: main's first, then each import's in file order; and the resolved actor. Assumes nothing.
--     files-main, files-imports     main's tree, and the imports, by what is found of the files
--     ServicesLeft                  the loop of `import_services`
--     resolved-written, ..          what is resolved
use mathlib.Core.Path.{◌≡◌, refl, sym, ap, ap₂, subst, ◌∙◌}
use mathlib.Core.Bool.{true, false, true≢false}
use mathlib.Core.List.{List, [], ◌∷◌, ◌++◌}
use Prim.Native.Nat.{ℕ, suc, ◌+◌, ◌≤◌, ◌<◌}
use native.Mathlib.Decide.{ℕ_discrete}
use native.Mathlib.Omega.{arith}
use borrow.Author.Tests.{ne_eqb}
use lib.Dec.{eqb}
use lib.ListN.{length, get_or, drop, drop_of_length-le, length-append}
use lib.Seq.{drop-cons}
use Rattle.std.specs.Prelude.{Option, Some, None, All, Result, Ok, Err, cond, IfSome}
use Rattle.std.proofs.lemmas.List.Elements.{All-push}
use Rattle.format.specs.Forest.{Forest, beside}
use Rattle.format.specs.Node.{Node}
use Rattle.format.specs.Book.{Definition, File}
use Rattle.format.specs.Encode.{Entry}
use Rattle.format.specs.Layout.{entry_at, nodes_part, files_part}
use Rattle.format.specs.Whole.{tree_at, actor_at, file_at}
use Rattle.format.proofs.Trees.{beside-end, beside-assoc}
use Rattle.format.proofs.Stored.{actor-some}
use Rattle.refusals.specs.declared.Refusal as refusal
use Rattle.refusals.specs.declared.Refusal.{Refusal}
use Rattle.refusals.specs.Verdict.{Verdict, and_then, passes, verdict_of}
use Rattle.book.specs.declared.kinds.Contents.{Contents}
use Rattle.book.specs.Reading.{EntryWithin, Admitted, stored_root}
use Rattle.judgement.specs.Environment.{kids_of}
use Rattle.judgement.specs.Aliases.{alias_end}
use Rattle.judgement.specs.Actor.{service_imports, main_actor, below_class, merged_of}
use Rattle.judgement.specs.Resolve.{methods_of, imported_methods, merged_actor, resolve_with}
use Rattle.judgement.specs.Check.{service_verdict, main_verdict, imported_verdict, hashes_verdict, resolve_verdict}
use Rattle.environment.specs.Tables.{Tabled}
use Rattle.syntax.specs.declared.files.Files.{Files}
use Rattle.syntax.specs.declared.interface.Actor.TheVariants.{Written, Merged}
use Rattle.syntax.specs.declared.interface.Interface.{Interface}
use Rattle.syntax.specs.Files.{Listed, listed_files, FilesPassed}
use Rattle.syntax.specs.Classes.{tree_of}
use Rattle.syntax.specs.Interfaces.{IsService, methods_in, main_of, actor_tree, ActorAs}
use Rattle.syntax.specs.Resolving.{ServesAs, MainAs, MainAlone, Gathered, ServicesAs, MergedActorAs, ResolvedAs}
use Rattle.refusals.proofs.Verdicts.{and_assoc}
use Rattle.judgement.proofs.Meaning.{merged-below}
use Rattle.syntax.proofs.Book.{main-actor-is, file-table, files-in}
use Rattle.syntax.proofs.interface.Laws.{merged-arguments, merged-methods, tree-root}

methods-append : (ns a b : List ℕ) → methods_in ns (a ++ b) ≡ beside (methods_in ns a) (methods_in ns b)
unfolding methods_in beside
methods-append ns [] b = refl
methods-append ns (s ∷ a) b = ap (beside (kids_of (tree_at ns s))) (methods-append ns a b) ∙ sym (beside-assoc (kids_of (tree_at ns s)) (methods_in ns a) (methods_in ns b))

-- one service more
methods-push : (ns a : List ℕ) (n : ℕ) → methods_in ns (a ++ n ∷ []) ≡ beside (methods_in ns a) (kids_of (tree_at ns n))
unfolding methods_in
methods-push ns a n = methods-append ns a (n ∷ []) ∙ ap (beside (methods_in ns a)) (beside-end (kids_of (tree_at ns n)))

-- a stored root
root-in : {count : ℕ} (root : ℕ) → ((root ≡ 65535 → ⊥) → root < count) → IfSome (stored_root root) (λ n. n < count)
unfolding stored_root
root-in {count} root h = go (ℕ_discrete root 65535)
  where
    go : Dec (root ≡ 65535) → IfSome (cond (eqb root 65535) None (Some root)) (λ n. n < count)
    go (yes e) = rw e tt
    go (no n) = rw (ne_eqb root 65535 n) (h n)

-- ---- The files of a book, by what is found of them
module _ {bs : List ℕ} {c : Contents} (a : Admitted bs c) {r : Files} (x : FilesPassed bs c r) where
  pub files-imports : service_imports a.book.files ≡ listed_files (nodes_part bs) (files_part bs) r.imports
  files-imports = ap service_imports (files-in a) ∙ x.listed.are (nodes_part bs)

  pub files-main : tree_of (nodes_part bs) r.root ≡ main_actor a.book
  files-main =
      ap (tree_of (nodes_part bs)) x.root ∙ tree-root (nodes_part bs) (entry_at (files_part bs) 0).root ∙ sym (main-actor-is bs a.laid)

  pub root-inside : IfSome r.root (λ n. n < c.nodes)
  root-inside = rw x.root (root-in _ ((file-table a).root 0 (omega (arith, (file-table a).some))))

-- the file of an import
module _ {bs : List ℕ} {c : Contents} (a : Admitted bs c) {numbers : List ℕ} (x : Listed (files_part bs) c.files numbers) {f : ℕ} (h : f < length numbers) (d : ℕ) where
  pub number-held : EntryWithin (files_part bs) (get_or numbers f d + 1)
  number-held = let t = (file-table a).held in record { held = omega (arith, t.held, x.inside f d h); few = t.few }

  pub number-few : get_or numbers f d < 16
  number-few = omega (arith, x.inside f d h, (file-table a).few)

  pub import-inside : {e : Entry} → e ≡ entry_at (files_part bs) (get_or numbers f d) → e.root < c.nodes
  import-inside e = rw e ((file-table a).root _ (x.inside f d h) (x.rooted f d h))

-- ---- The loop over the imports
pub record ServicesLeft (ns roots fs numbers : List ℕ) (nodes definitions : ℕ) (root : Option ℕ) (services : List ℕ) (f : ℕ) : Type 0 where
  pub few : length services ≤ suc f
  pub service : All (IsService ns nodes) services
  pub verdict : (ds : List Definition) → Tabled ns roots definitions ds →
      imported_verdict ds (listed_files ns fs (drop f numbers)) ≡ and_then (main_verdict ds (tree_of ns root)) (imported_verdict ds (listed_files ns fs numbers))
  pub methods : (ds : List Definition) → Tabled ns roots definitions ds →
      beside (methods_in ns services) (imported_methods ds (listed_files ns fs (drop f numbers)))
      ≡ beside (methods_of ds (below_class (tree_of ns root))) (imported_methods ds (listed_files ns fs numbers))

module _ {ns roots fs numbers : List ℕ} {nodes definitions : ℕ} {root : Option ℕ} where
  -- each import
  module _ {services : List ℕ} {f : ℕ} (l : ServicesLeft ns roots fs numbers nodes definitions root services f) where
    module _ (h : f < length numbers) (d : ℕ) (e : Entry) (is : e ≡ entry_at fs (get_or numbers f d)) (rooted : (entry_at fs (get_or numbers f d)).root ≡ 65535 → ⊥) {m : Result ℕ Refusal}
        (s : ServesAs ns roots nodes definitions (λ ds. service_verdict (refusal.Refusal.ImportNoService e.name) (alias_end ds (tree_at ns e.root))) (λ ds. methods_of ds (tree_at ns e.root)) m) where
      abbrev rest : List File
      rest = listed_files ns fs (drop (f + 1) numbers)

      opens : listed_files ns fs (drop f numbers) ≡ file_at ns e ∷ rest
      opens =
          let one : suc f ≡ f + 1 = omega arith in
          ap (listed_files ns fs) (drop-cons numbers f d h ∙ ap (λ (j : ℕ). get_or numbers f d ∷ drop j numbers) one) ∙ ap (λ (y : Entry). file_at ns y ∷ rest) (sym is)

      tree-is : tree_at ns e.root ≡ actor_at ns e.root
      tree-is = sym (actor-some ns e.root (λ z. rooted (ap (λ (y : Entry). y.root) (sym is) ∙ z)))

      import-first : (ds : List Definition) → Tabled ns roots definitions ds →
          and_then (verdict_of m) (imported_verdict ds rest) ≡ and_then (main_verdict ds (tree_of ns root)) (imported_verdict ds (listed_files ns fs numbers))
      unfolding imported_verdict
      import-first ds t =
          ap (λ (v : Verdict). and_then v (imported_verdict ds rest)) (s.verdict ds t ∙ ap (λ (u : Forest Node). service_verdict (refusal.Refusal.ImportNoService e.name) (alias_end ds u)) tree-is)
          ∙ sym (ap (imported_verdict ds) opens) ∙ l.verdict ds t

    module _ (h : f < length numbers) (d : ℕ) (e : Entry) (is : e ≡ entry_at fs (get_or numbers f d)) (rooted : (entry_at fs (get_or numbers f d)).root ≡ 65535 → ⊥) where
      abbrev Import : Result ℕ Refusal → Type 0
      Import m =
          ServesAs ns roots nodes definitions (λ ds. service_verdict (refusal.Refusal.ImportNoService e.name) (alias_end ds (tree_at ns e.root))) (λ ds. methods_of ds (tree_at ns e.root)) m

      pub import-refused : {r : Refusal} → Import (Err r) → ServicesAs ns roots nodes definitions root (listed_files ns fs numbers) (Err r)
      import-refused s = record { verdict = import-first h d e is rooted s; gathered = tt }

      pub services-on : {n : ℕ} → Import (Ok n) → ServicesLeft ns roots fs numbers nodes definitions root (services ++ n ∷ []) (f + 1)
      unfolding imported_methods
      services-on {n} s =
          record {
            few = omega (arith, l.few, length-append services (n ∷ []));
            service = All-push (IsService ns nodes) services n l.service s.service;
            verdict = import-first h d e is rooted s;
            methods = λ ds t.
                let rest : List File = listed_files ns fs (drop (f + 1) numbers) in
                ap (λ (q : Forest Node). beside q (imported_methods ds rest))
                (methods-push ns services n ∙ ap (beside (methods_in ns services)) (s.methods ds t ∙ ap (methods_of ds) (tree-is h d e is rooted s)))
                ∙ beside-assoc (methods_in ns services) (methods_of ds (actor_at ns e.root)) (imported_methods ds rest)
                ∙ ap (beside (methods_in ns services)) (sym (ap (imported_methods ds) (opens h d e is rooted s)))
                ∙ l.methods ds t;
          }

    none-left : length numbers ≤ f → listed_files ns fs (drop f numbers) ≡ []
    none-left h = ap (listed_files ns fs) (drop_of_length-le numbers {i = f} h)

    pub services-end : length numbers < 16 → f ≤ length numbers → length numbers ≤ f → ServicesAs ns roots nodes definitions root (listed_files ns fs numbers) (Ok services)
    unfolding imported_verdict imported_methods
    services-end room inside h =
        record {
          verdict = λ ds t. ap (imported_verdict ds) (sym (none-left h)) ∙ l.verdict ds t;
          gathered = record {
            few = omega (arith, l.few);
            service = l.service;
            methods = λ ds t.
                sym (beside-end (methods_in ns services)) ∙ ap (λ (q : List File). beside (methods_in ns services) (imported_methods ds q)) (sym (none-left h)) ∙ l.methods ds t;
          };
        }

-- ---- The actor that services make
gathered-actor : {ns roots : List ℕ} {count definitions : ℕ} {root : Option ℕ} {is : List File} {i : Interface} → MainAlone ns roots count definitions root i →
    {nodes : List ℕ} → Gathered ns roots count definitions root is nodes → IfSome root (λ n. n < count) → (ds : List Definition) → Tabled ns roots definitions ds →
    ActorAs ns count ds (merged_actor ds (tree_of ns root) is) (record { actor = i.actor; from = i.from; until = i.until; services = nodes })
unfolding actor_tree main_of merged_actor
gathered-actor {ns} {count = count} {root = root} {i = i} m {nodes} g inside ds t =
    let main = tree_of ns root in
    let methods = methods_in ns nodes in
    rw m.merged
    (subst
    (λ (u : Forest Node). ActorAs ns count ds u (record { actor = Merged root; from = i.from; until = i.until; services = nodes }))
    (ap (merged_of main) (g.methods ds t))
    (record {
      tree = refl;
      nodes = record { few = g.few; main = inside; service = g.service };
      arguments = record { whole = m.arguments.whole; inside = m.arguments.inside; are = m.arguments.are ∙ sym (merged-arguments main methods) };
      methods = λ s. merged-methods main methods ds;
      served = λ n e. absurd (not-written e);
    }))
  where
    not-written : {m : Option ℕ} {n : ℕ} → Merged m ≡ Written n → ⊥
    not-written e = cc

-- ---- The actor of a book
module _ {bs : List ℕ} {c : Contents} (a : Admitted bs c) where
  abbrev ns : List ℕ
  ns = nodes_part bs

  abbrev imports : List File
  imports = service_imports a.book.files

none-listed : (l : List ℕ) → eqb (length l) 0 ≡ true → l ≡ []
none-listed [] e = refl
none-listed (n ∷ l) e = absurd (true≢false (sym e ∙ ne_eqb (length (n ∷ l)) 0 (λ q. absurd (omega arith))))

some-listed : (l : List ℕ) → eqb (length l) 0 ≡ false → (n : ℕ) × (m : List ℕ) × (l ≡ n ∷ m)
some-listed [] e = absurd (true≢false e)
some-listed (n ∷ l) e = (n, l, refl)

module _ {bs : List ℕ} {c : Contents} (a : Admitted bs c) {r : Files} (x : FilesPassed bs c r) where
  -- a verdict on what is found of the files is one on the files
  verdict-as : (ds : List Definition) {v : Verdict} → v ≡ and_then (main_verdict ds (tree_of (ns a) r.root)) (imported_verdict ds (listed_files (ns a) (files_part bs) r.imports)) →
      v ≡ and_then (main_verdict ds (main_actor a.book)) (imported_verdict ds (imports a))
  verdict-as ds q = q ∙ ap₂ (λ (u : Forest Node) (l : List File). and_then (main_verdict ds u) (imported_verdict ds l)) (files-main a x) (sym (files-imports a x))

  pub main-refused : {roots : List ℕ} {main : ℕ} {why : Refusal} → MainAs (ns a) roots c.nodes main r.root (Err why) → MergedActorAs a roots main (Err why)
  main-refused s =
      record {
        verdict = λ ds t. verdict-as ds (ap (λ (v : Verdict). and_then v (imported_verdict ds (listed_files (ns a) (files_part bs) r.imports))) (s.verdict ds t));
        interface = tt;
      }

  pub imports-refused : {roots : List ℕ} {main : ℕ} {why : Refusal} →
      ServicesAs (ns a) roots c.nodes main r.root (listed_files (ns a) (files_part bs) r.imports) (Err why) → MergedActorAs a roots main (Err why)
  imports-refused s = record { verdict = λ ds t. verdict-as ds (s.verdict ds t); interface = tt }

  pub merge-as : {roots : List ℕ} {main : ℕ} {i : Interface} → MainAlone (ns a) roots c.nodes main r.root i → {services : List ℕ} →
      ServicesAs (ns a) roots c.nodes main r.root (listed_files (ns a) (files_part bs) r.imports) (Ok services) →
      MergedActorAs a roots main (Ok (record { actor = i.actor; from = i.from; until = i.until; services = services }))
  merge-as {i = i} m {services} s =
      let made : Interface = record { actor = i.actor; from = i.from; until = i.until; services = services } in
      record {
        verdict = λ ds y. verdict-as ds (s.verdict ds y);
        interface = record {
          merged = (r.root, m.merged);
          actor = λ ds y.
              subst (λ (u : Forest Node). ActorAs (ns a) c.nodes ds u made) (ap₂ (merged_actor ds) (files-main a x) (sym (files-imports a x)))
              (gathered-actor m s.gathered (root-inside a x) ds y);
        };
      }

  -- ---- without service imports
  pub resolved-written : eqb (length r.imports) 0 ≡ true → {i : Interface} (ds : List Definition) → ActorAs (ns a) c.nodes ds (tree_of (ns a) r.root) i → ResolvedAs a ds (Ok i)
  unfolding resolve_verdict resolve_with
  resolved-written none {i} ds y =
      let no : imports a ≡ [] = files-imports a x ∙ ap (listed_files (ns a) (files_part bs)) (none-listed r.imports none) in
      record {
        verdict = sym (ap (λ (l : List File). resolve_verdict a.book.names ds (main_actor a.book) l (resolve_with ds (main_actor a.book) l)) no);
        actor = subst (λ (u : Forest Node). ActorAs (ns a) c.nodes ds u i) (files-main a x ∙ sym (ap (resolve_with ds (main_actor a.book)) no)) y;
      }

  -- ---- with some
  module _ (some : eqb (length r.imports) 0 ≡ false) where
    first : (f : File) × (fs : List File) × ((imports a) ≡ f ∷ fs)
    first =
        let t = some-listed r.imports some in
        (file_at (ns a) (entry_at (files_part bs) t.0), listed_files (ns a) (files_part bs) t.1, files-imports a x ∙ ap (listed_files (ns a) (files_part bs)) t.2)

    module _ (ds : List Definition) where
      resolve-is : (resolved : Forest Node) →
          resolve_verdict a.book.names ds (main_actor a.book) (imports a) resolved
          ≡ and_then (main_verdict ds (main_actor a.book)) (and_then (imported_verdict ds (imports a)) (hashes_verdict a.book.names [] (kids_of (below_class resolved))))
      unfolding resolve_verdict
      resolve-is resolved = rw first.2 refl

      with-is : resolve_with ds (main_actor a.book) (imports a) ≡ merged_actor ds (main_actor a.book) (imports a)
      unfolding resolve_with
      with-is = rw first.2 refl

      abbrev hashed : Verdict
      hashed = hashes_verdict a.book.names [] (kids_of (below_class (resolve_with ds (main_actor a.book) (imports a))))

      whole-is : {roots : List ℕ} {main : ℕ} {z : Result Interface Refusal} → MergedActorAs a roots main z → Tabled (ns a) roots main ds →
          resolve_verdict a.book.names ds (main_actor a.book) (imports a) (resolve_with ds (main_actor a.book) (imports a)) ≡ and_then (verdict_of z) hashed
      whole-is y t =
          resolve-is (resolve_with ds (main_actor a.book) (imports a))
          ∙ and_assoc (main_verdict ds (main_actor a.book)) (imported_verdict ds (imports a)) hashed
          ∙ ap (λ (v : Verdict). and_then v hashed) (sym (y.verdict ds t))

      pub resolved-refused : {roots : List ℕ} {main : ℕ} {why : Refusal} → MergedActorAs a roots main (Err why) → Tabled (ns a) roots main ds → ResolvedAs a ds (Err why)
      resolved-refused y t = record { verdict = sym (whole-is y t); actor = tt }

      module _ {roots : List ℕ} {main : ℕ} {i : Interface} (y : MergedActorAs a roots main (Ok i)) (t : Tabled (ns a) roots main ds) where
        pub merged-as : ActorAs (ns a) c.nodes ds (resolve_with ds (main_actor a.book) (imports a)) i
        merged-as = subst (λ (u : Forest Node). ActorAs (ns a) c.nodes ds u i) (sym with-is) (y.interface.actor ds t)

        methods-are : kids_of (below_class (resolve_with ds (main_actor a.book) (imports a))) ≡ methods_in (ns a) i.services
        unfolding actor_tree kids_of
        methods-are =
            let m = y.interface.merged in
            ap (λ (u : Forest Node). kids_of (below_class u)) (sym merged-as.tree)
            ∙ rw m.1 (ap kids_of (merged-below (tree_of (ns a) m.0) (methods_in (ns a) i.services)))

        hashes-are : {w : Verdict} → w ≡ hashes_verdict a.book.names [] (methods_in (ns a) i.services) →
            w ≡ resolve_verdict a.book.names ds (main_actor a.book) (imports a) (resolve_with ds (main_actor a.book) (imports a))
        hashes-are q = q ∙ ap (hashes_verdict a.book.names []) (sym methods-are) ∙ sym (whole-is y t)

        pub hashes-refused : {why : Refusal} → Err why ≡ hashes_verdict a.book.names [] (methods_in (ns a) i.services) → ResolvedAs a ds (Err why)
        hashes-refused q = record { verdict = hashes-are q; actor = tt }

        pub resolved-merged : passes ≡ hashes_verdict a.book.names [] (methods_in (ns a) i.services) → ResolvedAs a ds (Ok i)
        resolved-merged q = record { verdict = hashes-are q; actor = merged-as }
