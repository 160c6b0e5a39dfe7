-- What resolving the actor of a book asks and says. Definitions; assumes nothing.
use Rattle.std.specs.Prelude.{◌≡◌, cond, List, Option, ℕ, ◌≤◌, eqb, length, All, Result, Ok, Err, IfOk}
use Rattle.format.specs.Forest.{Forest, beside}
use Rattle.format.specs.Node.{Node}
use Rattle.format.specs.Book.{Definition, File}
use Rattle.format.specs.Layout.{row_at, nodes_part}
use Rattle.format.specs.Whole.{tree_at}
use Rattle.refusals.specs.declared.Refusal.{Refusal}
use Rattle.refusals.specs.Verdict.{Verdict, passes, and_then, verdict_of}
use Rattle.book.specs.declared.kinds.Contents.{Contents}
use Rattle.book.specs.Reading.{Admitted}
use Rattle.judgement.specs.Environment.{kids_of}
use Rattle.judgement.specs.Actor.{service_imports, main_actor, below_class}
use Rattle.judgement.specs.Resolve.{methods_of, imported_methods, merged_actor, resolve_with}
use Rattle.judgement.specs.Check.{main_verdict, imported_verdict, resolve_verdict}
use Rattle.environment.specs.Tables.{Tabled}
use Rattle.syntax.specs.declared.actor.Service.{Service}
use Rattle.syntax.specs.declared.interface.Actor as actor
use Rattle.syntax.specs.declared.interface.Interface.{Interface}
use Rattle.syntax.specs.Classes.{tree_of, ArgumentsAs}
use Rattle.syntax.specs.Interfaces.{IsService, methods_in, IsMerged, ActorAs}

-- ---- One service

-- The service at a node, where it is one.
abbrev pub service_at : List ℕ → Refusal → ℕ → Result ℕ Refusal
service_at ns other e = cond (eqb (row_at ns e).kind 24) (Ok e) (Err other)

-- A service that has the methods that are said of the definitions, or the verdict that is.
pub record ServesAs (ns roots : List ℕ) (count definitions : ℕ) (said : List Definition → Verdict) (held : List Definition → Forest Node)
    (s : Result ℕ Refusal) : Type 0 where
  pub verdict : (ds : List Definition) → Tabled ns roots definitions ds → verdict_of s ≡ said ds
  pub service : IfOk s (IsService ns count)
  pub methods : IfOk s (λ n. (ds : List Definition) → Tabled ns roots definitions ds → kids_of (tree_at ns n) ≡ held ds)

-- That, and the length of the chain that is said, found or not.
pub record ServiceAs (ns roots : List ℕ) (count definitions : ℕ) (said : List Definition → Verdict) (held : List Definition → Forest Node) (long : List Definition → ℕ)
    (s : Service) : Type 0 where
  pub found : ServesAs ns roots count definitions said held s.found
  pub length-is : (ds : List Definition) → Tabled ns roots definitions ds → s.crossed ≡ long ds
  pub few : s.crossed ≤ definitions

-- That of the main actor, which has this root, and none where there is no main actor.
pub record MainService (ns roots : List ℕ) (count definitions : ℕ) (root : Option ℕ) (services : List ℕ) : Type 0 where
  pub passed : (ds : List Definition) → Tabled ns roots definitions ds → main_verdict ds (tree_of ns root) ≡ passes
  pub one : length services ≤ 1
  pub service : All (IsService ns count) services
  pub methods : (ds : List Definition) → Tabled ns roots definitions ds →
      methods_in ns services ≡ methods_of ds (below_class (tree_of ns root))

-- The main actor alone as a merged one.
pub record MainAlone (ns roots : List ℕ) (count definitions : ℕ) (root : Option ℕ) (i : Interface) : Type 0 where
  pub merged : i.actor ≡ actor.Actor.Merged root
  pub arguments : ArgumentsAs ns count (tree_of ns root) i.from i.until
  pub serves : MainService ns roots count definitions root i.services

pub record MainAs (ns roots : List ℕ) (count definitions : ℕ) (root : Option ℕ) (r : Result Interface Refusal) : Type 0 where
  pub verdict : (ds : List Definition) → Tabled ns roots definitions ds → verdict_of r ≡ main_verdict ds (tree_of ns root)
  pub main : IfOk r (MainAlone ns roots count definitions root)

-- ---- Main's service and those of imports

-- The nodes are services, and their methods those of main and of the imports.
pub record Gathered (ns roots : List ℕ) (count definitions : ℕ) (root : Option ℕ) (imports : List File) (nodes : List ℕ) : Type 0 where
  pub few : length nodes ≤ 16
  pub service : All (IsService ns count) nodes
  pub methods : (ds : List Definition) → Tabled ns roots definitions ds →
      methods_in ns nodes ≡ beside (methods_of ds (below_class (tree_of ns root))) (imported_methods ds imports)

pub record ServicesAs (ns roots : List ℕ) (count definitions : ℕ) (root : Option ℕ) (imports : List File) (r : Result (List ℕ) Refusal) : Type 0 where
  pub verdict : (ds : List Definition) → Tabled ns roots definitions ds →
      verdict_of r ≡ and_then (main_verdict ds (tree_of ns root)) (imported_verdict ds imports)
  pub gathered : IfOk r (Gathered ns roots count definitions root imports)

-- ---- The actor

-- With service imports: main and each import have a verdict, and their services make the actor.
pub record Merged {bs : List ℕ} {c : Contents} (a : Admitted bs c) (roots : List ℕ) (main : ℕ) (i : Interface) : Type 0 where
  pub merged : IsMerged i.actor
  pub actor : (ds : List Definition) → Tabled (nodes_part bs) roots main ds →
      ActorAs (nodes_part bs) c.nodes ds (merged_actor ds (main_actor a.book) (service_imports a.book.files)) i

pub record MergedActorAs {bs : List ℕ} {c : Contents} (a : Admitted bs c) (roots : List ℕ) (main : ℕ) (r : Result Interface Refusal) : Type 0 where
  pub verdict : (ds : List Definition) → Tabled (nodes_part bs) roots main ds →
      verdict_of r ≡ and_then (main_verdict ds (main_actor a.book)) (imported_verdict ds (service_imports a.book.files))
  pub interface : IfOk r (Merged a roots main)

-- The actor that is resolved under these definitions.
pub record ResolvedAs {bs : List ℕ} {c : Contents} (a : Admitted bs c) (ds : List Definition) (r : Result Interface Refusal) : Type 0 where
  pub verdict : verdict_of r ≡
      resolve_verdict a.book.names ds (main_actor a.book) (service_imports a.book.files) (resolve_with ds (main_actor a.book) (service_imports a.book.files))
  pub actor : IfOk r (ActorAs (nodes_part bs) c.nodes ds (resolve_with ds (main_actor a.book) (service_imports a.book.files)))
