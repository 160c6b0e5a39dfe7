-- The actor that a book means: `IDLMergedProg::resolve_actor` of syntax/mod.rs, where nothing is refused; by alias ends, so with their fuel.
-- (Without fuel: `ActorOf` of Meaning.antt.) Definitions; assumes nothing.
use Rattle.std.specs.Prelude.{List, [], ◌∷◌}
use Rattle.format.specs.Forest.{Forest, end, beside}
use Rattle.format.specs.Node.{Node}
use Rattle.format.specs.Book.{Definition, File, Book}
use Rattle.judgement.specs.Environment.{main_definitions}
use Rattle.judgement.specs.Aliases.{alias_end, methods_at}
use Rattle.judgement.specs.Actor.{service_imports, main_actor, below_class, merged_of}

-- The methods of an actor or of a class's service, its alias end followed: `chase_service`.
unfoldable pub methods_of : List Definition → Forest Node → Forest Node
methods_of ds t = methods_at (alias_end ds t)

unfoldable pub imported_methods : List Definition → List File → Forest Node
imported_methods ds [] = end
imported_methods ds (f ∷ fs) = beside (methods_of ds f.actor) (imported_methods ds fs)

-- Main's methods first, then each import's in file order.
unfoldable pub merged_actor : List Definition → Forest Node → List File → Forest Node
merged_actor ds main imports = merged_of main (beside (methods_of ds (below_class main)) (imported_methods ds imports))

-- Without service imports the main actor is taken as written; `end` where there is none.
unfoldable pub resolve_with : List Definition → Forest Node → List File → Forest Node
resolve_with ds main [] = main
resolve_with ds main (f ∷ fs) = merged_actor ds main (f ∷ fs)

unfoldable pub resolve_actor : Book → Forest Node
resolve_actor b = resolve_with (main_definitions b) (main_actor b) (service_imports b.files)
