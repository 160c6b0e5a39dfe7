-- What the walk over the actor asks. Definitions; assumes nothing.
use Rattle.std.specs.Prelude.{List}
use Rattle.format.specs.Book.{Definition}
use Rattle.syntax.specs.declared.interface.Interface.{Interface}
use Rattle.syntax.specs.Interfaces.{interface_tree, ActorAs}
use Rattle.typing.specs.declared.types.Walk.{Walk}

-- The actor of the book that is walked, under these definitions.
abbrev pub ActorOf : Walk → Interface → List Definition → Type 0
ActorOf w i ds = ActorAs w.env.scope.rows.now w.env.scope.nodes ds (interface_tree w.env.scope.rows.now i) i
