-- Document 01's method ring, which P5 is. Definitions; assumes nothing.
use Rattle.std.specs.Prelude.{◌≡◌, List, ℕ}
use Rattle.format.specs.Forest.{Forest, end, tree}
use Rattle.format.specs.Node.{FuncT, ServT, FuncMode, Node}
use Rattle.format.specs.Book.{Definition}
use Rattle.format.specs.Occurs.{Occurs, Beside}
use Rattle.judgement.specs.WellFormed.{Leads}

-- "Function F steps to G when a service anywhere in F's arguments or results, no name crossed, has a method whose alias end is G."
pub data RingStep (ds : List Definition) (F G : Forest Node) : Type 0 where
  by : {f s m : Node} {kids methods lids next : Forest Node} {a : ℕ} {ms : List FuncMode} →
      F ≡ tree f kids next → f.kind ≡ FuncT a ms → Occurs s methods kids → s.kind ≡ ServT → Beside m lids methods → Leads ds (tree m lids end) G →
      RingStep ds F G

-- One step, or more.
pub data RingWay (ds : List Definition) : Forest Node → Forest Node → Type 0 where
  last : {F G : Forest Node} → RingStep ds F G → RingWay ds F G
  step : {F G H : Forest Node} → RingStep ds F G → RingWay ds G H → RingWay ds F H

-- A function on a circle of steps.
abbrev pub OnRing : List Definition → Forest Node → Type 0
OnRing ds F = RingWay ds F F
