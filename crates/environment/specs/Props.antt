-- The facts that ghost fields hold have one proof at most. Assumes nothing.
use Rattle.std.specs.Coded.{Unit-prop}
use Rattle.std.proofs.Props as std
use Rattle.format.specs.Forest.{Forest, end, tree}
use Rattle.format.specs.Encode.{Row}
use Rattle.format.specs.Rules.{Sized}

pub Sized-prop : (f : Forest Row) → IsProp (Sized f)
Sized-prop end = Unit-prop
Sized-prop (tree r kids next) = Prim.hlevel (std.props, Sized-prop kids, Sized-prop next)

pub ruleset props = (std.props, Sized-prop)
