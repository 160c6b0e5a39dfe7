-- How much of a book a terminal model takes (document 02, request 14). Definitions; assumes nothing.
use Rattle.std.specs.Prelude.{Bool, ◌&&◌, ◌⊎◌, ◌≤◌, ◌<◌, min, leb, length}
use Rattle.format.specs.declared.Limits.{Limits}
use Rattle.format.specs.Forest.{count}
use Rattle.format.specs.Book.{Book, trees}
use Rattle.format.specs.Fits.{max_names, max_nodes, max_definitions}

-- Document 01's figures.
abbrev pub full : Limits
full = record { names = max_names; nodes = max_nodes; definitions = max_definitions }

-- What limits count as: one that is larger than its figure, as that figure.
abbrev pub clamped : Limits → Limits
clamped l = record { names = min l.names max_names; nodes = min l.nodes max_nodes; definitions = min l.definitions max_definitions }

-- How much a book has, all of it: names that nothing uses, every file's trees and definitions.
abbrev pub size_of : Book → Limits
size_of b = record { names = length b.names; nodes = count (trees b); definitions = length b.definitions }

-- None is more than the other's.
pub record Within (l m : Limits) : Type 0 where
  pub names : l.names ≤ m.names
  pub nodes : l.nodes ≤ m.nodes
  pub definitions : l.definitions ≤ m.definitions

unfoldable pub within : Limits → Limits → Bool
within l m = leb l.names m.names && leb l.nodes m.nodes && leb l.definitions m.definitions

-- One of them is more.
abbrev pub Over : Limits → Limits → Type 0
Over l m = (m.names < l.names) ⊎ ((m.nodes < l.nodes) ⊎ (m.definitions < l.definitions))
