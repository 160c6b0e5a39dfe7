-- Which nodes settle: the steps of the code as functions of its tables, whatever nodes wait for. Definitions; assumes nothing.
use Rattle.std.specs.Prelude.{◌≡◌, Bool, true, false, cond, not, ℕ, zero, suc, ◌+◌, ◌-◌, ◌≤◌, length, get_or, set, replicate, eqb, ltb, Option, None, Some}
use mathlib.Core.List.{List, [], ◌∷◌, ◌++◌}
use Rattle.format.specs.Forest.{Forest, end, tree}
use Rattle.format.specs.Encode.{Row}
use Rattle.format.specs.Layout.{row_at, row_trees}
use Rattle.inhabitants.specs.declared.waiting.Wait.{Wait}
use Rattle.inhabitants.specs.declared.waiting.Wait.TheVariants.{Nothing, Ever, All, One, Definition}
use Rattle.inhabitants.specs.declared.waiting.Waiting.{Waiting}
use Rattle.inhabitants.specs.declared.waiting.Held.{Held}

-- ---- Types by their places

-- The places of trees beside each other, of which the first is at this node.
unfoldable pub places : ℕ → Forest Row → List ℕ
places at end = []
places at (tree r kids next) = at ∷ places (at + r.size) next

abbrev pub places_in : List ℕ → ℕ → ℕ → List ℕ
places_in ns at until = places at (row_trees ns at until)

-- Those of the types within a node.
abbrev pub within : List ℕ → ℕ → List ℕ
within ns n = places_in ns (n + 1) (n + (row_at ns n).size)

abbrev pub kind_at : List ℕ → ℕ → ℕ
kind_at ns n = (row_at ns n).kind

-- The root of the definition of the name that a node is.
abbrev pub root_at : List ℕ → List ℕ → ℕ → ℕ
root_at ns roots n = get_or roots (row_at ns n).value 65535

-- ---- How many

unfoldable pub counts : (ℕ → Bool) → List ℕ → ℕ
counts test [] = 0
counts test (n ∷ l) = cond (test n) (suc (counts test l)) (counts test l)

-- A node waits, by the table; and it is held, by a table of links.
abbrev pub waits : List ℕ → ℕ → Bool
waits left n = not (eqb (get_or left n 0) 0)

abbrev pub holds : List ℕ → ℕ → ℕ → Bool
holds holder n c = eqb (get_or holder c 0) (suc n)

-- The entries that are no 0.
abbrev pub some_left : ℕ → Bool
some_left x = not (eqb x 0)

-- ---- The steps of the code

pub record IsNew (f : Waiting) : Type 0 where
  pub left : f.left ≡ replicate 4096 0
  pub holder : f.holder ≡ replicate 4096 0
  pub first : f.first ≡ replicate 4096 0
  pub next : f.next ≡ replicate 4096 0
  pub ready : f.ready.items ≡ []

-- There is room for all nodes that wait.
pub record Room (f : Waiting) : Type 0 where
  pub long : length f.left ≡ 4096
  pub few : length f.ready.items + counts some_left f.left ≤ 4096

-- Node n has one less to wait for, and is ready if that was the last.
pub record OneLess (n : ℕ) (old new : Waiting) : Type 0 where
  pub left : new.left ≡ set old.left n (get_or old.left n 0 - 1)
  pub holder : new.holder ≡ old.holder
  pub first : new.first ≡ old.first
  pub next : new.next ≡ old.next
  pub ready : new.ready.items ≡ cond (eqb (get_or old.left n 0) 1) (old.ready.items ++ n ∷ []) old.ready.items

-- The node that a link is, if it is one, has.
abbrev pub ToldAs : ℕ → Waiting → Waiting → Type 0
ToldAs zero old new = new ≡ old
ToldAs (suc n) old new = OneLess n old new

-- Those of these nodes that wait are held by a node, one more than which is `mark`.
unfoldable pub held_by : (left : List ℕ) (mark : ℕ) → List ℕ → List ℕ → List ℕ
held_by left mark [] holder = holder
held_by left mark (c ∷ l) holder = held_by left mark l (cond (waits left c) (set holder c mark) holder)

-- One of these nodes has settled.
unfoldable pub one_settled : List ℕ → List ℕ → Bool
one_settled left [] = false
one_settled left (c ∷ l) = cond (waits left c) (one_settled left l) true

pub record HeldAs (n : ℕ) (l : List ℕ) (old new : Waiting) (held : Held) : Type 0 where
  pub left : new.left ≡ old.left
  pub holder : new.holder ≡ held_by old.left (suc n) l old.holder
  pub first : new.first ≡ old.first
  pub next : new.next ≡ old.next
  pub ready : new.ready ≡ old.ready
  pub open' : held.open ≡ counts (waits old.left) l
  pub settles : held.settles ≡ one_settled old.left l

-- A definition is not known to settle: it waits, or is not entered when row n is.
unfoldable pub open_root : List ℕ → ℕ → ℕ → Bool
open_root left n root = cond (ltb n root) (waits left root) true

-- A row that is a name, by the root of its definition: for how many it waits.
pub record LinkedAs (n root : ℕ) (old new : Waiting) (left : ℕ) : Type 0 where
  pub left-same : new.left ≡ old.left
  pub holder : new.holder ≡ old.holder
  pub ready : new.ready ≡ old.ready
  pub waits-is : left ≡ cond (open_root old.left n root) 1 0
  pub first : new.first ≡ cond (open_root old.left n root) (set old.first root (suc n)) old.first
  pub next : new.next ≡ cond (open_root old.left n root) (set old.next n (get_or old.first root 0)) old.next

abbrev pub NameAs : ℕ → Option ℕ → Waiting → Waiting → ℕ → Type 0
NameAs n None old new left = (new ≡ old) × (left ≡ 1)
NameAs n (Some root) old new left = LinkedAs n root old new left

-- A node, by what it waits for: for how many.
pub record LeftAs (ns roots : List ℕ) (n : ℕ) (wait : Wait) (old new : Waiting) (left : ℕ) : Type 0 where
  pub nothing : wait ≡ Nothing → (new ≡ old) × (left ≡ 0)
  pub ever : wait ≡ Ever → (new ≡ old) × (left ≡ 1)
  pub all : wait ≡ All → (held : Held) × HeldAs n (within ns n) old new held × (left ≡ held.open)
  pub one : wait ≡ One → (held : Held) × HeldAs n (within ns n) old new held × (left ≡ cond held.settles 0 1)
  pub unbound : wait ≡ Definition → root_at ns roots n ≡ 65535 → NameAs n None old new left
  pub name : wait ≡ Definition → (root_at ns roots n ≡ 65535 → ⊥) → NameAs n (Some (root_at ns roots n)) old new left

-- A node that is entered is ready if it has settled and a row waits for it.
pub record EnteredAs (ns roots : List ℕ) (n : ℕ) (wait : Wait) (old new : Waiting) : Type 0 where
  pub linked : Waiting
  pub count : ℕ
  pub waits-for : LeftAs ns roots n wait old linked count
  pub left : new.left ≡ set linked.left n count
  pub holder : new.holder ≡ linked.holder
  pub first : new.first ≡ linked.first
  pub next : new.next ≡ linked.next
  pub ready : new.ready.items ≡ cond (eqb count 0) (cond (eqb (get_or linked.first n 0) 0) linked.ready.items (linked.ready.items ++ n ∷ [])) linked.ready.items

-- The links of a node are nodes, and there is room.
pub record CanTell (n : ℕ) (f : Waiting) : Type 0 where
  pub room : Room f
  pub holder : get_or f.holder n 0 ≤ 4096
  pub first : get_or f.first n 0 ≤ 4096
  pub next : get_or f.next n 0 ≤ 4096

-- Node n tells its holder, then the first row that waits for it, then the next row of its name; before each its link is gone.
pub record TurnedAs (n : ℕ) (old new : Waiting) : Type 0 where
  pub holder-told : Waiting
  pub first-told : Waiting
  pub told-holder : ToldAs (get_or old.holder n 0) (record { left = old.left; holder = set old.holder n 0; first = old.first; next = old.next; ready = old.ready }) holder-told
  pub told-first : ToldAs (get_or holder-told.first n 0)
      (record { left = holder-told.left; holder = holder-told.holder; first = set holder-told.first n 0; next = holder-told.next; ready = holder-told.ready }) first-told
  pub told-next : ToldAs (get_or first-told.next n 0)
      (record { left = first-told.left; holder = first-told.holder; first = first-told.first; next = set first-told.next n 0; ready = first-told.ready }) new
