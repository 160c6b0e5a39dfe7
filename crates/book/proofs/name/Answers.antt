-- `name` meets its contract: the book of the layout, and its name. Assumes nothing.
use mathlib.Core.Path.{sym, ap, ◌∙◌}
use mathlib.Core.List.{List, []}
use Prim.Native.Nat.{ℕ}
use lib.ListN.{length, get_or}
use Rattle.format.specs.Layout.{names_of}
use Rattle.book.proofs.Named.{book-of, name-broken, name-outside, name-there}
use Rattle.book.proofs.Opened.{names-here}
use Rattle.book.proofs.name.Goals.{in_default-via-in-Some+else-number-c, in_default-via-in_default}
use Rattle.book.proofs.name.Goals as goal

pub new-requires : goal.new-requires
new-requires c = book-of _ _ c.in-Some.ensures

pub returns-in-Some : goal.returns-in-Some
returns-in-Some c =
    let o = book-of _ _ c.in-Some.ensures in
    c.name_at.ensures
    ∙ ap (λ (bs : List ℕ). get_or (names_of (length bs) bs) c.args.number []) ((rw c.new.ensures.bytes at c.names.ensures) ∙ sym (names-here o))
    ∙ name-there o c.args.number

pub returns-in_default : goal.returns-in_default
returns-in_default c =
    elim c.in_default.branch [
      | in_default-via-in-Some+else-number-c w ↦ name-outside (book-of _ _ w.in-Some.ensures) _ w.if-number-c.false
      | in_default-via-in_default w ↦ name-broken _ _ w.in_default.ensures
    ]
