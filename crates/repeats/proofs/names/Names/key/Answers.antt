-- `key` meets its contract: a name's number for a field that has a name, else the label as it is stored. Assumes nothing.
use Rattle.std.proofs.Common.{rules, ◌≡◌, ◌∙◌, MatchBool}
use Rattle.format.specs.declared.Place.TheVariants.{Field}
use native.Mathlib.Omega.{arith}
use Rattle.book.specs.Reading.{as_row}
use Rattle.book.proofs.Named.{book-of}
use Rattle.repeats.proofs.Tables.{admitted-few}
use Rattle.repeats.proofs.Searched.{standing}
use Rattle.repeats.proofs.Keys.{method-key, field-key, name-key}
use Rattle.repeats.proofs.names.Names.key.Goals as goal
use Rattle.repeats.proofs.names.Names.key.Goals.{else-eq-via-then-eq+else-node, else-eq-via-else-eq}

pub hash-requires : goal.hash-requires
hash-requires c = omega (arith, c.requires.label c.if-node.true, admitted-few (book-of _ _ c.args.self.now.index.book.laid))

pub returns-then-node-clause-key : goal.returns-then-node-clause-key
returns-then-node-clause-key c =
    let told : MatchBool c.eq.result (c.args.place ≡ Field) (c.args.place ≡ Field → ⊥) = search rules in
    let named = name-key c.args.self.now.index.book.bytes.now (as_row c.args.node) (standing c.args.self.now.index.book).laid c.if-node.true in
    rw (rw c.if-eq.true at told) (c.hash.ensures.hash ∙ named)

pub returns-else-eq-clause-key : goal.returns-else-eq-clause-key
returns-else-eq-clause-key c =
    let told : MatchBool c.eq.result (c.args.place ≡ Field) (c.args.place ≡ Field → ⊥) = search rules in
    elim c.else-eq.branch [
      | else-eq-via-then-eq+else-node w ↦ rw (rw w.if-eq.true at told) (field-key c.requires _ w.if-node.false)
      | else-eq-via-else-eq w ↦ method-key c.requires _ _ (rw w.if-eq.false at told)
    ]
