-- `methods_fit` meets its contract: what `all` says of each entry. Assumes nothing.
use mathlib.Core.Path.{◌≡◌, refl, ap, subst}
use native.Mathlib.Omega.{arith}
use Rattle.std.proofs.Common.{ℕ, ◌+◌, ◌-◌, true, false, rules, tests}
use Rattle.std.specs.Prelude.{IsSome}
use Rattle.std.proofs.lemmas.Iterator.{YieldsList, cases_from_all}
use Rattle.book.specs.Reading.{as_entry}
use Rattle.book.specs.Walks.{WalksEntries}
use Rattle.book.proofs.Walking.{entries-yield, entries-serve}
use Rattle.format.specs.Encode.{Row}
use Rattle.format.specs.Layout.{run, row_at, entry_at, definitions_part, siblings}
use Rattle.format.proofs.Rows.{node-within}
use Rattle.format.proofs.Stored.{tree-whole}
use Rattle.judgement.specs.Check.{methods_fit}
use Rattle.typing.specs.Types.{Under}
use Rattle.typing.proofs.decs.Laws.{nodes, body-in, fits-all}
use Rattle.typing.proofs.decs.Decs.methods_fit.Goals as goal

pub all-requires-clause-callable : goal.all-requires-clause-callable
all-requires-clause-callable c =
    let w = c.new-walk.ensures in
    let n = c.entries.ensures in
    entries-serve n.over (λ x q k. search (rules, tests)) (λ k from to e is.
    let b = body-in c.args.self (rw n.at at from) to is in (
      (λ κ p g i u f. omega (arith, f)),
      (λ κ p g i u f z l. rw w.rows-are (node-within b.whole)),
      (λ κ p g i u f z o.
          let s = rw w.rows-are at (ap (λ (q : Row). q.size) o.ensures) in
          omega (arith, s, b.ends, (nodes c.args.self).few_nodes)),
      (λ κ p g i u f z o l.
          let s = rw w.rows-are at (ap (λ (q : Row). q.size) o.ensures) in
          record { whole = rw (w.rows-are, s) (tree-whole b.whole); inside = rw (w.nodes-are, s) b.ends; methods_are = λ m. cc }),
    ))

pub returns : goal.returns
returns c =
    let d = c.args.self in
    let n = c.entries.ensures in
    let es = definitions_part d.book.bytes.now in
    let w = c.new-walk.result in
    let rows = w.env.scope.rows.now in
    fits-all d c.requires.0 c.requires.1 refl c.new-walk.ensures c.all.result
    (cases_from_all _ _ c.all.result
    (λ e. IsSome w.ends → Under w (λ pre ds. true ≡ methods_fit ds false (siblings rows e.root (e.root + (row_at rows e.root).size))))
    (λ e. IsSome w.ends → Under w (λ pre ds. false ≡ methods_fit ds false (siblings rows e.root (e.root + (row_at rows e.root).size))))
    c.all.ensures.ran (subst (λ (k : ℕ). YieldsList WalksEntries as_entry c.entries.result (run (entry_at es) k (d.to - k))) n.at (entries-yield n.over))
    (λ x q k. search (rules, tests)) (λ x q k. search (rules, tests)))
