-- The loops that write for each row the name whose definition it lies in, and what an admitted book gives them. Assumes nothing.
--     owned-inside, owner-small    a row that a name owns is a row of the book, and the name is one of the book
--     owners-start, ..             the loop over definitions
--     admitted-defining, book-defining    an admitted book's definitions lie apart
use mathlib.Core.Path.{◌≡◌, sym, ap, subst, ◌∙◌}
use mathlib.Core.List.{List, [], ◌∷◌}
use Prim.Native.Nat.{ℕ, zero, suc, ◌+◌, ◌-◌, ◌≤◌, ◌<◌}
use native.Mathlib.Nat.{zero-add}
use native.Mathlib.Decide.{ℕ_discrete, dec_lt}
use native.Mathlib.Omega.{arith}
use mathlib.Core.Logic.{◌⊎◌, inl, inr}
use lib.ListN.{length, get_or, replicate, length-replicate, get_or-replicate}
use borrow.Rule.Slice.PartMut.{put_mid}
use Rattle.std.proofs.Common.{rules}
use Rattle.std.proofs.lemmas.List.{places}
use Rattle.format.specs.Forest.{count}
use Rattle.format.specs.Book.{Definition, Book, trees}
use Rattle.format.specs.Encode.{Row, Entry, definition_entries}
use Rattle.format.specs.Layout.{row_at, entry_at, run, definitions_part, nodes_part, whole, layout}
use Rattle.format.specs.Whole.{definition_at}
use Rattle.format.proofs.Lists.{run-at}
use Rattle.format.proofs.References.{everywhere}
use Rattle.format.proofs.Stored.{tree-count}
use Rattle.format.proofs.Encoded.{definitions-run}
use Rattle.format.proofs.Admitted.{admitted-parts, definitions-body, definition-stored}
use Rattle.book.specs.declared.kinds.Contents.{Contents}
use Rattle.book.specs.declared.admitted.AdmittedBook.{AdmittedBook}
use Rattle.book.specs.Reading.{contents_of}
use Rattle.book.proofs.Named.{book-of}
use Rattle.environment.proofs.Book.{nodes-known, entries-known}
use Rattle.analysis.specs.Reaching.{Apart, Defining, OwnedBy, OwnersAs, no_rows}

pub rows-length : length no_rows ≡ 4096
unfolding no_rows
rows-length = length-replicate {A = ℕ} 4096 0

pub rows-at : (i : ℕ) → get_or no_rows i 0 ≡ 0
unfolding no_rows
rows-at i = everywhere {A = ℕ} 4096 i 0

-- ---- What is known of a row that a name owns
module _ {ns es : List ℕ} {names nodes definitions : ℕ} (D : Defining ns es names nodes definitions) where
  pub body-inside : (d : ℕ) → d < definitions → (entry_at es d).root + (row_at ns (entry_at es d).root).size ≤ nodes
  body-inside d h = (D.known.tree (entry_at es d).root (D.entries.root d (omega arith) h)).ends

  pub owned-inside : {i n : ℕ} → OwnedBy ns es definitions i n → i < nodes
  owned-inside o = omega (arith, o.until, body-inside o.entry o.below)

  pub owned-small : {i n : ℕ} → OwnedBy ns es definitions i n → n < 1024
  owned-small o = omega (arith, o.name, D.entries.name o.entry (omega arith) o.below, D.known.few_names)

  -- what the table has is at most 1,024
  pub owner-small : {owners : List ℕ} → OwnersAs ns es definitions owners → (i n : ℕ) → get_or owners i 0 ≡ suc n → n < 1024
  owner-small o i n e = owned-small ((o.exact i n).1 e)

-- ---- The loop over the definitions: rows of the definitions before d are written
pub record Written (ns es : List ℕ) (owners : List ℕ) (told d : ℕ) : Type 0 where
  pub long : length owners ≡ 4096
  pub sound : (i n : ℕ) → get_or owners i 0 ≡ suc n → OwnedBy ns es told i n
  pub complete : (i n : ℕ) → OwnedBy ns es d i n → get_or owners i 0 ≡ suc n

pub record OwnersLeft (ns es : List ℕ) (definitions : ℕ) (owners : List ℕ) (d : ℕ) : Type 0 where
  pub passed : d ≤ definitions
  pub written : Written ns es owners d d

-- ---- A part that is filled
module _ (owners : List ℕ) (a e v : ℕ) (ys : List ℕ) (h : a ≤ e) (l : e ≤ length owners) (is : ys ≡ replicate (e - a) v) where
  abbrev filled : List ℕ
  filled = put_mid a (e - a) owners ys

  long : length ys ≡ e - a
  long = ap length is ∙ length-replicate {A = ℕ} (e - a) v

  filled-length : length filled ≡ length owners
  filled-length = search (rules, places)

  filled-in : (j : ℕ) → a ≤ j → j < e → get_or filled j 0 ≡ v
  filled-in j b c =
      let some : j - a < e - a = omega arith in
      let here : get_or filled j 0 ≡ get_or ys (j - a) 0 = search (rules, places) in
      here ∙ ap (λ (q : List ℕ). get_or q (j - a) 0) is ∙ get_or-replicate {A = ℕ} (e - a) (j - a) v 0 some

  filled-out : (j : ℕ) → (j < a) ⊎ (e ≤ j) → get_or filled j 0 ≡ get_or owners j 0
  filled-out j (inl b) = search (rules, places)
  filled-out j (inr b) = search (rules, places)

pub owners-start : (ns es : List ℕ) (definitions : ℕ) (owners : List ℕ) → owners ≡ no_rows → {d : ℕ} → d ≡ 0 → OwnersLeft ns es definitions owners d
owners-start ns es definitions owners e is =
    record {
      passed = omega arith;
      written = record {
        long = ap length e ∙ rows-length;
        sound = λ i n q. let z : 0 ≡ suc n = sym (ap (λ (l : List ℕ). get_or l i 0) e ∙ rows-at i) ∙ q in let f : ⊥ = omega arith in absurd f;
        complete = λ i n o. let f : ⊥ = omega (arith, o.below) in absurd f;
      };
    }

owned-later : {ns es : List ℕ} {d d' i n : ℕ} → d ≤ d' → OwnedBy ns es d i n → OwnedBy ns es d' i n
owned-later h o = record { entry = o.entry; below = omega (arith, o.below); name = o.name; from = o.from; until = o.until }

module _ {ns es : List ℕ} {names nodes definitions : ℕ} (D : Defining ns es names nodes definitions) where
  pub owners-end : {owners : List ℕ} {d : ℕ} → OwnersLeft ns es definitions owners d → definitions ≤ d → OwnersAs ns es definitions owners
  owners-end {owners} {d} l h =
      let e : d ≡ definitions = omega (arith, l.passed) in
      let w : Written ns es owners definitions definitions = subst (λ (k : ℕ). Written ns es owners k k) e l.written in
      record { long = w.long; exact = λ i n. (w.complete i n, w.sound i n) }

  module _ {d : ℕ} (h : d < definitions) (e : Entry) (is : e ≡ entry_at es d) where
    pub root-inside : e.root < nodes
    root-inside = rw is (D.entries.root d (omega arith) h)

    pub name-inside : e.name < 1024
    name-inside = rw is (omega (arith, D.entries.name d (omega arith) h, D.known.few_names))

    module _ (t : Row) (at : t ≡ row_at ns e.root) where
      until-is : e.root + t.size ≡ (entry_at es d).root + (row_at ns (entry_at es d).root).size
      until-is = ap (λ (r : Row). e.root + r.size) at ∙ ap (λ (x : Entry). x.root + (row_at ns x.root).size) is

      pub until-inside : e.root + t.size ≤ nodes
      until-inside = omega (arith, until-is, body-inside D d h)

      -- the rows of its body are filled with its name
      pub owners-on : {owners ys : List ℕ} → OwnersLeft ns es definitions owners d → ys ≡ replicate (e.root + t.size - e.root) (e.name + 1) →
          OwnersLeft ns es definitions (put_mid e.root (e.root + t.size - e.root) owners ys) (d + 1)
      owners-on {owners} {ys} l filled =
          record {
            passed = omega arith;
            written = record {
              long = filled-length owners e.root (e.root + t.size) (e.name + 1) ys (omega arith) inside filled ∙ l.written.long;
              sound = λ i n q. sound i n q (dec_lt i e.root) (dec_lt i (e.root + t.size));
              complete = λ i n o. complete i n o (ℕ_discrete o.entry d);
            };
          }
        where
          root : e.root ≡ (entry_at es d).root
          root = ap (λ (x : Entry). x.root) is

          name : e.name ≡ (entry_at es d).name
          name = ap (λ (x : Entry). x.name) is

          inside : e.root + t.size ≤ length owners
          inside = omega (arith, until-inside, D.known.few_nodes, l.written.long)

          in-it : (i : ℕ) → e.root ≤ i → i < e.root + t.size → get_or (put_mid e.root (e.root + t.size - e.root) owners ys) i 0 ≡ e.name + 1
          in-it = filled-in owners e.root (e.root + t.size) (e.name + 1) ys (omega arith) inside filled

          out-of-it : (i : ℕ) → (i < e.root) ⊎ (e.root + t.size ≤ i) → get_or (put_mid e.root (e.root + t.size - e.root) owners ys) i 0 ≡ get_or owners i 0
          out-of-it = filled-out owners e.root (e.root + t.size) (e.name + 1) ys (omega arith) inside filled

          sound : (i n : ℕ) → get_or (put_mid e.root (e.root + t.size - e.root) owners ys) i 0 ≡ suc n → Dec (i < e.root) → Dec (i < e.root + t.size) → OwnedBy ns es (d + 1) i n
          sound i n q (yes b) c = owned-later (omega arith) (l.written.sound i n (sym (out-of-it i (inl b)) ∙ q))
          sound i n q (no b) (yes c) =
              record { entry = d; below = omega arith; name = omega (arith, name, in-it i (omega arith) c); from = omega (arith, root); until = omega (arith, until-is) }
          sound i n q (no b) (no c) = owned-later (omega arith) (l.written.sound i n (sym (out-of-it i (inr (omega arith))) ∙ q))

          complete : (i n : ℕ) (o : OwnedBy ns es (d + 1) i n) → Dec (o.entry ≡ d) → get_or (put_mid e.root (e.root + t.size - e.root) owners ys) i 0 ≡ suc n
          complete i n o (yes z) =
              let from : (entry_at es o.entry).root ≡ (entry_at es d).root = ap (λ (k : ℕ). (entry_at es k).root) z in
              let size : (row_at ns (entry_at es o.entry).root).size ≡ (row_at ns (entry_at es d).root).size = ap (λ (k : ℕ). (row_at ns k).size) from in
              let named : (entry_at es o.entry).name ≡ (entry_at es d).name = ap (λ (k : ℕ). (entry_at es k).name) z in
              in-it i (omega (arith, o.from, root)) (omega (arith, o.until, until-is)) ∙ omega (arith, name, o.name)
          complete i n o (no z) =
              let before : o.entry < d = omega (arith, o.below) in
              out-of-it i (inl (omega (arith, o.until, D.bodies.apart o.entry d before h, root)))
              ∙ l.written.complete i n record { entry = o.entry; below = before; name = o.name; from = o.from; until = o.until }

-- ---- Definitions that lie end to end lie apart
later-root : (next : ℕ) (ds : List Definition) (j : ℕ) (x : Entry) → j < length ds → next ≤ (get_or (definition_entries next ds) j x).root
unfolding definition_entries
later-root next [] j x h = let z : ⊥ = omega arith in absurd z
later-root next (d ∷ ds) zero x h = omega arith
later-root next (d ∷ ds) (suc j) x h = omega (arith, later-root (next + count d.body) ds j x (omega arith))

apart-roots : (next : ℕ) (ds : List Definition) (i j : ℕ) (x : Entry) (y : Definition) → i < j → j < length ds →
    (get_or (definition_entries next ds) i x).root + count (get_or ds i y).body ≤ (get_or (definition_entries next ds) j x).root
unfolding definition_entries
apart-roots next [] i j x y l h = let z : ⊥ = omega arith in absurd z
apart-roots next (d ∷ ds) i zero x y l h = let z : ⊥ = omega arith in absurd z
apart-roots next (d ∷ ds) zero (suc j) x y l h = later-root (next + count d.body) ds j x (omega arith)
apart-roots next (d ∷ ds) (suc i) (suc j) x y l h = apart-roots (next + count d.body) ds i j x y (omega arith) (omega arith)

module _ (bs : List ℕ) {b : Book} (w : layout bs ≡ whole b) where
  entry-is : (i : ℕ) → i < length b.definitions → get_or (definition_entries 0 b.definitions) i (entry_at (definitions_part bs) 0) ≡ entry_at (definitions_part bs) i
  entry-is i h =
      let es : ℕ → Entry = entry_at (definitions_part bs) in
      let all : run es 0 (length b.definitions) ≡ definition_entries 0 b.definitions = rw (definitions-body bs w) (definitions-run (admitted-parts bs w)) in
      ap (λ (l : List Entry). get_or l i (es 0)) (sym all) ∙ run-at es 0 (length b.definitions) i (es 0) h ∙ ap es (zero-add i)

  pub admitted-apart : (definitions : ℕ) → definitions ≤ length b.definitions → Apart (nodes_part bs) (definitions_part bs) definitions
  admitted-apart definitions few = record { apart = go }
    where
      go : (c d : ℕ) → c < d → d < definitions →
          (entry_at (definitions_part bs) c).root + (row_at (nodes_part bs) (entry_at (definitions_part bs) c).root).size ≤ (entry_at (definitions_part bs) d).root
      go c d l h =
          let y : Definition = definition_at (nodes_part bs) (entry_at (definitions_part bs) c) in
          let s = definition-stored bs w c (omega arith) in
          let size : count (get_or b.definitions c y).body ≡ (row_at (nodes_part bs) (entry_at (definitions_part bs) c).root).size =
          ap (λ (x : Definition). count x.body) (s.is y) ∙ tree-count s.tree.whole in
          omega (
            arith,
            size,
            ap (λ (x : Entry). x.root) (entry-is c (omega arith)),
            ap (λ (x : Entry). x.root) (entry-is d (omega arith)),
            apart-roots 0 b.definitions c d (entry_at (definitions_part bs) 0) y l (omega arith),
          )

  -- What an admitted book gives.
  pub admitted-defining : (definitions : ℕ) → definitions ≤ length b.definitions → Defining (nodes_part bs) (definitions_part bs) (length b.names) (count (trees b)) definitions
  admitted-defining definitions few =
      record { known = nodes-known bs w; entries = entries-known bs w 0 definitions (omega arith) few; bodies = admitted-apart definitions few }

-- The same of a book as the code has it, and of its parts.
pub book-defining : (b : AdmittedBook) (definitions : ℕ) → definitions ≤ b.contents.definitions → {ns es : List ℕ} → ns ≡ nodes_part b.bytes.now → es ≡ definitions_part b.bytes.now →
    Defining ns es b.contents.names b.contents.nodes definitions
unfolding contents_of
book-defining b definitions few {ns} {es} rows entries =
    let a = book-of b.bytes.now b.contents b.laid in
    rw (rows, entries)
    (subst (λ (c : Contents). Defining (nodes_part b.bytes.now) (definitions_part b.bytes.now) c.names c.nodes definitions) a.table
    (admitted-defining b.bytes.now a.laid definitions (subst (λ (c : Contents). definitions ≤ c.definitions) (sym a.table) few)))
