-- From the tests that `layout` makes, on the parts that a table of contents states, to what the bytes are. Assumes nothing.
use mathlib.Core.Path.{◌≡◌, sym, ap, subst}
use mathlib.Core.List.{List}
use Prim.Native.Nat.{ℕ}
use lib.Dec.{T}
use lib.ListN.{length}
use Rattle.format.specs.declared.Place.TheVariants.{Root}
use Rattle.format.specs.Layout.{le32, run, entry_at, part, names_part, nodes_part, definitions_part, files_part, row_trees, read}
use Rattle.format.specs.Rules.{Bytes, good_entries, Names, Rules}
use Rattle.format.specs.Rules as rules
use Rattle.format.proofs.Theorems.{rules-whole, rules-broken, rules-placed}
use Rattle.book.specs.declared.kinds.Contents.{Contents}
use Rattle.std.specs.Prelude.{None, Some}
use Rattle.book.specs.Reading.{contents_of, reading}
use Rattle.book.specs.Steps.{Stated, Good}

-- ---- The answers
pub reading-broken : (bs : List ℕ) → (Rules bs → ⊥) → None ≡ reading bs
unfolding reading
reading-broken bs n = rw (rules-broken bs n)

-- the table of contents that bytes state
abbrev stated : List ℕ → Contents
stated bs =
    record {
      names = le32 bs 4;
      nodes_at = le32 bs 8;
      nodes = le32 bs 12;
      definitions_at = le32 bs 16;
      definitions = le32 bs 20;
      files_at = le32 bs 24;
      files = le32 bs 28;
    }

is-stated : {bs : List ℕ} {c : Contents} → Stated bs c → c ≡ stated bs
is-stated s =
    λ i.
    record {
      names = s.names i;
      nodes_at = s.nodes_at i;
      nodes = s.nodes i;
      definitions_at = s.definitions_at i;
      definitions = s.definitions i;
      files_at = s.files_at i;
      files = s.files i;
    }

pub reading-whole : {bs : List ℕ} {c : Contents} → Bytes bs → Rules bs → Stated bs c → Some c ≡ reading bs
unfolding reading contents_of
reading-whole {bs} {c} h r s =
    let p = rules-placed bs h r in
    let e : contents_of (read bs) ≡ stated bs = cc (p.names, p.nodes_at, p.nodes, p.definitions_at, p.definitions, p.files_at, p.files) in
    rw (rules-whole bs h r, e) (ap Some (is-stated s))

-- ---- The parts
abbrev pub names_in : List ℕ → Contents → List ℕ
names_in bs c = part 32 c.nodes_at bs

abbrev pub nodes_in : List ℕ → Contents → List ℕ
nodes_in bs c = part c.nodes_at c.definitions_at bs

abbrev pub definitions_in : List ℕ → Contents → List ℕ
definitions_in bs c = part c.definitions_at c.files_at bs

abbrev pub files_in : List ℕ → Contents → List ℕ
files_in bs c = part c.files_at (length bs) bs

abbrev NamesGood : List ℕ → Contents → Type 0
NamesGood bs c = Names c.names (names_in bs c)

abbrev NodesGood : List ℕ → Contents → Type 0
NodesGood bs c = Good c.names Root (nodes_in bs c) 0 c.nodes

abbrev EntriesGood : List ℕ → Contents → Type 0
EntriesGood bs c =
    T (good_entries c.names c.files 0 0 (run (entry_at (definitions_in bs c)) 0 c.definitions)
    (run (entry_at (files_in bs c)) 0 c.files) (row_trees (nodes_in bs c) 0 c.nodes))

module _ {bs : List ℕ} {c : Contents} (s : Stated bs c) where
  pub names-good : Rules bs → NamesGood bs c
  unfolding names_part
  names-good r = subst (NamesGood bs) (sym (is-stated s)) r.names

  pub nodes-good : Rules bs → NodesGood bs c
  unfolding nodes_part
  nodes-good r = subst (NodesGood bs) (sym (is-stated s)) (record { sized = r.sized; fine = r.nodes })

  pub entries-good : Rules bs → EntriesGood bs c
  unfolding nodes_part definitions_part files_part
  entries-good r = subst (EntriesGood bs) (sym (is-stated s)) r.entries

  pub all-good : rules.Contents bs → NamesGood bs c → NodesGood bs c → EntriesGood bs c → Rules bs
  unfolding names_part nodes_part definitions_part files_part
  all-good k n g e =
      let g' : NodesGood bs (stated bs) = subst (NodesGood bs) (is-stated s) g in
      record {
        contents = k;
        names = subst (NamesGood bs) (is-stated s) n;
        sized = g'.sized;
        nodes = g'.fine;
        entries = subst (EntriesGood bs) (is-stated s) e;
      }
