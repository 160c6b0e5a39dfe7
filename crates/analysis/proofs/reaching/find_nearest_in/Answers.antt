-- `reaching::find_nearest_in` meets its contract: the table of links is the table of first rows, before that is made. Assumes nothing.
use mathlib.Core.Path.{refl, ap, ◌∙◌}
use mathlib.Core.List.{List}
use Prim.Native.Nat.{ℕ}
use native.Mathlib.Omega.{arith}
use lib.ListN.{get_or}
use Rattle.book.specs.Tables.{zero_table}
use Rattle.analysis.specs.Reaching.{no_rows}
use Rattle.analysis.proofs.reaching.Near.{places-at}
use Rattle.analysis.proofs.reaching.find_nearest_in.Goals as goal

pub owners-requires : goal.owners-requires
unfolding no_rows
owners-requires c = ((_, _, c.requires.0.1), refl)

pub link-requires : goal.link-requires
unfolding zero_table
link-requires c = refl

pub returns : goal.returns
returns c =
    let p = c.requires in
    record {
      flags = _;
      reach = c.reaching-flags.ensures record {
        rows = _;
        entries = _;
        names = _;
        nodes = _;
        definitions = _;
        book = p.0.1;
        owned = c.owners.ensures;
        links = c.link.ensures.0;
      };
      first = c.nearest.ensures.0;
      rest = λ i h. c.nearest.ensures.1.kept i (omega arith)
          ∙ c.link.ensures.1.kept i (λ v b n. omega arith)
          ∙ ap (λ (t : List ℕ). get_or t i 0) p.1
          ∙ places-at i;
    }
