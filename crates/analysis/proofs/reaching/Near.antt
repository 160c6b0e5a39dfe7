-- The loop that finds for each row the first one from it on that is a name with its flag set; theorem `near-says`: what the table of them tells.
-- Assumes nothing.
use mathlib.Core.Path.{◌≡◌, sym, ap, ◌∙◌}
use mathlib.Core.Logic.{◌↔◌}
use mathlib.Core.List.{List}
use Prim.Native.Nat.{ℕ, ◌+◌, ◌≤◌, ◌<◌}
use native.Mathlib.Decide.{dec_lt}
use native.Mathlib.Omega.{arith}
use lib.Dec.{T, ltb}
use lib.ListN.{length, get_or}
use Rattle.format.specs.Encode.{Row}
use Rattle.format.specs.Layout.{row_at}
use Rattle.format.proofs.Logic.{le-says}
use Rattle.format.proofs.References.{everywhere}
use Rattle.environment.specs.Tables.{Nodes}
use Rattle.analysis.specs.Reaching.{Hit, FirstHit, NearAs, KeptFrom, no_places}

-- A name of a book has a flag.
pub name-small : {ns : List ℕ} {names nodes i : ℕ} → Nodes ns names nodes → i < nodes → (t : Row) → t ≡ row_at ns i → t.kind ≡ 18 → t.value < 1024
name-small {i = i} k h t is e =
    let n = (k.row i h).name (sym (ap (λ (r : Row). r.kind) is) ∙ e) in
    omega (arith, n, k.few_names, ap (λ (r : Row). r.value) is)

-- Rows with few names are rows with as many as there may be.
pub widened : {ns : List ℕ} {names nodes : ℕ} → Nodes ns names nodes → Nodes ns 1024 nodes
widened k =
    record {
      few_names = omega arith;
      few_nodes = k.few_nodes;
      within = k.within;
      tree = k.tree;
      row = λ n h.
          let r = k.row n h in
          record { kind = r.kind; lkind = r.lkind; name = λ e. omega (arith, r.name e, k.few_names); label = λ e. omega (arith, r.label e, k.few_names); same = r.same };
    }

-- ---- All rows from i on are done
pub record NearLeft (ns flags : List ℕ) (nodes : ℕ) (old near : List ℕ) (last i : ℕ) : Type 0 where
  pub inside : i ≤ nodes
  pub long : length near ≡ 4097
  pub here : FirstHit ns flags i nodes last
  pub done : (j : ℕ) → i ≤ j → j ≤ nodes → FirstHit ns flags j nodes (get_or near j 0)
  pub rest : KeptFrom (nodes + 1) old near

pub places-at : (i : ℕ) → get_or no_places i 0 ≡ 0
unfolding no_places
places-at i = everywhere {A = ℕ} 4097 i 0

-- ---- What the table tells: a name with its flag set stands between row i and row e
pub record HitBetween (ns flags : List ℕ) (i e : ℕ) : Type 0 where
  pub row : ℕ
  pub from : i ≤ row
  pub until : row < e
  pub hit : Hit ns flags row

pub near-says : {ns flags near : List ℕ} {nodes : ℕ} → NearAs ns flags nodes near → (i e : ℕ) → i ≤ e → e ≤ nodes → T (ltb (get_or near i 0) e) ↔ HitBetween ns flags i e
near-says {ns} {flags} {near} {nodes} a i e h until = (
  λ t. let lt : get_or near i 0 < e = (le-says _ _).0 t in record { row = get_or near i 0; from = first.later; until = lt; hit = first.some (omega arith) },
  λ b. (le-says _ _).1 (go b (dec_lt (get_or near i 0) e)),
)
  where
    first : FirstHit ns flags i nodes (get_or near i 0)
    first = a.first i (omega arith)

    go : HitBetween ns flags i e → Dec (get_or near i 0 < e) → get_or near i 0 < e
    go b (yes lt) = lt
    go b (no ge) = absurd (first.none b.row b.from (omega (arith, b.until)) b.hit)
