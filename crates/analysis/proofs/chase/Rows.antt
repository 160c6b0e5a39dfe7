-- The loop of `chase`: the rows that are left, and those that wait, lead where all of them do. Assumes nothing.
--     resume                       what becomes of a state once the names that wait are listed and gone on from
--     RowsLeft, rows-start, ..     the loop
--     Named, rows-unbound, ..      the next row is a new name, without definition or with one
--     rows-back                    no new name is left, and the last name that waits is listed
use mathlib.Core.Path.{◌≡◌, refl, sym, ap, subst, ◌∙◌}
use mathlib.Core.Bool.{true, false}
use mathlib.Core.List.{List, [], ◌∷◌, ◌++◌}
use Prim.Native.Nat.{ℕ, suc, ◌+◌, ◌-◌, ◌≤◌, ◌<◌}
use native.Mathlib.Omega.{arith}
use Rattle.std.proofs.Common.{length, get_or, length-append, ◌↔◌, Option, Some, None, IsSome, Result, Ok, Err}
use Rattle.std.specs.List.{All}
use Rattle.std.proofs.lemmas.List.Elements.{All-nil, All-push, All-pop}
use Rattle.format.specs.Encode.{Row}
use Rattle.format.specs.Book.{Definition}
use Rattle.format.specs.Layout.{row_at, siblings}
use Rattle.format.specs.Whole.{Within, tree_at}
use Rattle.format.proofs.Logic.{clash}
use Rattle.judgement.specs.Environment.{body, find_type}
use Rattle.judgement.specs.Check.{member}
use Rattle.judgement.proofs.Lookup.{found-defined}
use Rattle.environment.specs.Tables.{Binds, found_at}
use Rattle.book.specs.Tables.{is_set}
use Rattle.environment.proofs.Links.{found-none, found-some}
use Rattle.refusals.specs.declared.Refusal.{Refusal}
use Rattle.refusals.specs.declared.Refusal.TheVariants.{Unbound}
use Rattle.listing.specs.Chase.{Walk as State, going, unbound, push, chase, visit}
use Rattle.listing.proofs.Leaves.{each}
use Rattle.analysis.specs.declared.chase.Walk.{Walk}
use Rattle.book.specs.declared.walks.Waiting.{Waiting}
use Rattle.analysis.proofs.BookNodes.{Readable}
use Rattle.analysis.specs.Walking.{Goes, Holds, Started, fuel, ChasedAs, is_new, NoneNew, FirstNew}
use Rattle.analysis.proofs.BookNodes.{here-within, here-ends, here-small, here-readable, row_names}
use Rattle.analysis.proofs.chase.NewNames.{new-kind, new-unset}
use Rattle.analysis.proofs.chase.Steps.{chase-rows, each-stopped, visit-missing, visit-body, rows-none, rows-name, rows-skip, marked, goes-short, goes-enter, goes-list}

-- The names of the rows from row i up to row e, crossing at most k names.
abbrev pub through : List ℕ → List Definition → (k i e : ℕ) → State → State
through ns ds k i e = each (visit k ds) (row_names ns i e)

-- ---- What waits

-- The name that waits is listed, and the rows after it are gone through up to their end.
abbrev pub listed : List ℕ → List Definition → ℕ → Waiting → State → State
listed ns ds k w s = through ns ds k (w.row + 1) w.end (push (row_at ns w.row).value s)

-- So for each that waits, the last one first; d wait below these.
unfoldable pub resume : List ℕ → List Definition → ℕ → List Waiting → State → State
resume ns ds d [] s = s
resume ns ds d (w ∷ ws) s = listed ns ds (fuel ds - d) w (resume ns ds (suc d) ws s)

module _ (ns : List ℕ) (ds : List Definition) where
  resume-stopped : (d : ℕ) (ws : List Waiting) (m : ℕ) → resume ns ds d ws (unbound m) ≡ unbound m
  unfolding resume push
  resume-stopped d [] m = refl
  resume-stopped d (w ∷ ws) m =
      ap (listed ns ds (fuel ds - d) w) (resume-stopped (suc d) ws m) ∙ each-stopped ds (fuel ds - d) (row_names ns (w.row + 1) w.end) m

  resume-push : (d : ℕ) (ws : List Waiting) (w : Waiting) (s : State) →
      resume ns ds d (ws ++ (w ∷ [])) s ≡ resume ns ds d ws (listed ns ds (fuel ds - (d + length ws)) w s)
  unfolding resume
  resume-push d [] w s = let z : d ≡ d + 0 = omega arith in ap (λ (k : ℕ). listed ns ds (fuel ds - k) w s) z
  resume-push d (v ∷ ws) w s =
      let z : suc d + length ws ≡ d + suc (length ws) = omega arith in
      ap (listed ns ds (fuel ds - d) v) (resume-push (suc d) ws w s ∙ ap (λ (k : ℕ). resume ns ds (suc d) ws (listed ns ds (fuel ds - k) w s)) z)

-- It stands in a book's rows, and is a name.
pub record Waits (ns : List ℕ) (count : ℕ) (w : Waiting) : Type 0 where
  pub before : w.row < w.end
  pub inside : w.end ≤ count
  pub small : (row_at ns w.row).value < 1024

-- ---- The loop

-- What is left of the rows from row `at` on, and then what waits, is what all of them are from the first state.
pub record Come (ns : List ℕ) (ds : List Definition) (from until : ℕ) (s : State) (ws : List Waiting) (at end : ℕ) (v : Walk) : Type 0 where
  pub seen : List ℕ
  pub out : List ℕ
  pub goes : Goes ds (length ws) seen out v
  pub same : resume ns ds 0 ws (through ns ds (fuel ds - length ws) at end (going seen out)) ≡ through ns ds (fuel ds) from until s

pub record RowsLeft (ns roots : List ℕ) (from until : ℕ) (w : Walk) (ws : List Waiting) (at end : ℕ) (v : Walk) : Type 0 where
  pub readable : Readable ns roots from until
  pub started : Started ns roots w
  pub ordered : at ≤ end
  pub inside : end ≤ readable.rooted.count
  pub waits : All (Waits ns readable.rooted.count) ws
  pub come : (ds : List Definition) (seen out : List ℕ) → Binds ns roots ds → length ds ≤ 512 → Goes ds 0 seen out w →
      Come ns ds from until (going seen out) ws at end v

-- as it begins
pub rows-start : {ns roots : List ℕ} {from until : ℕ} (w : Walk) (ws : List Waiting) → Readable ns roots from until → Started ns roots w → ws ≡ [] →
    RowsLeft ns roots from until w ws from until w
unfolding resume
rows-start {ns} {roots} {from} {until} w ws r t none =
    subst (λ (l : List Waiting). RowsLeft ns roots from until w l from until w) (sym none)
    (record {
      readable = r;
      started = t;
      ordered = r.whole.ordered;
      inside = r.inside;
      waits = All-nil (Waits ns r.rooted.count);
      come = λ ds seen out b few h.
          let top : fuel ds - 0 ≡ fuel ds = omega arith in
          record { seen = seen; out = out; goes = h; same = ap (λ (k : ℕ). through ns ds k from until (going seen out)) top };
    })

module _ {ns roots : List ℕ} {from until : ℕ} {w : Walk} {ws : List Waiting} {at end : ℕ} {v : Walk} (l : RowsLeft ns roots from until w ws at end v) where
  -- from the rows to the trees
  ends-as : (r : Result Walk Refusal) →
      ((ds : List Definition) (seen out : List ℕ) → Binds ns roots ds → length ds ≤ 512 → Goes ds 0 seen out w →
      Holds ds (through ns ds (fuel ds) from until (going seen out)) r) →
      ChasedAs ns roots from until w r
  ends-as r h ds seen out b few g =
      subst (λ (s : State). Holds ds s r) (sym (chase-rows l.readable (visit (fuel ds) ds) (going seen out))) (h ds seen out b few g)

  first : Come ns l.started.definitions from until (going l.started.seen l.started.out) ws at end v
  first = let t = l.started in l.come t.definitions t.seen t.out t.binds t.few t.goes

  -- the names listed and those that wait are all seen
  pub rows-room : length v.listed.items + length ws ≤ 512
  rows-room =
      let g = first.goes in
      omega (arith, g.slack, goes-short l.started.definitions (length ws) g, l.started.few)

  -- names are crossed less deep than the bound
  level : (ds : List Definition) (s : State) (c : Come ns ds from until s ws at end v) → suc (length ds - length ws) ≡ fuel ds - length ws
  level ds s c = omega (arith, c.goes.slack, goes-short ds (length ws) c.goes)

  -- what is skipped changes nothing
  rows-skipped : {j : ℕ} → at ≤ j → j ≤ end → NoneNew ns v.seen at j → RowsLeft ns roots from until w ws j end v
  rows-skipped {j} later inside skipped =
      record {
        readable = l.readable;
        started = l.started;
        ordered = inside;
        inside = l.inside;
        waits = l.waits;
        come = come;
      }
    where
      come : (ds : List Definition) (seen out : List ℕ) → Binds ns roots ds → length ds ≤ 512 → Goes ds 0 seen out w →
          Come ns ds from until (going seen out) ws j end v
      come ds seen out b few h =
          let c = l.come ds seen out b few h in
          let g = going c.seen c.out in
          let skip =
          rows-skip l.readable.rooted.all.nodes v.seen ds (length ds - length ws) c.seen c.out c.goes.marks
          end l.inside at j later inside skipped in
          record {
            seen = c.seen;
            out = c.out;
            goes = c.goes;
            same =
                ap (resume ns ds 0 ws)
                (subst (λ (k : ℕ). through ns ds k j end g ≡ through ns ds k at end g) (level ds (going seen out) c) (sym skip))
                ∙ c.same;
          }

-- ---- Row i is a new name
pub record Named (ns roots : List ℕ) (from until : ℕ) (w : Walk) (ws : List Waiting) (i end : ℕ) (v : Walk) (value : ℕ) : Type 0 where
  pub left : RowsLeft ns roots from until w ws i end v
  pub inside : i < end
  pub new : is_new ns v.seen i ≡ true
  pub is : value ≡ (row_at ns i).value

pub named : {ns roots : List ℕ} {from until : ℕ} {w : Walk} {ws : List Waiting} {at end : ℕ} {v : Walk} →
    RowsLeft ns roots from until w ws at end v → {i : ℕ} → FirstNew ns v.seen at end i →
    (q : Row) → q ≡ row_at ns i → Named ns roots from until w ws i end v q.value
named l {i} n q is =
    record {
      left = rows-skipped l n.later (omega (arith, n.inside)) n.skipped;
      inside = n.inside;
      new = n.new;
      is = ap (λ (r : Row). r.value) is;
    }

module _ {ns roots : List ℕ} {from until : ℕ} {w : Walk} {ws : List Waiting} {i end : ℕ} {v : Walk} {value : ℕ}
    (n : Named ns roots from until w ws i end v value) where
  pub row-within : Within ns (i + 1)
  row-within = here-within n.left.readable.rooted (omega (arith, n.inside, n.left.inside))

  named-kind : (row_at ns i).kind ≡ 18
  named-kind = new-kind ns v.seen i n.new

  pub name-small : value < 1024
  name-small =
      let nodes = n.left.readable.rooted.all.nodes in
      omega (arith, (nodes.row i (omega (arith, n.inside, n.left.inside))).name named-kind, n.is, nodes.few_names)

  module _ {ds : List Definition} {s : State} (c : Come ns ds from until s ws i end v) where
    name-new : member value c.seen ≡ false
    name-new = sym (c.goes.marks value name-small) ∙ ap (is_set v.seen) n.is ∙ new-unset ns v.seen i n.new

    -- the rows from here are the name, and then those after it
    next : let g = going c.seen c.out in
        through ns ds (fuel ds - length ws) i end g ≡ through ns ds (fuel ds - length ws) (i + 1) end (visit (suc (length ds - length ws)) ds value g)
    next =
        let g = going c.seen c.out in
        let k = fuel ds - length ws in
        rows-name ns ds k g i end n.inside named-kind
        ∙ ap (λ (m : ℕ). through ns ds k (i + 1) end (visit k ds m g)) (sym n.is)
        ∙ ap (λ (j : ℕ). through ns ds k (i + 1) end (visit j ds value g)) (sym (level n.left ds s c))

  -- without definition
  pub rows-unbound : get_or roots value 65535 ≡ 65535 → ChasedAs ns roots from until w (Err (Unbound value))
  rows-unbound z =
      ends-as n.left (Err (Unbound value)) λ ds seen out b few h.
      let c = n.left.come ds seen out b few h in
      let missing = b value ∙ found-none ns (get_or roots value 65535) z in
      subst (λ (t : State). Holds ds t (Err (Unbound value)))
      (sym
      (sym c.same
      ∙ ap (resume ns ds 0 ws)
      (next c
      ∙ ap (through ns ds (fuel ds - length ws) (i + 1) end) (visit-missing ds (length ds - length ws) value c.seen c.out (name-new c) missing)
      ∙ each-stopped ds (fuel ds - length ws) (row_names ns (i + 1) end) value)
      ∙ resume-stopped ns ds 0 ws value))
      refl

-- with a definition
module _ {ns roots : List ℕ} {from until : ℕ} {w : Walk} {ws : List Waiting} {i end : ℕ} {v : Walk} {value : ℕ}
    (n : Named ns roots from until w ws i end v value) {root : ℕ} (at-root : root ≡ get_or roots value 65535) (some : root ≡ 65535 → ⊥) where
  body-inside : root < n.left.readable.rooted.count
  body-inside = rw at-root (n.left.readable.rooted.bound.node value (λ e. some (at-root ∙ e)))

  pub body-within : Within ns (root + 1)
  body-within = here-within n.left.readable.rooted body-inside

  found : (ds : List Definition) → Binds ns roots ds → find_type ds value ≡ body (tree_at ns root)
  found ds b = b value ∙ ap (found_at ns) (sym at-root) ∙ found-some ns root some

  enter : {ds : List Definition} {s : State} → Binds ns roots ds → (c : Come ns ds from until s ws i end v) →
      Goes ds (length ws + 1) (value ∷ c.seen) c.out (marked v value)
  enter {ds} b c = goes-enter c.goes value (name-small n) (name-new n c) (found-defined ds value (tree_at ns root) (found ds b))

  -- there is room for one more that waits, and to list it
  pub enter-room : length v.listed.items + length ws < 512
  enter-room =
      let t = n.left.started in
      let g = enter t.binds (first n.left) in
      omega (arith, g.slack, goes-short t.definitions (length ws + 1) g, t.few)

  module _ (q : Row) (is : q ≡ row_at ns root) where
    sized : q.size ≡ (row_at ns root).size
    sized = ap (λ (r : Row). r.size) is

    pub body-small : root + q.size ≤ 4096
    body-small = here-small n.left.readable.rooted body-inside sized

    inner : Readable ns roots root (root + q.size)
    inner = here-readable n.left.readable.rooted body-inside sized

    module _ (x : Waiting) (x-row : x.row ≡ i) (x-end : x.end ≡ end) where
      -- the rows of the definition, and then what waits with the name on top, are the rows from the name on
      enter-same : (ds : List Definition) → Binds ns roots ds → {s : State} (c : Come ns ds from until s ws i end v) →
          resume ns ds 0 (ws ++ (x ∷ []))
          (through ns ds (fuel ds - (length ws + 1)) root (root + q.size) (going (value ∷ c.seen) c.out))
          ≡ resume ns ds 0 ws (through ns ds (fuel ds - length ws) i end (going c.seen c.out))
      enter-same ds b c =
          let s = going (value ∷ c.seen) c.out in
          let k = length ds - length ws in
          let below : State = through ns ds k root (root + q.size) s in
          let tree : chase (visit k ds) (tree_at ns root) s ≡ below =
          ap (λ (z : ℕ). chase (visit k ds) (siblings ns root (root + z)) s) (sym sized) ∙ chase-rows inner (visit k ds) s in
          let less : fuel ds - (length ws + 1) ≡ k = omega arith in
          let none : 0 + length ws ≡ length ws = omega arith in
          let after : State → State = λ (t : State). resume ns ds 0 ws (through ns ds (fuel ds - length ws) (i + 1) end t) in
          ap (λ (j : ℕ). resume ns ds 0 (ws ++ (x ∷ [])) (through ns ds j root (root + q.size) s)) less
          ∙ resume-push ns ds 0 ws x below
          ∙ ap (λ (j : ℕ). resume ns ds 0 ws (listed ns ds (fuel ds - j) x below)) none
          ∙ ap (λ (j : ℕ). resume ns ds 0 ws (through ns ds (fuel ds - length ws) (j + 1) x.end (push (row_at ns j).value below))) x-row
          ∙ ap (λ (j : ℕ). resume ns ds 0 ws (through ns ds (fuel ds - length ws) (i + 1) j (push (row_at ns i).value below))) x-end
          ∙ ap (λ (m : ℕ). after (push m below)) (sym n.is)
          ∙ ap (λ (t : State). after (push value t)) (sym tree)
          ∙ ap after (sym (visit-body ds k value c.seen c.out (name-new n c) (found ds b)))
          ∙ ap (resume ns ds 0 ws) (sym (next n c))

      waits-more : Waits ns n.left.readable.rooted.count x
      waits-more =
          let here : (row_at ns x.row).value ≡ value = ap (λ (j : ℕ). (row_at ns j).value) x-row ∙ sym n.is in
          record {
            before = omega (arith, n.inside, x-row, x-end);
            inside = omega (arith, n.left.inside, x-end);
            small = omega (arith, name-small n, here);
          }

      pub rows-enter : (us : List Waiting) → us ≡ ws ++ (x ∷ []) → RowsLeft ns roots from until w us root (root + q.size) (marked v value)
      rows-enter us more =
          subst (λ (l : List Waiting). RowsLeft ns roots from until w l root (root + q.size) (marked v value)) (sym more)
          (record {
            readable = n.left.readable;
            started = n.left.started;
            ordered = omega arith;
            inside = here-ends n.left.readable.rooted body-inside sized;
            waits = All-push (Waits ns n.left.readable.rooted.count) ws x n.left.waits waits-more;
            come = λ ds seen out b few h.
                let c = n.left.come ds seen out b few h in
                let long : length (ws ++ (x ∷ [])) ≡ length ws + 1 = length-append ws (x ∷ []) in
                record {
                  seen = value ∷ c.seen;
                  out = c.out;
                  goes = subst (λ (d : ℕ). Goes ds d (value ∷ c.seen) c.out (marked v value)) (sym long) (enter b c);
                  same =
                      ap (λ (d : ℕ). resume ns ds 0 (ws ++ (x ∷ [])) (through ns ds (fuel ds - d) root (root + q.size) (going (value ∷ c.seen) c.out))) long
                      ∙ enter-same ds b c ∙ c.same;
                };
          })

-- ---- No new name is left
abbrev none : Option Waiting
none = None

pub none-waits : (ws : List Waiting) → (IsSome none ↔ (0 < length ws)) → ws ≡ []
none-waits [] h = refl
none-waits (x ∷ ws) h = let e : false ≡ true = h.1 (omega arith) in clash cc

module _ {ns roots : List ℕ} {from until : ℕ} {w : Walk} {ws : List Waiting} {at end : ℕ} {v : Walk}
    (l : RowsLeft ns roots from until w ws at end v) (over : NoneNew ns v.seen at end) where
  over-left : RowsLeft ns roots from until w ws end end v
  over-left = rows-skipped l l.ordered (omega arith) over

  -- and none waits
  pub rows-end : ws ≡ [] → ChasedAs ns roots from until w (Ok v)
  unfolding resume
  rows-end none =
      ends-as over-left (Ok v) λ ds seen out b few h.
      let c = subst (λ (us : List Waiting). Come ns ds from until (going seen out) us end end v) none (over-left.come ds seen out b few h) in
      subst (λ (x : State). Holds ds x (Ok v)) (sym (rows-none ns ds (fuel ds - 0) (going c.seen c.out) end end (omega arith)) ∙ c.same) c.goes

  -- and x waits
  module _ (us : List Waiting) (x : Waiting) (last : ws ≡ us ++ (x ∷ [])) where
    both : All (Waits ns l.readable.rooted.count) us × Waits ns l.readable.rooted.count x
    both = All-pop (Waits ns l.readable.rooted.count) ws us (Some x) last l.waits

    pub last-within : Within ns (x.row + 1)
    last-within = let b = both.1 in here-within l.readable.rooted (omega (arith, b.before, b.inside))

    pub long : length ws ≡ length us + 1
    long = ap length last ∙ length-append us (x ∷ [])

    pub list-room : length v.listed.items < 512
    list-room = omega (arith, rows-room l, long)

    module _ (q : Row) (is : q ≡ row_at ns x.row) where
      value-is : (row_at ns x.row).value ≡ q.value
      value-is = ap (λ (r : Row). r.value) (sym is)

      pub last-small : q.value < 1024
      last-small = omega (arith, both.1.small, value-is)

      pub rows-back : (y : Walk) → y.seen ≡ v.seen → y.listed.items ≡ v.listed.items ++ (q.value ∷ []) →
          RowsLeft ns roots from until w us (x.row + 1) x.end y
      unfolding push
      rows-back y s e =
          record {
            readable = l.readable;
            started = l.started;
            ordered = omega (arith, both.1.before);
            inside = both.1.inside;
            waits = both.0;
            come = come;
          }
        where
          come : (ds : List Definition) (seen out : List ℕ) → Binds ns roots ds → length ds ≤ 512 → Goes ds 0 seen out w →
              Come ns ds from until (going seen out) us (x.row + 1) x.end y
          come ds seen out b few h =
              let c = over-left.come ds seen out b few h in
              let g = going c.seen c.out in
              let none : 0 + length us ≡ length us = omega arith in
              record {
                seen = c.seen;
                out = c.out ++ (q.value ∷ []);
                goes = goes-list (length us) (subst (λ (j : ℕ). Goes ds j c.seen c.out v) long c.goes) q.value y s e;
                same =
                    ap (λ (m : ℕ). resume ns ds 0 us (through ns ds (fuel ds - length us) (x.row + 1) x.end (push m g))) (sym value-is)
                    ∙ ap (λ (j : ℕ). resume ns ds 0 us (listed ns ds (fuel ds - j) x g)) (sym none)
                    ∙ sym (resume-push ns ds 0 us x g)
                    ∙ ap (λ (k : List Waiting). resume ns ds 0 k g) (sym last)
                    ∙ ap (resume ns ds 0 ws) (sym (rows-none ns ds (fuel ds - length ws) g end end (omega arith)))
                    ∙ c.same;
              }
