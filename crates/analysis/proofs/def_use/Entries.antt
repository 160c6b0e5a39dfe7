-- Laws of entries in a lent slice, and of the sites that pass a test. Assumes nothing.
--     puts-one                                      an entry by its numbers
--     put-append, put-length, put-none, put-flat    entries after entries; without places; and where there is a place for each
--     Leads                                         what is left to put, in a loop
--     puts-all, puts-counts                         what a caller has of them
--     uses-append, uses-one                         entries of sites
use mathlib.Core.Path.{◌≡◌, refl, sym, ap, ap₂, subst, ◌∙◌}
use mathlib.Core.Bool.{Bool, true, false, cond}
use mathlib.Core.List.{List, [], ◌∷◌, ◌++◌, map, append_assoc}
use Prim.Native.Nat.{ℕ, suc, ◌+◌, ◌*◌, ◌/◌, ◌≤◌, ◌<◌}
use native.Mathlib.Nat.{add-zero, add-suc, suc-add, zero-add}
use native.Mathlib.Decide.{dec_lt}
use native.Mathlib.Omega.{arith}
use borrow.Author.Tests.{lt-ltb, le-ltb}
use lib.Dec.{ltb}
use Rattle.std.proofs.lemmas.Bool.{le-leb, lt-leb}
use lib.ListN.{length, set, drop, length-append}
use lib.Seq.{sets, length-sets, sets-eq}
use Rattle.refusals.specs.Lists.{flat}
use Rattle.refusals.specs.Handed.{Use, numbers}
use Rattle.listing.specs.Sites.{Site}
use Rattle.listing.specs.Uses.{kept, entry_of}
use Rattle.listing.proofs.Delivered.{flat-length}
use Rattle.analysis.specs.Places.{put_at}
use Rattle.analysis.specs.Entries.{Test, uses_by, put, put_all, Puts}

-- ---- One entry
pub put-in : (places k : ℕ) (e : Use) (old : List ℕ) → k < places → put places k e old ≡ sets old (3 * k) (numbers e)
unfolding put
put-in places k e old h = rw (lt-ltb k places h)

pub put-out : (places k : ℕ) (e : Use) (old : List ℕ) → places ≤ k → put places k e old ≡ old
unfolding put
put-out places k e old h = rw (le-ltb k places h)

-- As numbers are put.
put-stored : (k : ℕ) (e : Use) (old : List ℕ) → put_at k (numbers e) old ≡ put (length old / 3) k e old
unfolding put_at numbers
put-stored k e old =
    elim (dec_lt k (length old / 3)) [
      | yes h ↦ rw (le-leb (3 * k + 3) (length old) (omega arith)) (sym (put-in (length old / 3) k e old h))
      | no h ↦ rw (lt-leb (3 * k + 3) (length old) (omega arith)) (sym (put-out (length old / 3) k e old (omega arith)))
    ]

put-keeps : (places k : ℕ) (e : Use) (old : List ℕ) → length (put places k e old) ≡ length old
unfolding put
put-keeps places k e old = go (ltb k places)
  where
    go : (b : Bool) → length (cond b (sets old (3 * k) (numbers e)) old) ≡ length old
    go true = length-sets old (3 * k) (numbers e)
    go false = refl

-- ---- Entries
module _ (places : ℕ) where
  pub put-append : (k : ℕ) (es fs : List Use) (old : List ℕ) → put_all places k (es ++ fs) old ≡ put_all places (k + length es) fs (put_all places k es old)
  unfolding put_all
  put-append k [] fs old = ap (λ (j : ℕ). put_all places j fs old) (sym (add-zero k))
  put-append k (e ∷ es) fs old =
      put-append (suc k) es fs (put places k e old) ∙ ap (λ (j : ℕ). put_all places j fs (put_all places (suc k) es (put places k e old))) (suc-add k (length es) ∙ sym (add-suc k (length es)))

  pub put-length : (k : ℕ) (es : List Use) (old : List ℕ) → length (put_all places k es old) ≡ length old
  unfolding put_all
  put-length k [] old = refl
  put-length k (e ∷ es) old = put-length (suc k) es (put places k e old) ∙ put-keeps places k e old

-- A slice without places is left as it was.
pub put-none : (places k : ℕ) (es : List Use) (old : List ℕ) → places ≡ 0 → put_all places k es old ≡ old
unfolding put_all
put-none places k [] old z = refl
put-none places k (e ∷ es) old z = put-none places (suc k) es (put places k e old) z ∙ put-out places k e old (omega arith)

-- Where each entry has a place, their numbers stand one after the other.
sets-append : (xs ys l : List ℕ) (i : ℕ) → sets l i (xs ++ ys) ≡ sets (sets l i xs) (i + length xs) ys
sets-append [] ys l i = ap (λ (j : ℕ). sets l j ys) (sym (add-zero i))
sets-append (x ∷ xs) ys l i =
    sets-append xs ys (set l i x) (suc i) ∙ ap (λ (j : ℕ). sets (sets (set l i x) (suc i) xs) j ys) (suc-add i (length xs) ∙ sym (add-suc i (length xs)))

put-sets : (places k : ℕ) (es : List Use) (old : List ℕ) → k + length es ≤ places → put_all places k es old ≡ sets old (3 * k) (flat numbers es)
unfolding put_all flat numbers
put-sets places k [] old h = refl
put-sets places k (e ∷ es) old h =
    let on : 3 * suc k ≡ 3 * k + length (numbers e) = omega arith in
    put-sets places (suc k) es (put places k e old) (omega arith)
    ∙ ap₂ (λ (l : List ℕ) (j : ℕ). sets l j (flat numbers es)) (put-in places k e old (omega arith)) on
    ∙ sym (sets-append (numbers e) (flat numbers es) old (3 * k))

pub put-flat : (places : ℕ) (es : List Use) (old : List ℕ) → 3 * places ≤ length old → length es ≤ places →
    put_all places 0 es old ≡ flat numbers es ++ drop (3 * length es) old
put-flat places es old room enough =
    put-sets places 0 es old (omega arith)
    ∙ sets-eq (flat numbers es) old 0 (omega (arith, flat-length es))
    ∙ ap (λ (j : ℕ). flat numbers es ++ drop j old) (zero-add (length (flat numbers es)) ∙ flat-length es)

-- ---- What entries make of a slice, and of their count
pub puts-none : (places k : ℕ) (old : List ℕ) → Puts places k [] old old k
unfolding put_all
puts-none places k old = record { counted = sym (add-zero k); written = refl }

pub puts-then : {places k : ℕ} {es fs : List Use} {old mid new : List ℕ} {at next : ℕ} → Puts places k es old mid at → Puts places at fs mid new next → Puts places k (es ++ fs) old new next
puts-then {places} {k} {es} {fs} {old} {mid} p q =
    record {
      counted = omega (arith, p.counted, q.counted, length-append es fs);
      written = q.written ∙ ap₂ (λ (j : ℕ) (l : List ℕ). put_all places j fs l) p.counted p.written ∙ sym (put-append places k es fs old);
    }

pub puts-long : {places k next : ℕ} {es : List Use} {old new : List ℕ} → Puts places k es old new next → length new ≡ length old
puts-long {places} {k} {es = es} {old = old} p = ap length p.written ∙ put-length places k es old

-- Places are as many in a slice that keeps its length.
pub puts-places : (a b : List ℕ) → length a ≡ length b → {k next : ℕ} {es : List Use} {old new : List ℕ} → Puts (length a / 3) k es old new next → Puts (length b / 3) k es old new next
puts-places a b e {k} {next} {es} {old} {new} p = subst (λ (n : ℕ). Puts (n / 3) k es old new next) e p

-- one entry, by its numbers
pub puts-one : {k next m r q i : ℕ} {old new : List ℕ} → new ≡ put_at k (m ∷ r ∷ i ∷ []) old → next ≡ k + 1 → r ≡ q → Puts (length old / 3) k (record { method = m; result = q; index = i } ∷ []) old new next
unfolding put_all numbers
puts-one {k} {next} {m} {r} {q} {i} {old} {new} e n is =
    record { counted = n; written = e ∙ ap (λ (j : ℕ). put_at k (m ∷ j ∷ i ∷ []) old) is ∙ put-stored k (record { method = m; result = q; index = i }) old }

-- First without places, which counts; then with them.
pub puts-counts : {places k next : ℕ} {es : List Use} {old new : List ℕ} → Puts places k es old new next → places ≡ 0 → new ≡ old
puts-counts {places} {k} {es = es} {old = old} p z = p.written ∙ put-none places k es old z

pub puts-all : {places next : ℕ} {es : List Use} {old new : List ℕ} → Puts places 0 es old new next → 3 * places ≤ length old → next ≤ places →
    new ≡ flat numbers es ++ drop (3 * next) old
puts-all {places} {next} {es} {old} p room enough =
    let all : length es ≡ next = omega (arith, p.counted) in
    p.written ∙ put-flat places es old room (omega (arith, p.counted)) ∙ ap (λ (j : ℕ). flat numbers es ++ drop (3 * j) old) all

-- ---- A loop: what is left to put, from `at` on, completes all that is put from k on
pub record Leads (places k : ℕ) (old : List ℕ) (all : List Use) (at : ℕ) (mid : List ℕ) (rest : List Use) : Type 0 where
  pub leads : (new : List ℕ) (next : ℕ) → Puts places at rest mid new next → Puts places k all old new next

pub leads-start : (places k : ℕ) (old : List ℕ) (all : List Use) → Leads places k old all k old all
leads-start places k old all = record { leads = λ new next p. p }

module _ {places k at : ℕ} {old mid : List ℕ} {all rest : List Use} (l : Leads places k old all at mid rest) where
  pub leads-on : {mid' : List ℕ} {at' : ℕ} (es rest' : List Use) → rest ≡ es ++ rest' → Puts places at es mid mid' at' → Leads places k old all at' mid' rest'
  leads-on es rest' e p = record { leads = λ new next q. l.leads new next (subst (λ (r : List Use). Puts places at r mid new next) (sym e) (puts-then p q)) }

  pub leads-end : rest ≡ [] → Puts places k all old mid at
  leads-end e = l.leads mid at (subst (λ (r : List Use). Puts places at r mid mid at) (sym e) (puts-none places at mid))

-- ---- The entries of sites
module _ (used : Test) where
  -- One site's entry, or none.
  abbrev pub one_use : Site → List Use
  one_use s = cond (used s.type) (s.entry ∷ []) []

  pub uses-one : (s : Site) (ss : List Site) → uses_by used (s ∷ ss) ≡ one_use s ++ uses_by used ss
  unfolding uses_by kept
  uses-one s ss = go (used s.type)
    where
      go : (b : Bool) → map entry_of (cond b (s ∷ kept (λ (s : Site). used s.type) ss) (kept (λ (s : Site). used s.type) ss)) ≡ cond b (s.entry ∷ []) [] ++ map entry_of (kept (λ (s : Site). used s.type) ss)
      go true = refl
      go false = refl

  pub uses-none : uses_by used [] ≡ []
  unfolding uses_by kept
  uses-none = refl

  pub uses-append : (ss rest : List Site) → uses_by used (ss ++ rest) ≡ uses_by used ss ++ uses_by used rest
  uses-append [] rest = ap (λ (l : List Use). l ++ uses_by used rest) (sym uses-none)
  uses-append (s ∷ ss) rest =
      uses-one s (ss ++ rest)
      ∙ ap (λ (l : List Use). one_use s ++ l) (uses-append ss rest)
      ∙ sym (append_assoc (one_use s) (uses_by used ss) (uses_by used rest))
      ∙ ap (λ (l : List Use). l ++ uses_by used rest) (sym (uses-one s ss))
