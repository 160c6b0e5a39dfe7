-- Tables that have nothing, and walks over names that fill a table. Assumes nothing.
--     blank-length, blank-at, zero-length, zero-at            what such tables have
--     filling-start, filling-here, filling-name, filling-on, filling-end    such a walk, step by step
--     hashes-end                                              one that writes the label numbers
use mathlib.Core.Path.{◌≡◌, sym, ap, ◌∙◌}
use mathlib.Core.List.{List, [], ◌∷◌}
use Prim.Native.Nat.{ℕ, suc, ◌+◌, ◌≤◌, ◌<◌}
use native.Mathlib.Decide.{ℕ_discrete, dec_lt}
use native.Mathlib.Omega.{arith}
use lib.ListN.{length, get_or, set, drop, length-set, length-drop, length-replicate, get_or-eq_default}
use lib.Seq.{drop-cons, get_or-set_same, get_or-set_other}
use Rattle.labels.specs.Number.{label_number}
use Rattle.labels.proofs.Laws.{label_number-empty}
use Rattle.format.proofs.References.{everywhere}
use Rattle.book.specs.Tables.{blank_table, zero_table, HashesOf}

pub blank-length : length blank_table ≡ 1024
unfolding blank_table
blank-length = length-replicate {A = ℕ} 1024 65535

pub blank-at : (n : ℕ) → get_or blank_table n 65535 ≡ 65535
unfolding blank_table
blank-at n = everywhere {A = ℕ} 1024 n 65535

pub zero-length : length zero_table ≡ 1024
unfolding zero_table
zero-length = length-replicate {A = ℕ} 1024 0

pub zero-at : (n : ℕ) → get_or zero_table n 0 ≡ 0
unfolding zero_table
zero-at n = everywhere {A = ℕ} 1024 n 0

-- ---- a walk over names that fills a table: what name m gets is Q m, the first n names have it, and the others are left
pub record Filling (all left : List (List ℕ)) (Q : ℕ → ℕ → Type 0) (n : ℕ) (table : List ℕ) : Type 0 where
  pub long : length table ≡ 1024
  pub few : length all ≤ 1024
  pub passed : n ≤ length all
  pub rest : left ≡ drop n all
  pub done : (m : ℕ) → m < n → Q m (get_or table m 0)
  pub beyond : (m : ℕ) → n ≤ m → get_or table m 0 ≡ 0

pub filling-start : {all left : List (List ℕ)} {Q : ℕ → ℕ → Type 0} → length all ≤ 1024 → left ≡ all → Filling all left Q 0 zero_table
filling-start f e =
    record { long = zero-length; few = f; passed = omega arith; rest = e; done = λ m h. absurd (omega arith); beyond = λ m h. zero-at m }

module _ {all left : List (List ℕ)} {Q : ℕ → ℕ → Type 0} {n : ℕ} {table : List ℕ} (h : Filling all left Q n table) where
  pub filling-end : left ≡ [] → length all ≤ n
  filling-end e = omega (arith, ap length (sym h.rest ∙ e), length-drop n all)

  module _ {name : List ℕ} {after : List (List ℕ)} (e : left ≡ name ∷ after) where
    pub filling-here : n < length all
    filling-here = omega (arith, ap length (sym h.rest ∙ e), length-drop n all)

    opens : name ∷ after ≡ get_or all n [] ∷ drop (suc n) all
    opens = sym e ∙ h.rest ∙ drop-cons all n [] filling-here

    pub filling-name : name ≡ get_or all n []
    filling-name = ap (λ (l : List (List ℕ)). get_or l 0 []) opens

    pub filling-on : (v : ℕ) → Q n v → Filling all after Q (n + 1) (set table n v)
    filling-on v q =
        let here = filling-here in
        let z : suc n ≡ n + 1 = omega arith in
        record {
          long = simp length-set h.long;
          few = h.few;
          passed = omega arith;
          rest = ap (drop 1) opens ∙ ap (λ (k : ℕ). drop k all) z;
          done = λ m i. done' m i (ℕ_discrete m n);
          beyond = λ m i. get_or-set_other table n m v 0 (λ e. let f : ⊥ = omega arith in f) ∙ h.beyond m (omega arith);
        }
      where
        done' : (m : ℕ) → m < n + 1 → Dec (m ≡ n) → Q m (get_or (set table n v) m 0)
        done' m i (yes e) = rw e (rw (get_or-set_same table n v 0 (omega (arith, h.long, h.few, filling-here))) q)
        done' m i (no e) = rw (get_or-set_other table n m v 0 e) (h.done m (omega arith))

-- ---- the label number of each name
abbrev pub Hashed : List (List ℕ) → ℕ → ℕ → Type 0
Hashed all m v = v ≡ label_number (get_or all m [])

pub hashes-end : {all left : List (List ℕ)} {n : ℕ} {hashes : List ℕ} → Filling all left (Hashed all) n hashes → left ≡ [] → HashesOf hashes all
hashes-end {all} {n = n} {hashes} h e = record { long = h.long; agree = λ m. go m (dec_lt m n) }
  where
    go : (m : ℕ) → Dec (m < n) → get_or hashes m 0 ≡ label_number (get_or all m [])
    go m (yes i) = h.done m i
    go m (no i) =
        h.beyond m (omega arith)
        ∙ sym label_number-empty
        ∙ ap label_number (sym (get_or-eq_default all [] {n = m} (omega (arith, filling-end h e))))
