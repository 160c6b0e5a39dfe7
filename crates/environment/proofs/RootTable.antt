-- The loop that makes the table of roots: what the table lacks is found in the entries that are left. Assumes nothing.
use mathlib.Core.Path.{◌≡◌, refl, sym, ap, ◌∙◌}
use mathlib.Core.Bool.{cond, ◌||◌, not}
use mathlib.Core.List.{List, [], ◌∷◌}
use Prim.Native.Nat.{ℕ, suc, ◌+◌, ◌-◌, ◌≤◌, ◌<◌}
use native.Mathlib.Decide.{ℕ_discrete}
use native.Mathlib.Omega.{arith}
use borrow.Author.Tests.{eq-eqb, ne_eqb}
use lib.Dec.{eqb}
use lib.ListN.{length, get_or, set, length-set}
use lib.Seq.{get_or-set_same, get_or-set_other}
use Rattle.format.specs.Encode.{Entry}
use Rattle.format.specs.Layout.{run, entry_at}
use Rattle.format.proofs.Lists.{run-none, run-cons}
use Rattle.refusals.specs.declared.Refusal as refusal
use Rattle.refusals.specs.Verdict.{passes}
use Rattle.std.specs.Prelude.{Err}
use Rattle.judgement.specs.Check.{member}
use Rattle.book.specs.Tables.{blank_table}
use Rattle.environment.specs.Tables.{Entries, root_in, repeated, DefinesAs}
use Rattle.book.proofs.Blank.{blank-length, blank-at}

pub record TableLeft (es : List ℕ) (names count from to : ℕ) (roots : List ℕ) (d : ℕ) : Type 0 where
  pub began : from ≤ d
  pub passed : d ≤ to
  pub long : length roots ≡ 1024
  pub node : (n : ℕ) → (get_or roots n 65535 ≡ 65535 → ⊥) → get_or roots n 65535 < count
  pub same : (n : ℕ) → cond (eqb (get_or roots n 65535) 65535) (root_in (run (entry_at es) d (to - d)) n) (get_or roots n 65535) ≡ root_in (run (entry_at es) from (to - from)) n
  pub seen : List ℕ
  pub marks : (n : ℕ) → member n seen ≡ not (eqb (get_or roots n 65535) 65535)
  pub rest : repeated seen (run (entry_at es) d (to - d)) ≡ repeated [] (run (entry_at es) from (to - from))

pub table-start : (es : List ℕ) (names count from to : ℕ) → Entries es names count from to → TableLeft es names count from to blank_table from
unfolding member
table-start es names count from to x =
    record {
      began = omega arith;
      passed = x.ordered;
      long = blank-length;
      node = λ n h. absurd (h (blank-at n));
      same = λ n. rw (blank-at n);
      seen = [];
      marks = λ n. rw (blank-at n);
      rest = refl;
    }

module _ {es : List ℕ} {names count from to : ℕ} (x : Entries es names count from to) (few : names ≤ 1024) (small : count ≤ 4096)
    {roots : List ℕ} {d : ℕ} (l : TableLeft es names count from to roots d) where
  pub table-end : to ≤ d → DefinesAs es count from to roots passes
  unfolding root_in repeated
  table-end h =
      let z : to - d ≡ 0 = omega arith in
      record {
        is = sym (sym l.rest ∙ rw (z, run-none (entry_at es) d));
        table = record { long = l.long; node = l.node };
        root = λ n. go n (ℕ_discrete (get_or roots n 65535) 65535);
        left = tt;
      }
    where
      go : (n : ℕ) → Dec (get_or roots n 65535 ≡ 65535) → get_or roots n 65535 ≡ root_in (run (entry_at es) from (to - from)) n
      go n (yes e) = let z : to - d ≡ 0 = omega arith in e ∙ sym (sym (l.same n) ∙ rw (e, z, run-none (entry_at es) d))
      go n (no h) = sym (sym (l.same n) ∙ rw (ne_eqb _ _ h))

  module _ (h : d < to) (e : Entry) (is : e ≡ entry_at es d) where
    left : run (entry_at es) d (to - d) ≡ e ∷ run (entry_at es) (d + 1) (to - (d + 1))
    left = let z : to - d ≡ suc (to - (d + 1)) = omega arith in rw (z, is) (run-cons (entry_at es) d (to - (d + 1)))

    pub name-fits : e.name < 1024
    name-fits = rw is (omega (arith, x.name d l.began h))

    root-fits : e.root < count
    root-fits = rw is (x.root d l.began h)

    pub table-twice : (get_or roots e.name 65535 ≡ 65535 → ⊥) → {after : List ℕ} → after ≡ blank_table → DefinesAs es count from to after (Err (refusal.Refusal.Twice e.name))
    unfolding repeated
    table-twice n z =
        record { is = sym (sym l.rest ∙ rw (left, l.marks e.name, ne_eqb _ _ n)); table = tt; root = tt; left = z }

    pub table-on : get_or roots e.name 65535 ≡ 65535 → TableLeft es names count from to (set roots e.name e.root) (d + 1)
    unfolding root_in repeated member
    table-on b =
        let i : e.name < length roots = omega (arith, name-fits, l.long) in
        let here : get_or (set roots e.name e.root) e.name 65535 ≡ e.root = get_or-set_same roots e.name e.root 65535 i in
        let some : e.root ≡ 65535 → ⊥ = λ q. let f : ⊥ = omega (arith, root-fits) in f in
        record {
          began = omega (arith, l.began);
          passed = omega arith;
          long = simp length-set l.long;
          node = λ n q. node' n q (ℕ_discrete n e.name);
          same = λ n. same' n (ℕ_discrete n e.name);
          seen = e.name ∷ l.seen;
          marks = λ n. marks' n (ℕ_discrete n e.name);
          rest = sym (rw (left, l.marks e.name, b)) ∙ l.rest;
        }
      where
        i' : e.name < length roots
        i' = omega (arith, name-fits, l.long)

        here' : get_or (set roots e.name e.root) e.name 65535 ≡ e.root
        here' = get_or-set_same roots e.name e.root 65535 i'

        some' : e.root ≡ 65535 → ⊥
        some' q = let f : ⊥ = omega (arith, root-fits) in f

        node' : (n : ℕ) → (get_or (set roots e.name e.root) n 65535 ≡ 65535 → ⊥) → Dec (n ≡ e.name) → get_or (set roots e.name e.root) n 65535 < count
        node' n q (yes m) = rw (m, here') root-fits
        node' n q (no m) = rw (get_or-set_other roots e.name n e.root 65535 m) (l.node n (λ z. q (get_or-set_other roots e.name n e.root 65535 m ∙ z)))

        same' : (n : ℕ) → Dec (n ≡ e.name) → cond (eqb (get_or (set roots e.name e.root) n 65535) 65535) (root_in (run (entry_at es) (d + 1) (to - (d + 1))) n) (get_or (set roots e.name e.root) n 65535) ≡ root_in (run (entry_at es) from (to - from)) n
        same' n (yes m) = rw (m, here', ne_eqb e.root 65535 some') (sym (sym (l.same e.name) ∙ rw (b, left, eq-eqb e.name e.name refl)))
        same' n (no m) = rw (get_or-set_other roots e.name n e.root 65535 m) (ap (λ (q : ℕ). cond (eqb (get_or roots n 65535) 65535) q (get_or roots n 65535)) (sym (rw (left, ne_eqb e.name n (λ z. m (sym z))))) ∙ l.same n)

        marks' : (n : ℕ) → Dec (n ≡ e.name) → (eqb n e.name || member n l.seen) ≡ not (eqb (get_or (set roots e.name e.root) n 65535) 65535)
        marks' n (yes m) = rw (m, here', ne_eqb e.root 65535 some', eq-eqb e.name e.name refl)
        marks' n (no m) = rw (ne_eqb n e.name m, get_or-set_other roots e.name n e.root 65535 m) (l.marks n)
