-- The loops that make the table of alias ends. Assumes nothing.
use mathlib.Core.Path.{◌≡◌, refl, sym, ap, subst, ◌∙◌}
use mathlib.Core.Bool.{false, not}
use mathlib.Core.List.{List}
use Prim.Native.Nat.{ℕ, suc, ◌+◌, ◌-◌, ◌≤◌, ◌<◌}
use native.Mathlib.Nat.{sub-zero}
use native.Mathlib.Numerals.{add-one}
use native.Mathlib.Decide.{ℕ_discrete, dec_lt}
use native.Mathlib.Omega.{arith}
use borrow.Author.Tests.{ne_eqb}
use lib.ListN.{length, get_or}
use Rattle.format.specs.Book.{Definition}
use Rattle.refusals.specs.declared.Refusal as refusal
use Rattle.refusals.specs.Verdict.{Verdict, passes, and_then, unless}
use Rattle.std.specs.Prelude.{Option, Some, None, Err}
use Rattle.judgement.specs.Environment.{Found, missing, body, find_type}
use Rattle.judgement.specs.Aliases.{End, unbound, circle, ends}
use Rattle.judgement.specs.Check.{each_name, is_circle, circle_verdict}
use Rattle.book.specs.Tables.{zero_table}
use Rattle.environment.specs.Tables.{Binds, name_end, end_of, end_in, EndAt, EndKnown, FollowedAs, Unfinished, end_before, Unbegun, NotedAs, AliasEndsAs}
use Rattle.environment.proofs.Names.{none-known}
use Rattle.book.proofs.Blank.{zero-length, zero-at}

-- ---- the verdict on a name, by the end of its chain
by-end : (ds : List Definition) (n : ℕ) (f : Found) → circle_verdict ds n f ≡ unless (not (is_circle (name_end ds n f))) (refusal.Refusal.Circle n)
unfolding circle_verdict name_end is_circle
by-end ds n missing = refl
by-end ds n (body t) = refl

-- a chain whose end the table has ends
ended-passes : (ns : List ℕ) (e : Option ℕ) (x : End) → EndAt ns e x → is_circle x ≡ false
unfolding is_circle
ended-passes ns e (unbound n) q = refl
ended-passes ns e circle q = absurd q
ended-passes ns e (ends t) q = refl

-- what is said of the names from n on: of n, and of those after it
pub each-cons : (f : ℕ → Verdict) (n names : ℕ) → n < names → each_name f n (names - n) ≡ and_then (f n) (each_name f (n + 1) (names - (n + 1)))
unfolding each_name
each-cons f n names h = let z : names - n ≡ suc (names - (n + 1)) = omega arith in rw (z, add-one n)

-- ---- the table before any chain is followed
begun-none : (root : ℕ) → root ≡ 65535 → 0 ≡ end_before root
unfolding end_before
begun-none root e = rw e

begun-open : (root : ℕ) → (root ≡ 65535 → ⊥) → 1 ≡ end_before root
unfolding end_before
begun-open root h = rw (ne_eqb root 65535 h)

pub begun-start : {roots : List ℕ} (ends' : List ℕ) → ends' ≡ zero_table → Unbegun roots 0 ends'
begun-start ends' e = rw e (record { long = zero-length; before = λ m h. absurd (omega arith); beyond = λ m h. zero-at m })

-- ---- the loop
abbrev verdicts : List Definition → ℕ → Verdict
verdicts ds n = circle_verdict ds n (find_type ds n)

pub record EndsLeft (ns roots : List ℕ) (names count definitions : ℕ) (ends' : List ℕ) (n : ℕ) : Type 0 where
  pub passed : n ≤ names
  pub table : Unfinished ns roots names count ends'
  pub rest : (ds : List Definition) → Binds ns roots ds → length ds ≡ definitions →
      each_name (λ m. circle_verdict ds m (find_type ds m)) n (names - n) ≡ each_name (λ m. circle_verdict ds m (find_type ds m)) 0 names
  pub done : (m : ℕ) → m < n → get_or ends' m 0 ≡ 1 → ⊥

pub ends-start : (ns roots : List ℕ) (names count definitions : ℕ) (ends' : List ℕ) → Unbegun roots names ends' → EndsLeft ns roots names count definitions ends' 0
ends-start ns roots names count definitions ends' u =
    record {
      passed = omega arith;
      table =
          record {
            long = u.long;
            bound = λ n h q e. let z : ◌≡◌ {A = ℕ} 0 1 = begun-none (get_or roots n 65535) e ∙ sym (u.before n h) ∙ q in omega arith;
            known = λ n h q. known' n h q (ℕ_discrete (get_or roots n 65535) 65535);
            beyond = u.beyond;
          };
      rest = λ ds b l. rw (sub-zero names);
      done = λ m h. absurd (omega arith);
    }
  where
    known' : (n : ℕ) → n < names → (get_or ends' n 0 ≡ 1 → ⊥) → Dec (get_or roots n 65535 ≡ 65535) → EndKnown ns roots count n (get_or ends' n 0)
    known' n h q (yes e) = subst (EndKnown ns roots count n) (begun-none (get_or roots n 65535) e ∙ sym (u.before n h)) (none-known e)
    known' n h q (no e) = absurd (q (u.before n h ∙ sym (begun-open (get_or roots n 65535) e)))

module _ {ns roots : List ℕ} {names count definitions : ℕ} (few : names ≤ 1024) {ends' : List ℕ} {n : ℕ} (s : EndsLeft ns roots names count definitions ends' n) where
  pub ends-end : names ≤ n → AliasEndsAs ns roots names count definitions ends' passes
  unfolding each_name
  ends-end h =
      let z : names - n ≡ 0 = omega arith in
      record {
        nodes = record { long = s.table.long; node = λ m e q. node' m e q (dec_lt m names) };
        lowest = λ ds b l. sym (sym (s.rest ds b l) ∙ rw z);
        all = λ ds b l m i. (s.table.known m i (s.done m (omega arith))).is ds b;
        beyond = s.table.beyond;
        left = tt;
      }
    where
      node' : (m e : ℕ) → end_in ends' m ≡ Some e → Dec (m < names) → e < count
      node' m e q (yes i) = (s.table.known m i (s.done m (omega arith))).node e q
      node' m e q (no i) = let none = ap end_of (s.table.beyond m (omega arith)) in cc

  module _ (h : n < names) where
    pub ends-circle : FollowedAs ns roots count definitions n None → {after : List ℕ} → after ≡ zero_table → AliasEndsAs ns roots names count definitions after (Err (refusal.Refusal.Circle n))
    unfolding is_circle
    ends-circle x z =
        record {
          nodes = tt;
          lowest = λ ds b l. sym (sym (s.rest ds b l) ∙ each-cons (verdicts ds) n names h ∙ rw (by-end ds n (find_type ds n), x.never ds b l));
          all = tt;
          beyond = tt;
          left = z;
        }

    pub ends-on : {e : ℕ} → EndKnown ns roots count n e → (after : List ℕ) → NotedAs ns roots names count n ends' after → EndsLeft ns roots names count definitions after (n + 1)
    ends-on {e} x after w =
        record {
          passed = omega arith;
          table = w.table;
          rest = λ ds b l.
              sym (each-cons (verdicts ds) n names h ∙ rw (by-end ds n (find_type ds n), ended-passes ns (end_of e) (name_end ds n (find_type ds n)) (x.is ds b).end))
              ∙ s.rest ds b l;
          done = λ m i. done' m i (ℕ_discrete m n);
        }
      where
        done' : (m : ℕ) → m < n + 1 → Dec (m ≡ n) → get_or after m 0 ≡ 1 → ⊥
        done' m i (yes z) q = w.known (ap (λ (a : ℕ). get_or after a 0) (sym z) ∙ q)
        done' m i (no z) q = let o = s.done m (omega arith) in o (sym (w.kept m o) ∙ q)
