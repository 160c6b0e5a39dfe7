-- References as rows that are names, and what the first such row tells; what is reachable. Assumes nothing.
--     references-rows      trees refer to a name exactly if one of their rows is that name
--     refers-rows          a definition refers to a name exactly if a row of its body is that name
--     reachable-says       what is reachable from trees is a name that they refer to, or is reached from one
--     near-refers          by the table of first rows, whether trees refer to a name with its flag set
use mathlib.Core.Path.{◌≡◌, refl, sym, ap, subst, ◌∙◌}
use mathlib.Core.Logic.{◌↔◌, ◌⊎◌, inl, inr, ⊎_elim}
use mathlib.Core.Bool.{Bool, true, false, cond}
use mathlib.Core.List.Memᴰ
use mathlib.Core.List.{List, [], ◌∷◌, Memᴰ}
use Prim.Native.Nat.{ℕ, zero, suc, ◌+◌, ◌-◌, ◌≤◌, ◌<◌}
use native.Mathlib.Decide.{dec_lt}
use native.Mathlib.Omega.{arith}
use borrow.Author.Tests.{eqb-true, eqb-false}
use lib.Dec.{T, eqb, ltb}
use lib.ListN.{get_or}
use Rattle.format.specs.Forest.{Forest}
use Rattle.format.specs.Node.{Node}
use Rattle.format.specs.Book.{Definition}
use Rattle.format.specs.Encode.{Row}
use Rattle.format.specs.Layout.{row_at, entry_at, run, siblings}
use Rattle.format.specs.References.{references}
use Rattle.format.specs.Whole.{definition_at}
use Rattle.format.proofs.References.{vars_of, references-siblings}
use Rattle.environment.specs.Tables.{definitions_in}
use Rattle.listing.specs.References.{Refers, Reachable, direct, onward, Way, last, step, Reaches}
use Rattle.listing.proofs.Chases.{way-snoc}
use Rattle.book.specs.Tables.{is_set}
use Rattle.analysis.specs.Reaching.{IsName, NearAs, OwnedBy}
use Rattle.analysis.proofs.reaching.Near.{near-says}

-- ---- Runs
pub record InRun {A : Type 0} (f : ℕ → A) (n e : ℕ) (a : A) : Type 0 where
  pub at : ℕ
  pub from : n ≤ at
  pub until : at < e
  pub is : a ≡ f at

run-has : {A : Type 0} (f : ℕ → A) (n k : ℕ) (a : A) → Memᴰ a (run f n k) → InRun f n (n + k) a
unfolding run
run-has f n zero a m = absurd (Memᴰ.not-nil m)
run-has {A} f n (suc k) a m = go (Memᴰ.cases_cons m) (run-has f (suc n) k a)
  where
    go : (a ≡ f n) ⊎ Memᴰ a (run f (suc n) k) → (Memᴰ a (run f (suc n) k) → InRun f (suc n) (suc n + k) a) → InRun f n (n + suc k) a
    go (inl e) ih = record { at = n; from = omega arith; until = omega arith; is = e }
    go (inr m') ih = let r = ih m' in record { at = r.at; from = omega (arith, r.from); until = omega (arith, r.until); is = r.is }

run-in : {A : Type 0} (f : ℕ → A) (n k i : ℕ) → n ≤ i → i < n + k → Memᴰ (f i) (run f n k)
unfolding run
run-in f n zero i l m = let z : ⊥ = omega arith in absurd z
run-in f n (suc k) i l m = go (dec_lt n i) (run-in f (suc n) k i)
  where
    go : Dec (n < i) → (suc n ≤ i → i < suc n + k → Memᴰ (f i) (run f (suc n) k)) → Memᴰ (f i) (f n ∷ run f (suc n) k)
    go (yes q) ih = Memᴰ.tail (ih (omega arith) (omega arith))
    go (no q) ih = let e : i ≡ n = omega arith in Memᴰ.head (ap f e)

-- ---- The names among rows
pub record NameAmong (ns : List ℕ) (i e v : ℕ) : Type 0 where
  pub row : ℕ
  pub from : i ≤ row
  pub until : row < e
  pub is : IsName ns row v

vars-has : (rs : List Row) (v : ℕ) → Memᴰ v (vars_of rs) → (r : Row) × Memᴰ r rs × (r.kind ≡ 18) × (r.value ≡ v)
unfolding vars_of
vars-has [] v m = absurd (Memᴰ.not-nil m)
vars-has (r ∷ rs) v m = go (eqb r.kind 18) refl m (vars-has rs v)
  where
    later : (r' : Row) × Memᴰ r' rs × (r'.kind ≡ 18) × (r'.value ≡ v) → (r' : Row) × Memᴰ r' (r ∷ rs) × (r'.kind ≡ 18) × (r'.value ≡ v)
    later q = (q.0, Memᴰ.tail q.1, q.2, q.3)

    go : (b : Bool) → eqb r.kind 18 ≡ b → Memᴰ v (cond b (r.value ∷ vars_of rs) (vars_of rs)) →
        (Memᴰ v (vars_of rs) → (r' : Row) × Memᴰ r' rs × (r'.kind ≡ 18) × (r'.value ≡ v)) → (r' : Row) × Memᴰ r' (r ∷ rs) × (r'.kind ≡ 18) × (r'.value ≡ v)
    go true e m' ih = ⊎_elim (λ q. (r, Memᴰ.head refl, eqb-true r.kind 18 e, sym q)) (λ m''. later (ih m'')) (Memᴰ.cases_cons m')
    go false e m' ih = later (ih m')

vars-in : (rs : List Row) (r : Row) → Memᴰ r rs → r.kind ≡ 18 → Memᴰ r.value (vars_of rs)
unfolding vars_of
vars-in [] r m k = absurd (Memᴰ.not-nil m)
vars-in (s ∷ rs) r m k = go (eqb s.kind 18) refl (Memᴰ.cases_cons m) (λ m'. vars-in rs r m' k)
  where
    go : (b : Bool) → eqb s.kind 18 ≡ b → (r ≡ s) ⊎ Memᴰ r rs → (Memᴰ r rs → Memᴰ r.value (vars_of rs)) →
        Memᴰ r.value (cond b (s.value ∷ vars_of rs) (vars_of rs))
    go true e (inl q) ih = Memᴰ.head (ap (λ (x : Row). x.value) q)
    go true e (inr m') ih = Memᴰ.tail (ih m')
    go false e (inl q) ih = absurd (eqb-false s.kind 18 e (sym (ap (λ (x : Row). x.kind) q) ∙ k))
    go false e (inr m') ih = ih m'

pub references-rows : (ns : List ℕ) (i e v : ℕ) → i ≤ e → Memᴰ v (references (siblings ns i e)) ↔ NameAmong ns i e v
references-rows ns i e v h = (there, back)
  where
    there : Memᴰ v (references (siblings ns i e)) → NameAmong ns i e v
    there m =
        let q = vars-has (run (row_at ns) i (e - i)) v (subst (λ (l : List ℕ). Memᴰ v l) (references-siblings ns i e) m) in
        let r = run-has (row_at ns) i (e - i) q.0 q.1 in
        record {
          row = r.at;
          from = r.from;
          until = omega (arith, r.until);
          is = record { kind = sym (ap (λ (x : Row). x.kind) r.is) ∙ q.2; value = sym (ap (λ (x : Row). x.value) r.is) ∙ q.3 };
        }

    back : NameAmong ns i e v → Memᴰ v (references (siblings ns i e))
    back n =
        let m = vars-in (run (row_at ns) i (e - i)) (row_at ns n.row) (run-in (row_at ns) i (e - i) n.row n.from (omega (arith, n.until))) n.is.kind in
        subst (λ (l : List ℕ). Memᴰ v l) (sym (references-siblings ns i e)) (Memᴰ.cast (sym n.is.value) m)

-- ---- References of definitions
pub refers-rows : (ns es : List ℕ) (definitions m n : ℕ) → Refers (definitions_in ns es 0 definitions) m n ↔ ((i : ℕ) × OwnedBy ns es definitions i m × IsName ns i n)
refers-rows ns es definitions m n = (there, back)
  where
    there : Refers (definitions_in ns es 0 definitions) m n → (i : ℕ) × OwnedBy ns es definitions i m × IsName ns i n
    there r =
        let q = Memᴰ.of_map (definition_at ns) (run (entry_at es) 0 (definitions - 0)) r.listed in
        let d = run-has (entry_at es) 0 (definitions - 0) q.0 q.1 in
        let is : r.definition ≡ definition_at ns (entry_at es d.at) = sym q.2 ∙ ap (definition_at ns) d.is in
        let root : ℕ = (entry_at es d.at).root in
        let a = (references-rows ns root (root + (row_at ns root).size) n (omega arith)).0 (subst (λ (x : Definition). Memᴰ n (references x.body)) is r.refers) in (
          a.row,
          record {
            entry = d.at;
            below = omega (arith, d.until);
            name = sym (ap (λ (x : Definition). x.name) is) ∙ r.named;
            from = a.from;
            until = a.until;
          },
          a.is,
        )

    back : (i : ℕ) × OwnedBy ns es definitions i m × IsName ns i n → Refers (definitions_in ns es 0 definitions) m n
    back x =
        let o = x.1 in
        let root : ℕ = (entry_at es o.entry).root in
        record {
          definition = definition_at ns (entry_at es o.entry);
          listed = Memᴰ.map (definition_at ns) (run-in (entry_at es) 0 (definitions - 0) o.entry (omega arith) (omega (arith, o.below)));
          named = o.name;
          refers = (references-rows ns root (root + (row_at ns root).size) n (omega arith)).1 record { row = x.0; from = o.from; until = o.until; is = x.2 };
        }

-- ---- What is reachable
way-on : {ds : List Definition} {start : Forest Node} {m n : ℕ} {l : List ℕ} → Reachable ds start m → Way ds m l n → Reachable ds start n
way-on r (last f) = onward r f
way-on r (step f w) = way-on (onward r f) w

pub record From (ds : List Definition) (start : Forest Node) (n : ℕ) : Type 0 where
  pub first : ℕ
  pub refers : Memᴰ first (references start)
  pub reaches : (first ≡ n) ⊎ Reaches ds first n

from : {ds : List Definition} {start : Forest Node} {n : ℕ} → Reachable ds start n → From ds start n
from {n = n} (direct m) = record { first = n; refers = m; reaches = inl refl }
from {ds} {start} {n} (onward {m} r f) = go (from r)
  where
    go : From ds start m → From ds start n
    go q =
        record {
          first = q.first;
          refers = q.refers;
          reaches = inr (⊎_elim (λ e. (n ∷ [], last (subst (λ (k : ℕ). Refers ds k n) (sym e) f))) (λ w. (_, way-snoc w.1 f)) q.reaches);
        }

pub reachable-says : (ds : List Definition) (start : Forest Node) (n : ℕ) → Reachable ds start n ↔ From ds start n
reachable-says ds start n = (from, λ q. ⊎_elim (λ e. direct (Memᴰ.cast (sym e) q.refers)) (λ w. way-on (direct q.refers) w.1) q.reaches)

-- By the table of first rows, whether the trees between i and e refer to a name with its flag set.
pub near-refers :
    {ns flags near : List ℕ} {nodes : ℕ} → NearAs ns flags nodes near → (i e : ℕ) → i ≤ e → e ≤ nodes →
    T (ltb (get_or near i 0) e) ↔ ((v : ℕ) × Memᴰ v (references (siblings ns i e)) × T (is_set flags v))
near-refers {ns} {flags} {near} {nodes} table i e h until = (
  λ t.
      let b = (near-says table i e h until).0 t in
      ((row_at ns b.row).value, (references-rows ns i e _ h).1 record { row = b.row; from = b.from; until = b.until; is = record { kind = b.hit.kind; value = refl } }, b.hit.flag),
  λ x.
      let a = (references-rows ns i e x.0 h).0 x.1 in
      (near-says table i e h until).1
      record { row = a.row; from = a.from; until = a.until; hit = record { kind = a.is.kind; flag = subst (λ (v : ℕ). T (is_set flags v)) (sym a.is.value) x.2 } },
)
