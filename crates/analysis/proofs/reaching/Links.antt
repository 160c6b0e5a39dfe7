-- The loop that links the rows that are the same name: rows below j are linked. Assumes nothing.
use mathlib.Core.Path.{◌≡◌, refl, sym, ap, subst, ◌∙◌}
use mathlib.Core.List.{List}
use Prim.Native.Nat.{ℕ, ◌+◌, ◌≤◌, ◌<◌}
use native.Mathlib.Decide.{ℕ_discrete}
use native.Mathlib.Omega.{arith}
use lib.ListN.{length, get_or, set, length-set}
use lib.Seq.{get_or-set_same, get_or-set_other}
use Rattle.format.specs.Encode.{Row}
use Rattle.format.specs.Layout.{row_at}
use Rattle.format.proofs.References.{everywhere}
use Rattle.environment.specs.Tables.{Nodes}
use Rattle.book.specs.Tables.{zero_table}
use Rattle.book.proofs.Blank.{zero-length}
use Rattle.analysis.specs.Reaching.{IsName, LastName, LinksAs, KeptElse}
use Rattle.analysis.proofs.reaching.Near.{name-small}

pub zero-at : (n : ℕ) → get_or zero_table n 0 ≡ 0
unfolding zero_table
zero-at n = everywhere {A = ℕ} 1024 n 0

pub record LinksLeft (ns : List ℕ) (nodes : ℕ) (old head next : List ℕ) (j : ℕ) : Type 0 where
  pub passed : j ≤ nodes
  pub links : LinksAs ns j head next
  pub others : KeptElse ns nodes old next

-- the same tables under other names
pub links-same : {ns : List ℕ} {nodes : ℕ} (old : List ℕ) {a b a' b' : List ℕ} (j : ℕ) → a ≡ a' → b ≡ b' → LinksLeft ns nodes old a' b' j → LinksLeft ns nodes old a b j
links-same {ns} {nodes} old {a} {b} {a'} {b'} j e d l =
    subst (λ (q : List ℕ). LinksLeft ns nodes old q b j) (sym e) (subst (λ (q : List ℕ). LinksLeft ns nodes old a' q j) (sym d) l)

pub links-start : (ns : List ℕ) (nodes : ℕ) (head next : List ℕ) → head ≡ zero_table → length next ≡ 4097 → LinksLeft ns nodes next head next 0
links-start ns nodes head next h n =
    record {
      passed = omega arith;
      links = record {
        heads = ap length h ∙ zero-length;
        nexts = n;
        last = λ v l. let z : get_or head v 0 ≡ 0 = ap (λ (t : List ℕ). get_or t v 0) h ∙ zero-at v in
            record {
              inside = omega arith;
              none = λ i a b q. let f : ⊥ = omega arith in f;
              some = λ i e. let f : ⊥ = omega arith in absurd f;
            };
        before = λ i v l q. let f : ⊥ = omega arith in absurd f;
      };
      others = record { kept = λ i q. refl };
    }

-- a row more that is not the name
later : {ns : List ℕ} {v j x : ℕ} → LastName ns v j x → (IsName ns j v → ⊥) → LastName ns v (j + 1) x
later {ns} {v} {j} {x} l n =
    record { inside = omega (arith, l.inside); none = λ i a b q. go i a b q (ℕ_discrete i j); some = l.some }
  where
    go : (i : ℕ) → x ≤ i → i < j + 1 → IsName ns i v → Dec (i ≡ j) → ⊥
    go i a b q (yes e) = n (subst (λ (k : ℕ). IsName ns k v) e q)
    go i a b q (no d) = l.none i a (omega arith) q

-- and one that is
this : {ns : List ℕ} {v j : ℕ} → IsName ns j v → LastName ns v (j + 1) (j + 1)
this {ns} {v} {j} q =
    record {
      inside = omega arith;
      none = λ i a b p. let f : ⊥ = omega arith in f;
      some = λ i e. let z : j ≡ i = omega arith in subst (λ (k : ℕ). IsName ns k v) z q;
    }

module _ {ns : List ℕ} {names nodes : ℕ} (k : Nodes ns names nodes) {old head next : List ℕ} {j : ℕ} (l : LinksLeft ns nodes old head next j) where
  module _ (lt : j < nodes) (t : Row) (is : t ≡ row_at ns j) where
    pub links-skip : (t.kind ≡ 18 → ⊥) → LinksLeft ns nodes old head next (j + 1)
    links-skip n =
        record {
          passed = omega arith;
          links = record {
            heads = l.links.heads;
            nexts = l.links.nexts;
            last = λ v s. later (l.links.last v s) (λ q. n (ap (λ (r : Row). r.kind) is ∙ q.kind));
            before = λ i v s q. before i v s q (ℕ_discrete i j);
          };
          others = l.others;
        }
      where
        before : (i v : ℕ) → i < j + 1 → IsName ns i v → Dec (i ≡ j) → LastName ns v i (get_or next i 0)
        before i v s q (yes e) = absurd (n (ap (λ (r : Row). r.kind) is ∙ subst (λ (m : ℕ). (row_at ns m).kind ≡ 18) e q.kind))
        before i v s q (no d) = l.links.before i v (omega arith) q

    pub links-on : t.kind ≡ 18 → (x : ℕ) → x ≡ j + 1 → LinksLeft ns nodes old (set head t.value x) (set next j (get_or head t.value 0)) (j + 1)
    links-on kind x at =
        record {
          passed = omega arith;
          links = record {
            heads = length-set head t.value x ∙ l.links.heads;
            nexts = length-set next j (get_or head t.value 0) ∙ l.links.nexts;
            last = λ v s. last v s (ℕ_discrete v t.value);
            before = λ i v s q. before i v s q (ℕ_discrete i j);
          };
          others = record {
            kept = λ i q. get_or-set_other next j i (get_or head t.value 0) 0
                (λ e. q t.value (omega arith) (subst (λ (m : ℕ). IsName ns m t.value) (sym e) named)) ∙ l.others.kept i q;
          };
        }
      where
        small : t.value < 1024
        small = name-small k lt t is kind

        named : IsName ns j t.value
        named = record { kind = sym (ap (λ (r : Row). r.kind) is) ∙ kind; value = sym (ap (λ (r : Row). r.value) is) }

        last : (v : ℕ) → v < 1024 → Dec (v ≡ t.value) → LastName ns v (j + 1) (get_or (set head t.value x) v 0)
        last v s (yes e) =
            subst (λ (u : ℕ). LastName ns u (j + 1) (get_or (set head t.value x) u 0)) (sym e)
            (subst (LastName ns t.value (j + 1)) (sym (get_or-set_same head t.value x 0 (omega (arith, small, l.links.heads)) ∙ at)) (this named))
        last v s (no d) =
            subst (LastName ns v (j + 1)) (sym (get_or-set_other head t.value v x 0 d))
            (later (l.links.last v s) (λ q. d (sym q.value ∙ sym (ap (λ (r : Row). r.value) is))))

        before : (i v : ℕ) → i < j + 1 → IsName ns i v → Dec (i ≡ j) → LastName ns v i (get_or (set next j (get_or head t.value 0)) i 0)
        before i v s q (yes e) =
            let u : t.value ≡ v = ap (λ (r : Row). r.value) is ∙ subst (λ (m : ℕ). (row_at ns m).value ≡ v) e q.value in
            subst (λ (m : ℕ). LastName ns v m (get_or (set next j (get_or head t.value 0)) m 0)) (sym e)
            (subst (LastName ns v j) (sym (get_or-set_same next j (get_or head t.value 0) 0 (omega (arith, l.links.nexts, k.few_nodes))))
            (subst (λ (m : ℕ). LastName ns m j (get_or head t.value 0)) u (l.links.last t.value small)))
        before i v s q (no d) =
            subst (LastName ns v i) (sym (get_or-set_other next j i (get_or head t.value 0) 0 d)) (l.links.before i v (omega arith) q)
