-- The end of a name's chain and its length, found at the names that the chain crosses. Assumes nothing.
--     to-name, name-next                  a type that is a name has that name's end
--     longer, alone, unnamed              and its chain is one name longer than that of the next
--     stays, node-ends, name-ends         where the chain of a type ends that is no name, and that of the type at a node
--     open-links, type-known, ..          the link from a name whose end is not known yet
--     Follows, follow-on, ..           the loop that follows a name's chain as far as a name whose end is known
--     Notes, note-on, ..               the loop that writes the end down for the names on it
use mathlib.Core.Path.{◌≡◌, refl, sym, ap, subst, ◌∙◌}
use mathlib.Core.Logic.{⊎_elim, inl, inr}
use mathlib.Core.Bool.{cond}
use mathlib.Core.List.{List, [], ◌∷◌}
use Prim.Native.Nat.{ℕ, zero, suc, ◌+◌, ◌-◌, ◌*◌, ◌/◌, ◌%◌, ◌≤◌, ◌<◌}
use Rattle.std.specs.Prelude.{Some, None}
use native.Mathlib.Decide.{ℕ_discrete}
use native.Mathlib.Omega.{arith}
use borrow.Author.Tests.{ne_eqb}
use lib.Dec.{eqb}
use lib.ListN.{length, get_or, set, length-set}
use lib.Seq.{get_or-set_same, get_or-set_other}
use Rattle.format.specs.Forest.{Forest}
use Rattle.format.specs.Node.{Node}
use Rattle.format.specs.Book.{Definition}
use Rattle.format.specs.Layout.{row_at}
use Rattle.format.specs.Whole.{tree_at}
use Rattle.judgement.specs.Environment.{Found, missing, body, find_type, named, other, head_kind, head}
use Rattle.judgement.specs.Aliases.{unbound, circle, ends, link, cross, chain_from, chain, alias_end, alias_length, name_type}
use Rattle.judgement.proofs.Lookup.{find-missing}
use Rattle.judgement.proofs.Chains.{crosses, outcome, run-end}
use Rattle.judgement.proofs.Lengths.{crossed-other, crossed-missing, crossed-on, crossed-same, crossed-most}
use Rattle.environment.specs.declared.Link.{Link}
use Rattle.environment.specs.Tables.{Nodes, Binds, name_end, end_of, EndAt, ChainAt, EndKnown, FollowedAs, Unfinished, NotedAs}
use Rattle.environment.proofs.Definitions.{binds-some}
use Rattle.environment.proofs.Links.{last_end, chain-other, chain-unbound, chain-circle, chain-on, head-var, head-other, found-none, found-some, Bound, LinkSays}

pub is-named : (n : ℕ) → head (name_type n) ≡ named n
unfolding head head_kind
is-named n = refl

module _ (ds : List Definition) where
  -- a chain that never ends does not end where it crosses fewer names
  never-sooner : (k : ℕ) (u : Forest Node) → alias_end ds u ≡ circle → (chain_from k ds u).last ≡ circle
  never-sooner k u c = ⊎_elim (λ r. sym (run-end ds r) ∙ c) (λ p. p.0) (outcome ds k u).either

  -- ---- a type that is a name
  module _ (t : Forest Node) (n : ℕ) (h : head t ≡ named n) where
    never-on : (u : Forest Node) → find_type ds n ≡ body u → alias_end ds u ≡ circle → (k : ℕ) → (chain_from k ds t).last ≡ circle
    never-on u f c zero = ap last_end (chain-circle ds t n h u f)
    never-on u f c (suc k) = ap last_end (chain-on ds t n h u (suc k) f (omega arith)) ∙ never-sooner (suc k - 1) u c

    goes-on : (u : Forest Node) → find_type ds n ≡ body u → alias_end ds t ≡ alias_end ds u
    unfolding alias_end chain
    goes-on u f =
        elim (outcome ds (length ds) u).either [
          | inl r ↦ run-end ds (crosses {u = u} (record { is-name = h; is-type = f }) r)
          | inr p ↦ never-on u f p.0 (length ds) ∙ sym p.0
        ]

    by-found : (f : Found) → find_type ds n ≡ f → alias_end ds t ≡ name_end ds n f
    unfolding name_end alias_end chain
    by-found missing f = ap last_end (chain-unbound ds t n h (length ds) f)
    by-found (body u) f = goes-on u f

    pub to-name : alias_end ds t ≡ name_end ds n (find_type ds n)
    to-name = by-found (find_type ds n) refl

  -- ---- a name by its definition
  name-missing : (n : ℕ) → find_type ds n ≡ missing → name_end ds n (find_type ds n) ≡ unbound n
  unfolding name_end
  name-missing n f = rw f

  name-body : (n : ℕ) (u : Forest Node) → find_type ds n ≡ body u → name_end ds n (find_type ds n) ≡ alias_end ds u
  unfolding name_end
  name-body n u f = rw f

  name-next : (n m : ℕ) (u : Forest Node) → find_type ds n ≡ body u → head u ≡ named m → name_end ds n (find_type ds n) ≡ name_end ds m (find_type ds m)
  name-next n m u f h = name-body n u f ∙ to-name u m h

  name-stops : (n : ℕ) (u : Forest Node) → find_type ds n ≡ body u → head u ≡ other → name_end ds n (find_type ds n) ≡ ends u
  unfolding alias_end chain
  name-stops n u f h = name-body n u f ∙ ap last_end (chain-other ds u (length ds) h)

  -- ---- how many names are crossed
  unnamed : (n : ℕ) → find_type ds n ≡ missing → alias_length ds (name_type n) ≡ 0
  unfolding alias_length
  unnamed n f = ap length (crossed-missing ds (name_type n) n (is-named n) (find-missing ds n f))

  alone : (n : ℕ) (u : Forest Node) → find_type ds n ≡ body u → head u ≡ other → alias_length ds (name_type n) ≡ 1
  unfolding alias_length
  alone n u f h =
      ap length (crossed-on ds (name_type n) u n (is-named n) f (λ c. let z : ends u ≡ circle = sym (name-stops n u f h) ∙ name-body n u f ∙ c in let y : ◌≡◌ {A = ℕ} 0 1 = cc in omega arith))
      ∙ ap (λ (l : List ℕ). suc (length l)) (crossed-other ds u h)

  longer : (n m : ℕ) (u : Forest Node) → find_type ds n ≡ body u → head u ≡ named m → (name_end ds m (find_type ds m) ≡ circle → ⊥) →
      alias_length ds (name_type n) ≡ suc (alias_length ds (name_type m))
  unfolding alias_length
  longer n m u f h e =
      ap length (crossed-on ds (name_type n) u n (is-named n) f (λ c. e (sym (to-name u m h) ∙ c)))
      ∙ ap (λ (l : List ℕ). suc (length l)) (crossed-same ds u (name_type m) m h (is-named m))

same-chain : (ds : List Definition) (t : Forest Node) (n : ℕ) → head t ≡ named n → (k : ℕ) → last_end (chain_from k ds t) ≡ last_end (chain_from k ds (name_type n))
unfolding chain_from link head head_kind
same-chain ds t n h zero = rw h
same-chain ds t n h (suc k) = rw h

name-end : (ds : List Definition) (n : ℕ) → name_end ds n (find_type ds n) ≡ last_end (chain_from (length ds) ds (name_type n))
unfolding alias_end chain
name-end ds n = sym (to-name ds (name_type n) n (is-named n))

-- ---- where the chain of the type at a node ends
pub stays : (ds : List Definition) (t : Forest Node) → head t ≡ other → alias_end ds t ≡ ends t
unfolding alias_end chain
stays ds t h = ap last_end (chain-other ds t (length ds) h)

module _ {ns : List ℕ} {names count : ℕ} (x : Nodes ns names count) (ds : List Definition) {n : ℕ} (h : n < count) where
  pub node-ends : ((row_at ns n).kind ≡ 18 → ⊥) → alias_end ds (tree_at ns n) ≡ ends (tree_at ns n)
  node-ends k = stays ds (tree_at ns n) (head-other (x.tree n h).whole (row_at ns n) refl k)

  pub name-ends : (row_at ns n).kind ≡ 18 → alias_end ds (tree_at ns n) ≡ name_end ds (row_at ns n).value (find_type ds (row_at ns n).value)
  name-ends k = to-name ds (tree_at ns n) (row_at ns n).value (head-var (x.tree n h).whole (row_at ns n) refl k)

-- ---- following: what is left of the chain, from name m on, ends where all of it does; so many names were crossed before
pub record Follows (ns roots : List ℕ) (names definitions n m crossed : ℕ) : Type 0 where
  pub inside : m < names
  pub few : crossed ≤ definitions
  pub fuel : (ds : List Definition) → Binds ns roots ds → last_end (chain_from (definitions - crossed) ds (name_type m)) ≡ last_end (chain_from definitions ds (name_type n))
  pub same : (ds : List Definition) → Binds ns roots ds → name_end ds m (find_type ds m) ≡ name_end ds n (find_type ds n)
  pub longer-by : (ds : List Definition) → Binds ns roots ds → (name_end ds m (find_type ds m) ≡ circle → ⊥) →
      alias_length ds (name_type n) ≡ crossed + alias_length ds (name_type m)

-- an end that is known is no circle
known-ends : {ns : List ℕ} {ds : List Definition} {n e : ℕ} → ChainAt ns ds n e → name_end ds n (find_type ds n) ≡ circle → ⊥
known-ends {ns} {e = e} q c = subst (EndAt ns (end_of e)) c q.end

-- of a name so many names before one whose entry is known, or after
module _ {ns roots : List ℕ} {count n m e d : ℕ} (same : (ds : List Definition) → Binds ns roots ds → name_end ds m (find_type ds m) ≡ name_end ds n (find_type ds n)) where
  known-same : EndKnown ns roots count m e → d % 65536 ≡ e % 65536 → ((ds : List Definition) → Binds ns roots ds → ChainAt ns ds m e → d / 65536 ≡ alias_length ds (name_type n)) →
      EndKnown ns roots count n d
  known-same q low high =
      let one_end : end_of d ≡ end_of e = rw low in
      record {
        node = λ i h. q.node i (sym one_end ∙ h);
        is = λ ds b. record { end = rw low (subst (EndAt ns (end_of e)) (same ds b) (q.is ds b).end); crossed = high ds b (q.is ds b) };
      }

-- the marker is no end
known-no-marker : {ns roots : List ℕ} {count n e : ℕ} → count ≤ 4096 → EndKnown ns roots count n e → e ≡ 1 → ⊥
known-no-marker few q e = let z = q.node 65534 (ap end_of e) in omega arith

-- a name without definition
pub none-known : {ns roots : List ℕ} {count n : ℕ} → get_or roots n 65535 ≡ 65535 → EndKnown ns roots count n 0
none-known {ns} {roots} {n = n} e =
    record {
      node = λ i h. cc;
      is = λ ds b.
          let f = b n ∙ found-none ns (get_or roots n 65535) e in
          record { end = subst (EndAt ns None) (sym (name-missing ds n f)) refl; crossed = sym (unnamed ds n f) };
    }

pub name-small : {ns : List ℕ} {names count m : ℕ} → Nodes ns names count → m < names → m < 1024
name-small x inside = omega (arith, x.few_names)

-- a name whose end is not known yet has a definition
pub open-links : {ns roots ends' : List ℕ} {names count m : ℕ} → Unfinished ns roots names count ends' → m < names → get_or ends' m 0 ≡ 1 →
    LinkSays ns roots names count m None → ⊥
open-links {m = m} u inside h i = u.bound m inside h i.lacks.0

-- of one name
end-alone : (root : ℕ) → root < 4096 → end_of (65535 - root + 65536) ≡ Some root
end-alone root h =
    let low : (65535 - root + 65536) % 65536 ≡ 65535 - root = omega arith in
    let back : 65535 - (65535 - root) ≡ root = omega arith in
    rw (low, ne_eqb (65535 - root) 0 (λ e. let f : ⊥ = omega arith in f), back)

module _ {ns roots : List ℕ} {names count m : ℕ} {s : Link} (i : Bound ns roots names count m s) where
  type-known : count ≤ 4096 → s.next ≡ None → EndKnown ns roots count m (65535 - s.root + 65536)
  type-known few k =
      let t = tree_at ns s.root in
      let h = i.inside in
      let low = end-alone s.root (omega arith) in
      record {
        node = λ j z. let one : j ≡ s.root = cc in rw one h;
        is = λ ds b.
            record {
              end = rw low (subst (EndAt ns (Some s.root)) (sym (name-stops ds m t (i.is ds b) (i.stops k))) (s.root, refl, refl));
              crossed = omega (arith, h, alone ds m t (i.is ds b) (i.stops k));
            };
      }

  module _ {j : ℕ} (more : s.next ≡ Some j) (ds : List Definition) (b : Binds ns roots ds) where
    next-same : name_end ds m (find_type ds m) ≡ name_end ds j (find_type ds j)
    next-same = name-next ds m j (tree_at ns s.root) (i.is ds b) (i.goes-on j more)

    next-longer : (name_end ds j (find_type ds j) ≡ circle → ⊥) → alias_length ds (name_type m) ≡ suc (alias_length ds (name_type j))
    next-longer = longer ds m j (tree_at ns s.root) (i.is ds b) (i.goes-on j more)

module _ {ns roots : List ℕ} {names count definitions n m crossed : ℕ} (x : Nodes ns names count)
    {ends' : List ℕ} (u : Unfinished ns roots names count ends') (l : Follows ns roots names definitions n m crossed) where
  -- what is known of the name that was come to is known of the first, with the names before counted
  back : {e : ℕ} → EndKnown ns roots count m e → FollowedAs ns roots count definitions n (Some (e + crossed * 65536))
  back {e} q =
      record {
        never = tt;
        known = known-same l.same q (omega arith) (λ ds b c. omega (arith, c.crossed, l.longer-by ds b (known-ends c)));
      }

  -- the sums are numbers of 32 bits
  pub known-small : definitions ≤ 512 → (ds : List Definition) → Binds ns roots ds → length ds ≡ definitions → (get_or ends' m 0 ≡ 1 → ⊥) → get_or ends' m 0 < 33619968
  known-small few ds b s h =
      let c = (u.known m l.inside h).is ds b in
      omega (arith, c.crossed, crossed-most ds (name_type m))

  pub follow-never : get_or ends' m 0 ≡ 1 → crossed ≡ definitions → FollowedAs ns roots count definitions n None
  follow-never h z =
      let none : definitions - crossed ≡ 0 = omega arith in
      record {
        never = λ ds b s.
            name-end ds n ∙ ap (λ (i : ℕ). last_end (chain_from i ds (name_type n))) s ∙ sym (l.fuel ds b) ∙ ap (λ (i : ℕ). last_end (chain_from i ds (name_type m))) none
            ∙ ap last_end (chain-circle ds (name_type m) m (is-named m) _ (b m ∙ found-some ns _ (u.bound m l.inside h)));
        known = tt;
      }

  module _ {s : Link} (i : Bound ns roots names count m s) where
    pub follow-ends : s.next ≡ None → FollowedAs ns roots count definitions n (Some (65535 - s.root + 65536 + crossed * 65536))
    follow-ends e = back (type-known i x.few_nodes e)

    pub follow-on : {j : ℕ} → s.next ≡ Some j → (crossed ≡ definitions → ⊥) → Follows ns roots names definitions n j (crossed + 1)
    follow-on {j} more z =
        let t = tree_at ns s.root in
        let one_less : definitions - crossed - 1 ≡ definitions - (crossed + 1) = omega arith in
        record {
          inside = i.next-inside j more;
          few = omega (arith, l.few);
          fuel = λ ds b.
              sym (same-chain ds t j (i.goes-on j more) (definitions - (crossed + 1)))
              ∙ sym (ap last_end (chain-on ds (name_type m) m (is-named m) t (definitions - crossed) (i.is ds b) (omega (arith, l.few)) ∙ ap (λ (k : ℕ). cross m (chain_from k ds t)) one_less))
              ∙ l.fuel ds b;
          same = λ ds b. sym (next-same i more ds b) ∙ l.same ds b;
          longer-by = λ ds b e.
              let q = next-same i more ds b in
              omega (arith, l.longer-by ds b (λ c. e (sym q ∙ c)), next-longer i more ds b e);
        }

-- ---- writing down: how many ends are not known yet
unfoldable pub to_find : List ℕ → ℕ
to_find [] = 0
to_find (x ∷ xs) = cond (eqb x 1) 1 0 + to_find xs

to-find-less : (l : List ℕ) (n e : ℕ) → n < length l → get_or l n 0 ≡ 1 → (e ≡ 1 → ⊥) → to_find (set l n e) < to_find l
unfolding to_find
to-find-less [] n e l i h = absurd (omega arith)
to-find-less (x ∷ xs) zero e l i h = rw (i, ne_eqb e 1 h) (omega arith)
to-find-less (x ∷ xs) (suc n) e l i h = omega (arith, to-find-less xs n e (omega arith) i h)

pub record Notes (ns roots : List ℕ) (names count n e : ℕ) (before now' : List ℕ) (m : ℕ) : Type 0 where
  pub inside : m < names
  pub is : EndKnown ns roots count m e
  pub table : Unfinished ns roots names count now'
  pub kept : (j : ℕ) → (get_or before j 0 ≡ 1 → ⊥) → get_or now' j 0 ≡ get_or before j 0
  pub waits : get_or now' n 0 ≡ 1 → n ≡ m

module _ {ns roots : List ℕ} {names count n e m : ℕ} {before now' : List ℕ} (x : Nodes ns names count) (l : Notes ns roots names count n e before now' m) where
  pub note-inside : m < length now'
  note-inside = omega (arith, name-small x l.inside, l.table.long)

  module _ (h : get_or now' m 0 ≡ 1) where
    pub note-less : to_find (set now' m e) < to_find now'
    note-less = to-find-less now' m e note-inside h (known-no-marker x.few_nodes l.is)

    pub note-set : NotedAs ns roots names count n before (set now' m e)
    note-set =
        record {
          table =
              record {
                long = simp length-set l.table.long;
                bound = λ j i q. bound' j i q (ℕ_discrete j m);
                known = λ j i q. known' j i q (ℕ_discrete j m);
                beyond = λ j i. get_or-set_other now' m j e 0 (λ z. let f : ⊥ = omega (arith, l.inside) in f) ∙ l.table.beyond j i;
              };
          kept = λ j i. get_or-set_other now' m j e 0 (λ z. i (sym (l.kept j i) ∙ ap (λ (a : ℕ). get_or now' a 0) z ∙ h)) ∙ l.kept j i;
          known = λ i. new i (ℕ_discrete n m);
        }
      where
        here : get_or (set now' m e) m 0 ≡ e
        here = get_or-set_same now' m e 0 note-inside

        bound' : (j : ℕ) → j < names → get_or (set now' m e) j 0 ≡ 1 → Dec (j ≡ m) → get_or roots j 65535 ≡ 65535 → ⊥
        bound' j i q (yes z) = absurd (known-no-marker x.few_nodes l.is (sym here ∙ ap (λ (a : ℕ). get_or (set now' m e) a 0) (sym z) ∙ q))
        bound' j i q (no z) = l.table.bound j i (sym (get_or-set_other now' m j e 0 z) ∙ q)

        known' : (j : ℕ) → j < names → (get_or (set now' m e) j 0 ≡ 1 → ⊥) → Dec (j ≡ m) → EndKnown ns roots count j (get_or (set now' m e) j 0)
        known' j i q (yes z) = rw (z, here) l.is
        known' j i q (no z) = let o = get_or-set_other now' m j e 0 z in rw o (l.table.known j i (λ a. q (o ∙ a)))

        new : get_or (set now' m e) n 0 ≡ 1 → Dec (n ≡ m) → ⊥
        new i (yes z) = known-no-marker x.few_nodes l.is (sym here ∙ ap (λ (a : ℕ). get_or (set now' m e) a 0) (sym z) ∙ i)
        new i (no z) = z (l.waits (sym (get_or-set_other now' m n e 0 z) ∙ i))

    -- the next name crosses one name less
    module _ {s : Link} (i : Bound ns roots names count m s) {j : ℕ} (more : s.next ≡ Some j) where
      shorter : (ds : List Definition) → Binds ns roots ds → e / 65536 ≡ suc (alias_length ds (name_type j))
      shorter ds b =
          let c = l.is.is ds b in
          c.crossed ∙ next-longer i more ds b (λ z. known-ends c (next-same i more ds b ∙ z))

      pub note-more : 65536 ≤ e
      note-more = let ds = binds-some ns roots in omega (arith, shorter ds.0 ds.1)

      pub note-on : 65536 ≤ e → Notes ns roots names count n (e - 65536) before (set now' m e) j
      note-on far =
          record {
            inside = i.next-inside j more;
            is = known-same (λ ds b. next-same i more ds b) l.is (omega arith) (λ ds b c. omega (arith, shorter ds b));
            table = note-set.table;
            kept = note-set.kept;
            waits = λ a. absurd (note-set.known a);
          }
