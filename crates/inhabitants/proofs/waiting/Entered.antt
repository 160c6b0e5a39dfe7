-- Nodes are entered from the last one to the first, each by what is known of those after it. Assumes nothing.
--     begun                         nothing is entered
--     New, with-it, without-it      one node more,
--     new-nothing, new-ever, new-unbound, new-name, new-all, new-one      by what it waits for
--     entered-room, entered, entered-same                                 as `enter` does it,
--     enters-room, enters, enters-same                                    and a loop over the nodes
use mathlib.Core.Path.{◌≡◌, refl, sym, ap, subst, ◌∙◌}
use mathlib.Core.Logic.{◌⊎◌, inl, inr}
use mathlib.Core.Bool.{Bool, true, false, cond, true≢false}
use mathlib.Core.List.Memᴰ
use mathlib.Core.List.{List, [], ◌∷◌, ◌++◌, Memᴰ}
use Prim.Native.Nat.{ℕ, zero, suc, ◌+◌, ◌-◌, ◌≤◌, ◌<◌}
use native.Mathlib.Decide.{ℕ_discrete, dec_lt}
use native.Mathlib.Omega.{arith}
use borrow.Author.Tests.{eq-eqb, ne_eqb, lt-ltb, le-ltb}
use lib.Dec.{eqb, ltb}
use lib.ListN.{length, get_or, set, replicate, length-set, length-append, length-replicate}
use lib.Seq.{get_or-set_same, get_or-set_other, set-get_or}
use Rattle.format.proofs.Logic.{clash}
use Rattle.format.proofs.References.{everywhere}
use Rattle.judgement.proofs.Lookup.{listed-or-not}
use Rattle.format.specs.Layout.{row_at}
use Rattle.environment.specs.Tables.{Nodes}
use Rattle.environment.specs.declared.scope.Scope.{Scope}
use Rattle.inhabitants.specs.declared.waiting.Wait.{Wait}
use Rattle.inhabitants.specs.declared.waiting.Wait.TheVariants.{Nothing, Ever, All, One, Definition}
use Rattle.inhabitants.specs.declared.waiting.Waiting.{Waiting}
use Rattle.inhabitants.specs.declared.waiting.Held.{Held}
use Rattle.inhabitants.specs.Waiting.{within, root_at, counts, waits, holds, some_left, open_root, held_by, one_settled, IsNew, HeldAs, LinkedAs, LeftAs, EnteredAs}
use Rattle.inhabitants.proofs.waiting.Counts.{counts-same, left-none, left-more}
use Rattle.inhabitants.proofs.waiting.Places.{place-inside, one-holder}
use Rattle.inhabitants.proofs.waiting.Known.{Linked, Silent, HeldIn, FirstIn, NextIn, SettledOr, NodeKnown, Known, KnownOf, AllDone, node-same}
use Rattle.inhabitants.proofs.waiting.Holding.{does-wait, no-wait, waits-not, waits-for, some-settled, none-settled, held-long, held-other, held-some}

-- ---- Nothing is entered
nothing-known : (w : ℕ → Wait) (D : ℕ → Type 0) (ns roots : List ℕ) (nodes : ℕ) → nodes ≤ 4096 →
    Known w D ns roots nodes nodes 0 (replicate 4096 0) (replicate 4096 0) (replicate 4096 0) (replicate 4096 0) []
nothing-known w D ns roots nodes few =
    record {
      left_long = long;
      holder_long = long;
      first_long = long;
      next_long = long;
      before = λ n h. none n;
      node = λ n l h. absurd (omega (arith, l, h));
      held = λ c n e. absurd (no-link c n e);
      firsts = λ r n e. absurd (no-link r n e);
      nexts = λ m n e. absurd (no-link m n e);
      tells = λ n l h. absurd (omega (arith, l, h));
      listed = λ n i. absurd (Memᴰ.not-nil i);
      room = omega (arith, few, left-none 4096);
    }
  where
    long : length {A = ℕ} (replicate 4096 0) ≡ 4096
    long = length-replicate {A = ℕ} 4096 0

    none : (n : ℕ) → ◌≡◌ {A = ℕ} (get_or (replicate 4096 0) n 0) 0
    none n = everywhere 4096 n 0

    no-link : (n m : ℕ) → ◌≡◌ {A = ℕ} (get_or (replicate 4096 0) n 0) (suc m) → ⊥
    no-link n m e = let z : ◌≡◌ {A = ℕ} 0 (suc m) = sym (none n) ∙ e in omega (arith, z)

pub begun : {s : Scope} {w : ℕ → Wait} {D : ℕ → Type 0} {f : Waiting} → IsNew f → KnownOf s w D s.nodes 0 f
begun {s} {w} {D} e = record { known = rw (e.left, e.holder, e.first, e.next, e.ready) (nothing-known w D s.rows.now s.roots.now s.nodes s.whole.few_nodes) }

-- ---- One node more
module _ {w : ℕ → Wait} {D : ℕ → Type 0} {ns roots : List ℕ} {table nodes n : ℕ} (x : Nodes ns table nodes) {left holder first next ready : List ℕ}
    (k : Known w D ns roots nodes (suc n) 0 left holder first next ready) (inside : n < nodes) where
  small : n < 4096
  small = omega (arith, inside, x.few_nodes)

  blank : get_or left n 0 ≡ 0
  blank = k.before n (omega arith)

  -- what waits for a node is entered
  no-holder : get_or holder n 0 ≡ 0
  no-holder = go (get_or holder n 0) refl
    where
      go : (v : ℕ) → get_or holder n 0 ≡ v → v ≡ 0
      go zero e = refl
      go (suc p) e =
          let h = k.held n p e in
          let r = place-inside (x.tree p h.exists).whole h.inside in
          absurd (omega (arith, h.entered, r.0))

  no-next : get_or next n 0 ≡ 0
  no-next = go (get_or next n 0) refl
    where
      go : (v : ℕ) → get_or next n 0 ≡ v → v ≡ 0
      go zero e = refl
      go (suc p) e = let h = k.nexts n p e in absurd (omega (arith, h.entered))

  module _ (v : ℕ) where
    abbrev pub left' : List ℕ
    left' = set left n v

    left-here : get_or left' n 0 ≡ v
    left-here = get_or-set_same left n v 0 (omega (arith, small, k.left_long))

    left-there : (m : ℕ) → (m ≡ n → ⊥) → get_or left' m 0 ≡ get_or left m 0
    left-there m d = get_or-set_other left n m v 0 d

    stays : (m : ℕ) → n < m → get_or left m 0 ≡ 0 → get_or left' m 0 ≡ 0
    stays m l e = left-there m (λ p. omega (arith, l, p)) ∙ e

    -- What is said of the node itself, and what stays so of those after it.
    pub record New (holder' first' next' : List ℕ) : Type 0 where
      pub holder_long : length holder' ≡ 4096
      pub first_long : length first' ≡ 4096
      pub next_long : length next' ≡ 4096
      pub node : NodeKnown w D ns roots left' holder' first' next' n
      pub holder-kept : (m c : ℕ) → n < m → m < nodes → Memᴰ c (within ns m) → get_or holder' c 0 ≡ get_or holder c 0
      pub links-kept : (root m : ℕ) → n < m → Linked first next root m → Linked first' next' root m
      pub held : (c m : ℕ) → get_or holder' c 0 ≡ suc m → HeldIn w ns nodes n c m
      pub firsts : (root m : ℕ) → get_or first' root 0 ≡ suc m → FirstIn w ns roots nodes n root m
      pub nexts : (m j : ℕ) → get_or next' m 0 ≡ suc j → NextIn w ns roots nodes n m j
      pub silent : (m : ℕ) → n < m → get_or left m 0 ≡ 0 → Silent holder first next m → Silent holder' first' next' m
      pub itself : v ≡ 0 → (get_or holder' n 0 ≡ 0) × (get_or first' n 0 ≡ get_or first n 0) × (get_or next' n 0 ≡ 0)

    module _ {holder' first' next' : List ℕ} (s : New holder' first' next') where
      abbrev Listed : List ℕ → Type 0
      Listed f =
          record {
            tells : (m : ℕ) → n ≤ m → m < nodes → get_or left' m 0 ≡ 0 → Memᴰ m f ⊎ Silent holder' first' next' m;
            listed : (m : ℕ) → Memᴰ m f → (n ≤ m) × (m < nodes) × (get_or left' m 0 ≡ 0);
            room : length f + counts some_left left' + n ≤ 4096;
          }

      old-listed : (m : ℕ) → Memᴰ m ready → (n ≤ m) × (m < nodes) × (get_or left' m 0 ≡ 0)
      old-listed m i = let r = k.listed m i in (omega (arith, r.0), r.1, stays m (omega (arith, r.0)) r.2)

      still : (m : ℕ) → n < m → m < nodes → get_or left' m 0 ≡ 0 → Memᴰ m ready ⊎ Silent holder' first' next' m
      still m l h e = go (k.tells m (omega (arith, l)) h was)
        where
          was : get_or left m 0 ≡ 0
          was = sym (left-there m (λ p. omega (arith, l, p))) ∙ e

          go : Memᴰ m ready ⊎ Silent holder first next m → Memᴰ m ready ⊎ Silent holder' first' next' m
          go (inl i) = inl i
          go (inr t) = inr (s.silent m l was t)

      no-more : v ≡ 0 → counts some_left left' ≡ counts some_left left
      no-more z = ap (counts some_left) (ap (set left n) (z ∙ sym blank) ∙ set-get_or left n 0)

      one-more : (v ≡ 0 → ⊥) → counts some_left left' ≡ suc (counts some_left left)
      one-more d = left-more left n v (omega (arith, small, k.left_long)) blank d

      pushed : v ≡ 0 → Listed (ready ++ n ∷ [])
      pushed z =
          record {
            tells = λ m l h e. tells m (ℕ_discrete m n) l h e;
            listed = λ m i. listed m (Memᴰ.append_cases ready i);
            room = omega (arith, k.room, length-append ready (n ∷ []), no-more z);
          }
        where
          tells : (m : ℕ) → Dec (m ≡ n) → n ≤ m → m < nodes → get_or left' m 0 ≡ 0 → Memᴰ m (ready ++ n ∷ []) ⊎ Silent holder' first' next' m
          tells m (yes p) l h e = inl (Memᴰ.append_right ready (Memᴰ.head p))
          tells m (no d) l h e = go (still m (omega (arith, l, d)) h e)
            where
              go : Memᴰ m ready ⊎ Silent holder' first' next' m → Memᴰ m (ready ++ n ∷ []) ⊎ Silent holder' first' next' m
              go (inl i) = inl (Memᴰ.append_left (n ∷ []) i)
              go (inr t) = inr t

          listed : (m : ℕ) → Memᴰ m ready ⊎ Memᴰ m (n ∷ []) → (n ≤ m) × (m < nodes) × (get_or left' m 0 ≡ 0)
          listed m (inl i) = old-listed m i
          listed m (inr i) =
              let p : m ≡ n = Memᴰ.eq_of_singleton i in
              (omega (arith, p), omega (arith, p, inside), ap (λ (j : ℕ). get_or left' j 0) p ∙ left-here ∙ z)

      unpushed : (v ≡ 0 → get_or first n 0 ≡ 0) → Listed ready
      unpushed none = record { tells = λ m l h e. tells m (ℕ_discrete m n) l h e; listed = old-listed; room = room (ℕ_discrete v 0) }
        where
          tells : (m : ℕ) → Dec (m ≡ n) → n ≤ m → m < nodes → get_or left' m 0 ≡ 0 → Memᴰ m ready ⊎ Silent holder' first' next' m
          tells m (no d) l h e = still m (omega (arith, l, d)) h e
          tells m (yes p) l h e =
              let z : v ≡ 0 = sym left-here ∙ ap (λ (j : ℕ). get_or left' j 0) (sym p) ∙ e in
              let i = s.itself z in
              inr (subst (Silent holder' first' next') (sym p) (record { holder-none = i.0; first-none = i.1 ∙ none z; next-none = i.2 }))

          room : Dec (v ≡ 0) → length ready + counts some_left left' + n ≤ 4096
          room (yes z) = omega (arith, k.room, no-more z)
          room (no d) = omega (arith, k.room, one-more d)

      known-with : (f : List ℕ) → Listed f → Known w D ns roots nodes n 0 left' holder' first' next' f
      known-with f g =
          record {
            left_long = length-set left n v ∙ k.left_long;
            holder_long = s.holder_long;
            first_long = s.first_long;
            next_long = s.next_long;
            before = λ m h. left-there m (λ p. omega (arith, p, h)) ∙ k.before m (omega (arith, h));
            node = λ m l h. node m (ℕ_discrete m n) l h;
            held = s.held;
            firsts = s.firsts;
            nexts = s.nexts;
            tells = g.tells;
            listed = g.listed;
            room = g.room;
          }
        where
          node : (m : ℕ) → Dec (m ≡ n) → n ≤ m → m < nodes → NodeKnown w D ns roots left' holder' first' next' m
          node m (yes p) l h = subst (NodeKnown w D ns roots left' holder' first' next') (sym p) s.node
          node m (no d) l h =
              let b : n < m = omega (arith, l, d) in
              node-same (left-there m d) (λ c i. s.holder-kept m c b h i) (s.links-kept (root_at ns roots m) m b) (k.node m (omega (arith, b)) h)

      -- it is listed where it has settled, and is not where it has not, or nobody waits for it
      pub with-it : v ≡ 0 → Known w D ns roots nodes n 0 left' holder' first' next' (ready ++ n ∷ [])
      with-it z = known-with (ready ++ n ∷ []) (pushed z)

      pub without-it : (v ≡ 0 → get_or first n 0 ≡ 0) → Known w D ns roots nodes n 0 left' holder' first' next' ready
      without-it none = known-with ready (unpushed none)

  -- ---- By what it waits for
  held-before : (c m : ℕ) → get_or holder c 0 ≡ suc m → HeldIn w ns nodes n c m
  held-before c m e = let h = k.held c m e in record { entered = omega (arith, h.entered); exists = h.exists; inside = h.inside; types = h.types }

  first-before : (root m : ℕ) → get_or first root 0 ≡ suc m → FirstIn w ns roots nodes n root m
  first-before root m e = let h = k.firsts root m e in record { entered = omega (arith, h.entered); exists = h.exists; name = h.name; root-is = h.root-is }

  next-before : (m j : ℕ) → get_or next m 0 ≡ suc j → NextIn w ns roots nodes n m j
  next-before m j e =
      let h = k.nexts m j e in
      record { entered = omega (arith, h.entered); later = h.later; exists = h.exists; name-before = h.name-before; name = h.name; same = h.same }

  -- a node that is linked to no other
  alone : (v : ℕ) → NodeKnown w D ns roots (left' v) holder first next n → New v holder first next
  alone v o =
      record {
        holder_long = k.holder_long;
        first_long = k.first_long;
        next_long = k.next_long;
        node = o;
        holder-kept = λ m c l h i. refl;
        links-kept = λ root m l q. q;
        held = held-before;
        firsts = first-before;
        nexts = next-before;
        silent = λ m l e t. t;
        itself = λ e. (no-holder, refl, no-next);
      }

  new-nothing : w n ≡ Nothing → (v : ℕ) → v ≡ 0 → New v holder first next
  new-nothing b v z =
      alone v
      (record {
        nothing = λ _. left-here v ∙ z;
        ever = λ e. clash cc;
        all = λ e. clash cc;
        others = λ e. clash cc;
        one = λ e. clash cc;
        names = λ e. clash cc;
        unbound = λ e. clash cc;
      })

  waiting : {v : ℕ} → v ≡ 1 → get_or (left' v) n 0 ≡ 0 → ⊥
  waiting {v} e z = omega (arith, left-here v, e, z)

  new-ever : w n ≡ Ever → (v : ℕ) → v ≡ 1 → New v holder first next
  new-ever b v o =
      alone v
      (record {
        nothing = λ e. clash cc;
        ever = λ _. waiting o;
        all = λ e. clash cc;
        others = λ e. clash cc;
        one = λ e. clash cc;
        names = λ e. clash cc;
        unbound = λ e. clash cc;
      })

  new-unbound : w n ≡ Definition → root_at ns roots n ≡ 65535 → (v : ℕ) → v ≡ 1 → New v holder first next
  new-unbound b r v o =
      alone v
      (record {
        nothing = λ e. clash cc;
        ever = λ e. clash cc;
        all = λ e. clash cc;
        others = λ e. clash cc;
        one = λ e. clash cc;
        names = λ _ some. absurd (some r);
        unbound = λ _ _. waiting o;
      })

  module _ (done : (m : ℕ) → n < m → m < nodes → get_or left m 0 ≡ 0 → D m) where
    -- a name waits for its definition
    module _ (b : w n ≡ Definition) (some : root_at ns roots n ≡ 65535 → ⊥) (root-inside : root_at ns roots n < nodes) where
      abbrev root : ℕ
      root = root_at ns roots n

      root-small : root < 4096
      root-small = omega (arith, root-inside, x.few_nodes)

      settled-name : n < root → get_or left root 0 ≡ 0 → New 0 holder first next
      settled-name l e =
          alone 0
          (record {
            nothing = λ e. clash cc;
            ever = λ e. clash cc;
            all = λ e. clash cc;
            others = λ e. clash cc;
            one = λ e. clash cc;
            names = λ _ _. inl (left-here 0, done root l root-inside e);
            unbound = λ _ r. absurd (some r);
          })

      module _ (waits-root : n < root → get_or left root 0 ≡ 0 → ⊥) where
        abbrev first' : List ℕ
        first' = set first root (suc n)

        abbrev next' : List ℕ
        next' = set next n (get_or first root 0)

        first-here : get_or first' root 0 ≡ suc n
        first-here = get_or-set_same first root (suc n) 0 (omega (arith, root-small, k.first_long))

        next-here : get_or next' n 0 ≡ get_or first root 0
        next-here = get_or-set_same next n (get_or first root 0) 0 (omega (arith, small, k.next_long))

        next-there : (m : ℕ) → (m ≡ n → ⊥) → get_or next' m 0 ≡ get_or next m 0
        next-there m d = get_or-set_other next n m (get_or first root 0) 0 d

        links-kept : (r m : ℕ) → n < m → Linked first next r m → Linked first' next' r m
        links-kept r m l (inr (j, q, e)) = inr (j, q, next-there j (λ p. let h = k.nexts j m e in omega (arith, h.entered, p)) ∙ e)
        links-kept r m l (inl e) = go (ℕ_discrete r root)
          where
            go : Dec (r ≡ root) → Linked first' next' r m
            go (yes p) = inr (n, l, next-here ∙ ap (λ (j : ℕ). get_or first j 0) (sym p) ∙ e)
            go (no d) = inl (get_or-set_other first root r (suc n) 0 d ∙ e)

        firsts : (r m : ℕ) → get_or first' r 0 ≡ suc m → FirstIn w ns roots nodes n r m
        firsts r m e = go (ℕ_discrete r root)
          where
            go : Dec (r ≡ root) → FirstIn w ns roots nodes n r m
            go (yes p) =
                let q : n ≡ m = omega (arith, sym first-here ∙ ap (λ (j : ℕ). get_or first' j 0) (sym p) ∙ e) in
                record {
                  entered = omega (arith, q);
                  exists = omega (arith, q, inside);
                  name = ap w (sym q) ∙ b;
                  root-is = ap (root_at ns roots) (sym q) ∙ sym p;
                }
            go (no d) = first-before r m (sym (get_or-set_other first root r (suc n) 0 d) ∙ e)

        nexts : (m j : ℕ) → get_or next' m 0 ≡ suc j → NextIn w ns roots nodes n m j
        nexts m j e = go (ℕ_discrete m n)
          where
            go : Dec (m ≡ n) → NextIn w ns roots nodes n m j
            go (yes p) =
                let h = k.firsts root j (sym next-here ∙ ap (λ (i : ℕ). get_or next' i 0) (sym p) ∙ e) in
                record {
                  entered = omega (arith, p);
                  later = omega (arith, p, h.entered);
                  exists = h.exists;
                  name-before = ap w p ∙ b;
                  name = h.name;
                  same = ap (root_at ns roots) p ∙ sym h.root-is;
                }
            go (no d) = next-before m j (sym (next-there m d) ∙ e)

        waiting-name : New 1 holder first' next'
        waiting-name =
            record {
              holder_long = k.holder_long;
              first_long = length-set first root (suc n) ∙ k.first_long;
              next_long = length-set next n (get_or first root 0) ∙ k.next_long;
              node =
                  record {
                    nothing = λ e. clash cc;
                    ever = λ e. clash cc;
                    all = λ e. clash cc;
                    others = λ e. clash cc;
                    one = λ e. clash cc;
                    names = λ _ _. inr (left-here 1, inl first-here);
                    unbound = λ _ r. absurd (some r);
                  };
              holder-kept = λ m c l h i. refl;
              links-kept = links-kept;
              held = held-before;
              firsts = firsts;
              nexts = nexts;
              silent = λ m l e t.
                  record {
                    holder-none = t.holder-none;
                    first-none =
                        get_or-set_other first root m (suc n) 0 (λ p. waits-root (omega (arith, l, p)) (ap (λ (j : ℕ). get_or left j 0) (sym p) ∙ e))
                        ∙ t.first-none;
                    next-none = next-there m (λ p. omega (arith, l, p)) ∙ t.next-none;
                  };
              itself = λ z. absurd (omega (arith, z));
            }

      -- whether the definition is open, by what is known of it
      is-open : (n < root → get_or left root 0 ≡ 0 → ⊥) → open_root left n root ≡ true
      unfolding open_root
      is-open h = go (dec_lt n root)
        where
          go : Dec (n < root) → cond (ltb n root) (waits left root) true ≡ true
          go (yes l) = rw (lt-ltb n root l) (does-wait left root (h l))
          go (no d) = rw (le-ltb n root (omega arith)) refl

      is-shut : n < root → get_or left root 0 ≡ 0 → open_root left n root ≡ false
      unfolding open_root
      is-shut l e = rw (lt-ltb n root l) (no-wait left root e)

      abbrev Named : Bool → Type 0
      Named open' = New (cond open' 1 0) holder (cond open' (set first root (suc n)) first) (cond open' (set next n (get_or first root 0)) next)

      new-name : Named (open_root left n root)
      new-name = go (dec_lt n root) (ℕ_discrete (get_or left root 0) 0)
        where
          go : Dec (n < root) → Dec (get_or left root 0 ≡ 0) → Named (open_root left n root)
          go (yes l) (yes z) = rw (is-shut l z) (settled-name l z)
          go (yes l) (no d) = let h = λ (q : n < root). d in rw (is-open h) (waiting-name h)
          go (no d) z = let h = λ (q : n < root) (y : get_or left root 0 ≡ 0). d q in rw (is-open h) (waiting-name h)

    -- one that waits for the types within it holds those of them that wait
    abbrev l : List ℕ
    l = within ns n

    abbrev holder' : List ℕ
    holder' = held_by left (suc n) l holder

    types-inside : {c : ℕ} → Memᴰ c l → (n < c) × (c < nodes)
    types-inside {c} i = let r = place-inside (x.tree n inside).whole i in (r.0, omega (arith, r.1, (x.tree n inside).ends))

    none-before : (c : ℕ) → get_or holder c 0 ≡ suc n → ⊥
    none-before c e = let h = k.held c n e in omega (arith, h.entered)

    held-here : (c : ℕ) → Memᴰ c l → waits left c ≡ true → get_or holder' c 0 ≡ suc n
    held-here c i e = held-some left (suc n) l holder c (omega (arith, (types-inside i).1, x.few_nodes, k.holder_long)) i e

    -- those that wait, and no others
    holds-it : (c : ℕ) → Memᴰ c l → waits left c ≡ holds holder' n c
    holds-it c i = go (waits left c) refl
      where
        go : (b : Bool) → waits left c ≡ b → b ≡ holds holder' n c
        go true e = rw (eq-eqb (get_or holder' c 0) (suc n) (held-here c i e)) refl
        go false e =
            let h : get_or holder' c 0 ≡ get_or holder c 0 = held-other left (suc n) l holder c (λ _ f. true≢false (sym f ∙ e)) in
            rw (ne_eqb (get_or holder' c 0) (suc n) (λ z. none-before c (sym h ∙ z))) refl

    held-now : (w n ≡ All) ⊎ (w n ≡ One) → (c m : ℕ) → get_or holder' c 0 ≡ suc m → HeldIn w ns nodes n c m
    held-now types c m e = go (waits left c) refl (listed-or-not c l)
      where
        go : (b : Bool) → waits left c ≡ b → Memᴰ c l ⊎ (Memᴰ c l → ⊥) → HeldIn w ns nodes n c m
        go true f (inl i) =
            let p : n ≡ m = omega (arith, sym (held-here c i f) ∙ e) in
            subst (HeldIn w ns nodes n c) p (record { entered = omega arith; exists = inside; inside = i; types = types })
        go true f (inr d) = held-before c m (sym (held-other left (suc n) l holder c (λ i _. d i)) ∙ e)
        go false f d = held-before c m (sym (held-other left (suc n) l holder c (λ _ g. true≢false (sym g ∙ f))) ∙ e)

    -- a node that was known to settle, the node itself, and those within later ones are not held anew
    not-held : (c : ℕ) → get_or left c 0 ≡ 0 → get_or holder' c 0 ≡ get_or holder c 0
    not-held c e = held-other left (suc n) l holder c (λ _ g. waits-for left c g e)

    not-itself : get_or holder' n 0 ≡ 0
    not-itself = held-other left (suc n) l holder n (λ i _. let r = types-inside i in omega (arith, r.0)) ∙ no-holder

    not-later : (m c : ℕ) → n < m → m < nodes → Memᴰ c (within ns m) → get_or holder' c 0 ≡ get_or holder c 0
    not-later m c b h i =
        held-other left (suc n) l holder c
        (λ j _. let p : n ≡ m = one-holder (x.tree n inside).whole (x.tree m h).whole j i in omega (arith, b, p))

    -- a type within the node that does not wait is done
    type-done : {c : ℕ} → Memᴰ c l → waits left c ≡ false → D c
    type-done {c} i e = done c (types-inside i).0 (types-inside i).1 (waits-not left c e)

    holding : (w n ≡ All) ⊎ (w n ≡ One) → (v : ℕ) → NodeKnown w D ns roots (left' v) holder' first next n → New v holder' first next
    holding types v o =
        record {
          holder_long = held-long left (suc n) l holder ∙ k.holder_long;
          first_long = k.first_long;
          next_long = k.next_long;
          node = o;
          holder-kept = not-later;
          links-kept = λ root m q t. t;
          held = held-now types;
          firsts = first-before;
          nexts = next-before;
          silent = λ m l e t. record { holder-none = not-held m e ∙ t.holder-none; first-none = t.first-none; next-none = t.next-none };
          itself = λ e. (not-itself, refl, no-next);
        }

    new-all : w n ≡ All → (v : ℕ) → v ≡ counts (waits left) l → New v holder' first next
    new-all b v e =
        holding (inl b) v
        (record {
          nothing = λ q. clash cc;
          ever = λ q. clash cc;
          all = λ _. left-here v ∙ e ∙ counts-same (waits left) (holds holder' n) l (λ c i. holds-it c i);
          others = λ _ c i. others c i (waits left c) refl;
          one = λ q. clash cc;
          names = λ q. clash cc;
          unbound = λ q. clash cc;
        })
      where
        others : (c : ℕ) → Memᴰ c l → (b : Bool) → waits left c ≡ b → (get_or holder' c 0 ≡ suc n) ⊎ D c
        others c i true e = inl (held-here c i e)
        others c i false e = inr (type-done i e)

    new-one : w n ≡ One → (v : ℕ) → v ≡ cond (one_settled left l) 0 1 → New v holder' first next
    new-one b v e =
        holding (inr b) v
        (record {
          nothing = λ q. clash cc;
          ever = λ q. clash cc;
          all = λ q. clash cc;
          others = λ q. clash cc;
          one = λ _. one (one_settled left l) refl;
          names = λ q. clash cc;
          unbound = λ q. clash cc;
        })
      where
        is : {f : Bool} → one_settled left l ≡ f → get_or (left' v) n 0 ≡ cond f 0 1
        is f = left-here v ∙ e ∙ ap (λ (b : Bool). cond b 0 1) f

        one : (f : Bool) → one_settled left l ≡ f → SettledOr (get_or (left' v) n 0) ((c : ℕ) × Memᴰ c l × D c) ((c : ℕ) → Memᴰ c l → get_or holder' c 0 ≡ suc n)
        one true f = let r = some-settled left l f in inl (is f, (r.0, r.1, type-done r.1 r.2))
        one false f = inr (is f, λ c i. held-here c i (none-settled left l f c i))

-- ---- The node that `enter` enters
module _ (s : Scope) where
  abbrev ns : List ℕ
  ns = s.rows.now

  abbrev roots : List ℕ
  roots = s.roots.now

  module _ {w : ℕ → Wait} {D : ℕ → Type 0} (n : ℕ) (f : Waiting) (k : Known w D ns roots s.nodes (suc n) 0 f.left f.holder f.first f.next f.ready.items)
      (inside : n < s.nodes) (done : (m : ℕ) → n < m → m < s.nodes → get_or f.left m 0 ≡ 0 → D m) where
    -- by what it waits for: what was, and what is known now
    module _ (linked : Waiting) (v : ℕ) where
      record Same : Type 0 where
        left : linked.left ≡ f.left
        ready : linked.ready.items ≡ f.ready.items
        known : New s.whole k inside v linked.holder linked.first linked.next

      alike : linked ≡ f → New s.whole k inside v f.holder f.first f.next → Same
      alike e h = record { left = ap (λ (g : Waiting). g.left) e; ready = ap (λ (g : Waiting). g.ready.items) e; known = rw e h }

      by-held : {held : Held} → HeldAs n (within ns n) f linked held →
          New s.whole k inside v (held_by f.left (suc n) (within ns n) f.holder) f.first f.next → Same
      by-held h u = record { left = h.left; ready = ap (λ (a : _). a.items) h.ready; known = rw (h.holder, h.first, h.next) u }

      by-name : w n ≡ Definition → (root_at ns roots n ≡ 65535 → ⊥) → LinkedAs n (root_at ns roots n) f linked v → Same
      by-name b some h =
          record {
            left = h.left-same;
            ready = ap (λ (a : _). a.items) h.ready;
            known = rw (h.waits-is, h.holder, h.first, h.next) (new-name s.whole k inside done b some (s.bound.node (row_at ns n).value some));
          }

      same : LeftAs ns roots n (w n) f linked v → Same
      same a = go (w n) refl (ℕ_discrete (root_at ns roots n) 65535)
        where
          go : (wait : Wait) → w n ≡ wait → Dec (root_at ns roots n ≡ 65535) → Same
          go Nothing e d = let u = a.nothing e in alike u.0 (new-nothing s.whole k inside e v u.1)
          go Ever e d = let u = a.ever e in alike u.0 (new-ever s.whole k inside e v u.1)
          go All e d = let u = a.all e in by-held u.1 (new-all s.whole k inside done e v (u.2 ∙ u.1.open'))
          go One e d = let u = a.one e in by-held u.1 (new-one s.whole k inside done e v (u.2 ∙ ap (λ (b : Bool). cond b 0 1) u.1.settles))
          go Definition e (yes r) = let u = a.unbound e r in alike u.0 (new-unbound s.whole k inside e r v u.1)
          go Definition e (no d) = by-name e d (a.name e d)

    module _ {g : Waiting} (e : EnteredAs ns roots n (w n) f g) where
      is : Same e.linked e.count
      is = same e.linked e.count e.waits-for

      -- it is listed if it has settled and a row waits for it
      abbrev Result : Type 0
      Result =
          Known w D ns roots s.nodes n 0 (set f.left n e.count) e.linked.holder e.linked.first e.linked.next
          (cond (eqb e.count 0) (cond (eqb (get_or e.linked.first n 0) 0) e.linked.ready.items (e.linked.ready.items ++ n ∷ [])) e.linked.ready.items)

      result : Result
      result = go (ℕ_discrete e.count 0) (ℕ_discrete (get_or e.linked.first n 0) 0)
        where
          go : Dec (e.count ≡ 0) → Dec (get_or e.linked.first n 0 ≡ 0) → Result
          go (no d) o = rw (ne_eqb e.count 0 d, is.ready) (without-it s.whole k inside e.count is.known (λ z. absurd (d z)))
          go (yes z) (yes o) =
              rw (eq-eqb e.count 0 z, eq-eqb (get_or e.linked.first n 0) 0 o, is.ready)
              (without-it s.whole k inside e.count is.known (λ y. sym (is.known.itself y).1 ∙ o))
          go (yes z) (no d) = rw (eq-eqb e.count 0 z, ne_eqb (get_or e.linked.first n 0) 0 d, is.ready) (with-it s.whole k inside e.count is.known z)

      now-known : KnownOf s w D n 0 g
      now-known = record { known = rw (e.left, is.left, e.holder, e.first, e.next, e.ready) result }

      others-same : (m : ℕ) → n < m → get_or g.left m 0 ≡ get_or f.left m 0
      others-same m l = rw (e.left, is.left) (get_or-set_other f.left n m e.count 0 (λ p. omega (arith, l, p)))

module _ {s : Scope} {w : ℕ → Wait} {D : ℕ → Type 0} {f : Waiting} (n : ℕ) (r : KnownOf s w D (n + 1) 0 f) where
  after : Known w D s.rows.now s.roots.now s.nodes (suc n) 0 f.left f.holder f.first f.next f.ready.items
  after =
      let e : n + 1 ≡ suc n = omega arith in
      subst (λ (m : ℕ). Known w D s.rows.now s.roots.now s.nodes m 0 f.left f.holder f.first f.next f.ready.items) e r.known

  behind : AllDone s D (n + 1) f → (m : ℕ) → n < m → m < s.nodes → get_or f.left m 0 ≡ 0 → D m
  behind all m l h z = all m (omega (arith, l)) h z

module _ {s : Scope} {w : ℕ → Wait} {D : ℕ → Type 0} {n : ℕ} {f : Waiting} where
  -- there is room for it
  pub entered-room : KnownOf s w D (n + 1) 0 f → n < s.nodes → length f.ready.items < 4096
  entered-room r inside = let k = after n r in omega (arith, k.room)

  module _ {g : Waiting} where
    pub entered : KnownOf s w D (n + 1) 0 f → AllDone s D (n + 1) f → n < s.nodes → EnteredAs s.rows.now s.roots.now n (w n) f g → KnownOf s w D n 0 g
    entered r all inside e = now-known s n f (after n r) inside (behind n r all) e

    -- no other node settles by it
    pub entered-same : KnownOf s w D (n + 1) 0 f → AllDone s D (n + 1) f → n < s.nodes → EnteredAs s.rows.now s.roots.now n (w n) f g →
        (m : ℕ) → n < m → get_or g.left m 0 ≡ get_or f.left m 0
    entered-same r all inside e = others-same s n f (after n r) inside (behind n r all) e

-- ---- As a loop over the nodes does it, from the last one to the first
module _ {s : Scope} {w : ℕ → Wait} {D : ℕ → Type 0} {n : ℕ} {f : Waiting} (r : KnownOf s w D n 0 f) (some : 0 < n) (few : n ≤ s.nodes) where
  one-less : n ≡ (n - 1) + 1
  one-less = omega (arith, some)

  next-known : KnownOf s w D ((n - 1) + 1) 0 f
  next-known = subst (λ (m : ℕ). KnownOf s w D m 0 f) one-less r

  pub enters-room : (n - 1 < s.nodes) × (length f.ready.items < 4096)
  enters-room = let h : n - 1 < s.nodes = omega (arith, some, few) in (h, entered-room next-known h)

  module _ {g : Waiting} {wait : Wait} (all : AllDone s D n f) (is : wait ≡ w (n - 1)) (e : EnteredAs s.rows.now s.roots.now (n - 1) wait f g) where
    next-done : AllDone s D ((n - 1) + 1) f
    next-done = subst (λ (m : ℕ). AllDone s D m f) one-less all

    as-wait : EnteredAs s.rows.now s.roots.now (n - 1) (w (n - 1)) f g
    as-wait = subst (λ (v : Wait). EnteredAs s.rows.now s.roots.now (n - 1) v f g) is e

    pub enters : KnownOf s w D (n - 1) 0 g
    enters = entered next-known next-done enters-room.0 as-wait

    pub enters-same : (m : ℕ) → n ≤ m → get_or g.left m 0 ≡ get_or f.left m 0
    enters-same m l = entered-same next-known next-done enters-room.0 as-wait m (omega (arith, some, l))
