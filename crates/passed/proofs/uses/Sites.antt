-- Which types use a name, and what an actor offers where its own alias is followed first. Assumes nothing.
--     followed                  the same is offered
--     used-says                 a wanted name is reachable from a type exactly if one of the type's names has a flag
--     used-hits                 the table of first rows says the same
use mathlib.Core.Path.{◌≡◌, refl, sym, ap, subst, ◌∙◌}
use mathlib.Core.Logic.{◌↔◌, ⊎_elim}
use mathlib.Core.Bool.{Bool, true, false, ◌||◌}
use mathlib.Core.List.Memᴰ
use mathlib.Core.List.{List, [], ◌∷◌, Memᴰ}
use Prim.Native.Nat.{ℕ, zero, suc, ◌+◌, ◌≤◌, ◌<◌}
use native.Mathlib.Decide.{dec_lt}
use native.Mathlib.Omega.{arith}
use lib.Dec.{T, eqb, ltb}
use lib.ListN.{length, get_or}
use Rattle.format.specs.Forest.{Forest, end, tree}
use Rattle.format.specs.Node.{Node}
use Rattle.format.specs.Book.{Definition}
use Rattle.format.specs.Layout.{row_at}
use Rattle.format.specs.Whole.{tree_at}
use Rattle.format.specs.References.{references}
use Rattle.format.proofs.Logic.{same-test}
use Rattle.judgement.specs.Environment.{is_serv_kind, Head, named, other, head, head_kind}
use Rattle.judgement.specs.Aliases.{alias_end, methods_at, root_passes, as_service, End, unbound, circle, ends}
use Rattle.judgement.specs.Actor.{class_arguments, below_class, is_class, is_class_kind}
use Rattle.judgement.specs.WellFormed.{Defined}
use Rattle.judgement.proofs.Lookup.{listed-defined}
use Rattle.environment.specs.Tables.{Nodes}
use Rattle.book.specs.Tables.{is_set}
use Rattle.listing.specs.Sites.{Site, type_of}
use Rattle.listing.specs.Uses.{kept}
use Rattle.listing.specs.References.{Reachable, Way, last, step}
use Rattle.analysis.specs.Reaching.{ReachAs, NearAs}
use Rattle.analysis.specs.Entries.{Test, hit, HitsIn}
use Rattle.analysis.proofs.reaching.Rows.{From, reachable-says, near-refers}
use Rattle.judgement.proofs.Walks.{is-service}
use Rattle.environment.proofs.FuncEnds.{stays}
use Rattle.judgement.proofs.Heads.{named-no-class}

-- ---- An actor's own alias followed first: one that is a name stands for a service, which is no class
module _ (ds : List Definition) where
  abbrev Same : Forest Node → Forest Node → Type 0
  Same u t = (class_arguments u ≡ class_arguments t) × (methods_at (alias_end ds (below_class u)) ≡ methods_at (alias_end ds (below_class t)))

  by-end : (t : Forest Node) → is_class t ≡ false → (e : End) → alias_end ds t ≡ e → root_passes is_serv_kind e ≡ true → Same (type_of e) t
  unfolding root_passes type_of is_class is_class_kind class_arguments below_class head head_kind
  by-end t c (unbound n) h s = absurd (subst T (sym s) tt)
  by-end t c circle h s = absurd (subst T (sym s) tt)
  by-end t c (ends end) h s = absurd (subst T (sym s) tt)
  by-end t c (ends (tree m kids next)) h s =
      let k = is-service m.kind (subst T (sym s) tt) in
      let u = tree m kids next in
      let no : is_class u ≡ false = rw k in
      (rw (c, no), rw (c, no, h) (ap methods_at (stays ds u (rw k))))

  pub followed : (t : Forest Node) → as_service ds (below_class t) ≡ true → Same (type_of (alias_end ds t)) t
  unfolding as_service type_of below_class
  followed t s = go (head t) refl
    where
      go : (h : Head) → head t ≡ h → Same (type_of (alias_end ds t)) t
      go other h = rw (stays ds t h) (refl, refl)
      go (named n) h = let c = named-no-class t h in by-end t c (alias_end ds t) refl (rw c at s)

-- ---- A test of types: one of their names has its flag set
unfoldable pub any_set : List ℕ → List ℕ → Bool
any_set flags [] = false
any_set flags (m ∷ l) = is_set flags m || any_set flags l

record SetIn (flags l : List ℕ) : Type 0 where
  name : ℕ
  listed : Memᴰ name l
  set : T (is_set flags name)

any-says : (flags l : List ℕ) → T (any_set flags l) ↔ SetIn flags l
unfolding any_set
any-says flags [] = (λ (t : ⊥). absurd t, λ x. Memᴰ.not-nil x.listed)
any-says flags (m ∷ l) = go (is_set flags m) refl (any-says flags l)
  where
    go : (b : Bool) → is_set flags m ≡ b → T (any_set flags l) ↔ SetIn flags l → T (b || any_set flags l) ↔ SetIn flags (m ∷ l)
    go true e i = (λ t. record { name = m; listed = Memᴰ.head refl; set = rw e tt }, λ x. tt)
    go false e i = (
      λ t. let y = i.0 t in record { name = y.name; listed = Memᴰ.tail y.listed; set = y.set },
      λ x. ⊎_elim (λ q. absurd (subst T (ap (is_set flags) q ∙ e) x.set)) (λ q. i.1 record { name = x.name; listed = q; set = x.set }) (Memᴰ.cases_cons x.listed),
    )

set-small : (flags : List ℕ) (m : ℕ) → length flags ≡ 1024 → T (is_set flags m) → m < 1024
set-small flags m h t = go (dec_lt m 1024)
  where
    beyond : (l : List ℕ) (n : ℕ) → length l ≤ n → get_or l n 0 ≡ 0
    beyond [] n k = refl
    beyond (x ∷ l) zero k = absurd (omega arith)
    beyond (x ∷ l) (suc n) k = beyond l n (omega arith)

    go : Dec (m < 1024) → m < 1024
    go (yes k) = k
    go (no k) = absurd (subst (λ (v : ℕ). T (eqb v 1)) (beyond flags m (omega arith)) t)

way-defined : {ds : List Definition} {m n : ℕ} {l : List ℕ} → Way ds m l n → Defined ds m
way-defined (last q) = listed-defined q.listed q.named
way-defined (step q w) = listed-defined q.listed q.named

-- by these flags
abbrev pub used_by : List ℕ → Test
used_by flags t = any_set flags (references t)

-- by the flags of the names that reach wanted ones: a wanted name is reachable from the type
module _ {ds : List Definition} {wanted flags : List ℕ} (reach : ReachAs ds wanted flags) (small : (m : ℕ) → Defined ds m → m < 1024) where
  first-small : {t : Forest Node} {n : ℕ} → n < 1024 → (x : From ds t n) → x.first < 1024
  first-small few x = ⊎_elim (λ e. omega (arith, e)) (λ w. small x.first (way-defined w.1)) x.reaches

  pub used-says : (t : Forest Node) → ((n : ℕ) → Memᴰ n wanted → Reachable ds t n → n < 1024) → T (used_by flags t) ↔ ((n : ℕ) × Memᴰ n wanted × Reachable ds t n)
  used-says t few = (
    λ h. let x = (any-says flags (references t)).0 h in
        let y = (reach.exact x.name (set-small flags x.name reach.long x.set)).0 x.set in
        (y.0, y.1, (reachable-says ds t y.0).1 record { first = x.name; refers = x.listed; reaches = y.2 }),
    λ r. let x = (reachable-says ds t r.0).0 r.2 in
        (any-says flags (references t)).1
        record { name = x.first; listed = x.refers; set = (reach.exact x.first (first-small (few r.0 r.1 r.2) x)).1 (r.0, r.1, x.reaches) },
  )

-- the table of first rows says the same of each node's tree
pub used-hits : {ns flags near : List ℕ} {names nodes : ℕ} → Nodes ns names nodes → NearAs ns flags nodes near → HitsIn (used_by flags) ns near 0 nodes
unfolding hit
used-hits {ns} {flags} {near} {nodes = nodes} k table = record {
  agrees = λ i l h.
      let a = any-says flags (references (tree_at ns i)) in
      let e = near-refers table i (i + (row_at ns i).size) (omega arith) (k.tree i h).ends in
      same-test (used_by flags (tree_at ns i)) (ltb (get_or near i 0) (i + (row_at ns i).size))
      (λ t. let x = a.0 t in e.1 (x.name, x.listed, x.set), λ t. let x = e.0 t in a.1 record { name = x.0; listed = x.1; set = x.2 });
}

-- Tests that agree on sites keep the same.
pub kept-same : (f g : Site → Bool) (ss : List Site) → ((s : Site) → Memᴰ s ss → f s ≡ g s) → kept f ss ≡ kept g ss
unfolding kept
kept-same f g [] h = refl
kept-same f g (s ∷ ss) h = rw (h s (Memᴰ.head refl), kept-same f g ss (λ u m. h u (Memᴰ.tail m)))
