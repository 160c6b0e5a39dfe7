-- The worklist of names that reach one of some names: flagged names wait until all that refers to them is flagged. Assumes nothing.
use mathlib.Core.Path.{◌≡◌, refl, sym, ap, subst, ◌∙◌}
use mathlib.Core.Logic.{◌⊎◌, inl, inr, ⊎_elim}
use mathlib.Core.Bool.{Bool, true, false, cond}
use mathlib.Core.List.Memᴰ
use mathlib.Core.List.{List, [], ◌∷◌, ◌++◌, Memᴰ}
use Prim.Native.Nat.{ℕ, zero, suc, ◌+◌, ◌≤◌, ◌<◌}
use native.Mathlib.Numerals.{add-one}
use native.Mathlib.Decide.{ℕ_discrete, dec_lt}
use native.Mathlib.Omega.{arith}
use borrow.Author.Tests.{ne_eqb}
use lib.Dec.{eqb}
use lib.ListN.{length, get_or, set, take, replicate, get_or-append, length-append, length-set, length-replicate}
use lib.Seq.{get_or-append_seam, get_or-set_same, get_or-set_other, take-suc, take-length}
use Rattle.format.specs.Book.{Definition}
use Rattle.format.proofs.Logic.{eq-says}
use Rattle.format.proofs.References.{everywhere}
use Rattle.environment.specs.Tables.{definitions_in}
use Rattle.listing.specs.References.{Refers, Way, last, step}
use Rattle.format.specs.Layout.{row_at}
use Rattle.analysis.specs.Reaching.{ReachesAny, ReachAs, IsName, Defining, OwnedBy, OwnersAs, LastName, LinksAs}
use Rattle.analysis.proofs.reaching.Near as rows
use Rattle.analysis.proofs.reaching.Rows.{refers-rows}
use Rattle.analysis.proofs.reaching.Ownership.{owned-inside, owned-small}

-- ---- How many flags are set
unfoldable pub marked : List ℕ → ℕ
marked [] = 0
marked (x ∷ xs) = cond (eqb x 1) 1 0 + marked xs

-- one more flag
marked-set : (fs : List ℕ) (n : ℕ) → n < length fs → (get_or fs n 0 ≡ 1 → ⊥) → marked (set fs n 1) ≡ 1 + marked fs
unfolding marked
marked-set [] n l h = let z : ⊥ = omega arith in absurd z
marked-set (x ∷ xs) zero l h = rw (ne_eqb x 1 h) (omega arith)
marked-set (x ∷ xs) (suc n) l h = omega (arith, marked-set xs n (omega arith) h)

pub marked-most : (fs : List ℕ) → marked fs ≤ length fs
unfolding marked
marked-most [] = omega arith
marked-most (x ∷ xs) = go (eqb x 1) (marked-most xs)
  where
    go : (b : Bool) → marked xs ≤ length xs → cond b 1 0 + marked xs ≤ suc (length xs)
    go true h = omega arith
    go false h = omega arith

-- ---- The names that wait
pub record Waits (waiting : List ℕ) (n : ℕ) : Type 0 where
  pub at : ℕ
  pub below : at < length waiting
  pub is : get_or waiting at 0 ≡ n

-- What waits is flagged, and no more than the flags. Flagged are the wanted names, and only names that reach one.
pub record Work (ds : List Definition) (wanted flags waiting : List ℕ) : Type 0 where
  pub long : length flags ≡ 1024
  pub few : length waiting ≤ marked flags
  pub start : (n : ℕ) → Memᴰ n wanted → n < 1024 → get_or flags n 0 ≡ 1
  pub flagged : (k : ℕ) → k < length waiting → get_or flags (get_or waiting k 0) 0 ≡ 1
  pub small : (k : ℕ) → k < length waiting → get_or waiting k 0 < 1024
  pub sound : (n : ℕ) → get_or flags n 0 ≡ 1 → ReachesAny ds wanted n

-- one more
later : {waiting : List ℕ} {n : ℕ} (m : ℕ) → Waits waiting n → Waits (waiting ++ m ∷ []) n
later {waiting} m q =
    record { at = q.at; below = omega (arith, q.below, length-append waiting (m ∷ [])); is = get_or-append waiting (m ∷ []) 0 q.at q.below ∙ q.is }

last-is : (waiting : List ℕ) (m : ℕ) → get_or (waiting ++ m ∷ []) (length waiting) 0 ≡ m
last-is waiting m = get_or-append_seam waiting m [] 0

last-waits : (waiting : List ℕ) (m : ℕ) → Waits (waiting ++ m ∷ []) m
last-waits waiting m = record { at = length waiting; below = omega (arith, length-append waiting (m ∷ [])); is = last-is waiting m }

set-keeps : (flags : List ℕ) (n : ℕ) → n < length flags → (k : ℕ) → get_or flags k 0 ≡ 1 → get_or (set flags n 1) k 0 ≡ 1
set-keeps flags n l k h = go (ℕ_discrete k n)
  where
    go : Dec (k ≡ n) → get_or (set flags n 1) k 0 ≡ 1
    go (yes e) = subst (λ (j : ℕ). get_or (set flags n 1) j 0 ≡ 1) (sym e) (get_or-set_same flags n 1 0 l)
    go (no d) = get_or-set_other flags n k 1 0 d ∙ h

set-only : (flags : List ℕ) (n k : ℕ) → get_or (set flags n 1) k 0 ≡ 1 → (k ≡ n) ⊎ (get_or flags k 0 ≡ 1)
set-only flags n k h = go (ℕ_discrete k n)
  where
    go : Dec (k ≡ n) → (k ≡ n) ⊎ (get_or flags k 0 ≡ 1)
    go (yes e) = inl e
    go (no d) = inr (sym (get_or-set_other flags n k 1 0 d) ∙ h)

-- no flag is set
abbrev pub none-set : List ℕ
none-set = replicate 1024 0

-- One name more.
module _ {ds : List Definition} {wanted flags waiting : List ℕ} (w : Work ds wanted flags waiting) (n : ℕ) (l : n < 1024) (h : get_or flags n 0 ≡ 1 → ⊥) where
  pub work-room : length waiting < 1024
  work-room =
      omega (arith, w.few, w.long, marked-set flags n (omega (arith, w.long)) h, marked-most (set flags n 1), length-set flags n 1)

  marked-more : marked (set flags n 1) ≡ 1 + marked flags
  marked-more = marked-set flags n (omega (arith, w.long)) h

  -- it reaches a wanted one, where that may be itself from now on
  work-add : (wider : List ℕ) → ((k : ℕ) → Memᴰ k wanted → Memᴰ k wider) → ((k : ℕ) → Memᴰ k wider → Memᴰ k wanted ⊎ (k ≡ n)) → ReachesAny ds wider n →
      Work ds wider (set flags n 1) (waiting ++ n ∷ [])
  work-add wider more only r =
      record {
        long = length-set flags n 1 ∙ w.long;
        few = omega (arith, w.few, marked-more, length-append waiting (n ∷ []));
        start = λ k m b. ⊎_elim (λ i. keeps k (w.start k i b)) (λ e. subst (λ (j : ℕ). get_or (set flags n 1) j 0 ≡ 1) (sym e) here) (only k m);
        flagged = λ k b. flagged k (dec_lt k (length waiting)) b;
        small = λ k b. small k (dec_lt k (length waiting)) b;
        sound = λ k e. ⊎_elim (λ q. subst (ReachesAny ds wider) (sym q) r) (λ f. let x = w.sound k f in (x.0, more x.0 x.1, x.2)) (set-only flags n k e);
      }
    where
      here : get_or (set flags n 1) n 0 ≡ 1
      here = get_or-set_same flags n 1 0 (omega (arith, w.long))

      keeps : (k : ℕ) → get_or flags k 0 ≡ 1 → get_or (set flags n 1) k 0 ≡ 1
      keeps = set-keeps flags n (omega (arith, w.long))

      -- the last one that waits
      over : (k : ℕ) → (k < length waiting → ⊥) → k < length (waiting ++ n ∷ []) → get_or (waiting ++ n ∷ []) k 0 ≡ n
      over k u b =
          let z : k ≡ length waiting = omega (arith, length-append waiting (n ∷ [])) in
          ap (λ (j : ℕ). get_or (waiting ++ n ∷ []) j 0) z ∙ last-is waiting n

      flagged : (k : ℕ) → Dec (k < length waiting) → k < length (waiting ++ n ∷ []) → get_or (set flags n 1) (get_or (waiting ++ n ∷ []) k 0) 0 ≡ 1
      flagged k (yes u) b = subst (λ (j : ℕ). get_or (set flags n 1) j 0 ≡ 1) (sym (get_or-append waiting (n ∷ []) 0 k u)) (keeps _ (w.flagged k u))
      flagged k (no u) b = subst (λ (j : ℕ). get_or (set flags n 1) j 0 ≡ 1) (sym (over k u b)) here

      small : (k : ℕ) → Dec (k < length waiting) → k < length (waiting ++ n ∷ []) → get_or (waiting ++ n ∷ []) k 0 < 1024
      small k (yes u) b = omega (arith, get_or-append waiting (n ∷ []) 0 k u, w.small k u)
      small k (no u) b = omega (arith, over k u b)

  -- it is wanted itself
  work-wanted : Work ds (wanted ++ n ∷ []) (set flags n 1) (waiting ++ n ∷ [])
  work-wanted =
      work-add (wanted ++ n ∷ []) (λ k i. Memᴰ.append_left (n ∷ []) i)
      (λ k m. ⊎_elim (λ i. inl i) (λ i. inr (Memᴰ.eq_of_singleton i)) (Memᴰ.append_cases wanted m))
      (n, Memᴰ.append_right wanted (Memᴰ.head refl), inl refl)

-- One number more is wanted, which is a flagged name or none at all.
work-met : {ds : List Definition} {wanted flags waiting : List ℕ} → Work ds wanted flags waiting → (n : ℕ) → (n < 1024 → get_or flags n 0 ≡ 1) → Work ds (wanted ++ n ∷ []) flags waiting
work-met {wanted = wanted} {flags} w n met =
    record {
      long = w.long;
      few = w.few;
      start = λ k m b.
          ⊎_elim (λ i. w.start k i b) (λ i. let e : k ≡ n = Memᴰ.eq_of_singleton i in subst (λ (j : ℕ). get_or flags j 0 ≡ 1) (sym e) (met (omega (arith, e))))
          (Memᴰ.append_cases wanted m);
      flagged = w.flagged;
      small = w.small;
      sound = λ k e. let r = w.sound k e in (r.0, Memᴰ.append_left (n ∷ []) r.1, r.2);
    }

-- None is wanted.
work-none : (ds : List Definition) → Work ds [] none-set []
work-none ds =
    record {
      long = length-replicate {A = ℕ} 1024 0;
      few = omega arith;
      start = λ n m. absurd (Memᴰ.not-nil m);
      flagged = λ k b. absurd (omega arith);
      small = λ k b. absurd (omega arith);
      sound = λ n e. let u : get_or none-set n 0 ≡ 0 = everywhere {A = ℕ} 1024 n 0 in let x : ⊥ = omega arith in absurd x;
    }

-- ---- The loops
-- The last name that waits is a name.
pub name-small : {ds : List Definition} {wanted flags all : List ℕ} (waiting : List ℕ) (m : ℕ) → all ≡ waiting ++ m ∷ [] → Work ds wanted flags all → m < 1024
name-small waiting m e w =
    let s = w.small (length waiting) (omega (arith, ap length e, length-append waiting (m ∷ []))) in
    omega (arith, s, ap (λ (q : List ℕ). get_or q (length waiting) 0) e, last-is waiting m)

module _ (ns owners : List ℕ) (nodes : ℕ) where
  -- Rows from x on that are the name m: the names that own them are flagged.
  pub record Told (flags : List ℕ) (m x : ℕ) : Type 0 where
    pub told : (i n : ℕ) → x ≤ i → i < nodes → IsName ns i m → get_or owners i 0 ≡ suc n → get_or flags n 0 ≡ 1

-- All that refers to a flagged name is flagged, or it waits.
pub record WorkLeft (ns es owners : List ℕ) (nodes definitions : ℕ) (wanted flags waiting : List ℕ) : Type 0 where
  pub work : Work (definitions_in ns es 0 definitions) wanted flags waiting
  pub settled : (n : ℕ) → get_or flags n 0 ≡ 1 → Waits waiting n ⊎ Told ns owners nodes flags n 0

-- So it is but for the name m, to which rows before x may refer that are not done; x links such a row. As many names wait more than at
-- first, with the flags `flags'` and the names `waiting'`, as are flagged more.
pub record NameLeft (ns es owners : List ℕ) (nodes definitions : ℕ) (wanted flags' waiting' flags waiting : List ℕ) (m x : ℕ) : Type 0 where
  pub work : Work (definitions_in ns es 0 definitions) wanted flags waiting
  pub settled : (n : ℕ) → get_or flags n 0 ≡ 1 → (n ≡ m) ⊎ (Waits waiting n ⊎ Told ns owners nodes flags n 0)
  pub here : get_or flags m 0 ≡ 1
  pub told : Told ns owners nodes flags m x
  pub few : x ≤ nodes
  pub link : (i : ℕ) → x ≡ suc i → IsName ns i m
  pub even : marked flags + length waiting' ≡ marked flags' + length waiting

-- The wanted names are flagged and wait, one after the other: those before place j are, and as many wait as are flagged.
pub record WantedLeft (ns es owners : List ℕ) (nodes definitions : ℕ) (wanted flags waiting : List ℕ) (j : ℕ) : Type 0 where
  pub inside : j ≤ length wanted
  pub left : WorkLeft ns es owners nodes definitions (take j wanted) flags waiting

pub wanted-start : (ns es owners : List ℕ) (nodes definitions : ℕ) (wanted : List ℕ) → WantedLeft ns es owners nodes definitions wanted none-set [] 0
wanted-start ns es owners nodes definitions wanted =
    record {
      inside = omega arith;
      left = record {
        work = work-none (definitions_in ns es 0 definitions);
        settled = λ n e. let u : get_or none-set n 0 ≡ 0 = everywhere {A = ℕ} 1024 n 0 in let x : ⊥ = omega arith in absurd x;
      };
    }

pub wanted-end : {ns es owners : List ℕ} {nodes definitions : ℕ} {wanted flags waiting : List ℕ} {j : ℕ} → WantedLeft ns es owners nodes definitions wanted flags waiting j → length wanted ≤ j →
    WorkLeft ns es owners nodes definitions wanted flags waiting
wanted-end {ns} {es} {owners} {nodes} {definitions} {wanted} {flags} {waiting} {j} l h =
    subst (λ (q : List ℕ). WorkLeft ns es owners nodes definitions q flags waiting) (let e : j ≡ length wanted = omega (arith, l.inside) in ap (λ (k : ℕ). take k wanted) e ∙ take-length wanted) l.left

module _ {ns es owners : List ℕ} {nodes definitions : ℕ} {wanted flags waiting : List ℕ} {j : ℕ} (l : WantedLeft ns es owners nodes definitions wanted flags waiting j) (h : j < length wanted) where
  abbrev next-wanted : ℕ
  next-wanted = get_or wanted j 0

  one-more : {flags' waiting' : List ℕ} → WorkLeft ns es owners nodes definitions (take j wanted ++ next-wanted ∷ []) flags' waiting' → WantedLeft ns es owners nodes definitions wanted flags' waiting' (j + 1)
  one-more {flags'} {waiting'} w =
      record { inside = omega arith; left = rw (add-one j, take-suc wanted j 0 h) w }

  -- the next one is flagged, or no name
  pub wanted-met : (next-wanted < 1024 → get_or flags next-wanted 0 ≡ 1) → WantedLeft ns es owners nodes definitions wanted flags waiting (j + 1)
  wanted-met met = one-more record { work = work-met l.left.work next-wanted met; settled = l.left.settled }

  pub wanted-room : next-wanted < 1024 → (get_or flags next-wanted 0 ≡ 1 → ⊥) → length waiting < 1024
  wanted-room small fresh = work-room l.left.work next-wanted small fresh

  -- it is flagged now, and waits
  pub wanted-new : next-wanted < 1024 → (get_or flags next-wanted 0 ≡ 1 → ⊥) → {all : List ℕ} → all ≡ waiting ++ next-wanted ∷ [] → WantedLeft ns es owners nodes definitions wanted (set flags next-wanted 1) all (j + 1)
  wanted-new small fresh {all} is =
      one-more
      (subst (WorkLeft ns es owners nodes definitions (take j wanted ++ n ∷ []) (set flags n 1)) (sym is)
      record {
        work = added;
        settled = λ k e. ⊎_elim (λ q. inl (subst (Waits (waiting ++ n ∷ [])) (sym q) (last-waits waiting n))) (λ f. ⊎_elim (λ q. inl (later n q)) (λ t. inr (keeps k t)) (l.left.settled k f)) (set-only flags n k e);
      })
    where
      n : ℕ
      n = next-wanted

      long : length flags ≡ 1024
      long = l.left.work.long

      keeps : (k : ℕ) → Told ns owners nodes flags k 0 → Told ns owners nodes (set flags n 1) k 0
      keeps k t = record { told = λ i q b c v p. set-keeps flags n (omega (arith, small, long)) q (t.told i q b c v p) }

      added : Work (definitions_in ns es 0 definitions) (take j wanted ++ n ∷ []) (set flags n 1) (waiting ++ n ∷ [])
      added = work-wanted l.left.work n small fresh

module _ {ns es : List ℕ} {names nodes definitions : ℕ} (D : Defining ns es names nodes definitions) {owners : List ℕ} (O : OwnersAs ns es definitions owners)
    {head next : List ℕ} (L : LinksAs ns nodes head next) {wanted flags waiting : List ℕ} where
  pub name-start : {all : List ℕ} {m : ℕ} → all ≡ waiting ++ m ∷ [] → WorkLeft ns es owners nodes definitions wanted flags all →
      NameLeft ns es owners nodes definitions wanted flags waiting flags waiting m (get_or head m 0)
  name-start {m = m} e u =
      let l = subst (WorkLeft ns es owners nodes definitions wanted flags) e u in
      let a = L.last m (name-small waiting m e u.work) in
      let w = l.work in
      let more : length (waiting ++ m ∷ []) ≡ length waiting + 1 = length-append waiting (m ∷ []) in
      record {
        work = record {
          long = w.long;
          few = omega (arith, w.few, more);
          start = w.start;
          flagged = λ k b. subst (λ (j : ℕ). get_or flags j 0 ≡ 1) (get_or-append waiting (m ∷ []) 0 k b) (w.flagged k (omega (arith, more)));
          small = λ k b. omega (arith, get_or-append waiting (m ∷ []) 0 k b, w.small k (omega (arith, more)));
          sound = w.sound;
        };
        settled = λ n e. ⊎_elim (λ q. waits n q (dec_lt q.at (length waiting))) (λ t. inr (inr t)) (l.settled n e);
        here = subst (λ (j : ℕ). get_or flags j 0 ≡ 1) (last-is waiting m) (w.flagged (length waiting) (omega (arith, more)));
        told = record { told = λ i n b c e o. absurd (a.none i b c e) };
        few = a.inside;
        link = a.some;
        even = refl;
      }
    where
      waits : (n : ℕ) (q : Waits (waiting ++ m ∷ []) n) → Dec (q.at < length waiting) → (n ≡ m) ⊎ (Waits waiting n ⊎ Told ns owners nodes flags n 0)
      waits n q (yes u) = inr (inl record { at = q.at; below = u; is = sym (get_or-append waiting (m ∷ []) 0 q.at u) ∙ q.is })
      waits n q (no u) =
          let z : q.at ≡ length waiting = omega (arith, q.below, length-append waiting (m ∷ [])) in
          inl (sym q.is ∙ ap (λ (j : ℕ). get_or (waiting ++ m ∷ []) j 0) z ∙ last-is waiting m)

  module _ {flags' waiting' : List ℕ} {m : ℕ} where
    pub name-end : {x : ℕ} → NameLeft ns es owners nodes definitions wanted flags' waiting' flags waiting m x → x ≡ 0 → WorkLeft ns es owners nodes definitions wanted flags waiting
    name-end l z =
        record {
          work = l.work;
          settled = λ n e. ⊎_elim (λ q. inr (subst (λ (j : ℕ). Told ns owners nodes flags j 0) (sym q) (subst (λ (j : ℕ). Told ns owners nodes flags m j) z l.told))) (λ s. s) (l.settled n e);
        }

    module _ {x : ℕ} (l : NameLeft ns es owners nodes definitions wanted flags' waiting' flags waiting m x) (row : ℕ) (e : x ≡ row + 1) where
      -- the link before one
      pub next-most : get_or next row 0 ≤ row
      next-most = (L.before row m (omega (arith, l.few)) (l.link row (omega arith))).inside

      -- a row is passed whose owner, if it has one, is flagged
      name-on : ((n : ℕ) → get_or owners row 0 ≡ suc n → get_or flags n 0 ≡ 1) → NameLeft ns es owners nodes definitions wanted flags' waiting' flags waiting m (get_or next row 0)
      name-on told =
          let is : IsName ns row m = l.link row (omega arith) in
          let a : LastName ns m row (get_or next row 0) = L.before row m (omega (arith, l.few)) is in
          record {
            work = l.work;
            settled = l.settled;
            here = l.here;
            told = record { told = λ i n b c v o. go a i n b c v o (ℕ_discrete i row) (dec_lt i row) };
            few = omega (arith, a.inside, l.few);
            link = a.some;
            even = l.even;
          }
        where
          go : LastName ns m row (get_or next row 0) → (i n : ℕ) → get_or next row 0 ≤ i → i < nodes → IsName ns i m → get_or owners i 0 ≡ suc n →
              Dec (i ≡ row) → Dec (i < row) → get_or flags n 0 ≡ 1
          go a i n b c v o (yes z) d = told n (subst (λ (j : ℕ). get_or owners j 0 ≡ suc n) z o)
          go a i n b c v o (no z) (yes y) = absurd (a.none i b y v)
          go a i n b c v o (no z) (no y) = l.told.told i n (omega arith) c v o

      -- it has none
      pub name-skip : get_or owners row 0 ≡ 0 → NameLeft ns es owners nodes definitions wanted flags' waiting' flags waiting m (get_or next row 0)
      name-skip z = name-on (λ n o. let f : ⊥ = omega arith in absurd f)

      -- its owner was flagged before
      pub name-met : (n : ℕ) → get_or owners row 0 ≡ suc n → get_or flags n 0 ≡ 1 → NameLeft ns es owners nodes definitions wanted flags' waiting' flags waiting m (get_or next row 0)
      name-met n o f = name-on (λ k p. let z : n ≡ k = omega arith in subst (λ (j : ℕ). get_or flags j 0 ≡ 1) z f)

      -- its owner is flagged, and waits
      name-add : (n : ℕ) → get_or owners row 0 ≡ suc n → (get_or flags n 0 ≡ 1 → ⊥) → NameLeft ns es owners nodes definitions wanted flags' waiting' (set flags n 1) (waiting ++ n ∷ []) m x
      name-add n o fresh =
          record {
            work = work-add l.work n small fresh wanted (λ k i. i) (λ k i. inl i) reach;
            settled = λ k f. ⊎_elim (λ q. inr (inl (subst (Waits (waiting ++ n ∷ [])) (sym q) (last-waits waiting n)))) (λ g. ⊎_elim (λ q. inl q) (λ s. inr (⊎_elim (λ q. inl (later n q)) (λ t. inr (keeps k 0 t)) s)) (l.settled k g)) (set-only flags n k f);
            here = set-keeps flags n (omega (arith, small, l.work.long)) m l.here;
            told = keeps m x l.told;
            few = l.few;
            link = l.link;
            even = omega (arith, l.even, marked-more l.work n small fresh, length-append waiting (n ∷ []));
          }
        where
          owned : OwnedBy ns es definitions row n
          owned = (O.exact row n).1 o

          small : n < 1024
          small = owned-small D owned

          refers : Refers (definitions_in ns es 0 definitions) n m
          refers = (refers-rows ns es definitions n m).1 (row, owned, l.link row (omega arith))

          reach : ReachesAny (definitions_in ns es 0 definitions) wanted n
          reach =
              let r = l.work.sound m l.here in
              (r.0, r.1, inr (⊎_elim (λ z. (r.0 ∷ [], last (subst (Refers (definitions_in ns es 0 definitions) n) z refers))) (λ w. (_, step refers w.1)) r.2))

          keeps : (u y : ℕ) → Told ns owners nodes flags u y → Told ns owners nodes (set flags n 1) u y
          keeps u y t = record { told = λ i k b c v p. set-keeps flags n (omega (arith, small, l.work.long)) k (t.told i k b c v p) }

  -- ---- The end: nothing waits
  module _ (l : WorkLeft ns es owners nodes definitions wanted flags waiting) (over : length waiting ≡ 0) where
    closed : (m n : ℕ) → Refers (definitions_in ns es 0 definitions) m n → get_or flags n 0 ≡ 1 → get_or flags m 0 ≡ 1
    closed m n r f =
        let x = (refers-rows ns es definitions m n).0 r in
        ⊎_elim (λ q. absurd (omega (arith, q.below))) (λ t. t.told x.0 m (omega arith) (owned-inside D x.1) x.2 ((O.exact x.0 m).0 x.1)) (l.settled n f)

    -- what a way comes to is a name of the book
    way-small : {m n : ℕ} {w : List ℕ} → Way (definitions_in ns es 0 definitions) m w n → n < 1024
    way-small {m} {n} (last r) =
        let x = (refers-rows ns es definitions m n).0 r in
        omega (arith, rows.name-small D.known (owned-inside D x.1) (row_at ns x.0) refl x.2.kind, x.2.value)
    way-small (step r w) = way-small w

    way-flagged : {m n : ℕ} {w : List ℕ} → Way (definitions_in ns es 0 definitions) m w n → get_or flags n 0 ≡ 1 → get_or flags m 0 ≡ 1
    way-flagged {m} {n} (last r) f = closed m n r f
    way-flagged {m} (step {k = k} r w) f = closed m k r (way-flagged w f)

    -- a wanted name that is reached is one of the book
    wanted-flagged : {m : ℕ} → m < 1024 → ReachesAny (definitions_in ns es 0 definitions) wanted m → get_or flags m 0 ≡ 1
    wanted-flagged {m} b (n, i, inl e) = subst (λ (j : ℕ). get_or flags j 0 ≡ 1) (sym e) (l.work.start n i (omega (arith, e)))
    wanted-flagged b (n, i, inr w) = way-flagged w.1 (l.work.start n i (way-small w.1))

    pub work-end : ReachAs (definitions_in ns es 0 definitions) wanted flags
    work-end =
        record {
          long = l.work.long;
          exact = λ m b. (
            λ t. l.work.sound m ((eq-says _ 1).0 t),
            λ r. (eq-says _ 1).1 (wanted-flagged b r),
          );
        }

-- A row is passed whose owner is flagged now, and waits.
module _ {ns es : List ℕ} {names nodes definitions : ℕ} (D : Defining ns es names nodes definitions) {owners : List ℕ} (O : OwnersAs ns es definitions owners)
    {head next : List ℕ} (L : LinksAs ns nodes head next) {wanted flags' waiting' flags waiting : List ℕ} {m x : ℕ} where
  pub name-new : (l : NameLeft ns es owners nodes definitions wanted flags' waiting' flags waiting m x) → (row : ℕ) → x ≡ row + 1 →
      (n : ℕ) → get_or owners row 0 ≡ suc n → (get_or flags n 0 ≡ 1 → ⊥) → {all : List ℕ} → all ≡ waiting ++ n ∷ [] →
      NameLeft ns es owners nodes definitions wanted flags' waiting' (set flags n 1) all m (get_or next row 0)
  name-new l row e n o fresh is =
      subst (λ (q : List ℕ). NameLeft ns es owners nodes definitions wanted flags' waiting' (set flags n 1) q m (get_or next row 0)) (sym is)
      (name-met D O L (name-add D O L l row e n o fresh) row e n o
      (get_or-set_same flags n 1 0 (omega (arith, owned-small D ((O.exact row n).1 o), l.work.long))))
