-- The loop of `infer_rec` over the listed names. Assumes nothing.
--     each-known, each-after       names that are seen change nothing; others are seen afterwards
--     InferLeft, infer-..          the loop
use mathlib.Core.Path.{◌≡◌, refl, sym, ap, ap₂, subst, ◌∙◌}
use mathlib.Core.Logic.{⊎_elim}
use mathlib.Core.Bool.{Bool, true, false, ◌||◌}
use mathlib.Core.List.Memᴰ
use mathlib.Core.List.{List, [], ◌∷◌, Memᴰ}
use Prim.Native.Nat.{ℕ, ◌+◌, ◌≤◌, ◌<◌}
use native.Mathlib.Numerals.{add-one}
use native.Mathlib.Decide.{ℕ_discrete, dec_lt}
use native.Mathlib.Omega.{arith}
use borrow.Author.Tests.{eq-eqb}
use lib.Dec.{eqb}
use Rattle.std.proofs.Common.{Ok, Err}
use Rattle.refusals.specs.declared.Refusal.TheVariants.{Unbound}
use lib.ListN.{length, get_or, set, drop, length-set, get_or-eq_default}
use lib.Seq.{drop-cons, drop-length, get_or-set_other}
use Rattle.format.specs.Book.{Definition}
use Rattle.format.specs.References.{references}
use Rattle.format.specs.Whole.{tree_at}
use Rattle.judgement.specs.Environment.{Found, missing, body, find_type}
use Rattle.judgement.specs.Check.{member}
use Rattle.format.proofs.Logic.{clash}
use Rattle.book.specs.Tables.{no_flags, is_set}
use Rattle.environment.specs.Tables.{found_at, Binds}
use Rattle.environment.proofs.Links.{found-none, found-some}
use Rattle.listing.specs.Recursive.{marking, unbound, note, note_name, see, listed, infer_from}
use Rattle.listing.specs.Recursive as listing
use Rattle.listing.proofs.Leaves.{each}
use Rattle.analysis.specs.declared.recursive.Marks.{Marks}
use Rattle.analysis.proofs.BookNodes.{Rooted}
use Rattle.analysis.specs.Marking.{Flagged, MarksHold, Begun, InferredAs}
use Rattle.analysis.proofs.recursive.Rows.{GoneThrough, NodeIn, no-flags-length, no-flags-at, agrees-set, agrees-again, tree-each}

-- ---- Names that are seen

-- All of these names are; and all that were.
pub record Known (vs seen : List ℕ) : Type 0 where
  pub each-is : (v : ℕ) → Memᴰ v vs → member v seen ≡ true

pub record Grows (seen seen' : List ℕ) : Type 0 where
  pub keeps : (v : ℕ) → member v seen ≡ true → member v seen' ≡ true

member-head : (v k : ℕ) (l : List ℕ) → v ≡ k → member v (k ∷ l) ≡ true
unfolding member
member-head v k l e = rw (eq-eqb v k e)

grows-one : (k : ℕ) (l : List ℕ) → Grows l (k ∷ l)
unfolding member
grows-one k l = record { keeps = λ v h. look v (eqb v k) h }
  where
    look : (v : ℕ) (b : Bool) → member v l ≡ true → (b || member v l) ≡ true
    look v true h = refl
    look v false h = h

grows-on : {l m n : List ℕ} → Grows l m → Grows m n → Grows l n
grows-on g h = record { keeps = λ v e. h.keeps v (g.keeps v e) }

known-on : {vs l m : List ℕ} → Known vs l → Grows l m → Known vs m
known-on k g = record { each-is = λ v i. g.keeps v (k.each-is v i) }

each-known : (vs seen set' : List ℕ) → Known vs seen → each note_name vs (marking seen set') ≡ marking seen set'
unfolding note_name note
each-known [] seen set' k = refl
each-known (v ∷ vs) seen set' k =
    ap (λ (b : Bool). each note_name vs (note v b seen set')) (k.each-is v (Memᴰ.head refl))
    ∙ each-known vs seen set' (record { each-is = λ w i. k.each-is w (Memᴰ.tail i) })

-- What is seen and marked after names were noted.
record After (vs seen set' : List ℕ) : Type 0 where
  now-seen : List ℕ
  now-set : List ℕ
  state : each note_name vs (marking seen set') ≡ marking now-seen now-set
  grows : Grows seen now-seen
  known : Known vs now-seen

each-after : (vs seen set' : List ℕ) → After vs seen set'
unfolding note_name note
each-after [] seen set' =
    record { now-seen = seen; now-set = set'; state = refl; grows = record { keeps = λ v e. e }; known = record { each-is = λ v i. absurd (Memᴰ.not-nil i) } }
each-after (v ∷ vs) seen set' = look (member v seen) refl (each-after vs)
  where
    all : {l : List ℕ} → member v l ≡ true → Known vs l → Known (v ∷ vs) l
    all {l} h k = record { each-is = λ w i. ⊎_elim (λ (e : w ≡ v). ap (λ (u : ℕ). member u l) e ∙ h) (k.each-is w) (Memᴰ.cases_cons i) }

    look : (b : Bool) → member v seen ≡ b → ((seen₁ set₁ : List ℕ) → After vs seen₁ set₁) → After (v ∷ vs) seen set'
    look true e f =
        let x = f seen set' in
        record {
          now-seen = x.now-seen;
          now-set = x.now-set;
          state = ap (λ (b : Bool). each note_name vs (note v b seen set')) e ∙ x.state;
          grows = x.grows;
          known = all (x.grows.keeps v e) x.known;
        }
    look false e f =
        let x = f (v ∷ seen) (v ∷ set') in
        record {
          now-seen = x.now-seen;
          now-set = x.now-set;
          state = ap (λ (b : Bool). each note_name vs (note v b seen set')) e ∙ x.state;
          grows = grows-on (grows-one v seen) x.grows;
          known = all (x.grows.keeps v (member-head v v seen refl)) x.known;
        }

-- ---- The loop: what is left of the list, from what is seen; and names that were gone through stay so
abbrev pub refs_of : List ℕ → List ℕ → ℕ → List ℕ
refs_of ns roots n = references (tree_at ns (get_or roots n 65535))

pub record Inferring (ns roots list done : List ℕ) (m : Marks) (i : ℕ) {first : Marks} (b : Begun ns roots first) : Type 0 where
  pub seen-now : List ℕ
  pub set-now : List ℕ
  pub holds : Flagged seen-now set-now m
  pub rest : infer_from b.definitions (drop i list) (marking seen-now set-now) ≡ infer_from b.definitions list (marking b.seen-by b.marked-by)
  pub gone : (n : ℕ) → is_set done n ≡ true → (member n seen-now ≡ true) × Known (refs_of ns roots n) seen-now

pub record InferLeft (ns roots list : List ℕ) (first m : Marks) (done : List ℕ) (i : ℕ) : Type 0 where
  pub passed : i ≤ length list
  pub done-long : length done ≡ 1024
  pub inferring : (b : Begun ns roots first) → Inferring ns roots list done m i b

infer-unbound : (ds : List Definition) (l : List ℕ) (n : ℕ) → infer_from ds l (unbound n) ≡ unbound n
unfolding infer_from listed
infer-unbound ds [] n = refl
infer-unbound ds (k ∷ l) n = infer-unbound ds l n

abbrev pub seen_also : ℕ → Marks → Marks
seen_also n r = record { seen = set r.seen n 1; marked = r.marked }

module _ {ns roots list : List ℕ} {first : Marks} where
  pub infer-start : {done : List ℕ} → done ≡ no_flags → InferLeft ns roots list first first done 0
  infer-start e =
      record {
        passed = omega arith;
        done-long = ap length e ∙ no-flags-length;
        inferring = λ b.
            record {
              seen-now = b.seen-by;
              set-now = b.marked-by;
              holds = b.holds;
              rest = refl;
              gone = λ n q. let z : true ≡ false = sym q ∙ ap (λ (f : List ℕ). is_set f n) e ∙ no-flags-at n in clash cc;
            };
      }

  module _ {m : Marks} {done : List ℕ} {i : ℕ} (l : InferLeft ns roots list first m done i) where
    pub infer-end : length list ≤ i → InferredAs ns roots list first (Ok m)
    unfolding infer_from
    infer-end h =
        record {
          holds = λ b.
              let z : i ≡ length list = omega (arith, l.passed) in
              let x = l.inferring b in
              subst (λ (s : listing.Marks). MarksHold s (Ok m))
              (sym (ap (λ (k : List ℕ). infer_from b.definitions k (marking x.seen-now x.set-now)) (ap (λ (j : ℕ). drop j list) z ∙ drop-length list)) ∙ x.rest)
              x.holds;
        }

    module _ (h : i < length list) (n : ℕ) (is : n ≡ get_or list i 0) (root : ℕ) (at-root : root ≡ get_or roots n 65535) where
      opens : drop i list ≡ n ∷ drop (i + 1) list
      opens = drop-cons list i 0 h ∙ ap₂ (λ (k : ℕ) (j : ℕ). k ∷ drop j list) (sym is) (sym (add-one i))

      -- what is left after the name
      step : (ds : List Definition) (s : listing.Marks) (f : Found) → find_type ds n ≡ f → infer_from ds (drop i list) s ≡ infer_from ds (drop (i + 1) list) (listed ds n f s)
      unfolding infer_from
      step ds s f e = ap (λ (k : List ℕ). infer_from ds k s) opens ∙ ap (λ (g : Found). infer_from ds (drop (i + 1) list) (listed ds n g s)) e

      pub infer-stop : root ≡ 65535 → InferredAs ns roots list first (Err (Unbound n))
      unfolding listed
      infer-stop e =
          record {
            holds = λ b.
                let ds = b.definitions in
                let x = l.inferring b in
                subst (λ (s : listing.Marks). MarksHold s (Err (Unbound n)))
                (sym (infer-unbound ds (drop (i + 1) list) n)
                ∙ sym (step ds (marking x.seen-now x.set-now) missing (b.binds n ∙ found-none ns (get_or roots n 65535) (sym at-root ∙ e))) ∙ x.rest)
                refl;
          }

      module _ (a : Rooted ns roots) (some : root ≡ 65535 → ⊥) where
        pub name-in : n < 1024
        name-in = look (dec_lt n 1024)
          where
            look : Dec (n < 1024) → n < 1024
            look (yes k) = k
            look (no k) = absurd (some (at-root ∙ get_or-eq_default roots 65535 (omega (arith, a.bound.long))))

        pub root-node : NodeIn ns root
        root-node = record {
          names = a.names;
          count = a.count;
          all = a.all;
          inside = subst (λ (k : ℕ). k < a.count) (sym at-root) (a.bound.node n (λ e. some (at-root ∙ e)));
        }

        found : (ds : List Definition) → Binds ns roots ds → find_type ds n ≡ body (tree_at ns root)
        found ds b = b n ∙ ap (found_at ns) (sym at-root) ∙ found-some ns root some

        refs-are : references (tree_at ns root) ≡ refs_of ns roots n
        refs-are = ap (λ (k : ℕ). references (tree_at ns k)) at-root

        -- the name is listed: its references, and then the name itself
        step-some : (ds : List Definition) → Binds ns roots ds → (seen set' seen' set'' : List ℕ) →
            each note_name (refs_of ns roots n) (marking seen set') ≡ marking seen' set'' →
            infer_from ds (drop i list) (marking seen set') ≡ infer_from ds (drop (i + 1) list) (marking (n ∷ seen') set'')
        unfolding listed see
        step-some ds b seen set' seen' set'' e =
            step ds (marking seen set') (body (tree_at ns root)) (found ds b)
            ∙ ap (λ (s : listing.Marks). infer_from ds (drop (i + 1) list) (see n s))
            (tree-each root-node (marking seen set') ∙ ap (λ (vs : List ℕ). each note_name vs (marking seen set')) refs-are ∙ e)

        pub infer-again : get_or done n 0 ≡ 1 → InferLeft ns roots list first m done (i + 1)
        infer-again e =
            record {
              passed = omega arith;
              done-long = l.done-long;
              inferring = λ b.
                  let x = l.inferring b in
                  let g = x.gone n (eq-eqb (get_or done n 0) 1 e) in
                  let k = x.holds in
                  let one = grows-one n x.seen-now in
                  record {
                    seen-now = n ∷ x.seen-now;
                    set-now = x.set-now;
                    holds = record {
                      seen-are = agrees-again m.seen x.seen-now k.seen-are n (k.seen-are n name-in ∙ g.0);
                      marked-are = k.marked-are;
                      seen-long = k.seen-long;
                      long = k.long;
                    };
                    rest = sym (step-some b.definitions b.binds x.seen-now x.set-now x.seen-now x.set-now (each-known (refs_of ns roots n) x.seen-now x.set-now g.1)) ∙ x.rest;
                    gone = λ j q. let y = x.gone j q in (one.keeps j y.0, known-on y.1 one);
                  };
            }

        pub infer-on : (r : Marks) → GoneThrough (tree_at ns root) m r → InferLeft ns roots list first (seen_also n r) (set done n 1) (i + 1)
        infer-on r through =
            record {
              passed = omega arith;
              done-long = length-set done n 1 ∙ l.done-long;
              inferring = λ b.
                  let x = l.inferring b in
                  let y = each-after (refs_of ns roots n) x.seen-now x.set-now in
                  let s = marking x.seen-now x.set-now in
                  let k : Flagged y.now-seen y.now-set r =
                  subst (λ (t : listing.Marks). MarksHold t (Ok r))
                  (tree-each root-node s ∙ ap (λ (vs : List ℕ). each note_name vs s) refs-are ∙ y.state) (through s x.holds) in
                  let one = grows-one n y.now-seen in
                  record {
                    seen-now = n ∷ y.now-seen;
                    set-now = y.now-set;
                    holds = record {
                      seen-are = agrees-set r.seen y.now-seen k.seen-are n (omega (arith, name-in, k.seen-long));
                      marked-are = k.marked-are;
                      seen-long = length-set r.seen n 1 ∙ k.seen-long;
                      long = k.long;
                    };
                    rest = sym (step-some b.definitions b.binds x.seen-now x.set-now y.now-seen y.now-set y.state) ∙ x.rest;
                    gone = λ j q. was x y.now-seen y.grows y.known j q (ℕ_discrete j n);
                  };
            }
          where
            was : {b : Begun ns roots first} (x : Inferring ns roots list done m i b) (seen : List ℕ) → Grows x.seen-now seen → Known (refs_of ns roots n) seen →
                (j : ℕ) → is_set (set done n 1) j ≡ true → Dec (j ≡ n) → (member j (n ∷ seen) ≡ true) × Known (refs_of ns roots j) (n ∷ seen)
            was x seen g known j q (yes e) =
                (member-head j n seen e, known-on (subst (λ (k : ℕ). Known (refs_of ns roots k) seen) (sym e) known) (grows-one n seen))
            was x seen g known j q (no d) =
                let y = x.gone j (sym (ap (λ (k : ℕ). eqb k 1) (get_or-set_other done n j 1 0 d)) ∙ q) in
                let all = grows-on g (grows-one n seen) in
                (all.keeps j y.0, known-on y.1 all)
