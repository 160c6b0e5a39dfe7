-- Projection on its way over the methods of services, and the places where positions are written. Assumes nothing.
--     place-stored                               a position as numbers are put
--     place-append, place-enough                 positions in places: two lists, and a list that fits
--     method-left, method-taken                  a method's name is asked for, or not
--     methods-start, methods-on, methods-end     the methods of a service
--     services-start, services-on, services-end  the services
--     project-absent, project-short, ..          the question
--     interface-services, interface-projects     what it asks and says, of an interface
use mathlib.Core.Path.{◌≡◌, refl, sym, ap, ap₂, subst, ◌∙◌}
use mathlib.Core.Bool.{Bool, true, false, cond}
use mathlib.Core.List.{List, [], ◌∷◌, ◌++◌, append_assoc}
use Prim.Native.Nat.{ℕ, suc, ◌+◌, ◌-◌, ◌*◌, ◌≤◌, ◌<◌}
use native.Mathlib.Numerals.{add-one}
use native.Mathlib.Decide.{dec_lt}
use native.Mathlib.Omega.{arith}
use Rattle.std.proofs.lemmas.Bool.{le-leb, lt-leb}
use borrow.Author.Tests.{lt-ltb, le-ltb}
use lib.Dec.{ltb}
use lib.ListN.{length, get_or, set, drop, length-set, length-append, length-drop}
use lib.Seq.{drop-cons, set_at}
use Rattle.std.specs.Prelude.{Option, Some, None, Ok, Err}
use Rattle.std.specs.Option.{option_or}
use Rattle.format.specs.Forest.{Forest, end, tree, beside}
use Rattle.format.specs.Node.{Node, label_value}
use Rattle.format.specs.Book.{Definition}
use Rattle.format.specs.Encode.{Row}
use Rattle.format.specs.Layout.{row_at, siblings, node_of}
use Rattle.format.specs.Whole.{Within}
use Rattle.format.proofs.Trees.{beside-end, beside-assoc}
use Rattle.format.proofs.Rows.{siblings-none, siblings-opens}
use Rattle.refusals.specs.declared.Refusal.TheVariants.{Absent, Short}
use Rattle.judgement.specs.Aliases.{alias_end, methods_at}
use Rattle.judgement.specs.Actor.{below_class}
use Rattle.judgement.specs.Check.{member}
use Rattle.book.specs.Tables.{blank_table, zero_table}
use Rattle.environment.specs.Trees.{Methods, AllTrees}
use Rattle.syntax.specs.Interfaces.{methods_in, InterfaceAs}
use Rattle.environment.proofs.Trees.{opened, ends-inside, one-at-least, method-label, rest-methods, kids-methods}
use Rattle.listing.specs.Project.{times, without, Projection, take', project_from, projected}
use Rattle.refusals.specs.Outcome.{given}
use Rattle.analysis.specs.Places.{put_at}
use Rattle.analysis.specs.Projecting.{Asking, AskedBy, LowestFar, FirstLeft, outcome_of, place_at, place_all, Underway, Come, comes_to, Projects, Room, MethodTaken, MethodsTaken, Services, ProjectedAs, AllProjected}
use Rattle.syntax.specs.declared.interface.Interface.{Interface}
use Rattle.refusals.specs.Handed.{Answer, HandedAs}
use Rattle.analysis.proofs.project.Counts.{farthest-is, lowest-is, member-none, member-some, asking-shrunk, same-counts, less-counts}
use Rattle.book.specs.declared.walks.Siblings.{Siblings}
use Rattle.book.specs.declared.read.Node as read
use Rattle.book.specs.Reading.{as_row}
use Rattle.book.specs.Walks.{Over, NextTree}
use Rattle.book.proofs.Walking as walks
use Rattle.analysis.proofs.BookNodes.{next-at, untabled, here-within, here-trees, here-some, services-none, services-some}
use Rattle.refusals.proofs.Handed.{handed-refused, handed-short, handed-long}

-- ---- Places
pub place-in : (places k x : ℕ) (old : List ℕ) → k < places → set old k x ≡ place_at places k x old
unfolding place_at
place-in places k x old h = rw (lt-ltb k places h)

pub place-out : (places k x : ℕ) (old : List ℕ) → places ≤ k → old ≡ place_at places k x old
unfolding place_at
place-out places k x old h = rw (le-ltb k places h)

-- as numbers are put
pub place-stored : (k x : ℕ) (old : List ℕ) → put_at k (x ∷ []) old ≡ place_at (length old) k x old
unfolding put_at place_at
place-stored k x old =
    elim (dec_lt k (length old)) [
      | yes h ↦ rw (le-leb (1 * k + 1) (length old) (omega arith), lt-ltb k (length old) h) (let z : 1 * k ≡ k = omega arith in ap (λ (j : ℕ). set old j x) z)
      | no h ↦ rw (lt-leb (1 * k + 1) (length old) (omega arith), le-ltb k (length old) (omega arith)) refl
    ]

place-length : (places k x : ℕ) (old : List ℕ) → length (place_at places k x old) ≡ length old
unfolding place_at
place-length places k x old = go (ltb k places)
  where
    go : (b : Bool) → length (cond b (set old k x) old) ≡ length old
    go true = length-set old k x
    go false = refl

pub place-append : (places k : ℕ) (l m old : List ℕ) → place_all places k (l ++ m) old ≡ place_all places (k + length l) m (place_all places k l old)
unfolding place_all
place-append places k [] m old = let z : k + 0 ≡ k = omega arith in rw z
place-append places k (x ∷ l) m old =
    let z : k + suc (length l) ≡ suc k + length l = omega arith in
    rw z (place-append places (suc k) l m (place_at places k x old))

-- numbers that fit, after the first ones
place-fits : (places : ℕ) (p l old : List ℕ) → length p + length l ≤ places → places ≤ length p + length old →
    place_all places (length p) l (p ++ old) ≡ p ++ (l ++ drop (length l) old)
unfolding place_all
place-fits places p [] old h r = refl
place-fits places p (x ∷ l) old h r =
    let some : 0 < length old = omega arith in
    let next : suc (length p) ≡ length (p ++ x ∷ []) = omega (arith, length-append p (x ∷ [])) in
    let put : place_at places (length p) x (p ++ old) ≡ (p ++ x ∷ []) ++ drop 1 old =
    sym (place-in places (length p) x (p ++ old) (omega arith))
    ∙ ap (λ (q : List ℕ). set (p ++ q) (length p) x) (drop-cons old 0 0 some)
    ∙ set_at p (get_or old 0 0) (drop 1 old) x (length p) refl
    ∙ sym (append_assoc p (x ∷ []) (drop 1 old)) in
    ap₂ (λ (k : ℕ) (q : List ℕ). place_all places k l q) next put
    ∙ place-fits places (p ++ x ∷ []) l (drop 1 old) (omega (arith, length-append p (x ∷ []))) (omega (arith, length-append p (x ∷ []), length-drop 1 old))
    ∙ append_assoc p (x ∷ []) (l ++ drop (length l) (drop 1 old))
    ∙ ap (λ (q : List ℕ). p ++ x ∷ (l ++ q)) (cut (length l) old some)
  where
    cut : (n : ℕ) (q : List ℕ) → 0 < length q → drop n (drop 1 q) ≡ drop (suc n) q
    cut n [] s = absurd (omega arith)
    cut n (y ∷ q) s = refl

-- where there is a place for each
pub place-enough : (places : ℕ) (l old : List ℕ) → length l ≤ places → places ≤ length old → place_all places 0 l old ≡ l ++ drop (length l) old
place-enough places l old h r = place-fits places [] l old (omega arith) (omega arith)

besides : (n : Node) (kids next g : Forest Node) → beside (tree n kids next) g ≡ tree n kids (beside next g)
unfolding beside
besides n kids next g = refl

-- ---- One method
module _ {n : ℕ} (v : Underway) (r : Room 1 v) (h : n < 1024) where
  pub method-left : get_or v.left n 0 ≡ 0 → MethodTaken n v (record { at = v.at + 1; taken = v.taken; left = v.left; out = v.out })
  method-left e =
      record {
        next = refl;
        more = omega arith;
        kept = refl;
        held = refl;
        asking = λ far l a. asking-shrunk a h (λ m k. same-counts v.left n e m);
        counts = λ far l a. rw (member-none a h e);
        placed = λ far l a. rw (member-none a h e);
      }

  pub method-taken : (get_or v.left n 0 ≡ 0 → ⊥) → {out : List ℕ} → out ≡ place_at (length v.out) v.taken v.at v.out →
      MethodTaken n v (record { at = v.at + 1; taken = v.taken + 1; left = set v.left n (get_or v.left n 0 - 1); out = out })
  method-taken e q =
      record {
        next = refl;
        more = omega arith;
        kept = length-set v.left n (get_or v.left n 0 - 1);
        held = ap length q ∙ place-length (length v.out) v.taken v.at v.out;
        asking = λ far l a. asking-shrunk a h (λ m k. less-counts v.left n (omega (arith, r.names)) m);
        counts = λ far l a. rw (member-some a h e);
        placed = λ far l a. rw (member-some a h e) q;
      }

-- what it comes to with that method, and with those after it
project-step : (places : ℕ) (v w : Underway) (n : Node) (kids next : Forest Node) (l : List ℕ) (name : ℕ) → label_value n.label ≡ name → w.at ≡ v.at + 1 →
    w.taken ≡ cond (member name l) (v.taken + 1) v.taken → w.out ≡ cond (member name l) (place_at places v.taken v.at v.out) v.out →
    comes_to places w (project_from w.at next (cond (member name l) (without name l) l)) ≡ comes_to places v (project_from v.at (tree n kids next) l)
unfolding comes_to project_from take' place_all
project-step places v w n kids next l name e a t o =
    rw (e, t, o, a, add-one v.at) (go (member name l) (project_from (suc v.at) next (cond (member name l) (without name l) l)))
  where
    go : (b : Bool) (p : Projection) →
        comes_to places (record { at = suc v.at; taken = cond b (v.taken + 1) v.taken; left = w.left; out = cond b (place_at places v.taken v.at v.out) v.out }) p
        ≡ comes_to places v (take' b v.at p)
    go true p =
        let more : v.taken + 1 + length p.taken ≡ v.taken + suc (length p.taken) = omega arith in
        λ i. record { taken = more i; out = place_all places (add-one v.taken i) p.taken (place_at places v.taken v.at v.out); left = p.left }
    go false p = refl

-- the names left are asked for, where those at v are
asked-on : {places : ℕ} {f e : Forest Node} {v w : Underway} → Projects places f w e v → AskedBy v.left → AskedBy w.left
asked-on goes a = let s = goes a.far a.list a.asking in record { far = a.far; list = s.names; asking = s.asking }

-- ---- The methods of a service: from node i on what is left comes to the same
pub record MethodsLeft (ns : List ℕ) (from until : ℕ) (v : Underway) (i : ℕ) (w : Underway) : Type 0 where
  pub roots : List ℕ
  pub ends' : List ℕ
  pub methods : Methods ns roots ends' i until
  pub later : from ≤ i
  pub near : w.at + from ≤ v.at + i
  pub fewer : w.taken ≤ w.at
  pub names : length w.left ≡ 1024
  pub held : length w.out ≡ length v.out
  pub goes : Projects (length v.out) (siblings ns i until) w (siblings ns from until) v

pub methods-start : {ns roots ends' : List ℕ} {from until : ℕ} {v : Underway} → Methods ns roots ends' from until → Room (until - from) v → {i : ℕ} → i ≡ from → MethodsLeft ns from until v i v
methods-start {ns} {roots} {ends'} {from} {until} {v} m r is =
    subst (λ (j : ℕ). MethodsLeft ns from until v j v) (sym is)
    record {
      roots = roots;
      ends' = ends';
      methods = m;
      later = omega arith;
      near = omega arith;
      fewer = r.fewer;
      names = r.names;
      held = refl;
      goes = λ far l a. record { names = l; asking = a; same = λ g. refl };
    }

module _ {ns : List ℕ} {from until : ℕ} {v : Underway} {i : ℕ} {w : Underway} (x : MethodsLeft ns from until v i w) where
  pub methods-end : length v.left ≡ 1024 → until ≤ i → MethodsTaken (until - from) (siblings ns from until) v w
  methods-end e h =
      record {
        near = omega (arith, x.near, x.methods.trees.whole.ordered);
        fewer = x.fewer;
        kept = x.names ∙ sym e;
        held = x.held;
        goes = subst (λ (f : Forest Node). Projects (length v.out) f w (siblings ns from until) v) (siblings-none ns i until h) x.goes;
      }

  module _ (h : i < until) where
    module _ (r : Row) (is : r ≡ row_at ns i) where
      named : r.label < 1024
      named = rw is (method-label x.methods.trees h x.methods.methods).0

      method-ends : (i < i + r.size) × (i + r.size ≤ until)
      method-ends = rw is (omega (arith, one-at-least x.methods.trees h), ends-inside x.methods.trees h)

      room : Room (until - from) v → Room 1 w
      room q = record {
        few = omega (arith, x.near, q.few, x.later);
        fewer = x.fewer;
        names = x.names;
        asked = asked-on x.goes q.asked;
      }

      methods-step : {w' : Underway} → MethodTaken r.label w w' → MethodsLeft ns from until v (i + r.size) w'
      methods-step {w'} t =
          record {
            roots = x.roots;
            ends' = x.ends';
            methods = subst (λ (z : Row). Methods ns x.roots x.ends' (i + z.size) until) (sym is) (rest-methods x.methods h);
            later = omega (arith, x.later);
            near = omega (arith, x.near, method-ends.0, t.next);
            fewer = omega (arith, x.fewer, t.more, t.next);
            names = t.kept ∙ x.names;
            held = t.held ∙ x.held;
            goes = λ far l a.
                let s = x.goes far l a in
                record {
                  names = cond (member r.label s.names) (without r.label s.names) s.names;
                  asking = t.asking far s.names s.asking;
                  same = λ g.
                      ap (λ (z : Row). comes_to (length v.out) w' (project_from w'.at (beside (siblings ns (i + z.size) until) g) (cond (member r.label s.names) (without r.label s.names) s.names))) is
                      ∙ project-step (length v.out) w w' (node_of (row_at ns i)) (siblings ns (i + 1) (i + (row_at ns i).size)) (beside (siblings ns (i + (row_at ns i).size) until) g) s.names r.label name-is
                      t.next (t.counts far s.names s.asking)
                      (subst (λ (k : ℕ). w'.out ≡ cond (member r.label s.names) (place_at k w.taken w.at w.out) w.out) x.held (t.placed far s.names s.asking))
                      ∙ ap (λ (f : Forest Node). comes_to (length v.out) w (project_from w.at f s.names)) (opens-before g)
                      ∙ s.same g;
                };
          }
        where
          name-is : label_value (node_of (row_at ns i)).label ≡ r.label
          name-is = (method-label x.methods.trees h x.methods.methods).1 ∙ ap (λ (z : Row). z.label) (sym is)

          opens-before : (g : Forest Node) → tree (node_of (row_at ns i)) (siblings ns (i + 1) (i + (row_at ns i).size)) (beside (siblings ns (i + (row_at ns i).size) until) g) ≡ beside (siblings ns i until) g
          opens-before g = sym (ap (λ (f : Forest Node). beside f g) (siblings-opens (opened x.methods.trees h)) ∙ besides (node_of (row_at ns i)) (siblings ns (i + 1) (i + (row_at ns i).size)) (siblings ns (i + (row_at ns i).size) until) g)

-- the walk has given a method
module _ {ns : List ℕ} {from until : ℕ} {v w : Underway} {s : Siblings} (o : Over ns until s) (x : MethodsLeft ns from until v s.at w) {i : ℕ} {node : read.Node} {t : Siblings} (y : NextTree s i node t) where
  pub method-room : Room (until - from) v → Room 1 w
  method-room = room x (walks.here o y) (as_row node) (walks.row o y)

  pub method-name : node.label < 1024
  method-name = named x (walks.here o y) (as_row node) (walks.row o y)

  pub methods-on : {w' : Underway} → MethodTaken node.label w w' → MethodsLeft ns from until v t.at w'
  methods-on {w'} q =
      subst (λ (n : ℕ). MethodsLeft ns from until v n w') (sym (next-at o y)) (methods-step x (walks.here o y) (as_row node) (walks.row o y) q)

-- ---- The services: from service k on what is left comes to the same
pub record ServicesLeft (ns services : List ℕ) (v : Underway) (k : ℕ) (w : Underway) : Type 0 where
  pub near : w.at ≤ k * 4096
  pub fewer : w.taken ≤ w.at
  pub names : length w.left ≡ 1024
  pub held : length w.out ≡ length v.out
  pub goes : Projects (length v.out) (methods_in ns (drop k services)) w (methods_in ns services) v

abbrev pub outset : List ℕ → List ℕ → Underway
outset left out = record { at = 0; taken = 0; left = left; out = out }

pub services-start : (ns services left out : List ℕ) → length left ≡ 1024 → ServicesLeft ns services (outset left out) 0 (outset left out)
services-start ns services left out e =
    record {
      near = omega arith;
      fewer = omega arith;
      names = e;
      held = refl;
      goes = λ far l a. record { names = l; asking = a; same = λ g. refl };
    }

-- a service, and its methods
module _ {ns services : List ℕ} (y : Services ns services) {k : ℕ} (h : k < length services) where
  abbrev node : ℕ
  node = get_or services k 0

  pub service-inside : node < y.nodes
  service-inside = (y.service k h).0

  pub service-within : Within ns (node + 1)
  service-within = here-within (untabled y.all) service-inside

  module _ (r : Row) (is : r ≡ row_at ns node) where
    pub service-ends : (1 ≤ r.size) × (node + r.size ≤ 4096)
    service-ends = rw is ((y.all.nodes.tree node service-inside).whole.one, omega (arith, (y.all.nodes.tree node service-inside).ends, y.all.nodes.few_nodes))

    pub service-methods : (roots ends' : List ℕ) × Methods ns roots ends' (node + 1) (node + r.size)
    service-methods =
        let b = untabled y.all in
        (blank_table, zero_table, subst (λ (z : Row). Methods ns blank_table zero_table (node + 1) (node + z.size)) (sym is) (kids-methods (here-trees b service-inside) (here-some b service-inside) (y.service k h).1))

module _ {ns services : List ℕ} {v : Underway} {k : ℕ} {w : Underway} (x : ServicesLeft ns services v k w) (y : Services ns services) where
  module _ (h : k < length services) where
    abbrev at : ℕ
    at = get_or services k 0

    module _ (r : Row) (is : r ≡ row_at ns at) where
      pub service-room : AskedBy v.left → Room (at + r.size - (at + 1)) w
      service-room a = record {
        few = omega (arith, service-ends y h r is, x.near, y.few);
        fewer = x.fewer;
        names = x.names;
        asked = asked-on x.goes a;
      }

      pub services-on : {w' : Underway} →
          MethodsTaken (at + r.size - (at + 1)) (siblings ns (at + 1) (at + r.size)) w w' → ServicesLeft ns services v (k + 1) w'
      unfolding beside
      services-on {w'} t =
          record {
            near = omega (arith, t.near, service-ends y h r is, x.near);
            fewer = t.fewer;
            names = t.kept ∙ x.names;
            held = t.held ∙ x.held;
            goes = λ far l a.
                let s = x.goes far l a in
                let u = subst (λ (m : ℕ). Projects m end w' (siblings ns (at + 1) (at + r.size)) w) x.held t.goes far s.names s.asking in
                record {
                  names = u.names;
                  asking = u.asking;
                  same = λ g.
                      u.same (beside (methods_in ns (drop (k + 1) services)) g)
                      ∙ ap (λ (f : Forest Node). comes_to (length v.out) w (project_from w.at f s.names))
                      (sym (ap (λ (f : Forest Node). beside f g) (services-some ns services h (y.all.nodes.tree at (service-inside y h)).whole is) ∙ beside-assoc (siblings ns (at + 1) (at + r.size)) (methods_in ns (drop (k + 1) services)) g))
                      ∙ s.same g;
                };
          }

services-is : {ns services left out : List ℕ} {k : ℕ} {w : Underway} → ServicesLeft ns services (outset left out) k w → length services ≤ k →
    (far : Option ℕ) (l : List ℕ) → Asking left far l → ProjectedAs (methods_in ns services) far l out w.left w.out w.taken
unfolding comes_to project_from place_all beside
services-is {ns} {services} {left} {out} {k} {w} x h far l a =
    let f = methods_in ns services in
    let s = x.goes far l a in
    let same : comes_to (length out) w (project_from w.at end s.names) ≡ comes_to (length out) (outset left out) (project_from 0 f l) =
    ap (λ (e : Forest Node). comes_to (length out) w (project_from w.at (beside e end) s.names)) (sym (services-none ns services h)) ∙ s.same end
    ∙ ap (λ (e : Forest Node). comes_to (length out) (outset left out) (project_from 0 e l)) (beside-end f) in
    record {
      asking = subst (Asking w.left far) (ap (λ (c : Come). c.left) same) s.asking;
      counts = let e = ap (λ (c : Come). c.taken) same in omega (arith, e);
      written = ap (λ (c : Come). c.out) same;
    }

pub services-end : {ns services left out : List ℕ} {k : ℕ} {w : Underway} → ServicesLeft ns services (outset left out) k w → Services ns services → k ≤ length services → length services ≤ k →
    AllProjected (methods_in ns services) left out w.left w.out w.taken
services-end x y p h = record { few = omega (arith, x.near, x.fewer, y.few); is = services-is x h }

-- the same names and list under other names
pub all-same : {f : Forest Node} {left out a b a' b' : List ℕ} {taken : ℕ} → a ≡ a' → b ≡ b' → AllProjected f left out a' b' taken → AllProjected f left out a b taken
all-same {f} {left} {out} {a} {b} {a'} {b'} {taken} e d p =
    subst (λ (q : List ℕ). AllProjected f left out q b taken) (sym e) (subst (λ (q : List ℕ). AllProjected f left out a' q taken) (sym d) p)

-- ---- The question: positions are counted with no list, and then written
abbrev asked_for : (left : List ℕ) (far : Option ℕ) (l : List ℕ) → ((n : ℕ) → n < 1024 → get_or left n 0 ≡ times n l) → LowestFar far l → Asking left far l
asked_for left far l c f = record { counted = c; farthest = farthest-is l far f }

pub asked-by : {left : List ℕ} (far : Option ℕ) (l : List ℕ) → ((n : ℕ) → n < 1024 → get_or left n 0 ≡ times n l) → LowestFar far l → AskedBy left
asked-by {left} far l c f = record { far = far; list = l; asking = asked_for left far l c f }

module _ (f : Forest Node) (l left : List ℕ) (far : Option ℕ) (asked : (n : ℕ) → n < 1024 → get_or left n 0 ≡ times n l) (lowest : LowestFar far l)
    {left' none none' : List ℕ} {taken : ℕ} (counted : AllProjected f left none left' none' taken)
    (first : Option ℕ) (low : FirstLeft left' first) (out : List ℕ) where
  found-is : projected (project_from 0 f l) ≡ outcome_of (option_or first far) (project_from 0 f l).taken
  unfolding projected
  found-is = lowest-is left' first far low (project_from 0 f l).left (counted.is far l (asked_for left far l asked lowest)).asking (project_from 0 f l).taken

  pub project-absent : {n : ℕ} → option_or first far ≡ Some n → HandedAs (projected (project_from 0 f l)) out out (Err (Absent n))
  project-absent e = handed-refused (found-is ∙ ap (λ (r : Option ℕ). outcome_of r (project_from 0 f l).taken) e) refl

  module _ (nothing : option_or first far ≡ None) where
    counts : taken ≡ length (project_from 0 f l).taken
    counts = (counted.is far l (asked_for left far l asked lowest)).counts

    found-given : projected (project_from 0 f l) ≡ given (project_from 0 f l).taken
    found-given = found-is ∙ ap (λ (r : Option ℕ). outcome_of r (project_from 0 f l).taken) nothing

    pub project-short : length out < taken → HandedAs (projected (project_from 0 f l)) out out (Err (Short taken))
    project-short h = rw (found-given, counts) (handed-short (project_from 0 f l).taken (omega (arith, counts)) refl)

    pub project-given : {written : ℕ} {left'' out' : List ℕ} → taken ≤ length out → AllProjected f left out left'' out' written → HandedAs (projected (project_from 0 f l)) out out' (Ok written)
    project-given p second =
        let s = second.is far l (asked_for left far l asked lowest) in
        let fits : length (project_from 0 f l).taken ≤ length out = omega (arith, counts) in
        let w = s.written ∙ place-enough (length out) (project_from 0 f l).taken out fits (omega arith) in
        rw (found-given, s.counts) (handed-long (project_from 0 f l).taken fits w)

-- ---- For callers: the services of an interface
pub interface-services : {ns : List ℕ} {names count : ℕ} {ds : List Definition} {t : Forest Node} {r : Interface} → AllTrees ns names count → InterfaceAs ns count ds t r → Services ns r.services
interface-services {names = names} {count = count} all i =
    record { names = names; nodes = count; all = all; few = i.few; service = λ k h. i.service k 0 h }

pub interface-projects : {ns : List ℕ} {count : ℕ} {ds : List Definition} {t : Forest Node} {i : Interface} → InterfaceAs ns count ds t i → (l : List ℕ) {out out' : List ℕ} {r : Answer} →
    HandedAs (projected (project_from 0 (methods_in ns i.services) l)) out out' r → HandedAs (projected (project_from 0 (methods_at (alias_end ds (below_class t))) l)) out out' r
interface-projects x l {out} {out'} {r} p = subst (λ (f : Forest Node). HandedAs (projected (project_from 0 f l)) out out' r) x.methods p
