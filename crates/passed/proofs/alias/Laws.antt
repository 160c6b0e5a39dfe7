-- Going from name to name along an alias chain, and what the question answers on a book that passed. Assumes nothing.
--     crossed-one                   a name that is crossed, and what is crossed after it
--     Going, going-start, ..        the loop
--     alias-lacks, alias-here, ..   the question
use mathlib.Core.Path.{◌≡◌, refl, sym, ap, ap₂, subst, ◌∙◌}
use mathlib.Core.List.{List, [], ◌∷◌}
use Prim.Native.Nat.{ℕ, suc, ◌+◌, ◌≤◌, ◌<◌}
use native.Mathlib.Omega.{arith}
use lib.ListN.{length, get_or}
use Rattle.refusals.specs.declared.Refusal.TheVariants.{Unbound}
use Rattle.std.specs.Prelude.{Ok, Err}
use Rattle.refusals.specs.Handed.{alias_answer}
use Rattle.refusals.proofs.Outcomes.{after-passed}
use Rattle.format.specs.Forest.{Forest}
use Rattle.format.specs.Node.{Node}
use Rattle.format.specs.Book.{Definition}
use Rattle.format.specs.Layout.{nodes_part}
use Rattle.format.specs.Whole.{tree_at}
use Rattle.book.specs.declared.kinds.Contents.{Contents}
use Rattle.book.specs.Reading.{Admitted}
use Rattle.judgement.specs.Environment.{main_definitions, body, find_type, named, head_kind, head}
use Rattle.judgement.specs.Aliases.{End, chain, alias_end, alias_length, name_type}
use Rattle.judgement.specs.Check.{check}
use Rattle.judgement.proofs.Lookup.{not-both-found, FoundIn, find-body, find-missing, listed-defined}
use Rattle.judgement.proofs.Heads.{other-named}
use Rattle.judgement.proofs.Chains.{Run, stops, loses, crosses}
use Rattle.judgement.proofs.Lengths.{ended, crossed-first}
use Rattle.judgement.proofs.Books.{main-definitions-fit}
use Rattle.environment.specs.declared.Link.{Link}
use Rattle.environment.specs.declared.scope.Scope.{Scope}
use Rattle.book.proofs.Opened.{names-count}
use Rattle.environment.specs.Tables.{link_of, crossed_in}
use Rattle.std.specs.Prelude.{Option, Some, None}
use Rattle.environment.proofs.Links.{found-none, found-some, Bound, LinkSays, link-says}
use Rattle.environment.proofs.ChainEnds.{name-ended}
use Rattle.typing.specs.declared.prog.Passed.{Passed}
use Rattle.typing.specs.Passing.{PassedAs}
use Rattle.typing.proofs.prog.Book.{fits}
use Rattle.listing.specs.Alias.{last_of, crossed_by, alias_of, alias}
use Rattle.listing.proofs.Alias.{alias-unbound}
use Rattle.passed.specs.Alias.{Crossing}

-- ---- A name that is crossed, and the one after it
crossed-one : (ds : List Definition) {t : Forest Node} {ns : List ℕ} {e : End} → Run ds t ns e → (n : ℕ) (ms : List ℕ) → ns ≡ n ∷ ms →
    (u : Forest Node) × (head t ≡ named n) × (find_type ds n ≡ body u) × Run ds u ms e
crossed-one ds (stops h) n ms q = let z = ap length q in absurd (omega arith)
crossed-one ds (loses b) n ms q = let z = ap length q in absurd (omega arith)
crossed-one ds {e = e} (crosses {u = u} {n = k} {ns = ks} s r) n ms q =
    let i : k ≡ n = cc in
    let j : ks ≡ ms = cc in
    (u, s.is-name ∙ ap named i, sym (ap (find_type ds) i) ∙ s.is-type, subst (λ (l : List ℕ). Run ds u l e) j r)

-- ---- The loop: from name m the chain crosses m and `rest`, and ends with the same name
pub record Left {s : Scope} {n crossed : ℕ} {ms : List ℕ} (c : Crossing s n crossed ms) (m k : ℕ) : Type 0 where
  pub inside : m < s.names
  pub rest : List ℕ
  pub end : End
  pub run : Run c.definitions (name_type m) (m ∷ rest) end
  pub left : length rest + k ≡ crossed
  pub same : last_of m rest ≡ last_of n ms

pub record Going (s : Scope) (n crossed m k : ℕ) : Type 0 where
  pub some : 1 ≤ k
  pub left : (ms : List ℕ) (c : Crossing s n crossed ms) → Left c m k

pub going-start : (s : Scope) (n crossed : ℕ) → Going s n crossed n 1
going-start s n crossed = record { some = omega arith; left = λ ms c. start c }
  where
    start : {ms : List ℕ} (c : Crossing s n crossed ms) → Left c n 1
    start {ms} c =
        let t = name_type n in
        record {
          inside = c.inside;
          rest = ms;
          end = alias_end c.definitions t;
          run = subst (λ (l : List ℕ). Run c.definitions t l (alias_end c.definitions t)) c.is (ended c.definitions t c.ended);
          left = omega (arith, c.counted);
          same = refl;
        }

module _ {s : Scope} {n crossed m k : ℕ} (g : Going s n crossed m k) {ms : List ℕ} (c : Crossing s n crossed ms) where
  pub name-small : m < 1024
  name-small = omega (arith, (g.left ms c).inside, s.whole.few_names)

  pub going-end : crossed ≤ k → m ≡ last_of n ms
  unfolding last_of
  going-end h = let l = g.left ms c in last l.rest (omega (arith, l.left)) ∙ l.same
    where
      last : (rest : List ℕ) → length rest ≡ 0 → m ≡ last_of m rest
      last [] z = refl
      last (x ∷ rest) z = absurd (omega arith)

  -- the step goes on to the next name
  record Onward (o : Option Link) : Type 0 where
    link : Link
    linked : o ≡ Some link
    next : ℕ
    goes : link.next ≡ Some next
    left : Left c next (k + 1)

  onward : k < crossed → (o : Option Link) → LinkSays s.rows.now s.roots.now s.names s.nodes m o → Onward o
  unfolding last_of head head_kind
  onward h o says = two l.rest l.run l.left l.same o says
    where
      l : Left c m k
      l = g.left ms c

      named-on : (z : Link) → Bound s.rows.now s.roots.now s.names s.nodes m z → (x : ℕ) (rest : List ℕ) {v : Forest Node} → head (tree_at s.rows.now z.root) ≡ named x →
          find_type c.definitions x ≡ body v → Run c.definitions v rest l.end → suc (length rest) + k ≡ crossed → last_of x rest ≡ last_of n ms →
          (y : Option ℕ) → z.next ≡ y → Onward (Some z)
      named-on z i x rest q d run left same None e = absurd (other-named (i.stops e) q)
      named-on z i x rest q d run left same (Some y) e =
          let v : named x ≡ named y = sym q ∙ i.goes-on y e in
          let j : y ≡ x = cc in
          record {
            link = z;
            linked = refl;
            next = x;
            goes = e ∙ ap Some j;
            left =
                record {
                  inside = rw (← j) (i.next-inside y e);
                  rest = rest;
                  end = l.end;
                  run = crosses (record { is-name = refl; is-type = d }) run;
                  left = omega (arith, left);
                  same = same;
                };
          }

      two : (rest : List ℕ) → Run c.definitions (name_type m) (m ∷ rest) l.end → length rest + k ≡ crossed → last_of m rest ≡ last_of n ms →
          (o : Option Link) → LinkSays s.rows.now s.roots.now s.names s.nodes m o → Onward o
      two [] run left same o says = absurd (omega arith)
      two (x ∷ rest) run left same None says =
          let here = crossed-one c.definitions run m (x ∷ rest) refl in
          absurd (not-both-found (says.lacks.1 c.definitions c.binds) here.2)
      two (x ∷ rest) run left same (Some z) says =
          let here = crossed-one c.definitions run m (x ∷ rest) refl in
          let next = crossed-one c.definitions here.3 x rest refl in
          let i = says.bound in
          let b : body here.0 ≡ body (tree_at s.rows.now z.root) = sym here.2 ∙ i.is c.definitions c.binds in
          let u : here.0 ≡ tree_at s.rows.now z.root = cc in
          named-on z i x rest (sym (ap head u) ∙ next.1) next.2 next.3 left same z.next refl

  step-on : k < crossed → {o : Option Link} → o ≡ link_of s.rows.now (get_or s.roots.now m 65535) → Onward o
  step-on h {o} is = onward h o (link-says s.whole s.bound m o is)

module _ {s : Scope} {n crossed m k : ℕ} (g : Going s n crossed m k) {ms : List ℕ} (c : Crossing s n crossed ms) (h : k < crossed)
    {o : Option Link} (is : o ≡ link_of s.rows.now (get_or s.roots.now m 65535)) where
  -- there is a definition, and it is a name
  pub step-links : o ≡ None → ⊥
  step-links e = let z = sym e ∙ (step-on g c h is).linked in cc

  pub step-names : {z : Link} → o ≡ Some z → z.next ≡ None → ⊥
  step-names e f = let w = step-on g c h is in let z = sym e ∙ w.linked in let y = w.goes in cc

pub going-on : {s : Scope} {n crossed m k : ℕ} (g : Going s n crossed m k) → k < crossed →
    {o : Option Link} → o ≡ link_of s.rows.now (get_or s.roots.now m 65535) → {z : Link} → o ≡ Some z → {x : ℕ} → z.next ≡ Some x → Going s n crossed x (k + 1)
going-on {k = k} g h is e {x} f = record {
  some = omega (arith, g.some);
  left = λ ms c.
      let w = step-on g c h is in
      let z = sym e ∙ w.linked in
      let y = w.goes in
      let j : w.next ≡ x = cc in
      subst (λ (y : ℕ). Left c y (k + 1)) j w.left;
}

-- ---- The question on a book that passed
module _ {bs : List ℕ} {c : Contents} {a : Admitted bs c} {roots ends' : List ℕ} {p : Passed} (x : PassedAs a roots ends' p) (n : ℕ) where
  abbrev ds : List Definition
  ds = main_definitions a.book

  pub alias-lacks : get_or roots n 65535 ≡ 65535 → Err (Unbound n) ≡ alias_answer (alias a.book n)
  unfolding alias_answer
  alias-lacks z =
      let m = find-missing ds n (x.checked.env.binds n ∙ found-none (nodes_part bs) (get_or roots n 65535) z) in
      sym (ap alias_answer ((alias-unbound a.book (fits x) x.passed n).1 m))

  module _ (some : get_or roots n 65535 ≡ 65535 → ⊥) where
    found : FoundIn ds n (tree_at (nodes_part bs) (get_or roots n 65535))
    found = find-body ds n _ (x.checked.env.binds n ∙ found-some (nodes_part bs) (get_or roots n 65535) some)

    pub small : n < length a.book.names
    small = rw (← found.of-name) ((main-definitions-fit a.book (fits x)).exists found.definition found.listed)

    pub first : (ms : List ℕ) × ((chain ds (name_type n)).crossed ≡ n ∷ ms)
    unfolding head head_kind
    first = crossed-first ds (name_type n) n refl (listed-defined found.listed found.of-name)

    pub alias-crossing : {s : Scope} → s.rows.now ≡ nodes_part bs → s.roots.now ≡ roots → s.names ≡ c.names → {k : ℕ} → k ≡ crossed_in ends' n → Crossing s n k first.0
    unfolding alias_length
    alias-crossing here table many is =
        record {
          inside = omega (arith, small, many, names-count a);
          definitions = ds;
          binds = rw (here, table) x.checked.env.binds;
          ended = name-ended ds n _ (x.chains n small);
          is = first.1;
          counted = is ∙ (x.chains n small).crossed ∙ ap length first.1;
        }

    pub alias-here : {k last : ℕ} → k ≡ crossed_in ends' n → last ≡ last_of n first.0 → Ok (record { names = k; last = last }) ≡ alias_answer (alias a.book n)
    unfolding alias alias_of crossed_by alias_answer alias_length
    alias-here is at =
        let counted = is ∙ (x.chains n small).crossed ∙ ap length first.1 in
        ap₂ (λ (i j : ℕ). Ok (record { names = i; last = j })) counted at
        ∙ sym (ap alias_answer (after-passed (check a.book) _ x.passed ∙ ap (crossed_by n) first.1))
