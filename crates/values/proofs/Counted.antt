-- The entries of the names, one name after another: one that has a definition gives a line more, another none. Assumes nothing.
use mathlib.Core.Path.{◌≡◌, refl, sym, ap, ◌∙◌}
use mathlib.Core.Bool.{true, false}
use mathlib.Core.List.{List, [], ◌∷◌, ◌++◌, append_assoc, append-nil, map, map-append}
use Prim.Native.Nat.{ℕ, ◌+◌}
use native.Mathlib.Numerals.{add-one}
use lib.ListN.{length}
use Rattle.std.specs.Prelude.{Ok, Err}
use Rattle.refusals.specs.declared.Refusal.{Refusal}
use Rattle.refusals.specs.declared.Count.{Count}
use Rattle.refusals.specs.Verdict.{passes}
use Rattle.refusals.specs.Outcome.{Outcome, refused, given}
use Rattle.refusals.specs.Handed.{CountAnswer, count_answer}
use Rattle.refusals.proofs.Outcomes.{given-refused}
use Rattle.format.specs.Book.{Book}
use Rattle.format.specs.Layout.{name_in}
use Rattle.format.proofs.Logic.{is-true, is-false, clash}
use Rattle.judgement.specs.Environment.{main_definitions}
use Rattle.judgement.specs.WellFormed.{defined_name, Defined}
use Rattle.judgement.specs.Check.{member, check}
use Rattle.judgement.proofs.Lookup.{member-says}
use Rattle.listing.specs.Recursive.{sorted}
use Rattle.listing.proofs.Recursive.{if_in, sorted-last}
use Rattle.listing.specs.Values.{HasName, name_values, count_of, values}
use Rattle.listing.proofs.Values.{name-values-size, size-counts, counts-unique, values-counts, values-given}
use Rattle.print.specs.declared.Text.{Text}
use Rattle.print.specs.Laid.{Lays}
use Rattle.print.proofs.Lays.{nothing, then}
use Rattle.values.specs.Printed.{Entry, defined_names, entry_of, counted, line, lines}

-- ---- What the question answers of a name
module _ (b : Book) (n : ℕ) where
  pub values-is : {c : Count} → values b n ≡ given c → Defined (main_definitions b) n × (c ≡ count_of (name_values (main_definitions b) n))
  values-is {c} e =
      let x = values-counts b n e in
      (x.0, counts-unique (HasName (main_definitions b) n) c _ x.1 (size-counts (name-values-size (main_definitions b) n)))

  pub is-values : check b ≡ passes → Defined (main_definitions b) n → values b n ≡ given (count_of (name_values (main_definitions b) n))
  is-values passed d = let g = values-given b n passed d in g.1 ∙ ap given (values-is g.1).1

-- By what it hands on.
module _ {o : Outcome Count} {a : CountAnswer} (e : a ≡ count_answer o) where
  pub answer-given : {c : Count} → a ≡ Ok c → o ≡ given c
  unfolding count_answer
  answer-given {c} f = go o (sym f ∙ e)
    where
      go : (o : Outcome Count) → Ok c ≡ count_answer o → o ≡ given c
      go (refused r) e = clash cc
      go (given d) e = ap given cc

  pub answer-refused : {r : Refusal} → a ≡ Err r → o ≡ refused r
  unfolding count_answer
  answer-refused {r} f = go o (sym f ∙ e)
    where
      go : (o : Outcome Count) → Err r ≡ count_answer o → o ≡ refused r
      go (refused s) e = ap refused cc
      go (given c) e = clash cc

-- ---- The lines so far
abbrev names_of : Book → List ℕ
names_of b = map defined_name (main_definitions b)

abbrev pub counted_below : Book → ℕ → List Entry
counted_below b n = map (entry_of b) (sorted (names_of b) 0 n)

lines-append : (bs : List ℕ) (x y : List Entry) → lines bs (x ++ y) ≡ lines bs x ++ lines bs y
unfolding lines
lines-append bs [] y = refl
lines-append bs (e ∷ x) y = rw (lines-append bs x y) (sym (append_assoc (line (name_in bs e.0) e.1) (lines bs x) (lines bs y)))

module _ (bs : List ℕ) (b : Book) where
  pub lines-start : (t : Text) → Lays (lines bs (counted_below b 0)) t t
  unfolding lines sorted
  lines-start t = nothing t

  lines-suc : (n : ℕ) → lines bs (counted_below b (n + 1)) ≡ lines bs (counted_below b n) ++ lines bs (map (entry_of b) (if_in (names_of b) n))
  lines-suc n =
      rw (add-one n, sorted-last (names_of b) n, map-append (entry_of b) (sorted (names_of b) 0 n) (if_in (names_of b) n))
      (lines-append bs (counted_below b n) (map (entry_of b) (if_in (names_of b) n)))

  -- One that has a definition, and one that has none, as the question says.
  module _ (n : ℕ) {a : CountAnswer} (e : a ≡ count_answer (values b n)) {t u : Text} (p : Lays (lines bs (counted_below b n)) t u) where
    pub lines-on : {c : Count} {v : Text} → a ≡ Ok c → Lays (line (name_in bs n) c) u v → Lays (lines bs (counted_below b (n + 1))) t v
    unfolding lines
    lines-on f q =
        let x = values-is b n (answer-given e f) in
        let here : member n (names_of b) ≡ true = is-true (member n (names_of b)) ((member-says n (names_of b)).1 x.0) in
        rw (lines-suc n, here, append-nil (line (name_in bs n) (count_of (name_values (main_definitions b) n)))) (then p (rw x.1 at q))

    pub lines-same : {r : Refusal} → check b ≡ passes → a ≡ Err r → Lays (lines bs (counted_below b (n + 1))) t u
    unfolding lines
    lines-same passed f =
        let none : Defined (main_definitions b) n → ⊥ = λ d. given-refused (sym (answer-refused e f) ∙ is-values b n passed d) in
        let gone : member n (names_of b) ≡ false = is-false (member n (names_of b)) (λ t. none ((member-says n (names_of b)).0 t)) in
        rw (lines-suc n, gone, append-nil (lines bs (counted_below b n))) p

  pub lines-all : {n : ℕ} {t u : Text} → n ≡ length b.names → Lays (lines bs (counted_below b n)) t u → Lays (lines bs (counted b)) t u
  unfolding defined_names counted
  lines-all e p = rw e at p
