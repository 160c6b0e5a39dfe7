-- What is printed, by the theorems on the question. Assumes nothing.
--     changed-refused, changed-given     refused just where the question is; of what is given the names of the methods at those positions
--     changed-alike, unknown-adds-none   it only matters which of the book's names are asked
--     method-named, offered-are          the name of the method at a position is the one that the actor gives it
--     changed-answered, none-changed     a book that passes and has an actor
--     shown, some-shown                  such a book is printed line by line, and never refused
--     same-shown, alike-shown            the same text for the same names, in whatever order and however often
--     none-shown                         nothing asked, nothing printed
--     joined-shown                       names as they are given
--     no-actor-shown, refused-shown      17, and what the check refuses, whatever is asked
--     broken-shown, long-shown           a broken layout: 1, and so for every input that is longer than a book may be
--     p1-shown, ..                       document 01's P1, P4 and P6, letter by letter
use mathlib.Core.Path.{◌≡◌, refl, sym, ap, ◌∙◌}
use mathlib.Core.Logic.{◌↔◌, ⊎_elim}
use mathlib.Core.List.Memᴰ
use mathlib.Core.List.{List, [], ◌∷◌, map, Memᴰ}
use Prim.Native.Nat.{ℕ, zero, suc, ◌<◌}
use native.Mathlib.Omega.{arith}
use lib.ListN.{length, get_or}
use Rattle.std.specs.Prelude.{Err}
use Rattle.refusals.specs.declared.Refusal.{Refusal}
use Rattle.refusals.specs.declared.Refusal.TheVariants.{NoActor}
use Rattle.refusals.specs.Verdict.{passes}
use Rattle.refusals.specs.Outcome.{Outcome, refused, given, asked}
use Rattle.refusals.specs.Outcome as outcome
use Rattle.refusals.proofs.Outcomes.{given-refused, same-refusal}
use Rattle.format.specs.Forest.{Forest, end, tree, breadth, first_tree, other_trees, after_trees}
use Rattle.format.specs.Node.{Node}
use Rattle.format.specs.Labels.{method_names, keys_of}
use Rattle.format.specs.Book.{Book}
use Rattle.format.specs.Fits.{Fits}
use Rattle.format.specs.Layout.{Layout, broken, whole, layout}
use Rattle.format.specs.Within.{full}
use Rattle.format.specs.Admission.{◌under◌, admitted, admitted_by, on_bytes}
use Rattle.format.proofs.Admission.{admitted-fits, asked-is}
use Rattle.format.proofs.Encoded.{fit-parts}
use Rattle.format.proofs.Theorems.{found}
use Rattle.judgement.specs.Environment.{main_definitions}
use Rattle.judgement.specs.Resolve.{resolve_actor}
use Rattle.judgement.specs.Check.{check, check_bytes}
use Rattle.listing.specs.Offers.{Interface, tree_number}
use Rattle.listing.specs.Room.{AfterCheck}
use Rattle.listing.specs.Methods.{methods_using, methods, offered_names, MethodsGiven}
use Rattle.listing.proofs.Interface.{passed-once, interface-methods}
use Rattle.listing.proofs.Room.{actor-lacks}
use Rattle.listing.proofs.MethodsUsing.{methods-say, asked-alike, none-asked, methods-after, methods-given, methods-computed}
use Rattle.passed.proofs.Asking.{stops}
use Rattle.print.specs.Ascii.{ascii}
use Rattle.print.specs.Decimal.{digit, digits, decimal}
use Rattle.print.specs.Quoted.{plain, hex_digit, escape, escapes, quoted}
use Rattle.print.specs.Refused.{in_table, name_or_number, named_or_dash, refusal_of}
use Rattle.print.proofs.Laws.{refused-nothing}
use Rattle.samples.specs.Bytes as bytes
use Rattle.samples.proofs.Computed.{samples-computed}
use Rattle.examples.proofs.Computed.{answer-computed}
use Rattle.methods.specs.Asked.{names_after, ended, numbers_from}
use Rattle.methods.specs.Printed.{name_at, changed, line, lines, text_of, printed}
use Rattle.methods.proofs.Named.{none-numbered, numbers-say, joined, joined-asked}

-- ---- What a book comes to
module _ (b : Book) (names : List (List ℕ)) where
  -- The numbers that are asked.
  abbrev pub numbers : List ℕ
  numbers = numbers_from 0 b.names names

  -- Refused just where the question is.
  pub changed-refused : (r : Refusal) → (changed names b ≡ refused r) ↔ (methods b numbers ≡ refused r)
  unfolding changed asked
  changed-refused r = (go (methods b numbers), λ e. rw e)
    where
      go : (o : Outcome (List ℕ)) → asked (λ l. given (map (name_at (offered_names b)) l)) o ≡ refused r → o ≡ refused r
      go (refused q) e = ap refused (same-refusal e)
      go (given l) e = given-refused (sym e)

  -- Of what is given the names of the methods at those positions, in their order.
  pub changed-given : {l : List ℕ} → methods b numbers ≡ given l → changed names b ≡ given (map (name_at (offered_names b)) l)
  unfolding changed asked
  changed-given e = rw e

-- It only matters which of the book's names are asked.
pub changed-alike : (b : Book) (x y : List (List ℕ)) →
    ((n : ℕ) → n < length b.names → Memᴰ (get_or b.names n []) x ↔ Memᴰ (get_or b.names n []) y) → changed x b ≡ changed y b
unfolding changed
changed-alike b x y h =
    ap (asked (λ l. given (map (name_at (offered_names b)) l)))
    (asked-alike b (λ n.
    let p = numbers-say x b.names n in
    let q = numbers-say y b.names n in (
      λ i. let z = p.0 i in q.1 (z.0, (h n z.0).0 z.1),
      λ i. let z = q.0 i in p.1 (z.0, (h n z.0).1 z.1),
    )))

pub unknown-adds-none : (b : Book) (name : List ℕ) (names : List (List ℕ)) → ((n : ℕ) → n < length b.names → get_or b.names n [] ≡ name → ⊥) →
    changed (name ∷ names) b ≡ changed names b
unknown-adds-none b name names none =
    changed-alike b (name ∷ names) names (λ n h. (λ m. ⊎_elim (λ e. absurd (none n h e)) (λ i. i) (Memᴰ.cases_cons m), λ i. Memᴰ.tail i))

pub changed-after : (names : List (List ℕ)) → AfterCheck (changed names)
changed-after names b r e = (changed-refused b names r).1 (methods-after (numbers b names) b r e)

-- The methods at those positions have these names: each alone, and those of all that the actor offers.
pub method-named : (f : Forest Node) (p : ℕ) → p < breadth f → method_names (tree_number p f) ≡ name_at (method_names f) p ∷ []
unfolding breadth keys_of after_trees other_trees first_tree
method-named end p h = absurd (omega arith)
method-named (tree n kids next) zero h = refl
method-named (tree n kids next) (suc p) h = method-named next p (omega arith)

-- ---- A book that passes and has an actor
module _ (b : Book) (fits : Fits b) (passed : check b ≡ passes) (some : resolve_actor b ≡ end → ⊥) where
  pub offered-are : {arguments methods' : Forest Node} → Interface (main_definitions b) (resolve_actor b) arguments methods' → offered_names b ≡ method_names methods'
  offered-are offers = ap method_names (interface-methods (main_definitions b) (passed-once b passed some fits) offers)

  -- The positions of what changes; its names are given.
  pub changed-answered : (names : List (List ℕ)) → (l : List ℕ) × MethodsGiven b (numbers b names) l × (changed names b ≡ given (map (name_at (offered_names b)) l))
  changed-answered names =
      let g = methods-given b fits (numbers b names) passed some in
      (g.0, g.2, changed-given b names ((methods-say b fits (numbers b names) g.0).1 g.2))

  pub none-changed : changed [] b ≡ given []
  none-changed = changed-given b [] (ap (methods b) (none-numbered 0 b.names) ∙ none-asked b passed some)

-- ---- What is printed of a book that is admitted
module _ (bs : List ℕ) (b : Book) (read : admitted (bs under full) ≡ given b) where
  pub shown : (asked : List ℕ) → printed bs asked ≡ text_of bs (changed (ended asked) b)
  unfolding printed
  shown asked = ap (text_of bs) (asked-is (bs under full) (changed (ended asked)) read)

  -- The same text where the same of the book's names are asked.
  pub alike-shown : (x y : List ℕ) → ((n : ℕ) → n < length b.names → Memᴰ (get_or b.names n []) (ended x) ↔ Memᴰ (get_or b.names n []) (ended y)) →
      printed bs x ≡ printed bs y
  alike-shown x y h = shown x ∙ ap (text_of bs) (changed-alike b (ended x) (ended y) h) ∙ sym (shown y)

  module _ (passed : check b ≡ passes) where
    -- With an actor it is never refused: a line for each method that changes, in the order of their positions.
    pub some-shown : (resolve_actor b ≡ end → ⊥) → (asked : List ℕ) →
        (l : List ℕ) × MethodsGiven b (numbers b (ended asked)) l × (printed bs asked ≡ lines bs (map (name_at (offered_names b)) l))
    unfolding text_of
    some-shown some asked =
        let x = changed-answered b (admitted-fits (bs under full) read) passed some (ended asked) in
        (x.0, x.1, shown asked ∙ ap (text_of bs) x.2)

    pub none-shown : (resolve_actor b ≡ end → ⊥) → printed bs [] ≡ []
    unfolding text_of lines names_after
    none-shown some = shown [] ∙ ap (text_of bs) (none-changed b (admitted-fits (bs under full) read) passed some)

    pub no-actor-shown : resolve_actor b ≡ end → (asked : List ℕ) → printed bs asked ≡ ascii "refused 17 -\n"
    unfolding text_of refusal_of named_or_dash decimal digits digit methods
    no-actor-shown none asked =
        shown asked ∙ ap (text_of bs) ((changed-refused b (ended asked) NoActor).1 (actor-lacks b (given (methods_using (main_definitions b) (resolve_actor b) (numbers b (ended asked)))) passed none))

-- The same text for the same names, whatever the bytes of the book are.
pub same-shown : (bs x y : List ℕ) → ((name : List ℕ) → Memᴰ name (ended x) ↔ Memᴰ name (ended y)) → printed bs x ≡ printed bs y
unfolding outcome.asked printed
same-shown bs x y h = go (admitted (bs under full))
  where
    go : (o : Outcome Book) → text_of bs (outcome.asked (changed (ended x)) o) ≡ text_of bs (outcome.asked (changed (ended y)) o)
    go (refused r) = refl
    go (given b) = ap (text_of bs) (changed-alike b (ended x) (ended y) (λ n i. h (get_or b.names n [])))

-- Names as they are given, each ended by a zero byte: none of them has one.
pub joined-shown : (bs : List ℕ) (names : List (List ℕ)) → ((name : List ℕ) → Memᴰ name names → Memᴰ 0 name → ⊥) →
    printed bs (joined names) ≡ text_of bs (on_bytes (changed names) (bs under full))
unfolding printed
joined-shown bs names h = ap (λ (l : List (List ℕ)). text_of bs (on_bytes (changed l) (bs under full))) (joined-asked names h)

-- ---- What is printed of one that is refused, whatever is asked
pub refused-shown : (bs asked : List ℕ) {r : Refusal} → check_bytes (bs under full) ≡ Err r → printed bs asked ≡ refusal_of bs r
unfolding text_of printed
refused-shown bs asked e = ap (text_of bs) (stops (changed (ended asked)) (bs under full) (changed-after (ended asked)) e)

-- A broken layout, as that of every input that is longer than a book may be.
pub broken-shown : (bs asked : List ℕ) → layout bs ≡ broken → printed bs asked ≡ ascii "refused 1 -\n"
unfolding outcome.asked admitted admitted_by text_of printed
broken-shown bs asked e = rw e (refused-nothing bs)

pub long-shown : (bs asked : List ℕ) → 65536 < length bs → printed bs asked ≡ ascii "refused 1 -\n"
long-shown bs asked h = go (layout bs) refl
  where
    go : (l : Layout) → layout bs ≡ l → printed bs asked ≡ ascii "refused 1 -\n"
    go broken e = broken-shown bs asked e
    go (whole b) e = let p = (found bs b).0 e in absurd (omega (arith, (fit-parts p.0).short, ap length p.1))

-- What is printed, by all that it computes by.
unfoldable printed-computed : List ℕ → List ℕ → List ℕ
unfolding
    methods-computed keys_of names_after numbers_from joined changed line lines text_of decimal digits digit quoted escapes escape plain hex_digit
    in_table name_or_number named_or_dash refusal_of printed
printed-computed = printed

-- ---- Books of document 01, asked for one name, for others, and for none
pub p1-shown : printed bytes.p1 (joined (ascii "tree" ∷ [])) ≡ ascii "\"put\"\n"
unfolding answer-computed samples-computed printed-computed
p1-shown = refl

pub p1-unchanged : (printed bytes.p1 (joined (ascii "spare" ∷ ascii "none" ∷ [])) ≡ []) × (printed bytes.p1 [] ≡ [])
unfolding answer-computed samples-computed printed-computed
p1-unchanged = (refl, refl)

pub p4-shown : printed bytes.p4 (joined (ascii "tree" ∷ [])) ≡ ascii "refused 17 -\n"
unfolding answer-computed samples-computed printed-computed
p4-shown = refl

pub p6-shown : printed bytes.p6 [] ≡ ascii "refused 2 \"b\"\n"
unfolding answer-computed samples-computed printed-computed
p6-shown = refl
