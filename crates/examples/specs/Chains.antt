-- Alias chains (document 02, request 3): definitions and a type, above each what it shows, with the names that the type's chain crosses, how many
-- they are, and the end, as the request is read; then what is asked of a name. Definitions; assumes nothing.
use Rattle.std.specs.Prelude.{List, [], ◌∷◌, ℕ}
use Rattle.refusals.specs.declared.Refusal.TheVariants.{Unbound}
use Rattle.refusals.specs.declared.Crossed.{Crossed}
use Rattle.refusals.specs.Outcome.{Outcome, refused, given}
use Rattle.format.specs.Forest.{Forest}
use Rattle.format.specs.Node.{Node}
use Rattle.format.specs.Book.{Definition}
use Rattle.judgement.specs.Aliases.{Chain, unbound, circle, ends}
use Rattle.judgement.specs.Actor.{class_of, below_class}
use Rattle.samples.specs.Notation.{Shape, unlabelled_tree, nat, ref, opt, type}

pub record Case : Type 0 where
  pub definitions : List Definition
  pub start : Forest Node
  pub chain : Chain
  pub length : ℕ

-- The names, by number; a name's definition, and its type.
abbrev a : ℕ
a = 0

abbrev b : ℕ
b = 1

abbrev c : ℕ
c = 2

abbrev is : ℕ → Shape → Definition
is n t = type 0 n t

abbrev name : ℕ → Forest Node
name n = unlabelled_tree (ref n)

abbrev number : Forest Node
number = unlabelled_tree nat

unfoldable pub chains : List Case
chains =
    -- no name crosses none, and what a type refers to inside is not followed
    record { definitions = []; start = number; chain = record { crossed = []; last = ends number }; length = 0 }
    ∷ record {
      definitions = is a nat ∷ [];
      start = unlabelled_tree (opt (ref a));
      chain = record { crossed = []; last = ends (unlabelled_tree (opt (ref a))) };
      length = 0;
    }
    -- type a = nat
    ∷ record { definitions = is a nat ∷ []; start = name a; chain = record { crossed = a ∷ []; last = ends number }; length = 1 }
    -- type a = b; type b = nat: a crosses both, b itself
    ∷ record { definitions = is a (ref b) ∷ is b nat ∷ []; start = name a; chain = record { crossed = a ∷ b ∷ []; last = ends number }; length = 2 }
    ∷ record { definitions = is a (ref b) ∷ is b nat ∷ []; start = name b; chain = record { crossed = b ∷ []; last = ends number }; length = 1 }
    -- type a = c; type b = c; type c = nat: two chains with one tail
    ∷ record {
      definitions = is a (ref c) ∷ is b (ref c) ∷ is c nat ∷ [];
      start = name a;
      chain = record { crossed = a ∷ c ∷ []; last = ends number };
      length = 2;
    }
    ∷ record {
      definitions = is a (ref c) ∷ is b (ref c) ∷ is c nat ∷ [];
      start = name b;
      chain = record { crossed = b ∷ c ∷ []; last = ends number };
      length = 2;
    }
    -- a name without definition crosses none; type a = b crosses a, and ends at b
    ∷ record { definitions = []; start = name b; chain = record { crossed = []; last = unbound b }; length = 0 }
    ∷ record { definitions = is a (ref b) ∷ []; start = name a; chain = record { crossed = a ∷ []; last = unbound b }; length = 1 }
    -- circles cross as many names as there are definitions: type a = a; that beside type b = nat; type a = b; type b = a
    ∷ record { definitions = is a (ref a) ∷ []; start = name a; chain = record { crossed = a ∷ []; last = circle }; length = 1 }
    ∷ record { definitions = is a (ref a) ∷ is b nat ∷ []; start = name a; chain = record { crossed = a ∷ a ∷ []; last = circle }; length = 2 }
    ∷ record { definitions = is a (ref b) ∷ is b (ref a) ∷ []; start = name b; chain = record { crossed = b ∷ a ∷ []; last = circle }; length = 2 }
    -- and also from outside: type a = b; type b = a; type c = a
    ∷ record {
      definitions = is a (ref b) ∷ is b (ref a) ∷ is c (ref a) ∷ [];
      start = name c;
      chain = record { crossed = c ∷ a ∷ b ∷ []; last = circle };
      length = 3;
    }
    -- a class adds none: type a = b; type b = nat; service : (nat) -> a
    ∷ record {
      definitions = is a (ref b) ∷ is b nat ∷ [];
      start = below_class (class_of number (name a));
      chain = record { crossed = a ∷ b ∷ []; last = ends number };
      length = 2;
    }
    ∷ []

-- ---- The question
pub record Asked : Type 0 where
  pub definitions : List Definition
  pub name : ℕ
  pub answer : Outcome Crossed

-- type a = b; type b = nat: a gives 2 and b, b gives 1 and b; c has no definition
unfoldable pub asked : List Asked
asked =
    record { definitions = is a (ref b) ∷ is b nat ∷ []; name = a; answer = given (record { names = 2; last = b }) }
    ∷ record { definitions = is a (ref b) ∷ is b nat ∷ []; name = b; answer = given (record { names = 1; last = b }) }
    ∷ record { definitions = is a (ref b) ∷ is b nat ∷ []; name = c; answer = refused (Unbound c) }
    ∷ []
