-- Document 01's "References": what refers to what, what is reachable, circles, and the order of the list. No walk, fuel or mark is named
-- here. Definitions; assumes nothing.
use Rattle.std.specs.Prelude.{◌≡◌, ℕ}
use mathlib.Core.List.{List, [], ◌∷◌, ◌++◌, Memᴰ}
use Rattle.format.specs.Forest.{Forest}
use Rattle.format.specs.Node.{Node}
use Rattle.format.specs.Book.{Definition}
use Rattle.format.specs.References.{references}
use Rattle.judgement.specs.WellFormed.{Defined}

-- A definition refers to each name that is a node of kind 18 anywhere in it.
pub record Refers (ds : List Definition) (m n : ℕ) : Type 0 where
  pub definition : Definition
  pub listed : Memᴰ definition ds
  pub named : definition.name ≡ m
  pub refers : Memᴰ n (references definition.body)

-- Reachable from a start (an actor, an argument or a result): each name that it refers to, and each that a reachable name's definition
-- refers to.
pub data Reachable (ds : List Definition) (start : Forest Node) : ℕ → Type 0 where
  direct : {n : ℕ} → Memᴰ n (references start) → Reachable ds start n
  onward : {m n : ℕ} → Reachable ds start m → Refers ds m n → Reachable ds start n

-- From m by references to n, the names come to in order.
pub data Way (ds : List Definition) : ℕ → List ℕ → ℕ → Type 0 where
  last : {m n : ℕ} → Refers ds m n → Way ds m (n ∷ []) n
  step : {m k n : ℕ} {l : List ℕ} → Refers ds m k → Way ds k l n → Way ds m (k ∷ l) n

-- By one reference or more from m to n.
abbrev pub Reaches : List Definition → ℕ → ℕ → Type 0
Reaches ds m n = (l : List ℕ) × Way ds m l n

-- A circle of references: one or more definitions, each referring to the next, the last to the first. Its names are l.
pub record Circle (ds : List Definition) (l : List ℕ) : Type 0 where
  pub first : ℕ
  pub way : Way ds first l first

-- A name that is reachable and has no definition.
abbrev pub Lost : List Definition → Forest Node → ℕ → Type 0
Lost ds start n = Reachable ds start n × (Defined ds n → ⊥)

-- ---- The order of the list, as a relation with a rule for each arm of `chase_type`: what was seen and listed before, and after.
mutual
  -- A name.
  pub data Meets (ds : List Definition) : ℕ → (seen out seen' out' : List ℕ) → Type 0 where
    again : {n : ℕ} {seen out : List ℕ} → Memᴰ n seen → Meets ds n seen out seen out
    anew : {n : ℕ} {seen out seen' out' : List ℕ} {d : Definition} → (Memᴰ n seen → ⊥) → Memᴰ d ds → d.name ≡ n →
        Chases ds (references d.body) (n ∷ seen) out seen' out' → Meets ds n seen out seen' (out' ++ (n ∷ []))

  -- Names from left to right.
  pub data Chases (ds : List Definition) : List ℕ → (seen out seen' out' : List ℕ) → Type 0 where
    done : {seen out : List ℕ} → Chases ds [] seen out seen out
    each : {n : ℕ} {l seen out seen₁ out₁ seen₂ out₂ : List ℕ} → Meets ds n seen out seen₁ out₁ → Chases ds l seen₁ out₁ seen₂ out₂ → Chases ds (n ∷ l) seen out seen₂ out₂

-- ---- The first name without definition that is met, as a relation beside `Meets` and `Chases`
mutual
  -- At a name: it is that name itself, or one inside its definition.
  pub data Lacks (ds : List Definition) : ℕ → (seen out : List ℕ) → ℕ → Type 0 where
    itself : {n : ℕ} {seen out : List ℕ} → (Memᴰ n seen → ⊥) → (Defined ds n → ⊥) → Lacks ds n seen out n
    inside : {n m : ℕ} {seen out : List ℕ} {d : Definition} → (Memᴰ n seen → ⊥) → Memᴰ d ds → d.name ≡ n →
        Misses ds (references d.body) (n ∷ seen) out m → Lacks ds n seen out m

  -- Among names from left to right.
  pub data Misses (ds : List Definition) : List ℕ → (seen out : List ℕ) → ℕ → Type 0 where
    now : {n m : ℕ} {l seen out : List ℕ} → Lacks ds n seen out m → Misses ds (n ∷ l) seen out m
    later : {n m : ℕ} {l seen out seen₁ out₁ : List ℕ} → Meets ds n seen out seen₁ out₁ → Misses ds l seen₁ out₁ m → Misses ds (n ∷ l) seen out m
