-- Demand 3 in its own words, a field for each of its sentences and in terms of references alone: what list, marks, uses and draft listing
-- answer. proofs/Demand3.antt has that every book meets it. Definitions; assumes nothing.
--     Lists, Marked                what a list and its marks are
--     Answers, DraftAnswers        what is answered of a book that passed and has an actor, and of a draft
--     Delivered, Kept, Delivers    what a caller has in hand: the answer, and the lent list before the call and after it
--     Sent, SentDraft              the demand of bytes that a supplier sends, down to the lent lists. `HandedAs` and `UsesAs` are what the entry
--                                  points promise, so that with these a caller knows what stands in a lent list after a call
use Rattle.std.specs.Prelude.{◌≡◌, ◌↔◌, ◌⊎◌, ℕ, ◌+◌, ◌*◌, ◌≤◌, ◌<◌, length, take, drop}
use mathlib.Core.List.{List, [], ◌∷◌, Memᴰ}
use Rattle.refusals.specs.declared.Refusal.{Refusal}
use Rattle.refusals.specs.declared.Refusal.TheVariants.{Unbound, Short}
use Rattle.std.specs.Prelude.{Ok, Err}
use Rattle.refusals.specs.Lists.{flat}
use Rattle.refusals.specs.Outcome.{Outcome, refused, given, fit}
use Rattle.refusals.specs.Handed.{Answer, Use, numbers, HandedAs, UsesAs}
use Rattle.format.specs.Forest.{Forest, breadth}
use Rattle.format.specs.Node.{Node}
use Rattle.format.specs.Book.{Definition, Book}
use Rattle.format.specs.References.{references}
use Rattle.format.specs.Distinct.{Distinct, Ascends}
use Rattle.format.specs.Admission.{on_bytes, Source}
use Rattle.judgement.specs.Environment.{main_definitions}
use Rattle.judgement.specs.Actor.{main_actor}
use Rattle.judgement.specs.Resolve.{resolve_actor}
use Rattle.judgement.specs.WellFormed.{Defined}
use Rattle.judgement.specs.Meaning.{ActorOf}
use Rattle.listing.specs.References.{Refers, Reachable, Circle, Chases, Reaches, Lost, Misses}
use Rattle.listing.specs.Offers.{Interface, arguments_and_results}
use Rattle.listing.specs.List.{list}
use Rattle.listing.specs.Marks.{marks_over}
use Rattle.listing.specs.Uses.{uses, UsesGiven}
use Rattle.listing.specs.DraftList.{draft_definitions, draft_list}

-- Never refused with a lent list that is long enough: the result's entries fit.
abbrev pub Gives : {A : Type 0} → Outcome (List A) → List A → Type 0
Gives o l = (o ≡ given l) × ((places : ℕ) → length l ≤ places → fit places o ≡ given l)

-- u is listed earlier than n.
pub data Earlier (u n : ℕ) : List ℕ → Type 0 where
  now : {l : List ℕ} → Memᴰ n l → Earlier u n (u ∷ l)
  later : {m : ℕ} {l : List ℕ} → Earlier u n l → Earlier u n (m ∷ l)

-- Document 01's order: left to right, and a definition after those first met inside it.
abbrev pub InOrder : List Definition → Forest Node → List ℕ → Type 0
InOrder ds actor l = (seen : List ℕ) × Chases ds (references actor) [] [] seen l

-- "The list, in document 01's order, holds each definition reachable from the actor exactly once, and no other."
pub record Lists (ds : List Definition) (actor : Forest Node) (l : List ℕ) : Type 0 where
  -- in document 01's order, in which no other list is
  pub in_order : InOrder ds actor l
  pub alone : (k : List ℕ) → InOrder ds actor k → k ≡ l
  -- so that each stands after what it refers to, unless that leads back to it
  pub stands : (u v : ℕ) → Memᴰ u l → Refers ds u v → Earlier v u l ⊎ Reaches ds v u
  -- definitions: each that is reachable from the actor, and no other
  pub defined : (n : ℕ) → Memᴰ n l → Defined ds n
  pub reachable : (n : ℕ) → Memᴰ n l ↔ Reachable ds actor n
  -- exactly once
  pub once : Distinct l

-- A listed definition that refers to itself or that an earlier listed one refers to.
abbrev pub MarkedIn : List Definition → List ℕ → ℕ → Type 0
MarkedIn ds l n = Memᴰ n l × (Refers ds n n ⊎ ((u : ℕ) × Earlier u n l × Refers ds u n))

-- The marks m of the list l.
pub record Marked (ds : List Definition) (l m : List ℕ) : Type 0 where
  -- "Marked are exactly the listed definitions that refer to themselves or that an earlier listed one refers to"; ascending
  pub exactly : (n : ℕ) → Memᴰ n m ↔ MarkedIn ds l n
  pub ascends : Ascends m
  -- "each marked one lies on a circle of references", all of it listed
  pub on_circle : (n : ℕ) → Memᴰ n m → (c : List ℕ) × Circle ds c × Memᴰ n c × ((k : ℕ) → Memᴰ k c → Memᴰ k l)
  -- "and each circle among the listed has a marked member": it is enough that one of it is listed
  pub each_circle : (c : List ℕ) → Circle ds c → (k : ℕ) → Memᴰ k c → Memᴰ k l → (n : ℕ) × Memᴰ n c × Memᴰ n m

-- "if it is passed and has an actor, then"
pub record Answers (b : Book) : Type 0 where
  pub listed : List ℕ
  pub marked : List ℕ
  pub row : ℕ → List Use
  -- the actor is the one that the book's files mean, and no other
  pub meant : (t : Forest Node) → ActorOf b t ↔ (t ≡ resolve_actor b)
  -- "with lists long enough its definition list, that list's marks and the uses of every name are never refused."
  pub list_given : Gives (list b) listed
  pub marks_given : Gives (marks_over b listed) marked
  pub uses_given : (n : ℕ) → Gives (uses b n) (row n)
  -- lengths that are always enough: 512 for the list and for its marks; for uses, arguments and results together
  pub list_enough : length listed ≤ 512
  pub marks_enough : length marked ≤ 512
  pub uses_enough : {arguments methods : Forest Node} → Interface (main_definitions b) (resolve_actor b) arguments methods → (n : ℕ) →
      length (row n) ≤ breadth arguments + arguments_and_results (main_definitions b) methods
  -- "The uses are the rows that document 01 states.": of the class arguments and methods that the actor offers; a name not listed has none
  pub offers : (arguments : Forest Node) × (methods : Forest Node) × Interface (main_definitions b) (resolve_actor b) arguments methods
  pub rows : {arguments methods : Forest Node} → Interface (main_definitions b) (resolve_actor b) arguments methods → (n : ℕ) →
      UsesGiven (main_definitions b) arguments methods n (uses b n)
  pub unlisted : (n : ℕ) → (Memᴰ n listed → ⊥) → row n ≡ []
  -- "The list, in document 01's order, holds .."
  pub lists : Lists (main_definitions b) (resolve_actor b) listed
  -- "Marked are exactly .."
  pub marks : Marked (main_definitions b) listed marked

-- "A draft (main file, unchecked, unbroken layout, within the limits, no repeated labels, actor, no name defined twice)"
pub record DraftAnswers (b : Book) : Type 0 where
  -- "is refused as unbound exactly if a reachable name lacks a definition", however long the lent list is
  pub unbound : (places : ℕ) → ((n : ℕ) × (fit places (draft_list b) ≡ refused (Unbound n))) ↔ ((n : ℕ) × Lost (draft_definitions b) (main_actor b) n)
  -- the name told is such a one, and the first that is met
  pub told : (n : ℕ) → draft_list b ≡ refused (Unbound n) → Lost (draft_definitions b) (main_actor b) n
  pub first_met : (n : ℕ) → (draft_list b ≡ refused (Unbound n)) ↔ Misses (draft_definitions b) (references (main_actor b)) [] [] n
  -- if none lacks one, it is answered
  pub answered : ((n : ℕ) → Lost (draft_definitions b) (main_actor b) n → ⊥) → (l : List ℕ) × Gives (draft_list b) l × (length l ≤ 512)
  -- "an answered one lists what is reachable in the same way."
  pub lists : (places : ℕ) (l : List ℕ) → fit places (draft_list b) ≡ given l → Lists (draft_definitions b) (main_actor b) l

-- ---- What a caller has in hand

-- This is said. Numbers stand at the front of the lent list, and the places beyond keep their contents.
pub record InFront {R : Type 0} (said : R) (entries old new : List ℕ) (r : R) : Type 0 where
  pub answer : r ≡ said
  pub front : take (length entries) new ≡ entries
  pub rest : drop (length entries) new ≡ drop (length entries) old
  pub long : length new ≡ length old

-- This is said, and the lent list keeps its contents.
pub record AsItWas {R : Type 0} (said : R) (old new : List ℕ) (r : R) : Type 0 where
  pub answer : r ≡ said
  pub same : new ≡ old

-- So many entries are told, and their numbers are in front.
abbrev pub Delivered : ℕ → (entries old new : List ℕ) → Answer → Type 0
Delivered count = InFront (Ok count)

-- A refusal is told.
abbrev pub Kept : Refusal → (old new : List ℕ) → Answer → Type 0
Kept why = AsItWas (Err why)

-- Whatever is promised of a call (the lent list before it, after it, and the answer): these entries are delivered where their numbers fit,
-- and else 16 is told with the entries needed.
pub record Delivers (Promise : (old new : List ℕ) → Answer → Type 0) (count : ℕ) (entries : List ℕ) : Type 0 where
  pub enough : {old new : List ℕ} {r : Answer} → Promise old new r → length entries ≤ length old → Delivered count entries old new r
  pub short : {old new : List ℕ} {r : Answer} → Promise old new r → length old < length entries → Kept (Short count) old new r

-- The bytes are admitted as a book b that passes and has an actor.
pub record Sent (bytes : Source) (b : Book) : Type 0 where
  pub answers : Answers b
  pub list_sent : Delivers (HandedAs (on_bytes list bytes)) (length answers.listed) answers.listed
  pub marks_sent : Delivers (HandedAs (on_bytes (λ c. marks_over c answers.listed) bytes)) (length answers.marked) answers.marked
  -- three numbers for each entry
  pub uses_sent : (n : ℕ) → Delivers (UsesAs (on_bytes (λ c. uses c n) bytes)) (length (answers.row n)) (flat numbers (answers.row n))
  pub uses_three : (n : ℕ) → length (flat numbers (answers.row n)) ≡ 3 * length (answers.row n)

-- They are admitted as a draft: a book b whose main file has an actor and defines no name twice.
pub record SentDraft (bytes : Source) (b : Book) : Type 0 where
  pub answers : DraftAnswers b
  -- refused as unbound exactly if a reachable name lacks a definition, and with the first that is met
  pub unbound_sent : {old new : List ℕ} {r : Answer} → HandedAs (on_bytes draft_list bytes) old new r →
      ((n : ℕ) × (r ≡ Err (Unbound n))) ↔ ((n : ℕ) × Lost (draft_definitions b) (main_actor b) n)
  pub first_sent : {old new : List ℕ} {r : Answer} → HandedAs (on_bytes draft_list bytes) old new r → (n : ℕ) →
      (r ≡ Err (Unbound n)) ↔ Misses (draft_definitions b) (references (main_actor b)) [] [] n
  -- a refusal leaves the list as it was
  pub kept_sent : {old new : List ℕ} {r : Answer} {why : Refusal} → HandedAs (on_bytes draft_list bytes) old new r → r ≡ Err why → Kept why old new r
  -- if none lacks one, a list is delivered, and 512 places are always enough
  pub answered_sent : ((n : ℕ) → Lost (draft_definitions b) (main_actor b) n → ⊥) →
      (l : List ℕ) × Delivers (HandedAs (on_bytes draft_list bytes)) (length l) l × (length l ≤ 512)
  -- where a number is told, so many names stand at the front, and they list what is reachable in the same way
  pub lists_sent : {old new : List ℕ} {r : Answer} {k : ℕ} → HandedAs (on_bytes draft_list bytes) old new r → r ≡ Ok k →
      (l : List ℕ) × Delivered k l old new r × (length l ≡ k) × Lists (draft_definitions b) (main_actor b) l × (k ≤ 512)
