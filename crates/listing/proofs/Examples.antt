-- Small books and what their lists are, by computation. Assumes nothing.
use mathlib.Core.Path.{◌≡◌, refl}
use mathlib.Core.Logic.{inl}
use mathlib.Core.Bool.{Bool}
use mathlib.Core.List.{List, [], ◌∷◌, map}
use Prim.Native.Nat.{ℕ}
use native.Mathlib.Omega.{arith}
use lib.ListN.{length}
use Rattle.labels.specs.declared.Label.{Label}
use Rattle.labels.specs.declared.Label.TheVariants.{Named, Unnamed}
use Rattle.format.specs.Forest.{Forest, end, tree, count, breadth, preorder, beside, map_forest, no_trees}
use Rattle.format.specs.Node.{PrimType, Null, Bool as BoolType, Nat, Nat8, Nat16, Text, Kind, PrimT, VarT, OptT, VecT, RecordT, VariantT, FuncT, ServT, InitT, unlabelled, labelled, Node, prim_number, kind_number, mode_number, modes_number, value_number, label_kind, label_value}
use Rattle.format.specs.Book.{Definition, Main, TypeImport, InitArgs, Book, bodies, actors, trees}
use Rattle.format.specs.Encode.{bytes16, bytes32, name_bytes, row_of, sized, row_bytes, entry_bytes, role_number, definition_entries, root_of, file_entries, names_bytes, nodes_bytes, definitions_bytes, files_bytes, toc_row, contents_bytes, encode}
use Rattle.format.proofs.Logic.{clash}
use Rattle.format.proofs.Occurs.{everywhere-tree, occurs-end, each-tree, beside-none}
use Rattle.refusals.specs.Lists.{flat}
use Rattle.format.specs.Fits.{every, is_byte, is_name, before, ascending, place_below, kind_fits, not_init, kind_allowed, label_fits, node_fits, forest_fits, is_init, definition_fits, files_rise, is_init_role, is_main, file_fits, imports_fit, roles_fit, fits, Fits}
use Rattle.refusals.specs.Verdict.{Verdict, passes}
use Rattle.refusals.specs.declared.Refusal.TheVariants.{Unbound, NoActor}
use Rattle.refusals.specs.declared.Count.{Count}
use Rattle.refusals.specs.declared.Count.TheVariants.{Exactly, Many}
use Rattle.judgement.specs.Environment.{role_at, keep, main_definitions, init_definitions, find_type, is_missing, merge_definitions, head_kind, head, is_func_kind, is_serv_kind, kids_of}
use Rattle.judgement.specs.Aliases.{met, link, chain_from, chain, alias_end, root_passes, as_func, as_service}
use Rattle.judgement.specs.Actor.{is_service_import, service_imports, first_actor, main_actor, is_class_kind, is_class, last_tree, below_class, init_tree}
use Rattle.judgement.specs.Resolve.{resolve_with, resolve_actor}
use Rattle.judgement.specs.Check.{name_verdict, is_oneway, modes_verdict, kind_verdict, method_verdict, check_forest, member, once_verdict, bodies_verdict, each_name, is_circle, circle_verdict, methods_fit, bodies_fit, decs_verdict, imports_verdict, resolve_verdict, check, same_verdict, merge_verdict, init_verdict, init_check}
use Rattle.judgement.specs.Check as checks
use Rattle.format.specs.Distinct.{Distinct}
use Rattle.judgement.specs.WellFormed.{defined_name}
use Rattle.judgement.proofs.Decs.{once-says}
use Rattle.listing.specs.Chase.{push, arm, chase, meet_name, visit, chase_types, walked}
use Rattle.refusals.specs.Outcome.{Outcome, refused, given, after}
use Rattle.listing.specs.Room.{needs_actor}
use Rattle.listing.specs.List.{list}
use Rattle.listing.specs.InitList.{init_list}
use Rattle.listing.specs.DraftList.{draft_definitions, draft_list}
use Rattle.listing.specs.Empty.{emptiness}
use Rattle.listing.specs.ReplaceEmpty.{replace_empty, Plain}
use Rattle.listing.specs.Values.{values}
use Rattle.listing.proofs.Empty.{empty-computed}
use Rattle.listing.proofs.ReplaceEmpty.{replaced-computed}
use Rattle.listing.proofs.Values.{values-computed}

-- ---- The format, the check, the walk and the questions, each by every definition of it
unfoldable pub fitting : Book → Bool
unfolding
    count breadth preorder beside map_forest prim_number kind_number mode_number modes_number value_number label_kind label_value bodies actors
    trees bytes16 bytes32 flat name_bytes row_of sized row_bytes entry_bytes role_number definition_entries root_of file_entries names_bytes
    nodes_bytes definitions_bytes files_bytes toc_row contents_bytes encode every is_byte is_name before ascending place_below kind_fits not_init
    kind_allowed label_fits node_fits forest_fits is_init definition_fits files_rise is_init_role is_main file_fits imports_fit roles_fit fits
fitting = fits

unfoldable pub checked : Book → Verdict
unfolding
    no_trees is_init_role role_at keep main_definitions find_type head_kind head met link chain_from chain alias_end is_func_kind is_serv_kind root_passes
    as_func as_service kids_of is_service_import service_imports first_actor main_actor is_class_kind is_class last_tree below_class resolve_with
    resolve_actor name_verdict is_oneway modes_verdict kind_verdict method_verdict check_forest member once_verdict bodies_verdict each_name is_circle
    circle_verdict methods_fit bodies_fit decs_verdict imports_verdict resolve_verdict checks.actor_verdict check breadth label_value
checked = check

listed : Book → Outcome (List ℕ)
unfolding checked push arm chase meet_name visit chase_types after needs_actor walked list
listed = list

unfoldable pub drafted : Book → Outcome (List ℕ)
unfolding listed draft_definitions draft_list
drafted = draft_list

unfoldable pub init-listed : Book → Outcome (List ℕ)
unfolding listed init_definitions is_missing merge_definitions same_verdict merge_verdict init_tree init_verdict init_check init_list
init-listed = init_list

-- ---- A short way to write books
abbrev pub plain : Kind → Forest Node → Forest Node
plain κ kids = tree (record { kind = κ; label = unlabelled }) kids end

abbrev pub field : Label → Kind → Forest Node → Forest Node
field l κ next = tree (record { kind = κ; label = labelled l }) end next

-- A type that is the name with that number.
abbrev pub name : ℕ → Forest Node
name n = plain (VarT n) end

abbrev pub type : ℕ → ℕ → Forest Node → Definition
type file n t = record { name = n; file = file; body = t }

-- service : { m : (arguments) -> () }
abbrev pub service : ℕ → Forest Node → Forest Node
service m arguments = plain ServT (tree (record { kind = FuncT (breadth arguments) []; label = labelled (Named m) }) arguments end)

-- The names a, b and z have the numbers 1, 2 and 3; files and methods have the empty name. There is an import of types beside main.
abbrev pub book : List Definition → Forest Node → Book
book ds actor = record {
  names = [] ∷ (97 ∷ []) ∷ (98 ∷ []) ∷ (122 ∷ []) ∷ [];
  definitions = ds;
  files = record { name = 0; role = Main; actor = actor } ∷ (record { name = 0; role = TypeImport; actor = end } ∷ []);
}

-- ---- From left to right: type a = nat; type b = nat; service : { "" : (b, a) -> () }
pub left-first : list (book (type 0 1 (plain (PrimT Nat) end) ∷ (type 0 2 (plain (PrimT Nat) end) ∷ [])) (service 0 (beside (name 2) (name 1)))) ≡ given (2 ∷ 1 ∷ [])
unfolding listed beside
left-first = refl

-- ---- Circles: type a = opt b; type b = opt a, and a function whose argument is a service with that method
pub circle-list : list (book (type 0 1 (plain OptT (name 2)) ∷ (type 0 2 (plain OptT (name 1)) ∷ [])) (service 0 (name 1))) ≡ given (2 ∷ 1 ∷ [])
unfolding listed
circle-list = refl

abbrev pub ring : Book
ring = book (type 0 1 (plain (FuncT 1 []) (plain ServT (field (Named 0) (VarT 1) end))) ∷ []) (service 0 (name 1))

pub ring-list : list ring ≡ given (1 ∷ [])
unfolding listed
ring-list = refl

pub ring-fits : Fits ring
unfolding fitting
ring-fits = tt

pub ring-passes : check ring ≡ passes
unfolding checked
ring-passes = refl

pub ring-actor : resolve_actor ring ≡ end → ⊥
unfolding checked
ring-actor e = let z : ◌≡◌ {A = ℕ} 0 1 = cc in omega arith

-- ---- Drafts: type a = opt z in main, and z = nat in the import
abbrev pub importing : Book
importing = book (type 0 1 (plain OptT (name 3)) ∷ (type 1 3 (plain (PrimT Nat) end) ∷ [])) (service 0 (name 1))

pub import-list : list importing ≡ given (3 ∷ 1 ∷ [])
unfolding listed
import-list = refl

-- the draft reads main alone
pub import-draft : draft_list importing ≡ refused (Unbound 3)
unfolding drafted
import-draft = refl

pub import-fits : Fits importing
unfolding fitting
import-fits = tt

pub import-main : main_actor importing ≡ end → ⊥
unfolding drafted
import-main e = let z : ◌≡◌ {A = ℕ} 0 1 = cc in omega arith

pub import-once : Distinct (map defined_name (draft_definitions importing))
unfolding drafted
import-once = (once-says (draft_definitions importing)).0 refl

-- type a = opt b; type b = nat
pub draft-list : draft_list (book (type 0 1 (plain OptT (name 2)) ∷ (type 0 2 (plain (PrimT Nat) end) ∷ [])) (service 0 (name 1))) ≡ given (2 ∷ 1 ∷ [])
unfolding drafted
draft-list = refl

-- the first that is met, not the lowest: service : { "" : (z, b) -> () } without definitions
pub draft-first : draft_list (book [] (service 0 (beside (name 3) (name 2)))) ≡ refused (Unbound 3)
unfolding drafted beside
draft-first = refl

pub draft-none : draft_list (book [] end) ≡ refused NoActor
unfolding drafted
draft-none = refl

-- ---- Init arguments (b, a), where a = nat is main's and b = nat the init file's
pub init-list : init_list (record {
  names = [] ∷ (97 ∷ []) ∷ (98 ∷ []) ∷ [];
  definitions = type 0 1 (plain (PrimT Nat) end) ∷ (type 1 2 (plain (PrimT Nat) end) ∷ []);
  files = record { name = 0; role = Main; actor = end } ∷ (record { name = 0; role = InitArgs; actor = plain InitT (beside (name 2) (name 1)) } ∷ []);
}) ≡ given (2 ∷ 1 ∷ [])
unfolding init-listed beside
init-list = refl

-- ---- Emptiness, of one definition: that of a, with what the Rust's walk says of it
emptied : Book → Outcome (List ℕ)
unfolding checked after empty-computed
emptied = emptiness

replaced : List Definition → ℕ → List ℕ
unfolding checked replaced-computed
replaced = replace_empty

abbrev alone : Forest Node → Book
alone t = book (type 0 1 t ∷ []) end

abbrev rust : Book → List ℕ
rust b = replace_empty (main_definitions b) (length b.names)

-- Empty, and not by the Rust's walk; not empty, by neither.
abbrev EmptyByValues : Forest Node → Type 0
EmptyByValues t = (emptiness (alone t) ≡ given (1 ∷ [])) × (rust (alone t) ≡ [])

abbrev NotEmpty : Forest Node → Type 0
NotEmpty t = (emptiness (alone t) ≡ given []) × (rust (alone t) ≡ [])

abbrev holds : Kind → Forest Node → Forest Node
holds κ kids = tree (record { kind = κ; label = labelled (Named 0) }) kids end

-- type a = empty
pub empty-itself : EmptyByValues (plain (PrimT PrimType.Empty) end)
unfolding emptied replaced
empty-itself = (refl, refl)

-- type a = record { empty }
pub empty-field : EmptyByValues (plain RecordT (holds (PrimT PrimType.Empty) end))
unfolding emptied replaced
empty-field = (refl, refl)

-- type a = variant {}
pub empty-variant : EmptyByValues (plain VariantT end)
unfolding emptied replaced
empty-variant = (refl, refl)

-- type a = record { record { a } }
pub empty-inside : EmptyByValues (plain RecordT (holds RecordT (holds (VarT 1) end)))
unfolding emptied replaced
empty-inside = (refl, refl)

-- type a = variant { x : a }
pub empty-cases : EmptyByValues (plain VariantT (holds (VarT 1) end))
unfolding emptied replaced
empty-cases = (refl, refl)

-- type a = variant { x : a; y }
pub filled-case : NotEmpty (plain VariantT (field (Named 0) (VarT 1) (field (Named 2) (PrimT Null) end)))
unfolding emptied replaced
filled-case = (refl, refl)

-- type a = opt a
pub filled-opt : NotEmpty (plain OptT (name 1))
unfolding emptied replaced
filled-opt = (refl, refl)

-- type a = vec empty
pub filled-vec : NotEmpty (plain VecT (plain (PrimT PrimType.Empty) end))
unfolding emptied replaced
filled-vec = (refl, refl)

-- type a = record {}
pub filled-record : NotEmpty (plain RecordT end)
unfolding emptied replaced
filled-record = (refl, refl)

-- type a = b; type b = nat, of which a fills in the last round that there is
pub filled-last : emptiness (book (type 0 1 (name 2) ∷ (type 0 2 (plain (PrimT Nat) end) ∷ [])) end) ≡ given []
unfolding emptied
filled-last = refl

-- type a = record { a }, which is empty by both
abbrev around : Book
around = alone (plain RecordT (holds (VarT 1) end))

pub empty-both : (emptiness around ≡ given (1 ∷ [])) × (rust around ≡ 1 ∷ [])
unfolding emptied replaced
empty-both = (refl, refl)

-- That definition is of the class of request 4, so that its law has a book.
pub around-plain : Plain (plain RecordT (holds (VarT 1) end))
around-plain =
    record {
      no_variant = everywhere-tree (λ e. clash cc) (everywhere-tree (λ e. clash cc) (λ n kids o. occurs-end o) (λ n kids o. occurs-end o)) (λ n kids o. occurs-end o);
      no_empty = everywhere-tree (λ e. clash cc) (everywhere-tree (λ e. clash cc) (λ n kids o. occurs-end o) (λ n kids o. occurs-end o)) (λ n kids o. occurs-end o);
      fields =
          everywhere-tree (λ e. each-tree (inl (1, refl)) (λ n kids b. beside-none b))
          (everywhere-tree (λ e. clash cc) (λ n kids o. occurs-end o) (λ n kids o. occurs-end o)) (λ n kids o. occurs-end o);
    }

-- ---- Values
counted : Book → ℕ → Outcome Count
unfolding checked after values-computed
counted = values

-- Of one definition, that of a; of two, those of a and b.
abbrev Values : Forest Node → Count → Type 0
Values t c = values (alone t) 1 ≡ given c

abbrev both : Forest Node → Forest Node → Book
both t u = book (type 0 1 t ∷ (type 0 2 u ∷ [])) end

abbrev prim : PrimType → Forest Node
prim p = plain (PrimT p) end

-- A type with parts, before others.
abbrev part : Label → Kind → Forest Node → Forest Node → Forest Node
part l κ kids next = tree (record { kind = κ; label = labelled l }) kids next

-- type a = record { text; empty }: none, whatever the others have
pub values-field : Values (plain RecordT (field (Named 0) (PrimT Text) (field (Named 2) (PrimT PrimType.Empty) end))) (Exactly 0)
unfolding counted
values-field = refl

-- type a = vec empty; type a = vec null
pub values-vec : Values (plain VecT (prim PrimType.Empty)) (Exactly 1) × Values (plain VecT (prim Null)) Many
unfolding counted
values-vec = (refl, refl)

-- type a = opt bool
pub values-opt : Values (plain OptT (prim BoolType)) (Exactly 3)
unfolding counted
values-opt = refl

-- type a = variant { ""; b : bool }
pub values-variant : Values (plain VariantT (field (Named 0) (PrimT Null) (field (Named 2) (PrimT BoolType) end))) (Exactly 3)
unfolding counted
values-variant = refl

-- type a = record { bool; nat8 }; type a = record { nat16; nat16 }
pub values-record :
    Values (plain RecordT (field (Named 0) (PrimT BoolType) (field (Named 2) (PrimT Nat8) end))) (Exactly 512)
    × Values (plain RecordT (field (Named 0) (PrimT Nat16) (field (Named 2) (PrimT Nat16) end))) Many
unfolding counted
values-record = (refl, refl)

-- type a = opt a; type a = variant { "" : a; b }
pub values-circle : Values (plain OptT (name 1)) Many × Values (plain VariantT (field (Named 0) (VarT 1) (field (Named 2) (PrimT Null) end))) Many
unfolding counted
values-circle = (refl, refl)

-- type a = opt record { a; b }; type b = record { b }: a stands in itself beside what has no value
abbrev without : Book
without = both (plain OptT (plain RecordT (field (Named 0) (VarT 1) (field (Named 2) (VarT 2) end)))) (plain RecordT (field (Named 0) (VarT 2) end))

pub values-without : (values without 1 ≡ given (Exactly 1)) × (values without 2 ≡ given (Exactly 0))
unfolding counted
values-without = (refl, refl)

-- type a = b; type b = bool, of which a is counted in the last round that there is
pub values-name : values (both (name 2) (prim BoolType)) 1 ≡ given (Exactly 2)
unfolding counted
values-name = refl

-- b, which has no definition
pub values-unbound : values (alone (prim Null)) 2 ≡ refused (Unbound 2)
unfolding counted
values-unbound = refl

-- The largest number, 4,294,967,295 = 3 * 5 * 17 * 257 * 65,537, and one more by an opt.
abbrev largest : Forest Node
largest =
    let pair : Forest Node = field (Named 0) (PrimT BoolType) (field (Named 2) (PrimT BoolType) end) in
    let four : Forest Node = part (Named 0) RecordT pair (part (Named 2) RecordT pair end) in
    plain RecordT
    (part (Unnamed 0) OptT (prim BoolType)
    (part (Unnamed 1) OptT (plain RecordT pair)
    (part (Unnamed 2) OptT (plain RecordT four)
    (part (Unnamed 3) OptT (prim Nat8)
    (part (Unnamed 4) OptT (prim Nat16) end)))))

pub values-largest : Values largest (Exactly 4294967295) × Values (plain OptT largest) Many
unfolding counted
values-largest = (refl, refl)
