-- The alias chains in the table are those told, and so is what is asked of names. By computation. Assumes nothing.
use mathlib.Core.Path.{◌≡◌, refl}
use mathlib.Core.List.{Memᴰ}
use Prim.Native.Nat.{ℕ}
use Rattle.format.specs.Forest.{beside}
use Rattle.judgement.specs.Environment.{find_type, head_kind, head, kids_of}
use Rattle.judgement.specs.Aliases.{Chain, met, link, chain_from, chain, alias_length}
use Rattle.judgement.specs.Actor.{is_class_kind, is_class, last_tree, below_class}
use Rattle.listing.specs.Alias.{last_of, crossed_by, alias_of}
use Rattle.samples.proofs.Theorems.{in-row}
use Rattle.examples.specs.Chains.{Case, chains, Asked, asked}

pub chains-told : (e : Case) → Memᴰ e chains → ◌≡◌ {A = Chain × ℕ} (chain e.definitions e.start, alias_length e.definitions e.start) (e.chain, e.length)
unfolding chains chain chain_from link met head head_kind find_type alias_length below_class is_class is_class_kind last_tree kids_of beside
chains-told = in-row (λ e. (chain e.definitions e.start, alias_length e.definitions e.start)) (λ e. (e.chain, e.length)) chains refl

pub asked-told : (e : Asked) → Memᴰ e asked → alias_of e.definitions e.name ≡ e.answer
unfolding asked alias_of crossed_by last_of chain chain_from link met head head_kind find_type
asked-told = in-row (λ e. alias_of e.definitions e.name) (λ e. e.answer) asked refl
