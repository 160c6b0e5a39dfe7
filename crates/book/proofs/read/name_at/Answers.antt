-- `read::name_at` meets its contract. Assumes nothing.
use Rattle.std.proofs.Common.{◌≡◌, ℕ, List, [], refl, ap, ◌∙◌, Bor, Option, None, Some}
use Rattle.std.specs.Option.{option_map, unwrap_or}
use Rattle.std.proofs.lemmas.Option.{unwrap_or-slice_get}
use Rattle.std.proofs.lemmas.Iterator.Consumers.{nth_from_yields_List, YieldsList-from_first}
use Rattle.book.specs.Walks.{names_left}
use Rattle.book.proofs.read.name_at.Goals as goal

-- what is read of an item, or of the one in its place
read-or : (o : Option (Bor (List ℕ))) (d : Bor (List ℕ)) → (unwrap_or o d).now ≡ unwrap_or (option_map (λ x. x.now) o) d.now
read-or None d = refl
read-or (Some x) d = refl

pub returns : goal.returns
returns c =
    let h = nth_from_yields_List c.nth.result c.nth.new.self c.args.number c.nth.ensures.ran (YieldsList-from_first (λ x. x.now) names_left _ refl) in
    ap (λ x. x.now) c.unwrap_or.ensures ∙ read-or c.nth.result _ ∙ ap (λ o. unwrap_or o []) h ∙ unwrap_or-slice_get _ c.args.number []
