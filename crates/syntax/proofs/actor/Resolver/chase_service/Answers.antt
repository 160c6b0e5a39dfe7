-- `Resolver::chase_service` meets its contract. Assumes nothing.
use mathlib.Core.Path.{◌≡◌}
use mathlib.Core.List.{List}
use Prim.Native.Nat.{ℕ}
use denote.Bor.{Bor}
use Rattle.book.proofs.Named.{book-of}
use Rattle.environment.specs.declared.Alias.{Alias}
use Rattle.environment.proofs.Links.{AliasAs}
use Rattle.environment.proofs.Book.{all-trees}
use Rattle.syntax.proofs.actor.OneService.{chased, chase-unbound, chase-circle, chase-ends}
use Rattle.syntax.proofs.actor.Resolver.chase_service.Goals as goal

-- what is said of a scope is said of what it is made of
in-scope : {rows ns : List ℕ} {roots roots' : Bor (List ℕ)} {nodes nodes' left node : ℕ} {a : Alias} → rows ≡ ns → roots ≡ roots' → nodes ≡ nodes' →
    AliasAs rows roots.now nodes left node a → AliasAs ns roots'.now nodes' left node a
in-scope e g h x = rw (← e, ← g, ← h) x

pub returns-in-Unbound : goal.returns-in-Unbound
returns-in-Unbound c =
    let s = c.args.self.now in
    let e = c.alias_end-chain.ensures in
    let here : AliasAs c.of-scope.result.rows.now c.of-scope.result.roots.now c.of-scope.result.nodes s.main c.args.node c.alias_end-chain.result =
    record { within = e.within; is = e.is; crossed-is = e.crossed; few = e.few } in
    let found = in-scope c.of-scope.ensures.rows c.of-scope.ensures.roots c.of-scope.ensures.nodes here in
    let t = (all-trees (book-of _ _ s.book.laid)).nodes in
    chased t c.args.other found (chase-unbound t c.args.other found c.in-Unbound.is)

pub returns-in-Circle : goal.returns-in-Circle
returns-in-Circle c =
    let s = c.args.self.now in
    let e = c.alias_end-chain.ensures in
    let here : AliasAs c.of-scope.result.rows.now c.of-scope.result.roots.now c.of-scope.result.nodes s.main c.args.node c.alias_end-chain.result =
    record { within = e.within; is = e.is; crossed-is = e.crossed; few = e.few } in
    let found = in-scope c.of-scope.ensures.rows c.of-scope.ensures.roots c.of-scope.ensures.nodes here in
    let t = (all-trees (book-of _ _ s.book.laid)).nodes in
    chased t c.args.other found (chase-circle t c.args.other found c.in-Circle.is)

pub returns-in-Ends : goal.returns-in-Ends
returns-in-Ends c =
    let s = c.args.self.now in
    let e = c.alias_end-chain.ensures in
    let here : AliasAs c.of-scope.result.rows.now c.of-scope.result.roots.now c.of-scope.result.nodes s.main c.args.node c.alias_end-chain.result =
    record { within = e.within; is = e.is; crossed-is = e.crossed; few = e.few } in
    let found = in-scope c.of-scope.ensures.rows c.of-scope.ensures.roots c.of-scope.ensures.nodes here in
    let t = (all-trees (book-of _ _ s.book.laid)).nodes in
    rw (c.service_at-found.ensures, c.of-scope.ensures.rows) (chased t c.args.other found (chase-ends t c.args.other found c.in-Ends.is))
