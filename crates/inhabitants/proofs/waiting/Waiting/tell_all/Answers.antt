-- `Waiting::tell_all` meets its contract: there is room at each step. Assumes nothing.
use Rattle.inhabitants.proofs.waiting.Turn.{told-room, told-links}
use Rattle.inhabitants.proofs.waiting.Waiting.tell_all.Goals as goal

pub tell-requires-2-clause-room : goal.tell-requires-2-clause-room
tell-requires-2-clause-room c =
    let old = c.requires.1.room in
    let now = told-room _ c.requires.1.holder (record { long = old.long; few = old.few }) c.tell.ensures in
    record { long = now.long; few = now.few }

pub tell-requires-3-clause-room : goal.tell-requires-3-clause-room
tell-requires-3-clause-room c =
    let old = c.requires.1.room in
    let now = told-room _ c.requires.1.holder (record { long = old.long; few = old.few }) c.tell.ensures in
    let links = told-links _ _ _ c.tell.ensures in
    let then = told-room _ (rw links.1 c.requires.1.first) (record { long = now.long; few = now.few }) c.tell-2.ensures in
    record { long = then.long; few = then.few }
