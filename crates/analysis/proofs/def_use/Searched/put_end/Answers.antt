-- `Searched::put_end` meets its contract. Assumes nothing.
use Rattle.analysis.proofs.def_use.Methods.{end-puts-none, end-puts-other, end-puts}
use Rattle.analysis.proofs.def_use.Searched.put_end.Goals as goal

pub returns-in_default-clause-adds : goal.returns-in_default-clause-adds
returns-in_default-clause-adds c = let a = c.args in end-puts-none a.self.now.rows.now a.method _ _ _ c.in_default.is

pub returns-then-at-clause-adds : goal.returns-then-at-clause-adds
returns-then-at-clause-adds c =
    let a = c.args in
    end-puts a.self.now.rows.now a.method _ _ _ c.in-Some.is c.requires.0 _ c.at.ensures c.if-at.true c.put_func.ensures.adds

pub returns-else-at-clause-adds : goal.returns-else-at-clause-adds
returns-else-at-clause-adds c =
    let a = c.args in
    end-puts-other a.self.now.rows.now a.method _ _ _ c.in-Some.is c.requires.0 _ c.at.ensures c.if-at.false
