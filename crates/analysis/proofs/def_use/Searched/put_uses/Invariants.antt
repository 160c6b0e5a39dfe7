use mathlib.Core.Path.{◌≡◌}
use Rattle.analysis.proofs.def_use.Methods.{ServicesLeft}
use Rattle.analysis.proofs.def_use.Searched.put_uses.Given as goal

abbrev pub invariant-loop-s : goal.invariant-loop-s
invariant-loop-s l = record {
  same : l.uses.out.ghost_name ≡ l.initial.uses.out.ghost_name;
  left : ServicesLeft l.self.rows.now l.self.ends.now l.self.near.now l.s-items l.fn.offer.from l.fn.offer.until l.initial.uses.count l.initial.uses.out.now l.uses.out.now l.uses.count l.m l.s-index;
}
