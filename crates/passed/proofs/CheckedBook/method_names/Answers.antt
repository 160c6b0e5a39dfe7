-- `CheckedBook::method_names` meets its contract. Assumes nothing.
use mathlib.Core.Path.{◌∙◌}
use Rattle.passed.proofs.methods.Laws.{few-methods, names-none}
use Rattle.passed.proofs.CheckedBook.method_names.Goals as goal

pub method_names-requires-clause-few : goal.method_names-requires-clause-few
method_names-requires-clause-few c =
    let e = c.in-Ok.ensures.some in
    rw (c.nodes.ensures, c.as_slice.ensures.all, e.0) (few-methods c.args.self.now.passes.passed e.1)

pub returns-in-Err : goal.returns-in-Err
returns-in-Err c = c.new.ensures ∙ names-none c.args.self.now.passes.passed c.in-Err.ensures.none.1
