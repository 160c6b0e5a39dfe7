-- `CheckedBook::init_check` meets its contract: the check has passed, so what is found is the init check. Assumes nothing.
use mathlib.Core.Path.{◌≡◌, refl, sym, ap, ◌∙◌}
use Rattle.std.specs.Prelude.{Result}
use Rattle.refusals.specs.declared.Refusal.{Refusal}
use Rattle.book.specs.Reading.{Admitted}
use Rattle.book.specs.declared.kinds.Contents.{Contents}
use Rattle.book.specs.Tables.{blank_table}
use Rattle.judgement.specs.Check.{init_check}
use Rattle.refusals.specs.Verdict.{verdict_of}
use Rattle.typing.specs.declared.prog.Passed.{Passed}
use Rattle.typing.specs.declared.init.InitArgs.{InitArgs}
use Rattle.typing.specs.Passing.{PassedAs}
use Rattle.typing.specs.Init.{InitFoundAs}
use Rattle.refusals.proofs.Handing.{handed-on}
use mathlib.Core.List.{List}
use Prim.Native.Nat.{ℕ}
use Rattle.passed.proofs.CheckedBook.init_check.Goals as goal

verdict-is : {bs : List ℕ} {c : Contents} {a : Admitted bs c} {roots ends' : List ℕ} {p : Passed} → PassedAs a roots ends' p →
    {both : List ℕ} {r : Result InitArgs Refusal} → InitFoundAs a both r → verdict_of r ≡ init_check a.book
unfolding init_check
verdict-is x y = y.seen.verdict ∙ sym (rw x.passed)

pub check_init_args-requires : goal.check_init_args-requires
unfolding blank_table
check_init_args-requires c = refl

pub returns-in_err-check_init_args : goal.returns-in_err-check_init_args
returns-in_err-check_init_args c =
    rw (handed-on c.from_residual.result c.from_residual.ensures)
    (sym (ap verdict_of c.in_err-check_init_args.was) ∙ verdict-is c.args.self.now.passes.passed c.check_init_args.ensures)

pub returns : goal.returns
returns c = sym (ap verdict_of c.in_ok-check_init_args.was) ∙ verdict-is c.args.self.now.passes.passed c.check_init_args.ensures
