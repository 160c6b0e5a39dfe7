-- A list that is handed over, and its answer as a number; what is coded of a uses report. Assumes nothing.
use mathlib.Core.Path.{◌≡◌, ap, subst, ◌∙◌}
use mathlib.Core.List.{List}
use Prim.Native.Nat.{ℕ}
use Rattle.refusals.specs.Outcome.{Outcome, refused, given}
use Rattle.refusals.specs.Handed.{Answer, UseCountsAnswer, answer_of, use_counts_answer, HandedAs}
use Rattle.codes.specs.Coded.{coded_answer, listed_of, ReadAnswer}
use Rattle.exports.specs.Handed.{CodedAs}

pub coded-as : {o : Outcome (List ℕ)} {old new : List ℕ} {r : Answer} {code : ℕ} → HandedAs o old new r → code ≡ coded_answer r → ReadAnswer r code → CodedAs o old new code
coded-as {code = code} h e d =
    record { answer = e ∙ ap coded_answer h.answer; read = subst (λ (a : Answer). ReadAnswer a code) h.answer d; left = h.left }

-- What is coded of a uses report is how many definitions are listed.
pub listed-answer : (o : Outcome (List ℕ)) {r : UseCountsAnswer} → r ≡ use_counts_answer o → listed_of r ≡ answer_of o
unfolding use_counts_answer listed_of answer_of
listed-answer (refused why) e = ap listed_of e
listed-answer (given l) e = ap listed_of e
