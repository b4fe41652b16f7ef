use Rattle.ml_pgsolver.proofs.OneAnswers.{one_game_of_text, one_refusal, never_both}
use Rattle.ml_pgsolver.proofs.SomeAnswers.{some_answer}
use Rattle.ml_pgsolver.proofs.laws.one_answer.Goals as goal

pub returns-clause-unambiguous : goal.returns-clause-unambiguous
returns-clause-unambiguous c = one_game_of_text

pub returns-clause-answer : goal.returns-clause-answer
returns-clause-answer c = record { some = some_answer; refused = one_refusal; exclusive = never_both }
