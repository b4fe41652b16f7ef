use Rattle.ml_hoa.proofs.OneAnswers.{one_automaton, some_answer, one_refusal, never_both}
use Rattle.ml_hoa.proofs.laws.one_answer.Goals as goal

pub returns-clause-unambiguous : goal.returns-clause-unambiguous
returns-clause-unambiguous c = one_automaton

pub returns-clause-answer : goal.returns-clause-answer
returns-clause-answer c = record { some = some_answer; refused = one_refusal; exclusive = never_both }
