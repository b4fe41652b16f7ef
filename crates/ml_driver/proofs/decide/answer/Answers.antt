-- The decision is what is due, once it is written.
use Rattle.std.proofs.Common.{sym, subst}
use Rattle.ml_driver.proofs.Answered.{answered}
use Rattle.ml_driver.specs.Decision.{IsAnswered}
use Rattle.ml_driver.proofs.decide.answer.Goals as goal
use Rattle.ml_front.proofs.Logics.{parsed_well}

pub decide-requires-clause-well_formed : goal.decide-requires-clause-well_formed
decide-requires-clause-well_formed c =
    parsed_well c.args._text.now c.args.problem.now.formula c.requires.problem.is_parsed

pub returns-clause-answer : goal.returns-clause-answer
returns-clause-answer c =
    subst (λ s. IsAnswered c.args.question c.args._text.now s c.in_ok-write_decision.field-0.items) (sym c.status_in.ensures.status)
    (answered c.args.question c.args._text.now c.args.problem.now c.requires.problem c.in_ok-write_decision.field-0.items
    c.in_ok-decision.decision c.in_ok-decision.ensures c.in_ok-write_decision.ensures.text c.in_ok-write_decision.ensures.shown)
