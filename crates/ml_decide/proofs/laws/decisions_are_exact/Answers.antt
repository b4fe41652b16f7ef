use Rattle.ml_decide.proofs.OneDecision.{decisions_agree, decisions_are_exact, found_as_decided, one_decision}
use Rattle.ml_decide.proofs.laws.decisions_are_exact.Goals as goal

pub returns-clause-exact : goal.returns-clause-exact
returns-clause-exact c = decisions_are_exact

pub returns-clause-one : goal.returns-clause-one
returns-clause-one c = one_decision

pub returns-clause-agree : goal.returns-clause-agree
returns-clause-agree c = decisions_agree

pub returns-clause-found : goal.returns-clause-found
returns-clause-found c = found_as_decided
