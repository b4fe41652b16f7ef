use Rattle.ml_families.proofs.Counted.{and_counted, loop_counted, or_counted, step_counted}
use Rattle.ml_families.proofs.laws.games_are_counted.Goals as goal

pub returns-clause-conjunctions : goal.returns-clause-conjunctions
returns-clause-conjunctions c = and_counted

pub returns-clause-disjunctions : goal.returns-clause-disjunctions
returns-clause-disjunctions c = or_counted

pub returns-clause-steps : goal.returns-clause-steps
returns-clause-steps c = step_counted

pub returns-clause-loops : goal.returns-clause-loops
returns-clause-loops c = loop_counted
