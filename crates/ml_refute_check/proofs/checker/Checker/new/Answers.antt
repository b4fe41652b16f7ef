use Rattle.ml_refute_check.proofs.checker.Checker.new.Goals as goal

pub returns-clause-asks : goal.returns-clause-asks
returns-clause-asks c = record { is_graph = c.keeps.ensures.is_graph; odds_are = c.in_ok-odds.ensures }
