use Rattle.ml_ltl.proofs.laws.problems_ask_for_paths.Goals as goal

pub returns-clause-plain : goal.returns-clause-plain
returns-clause-plain c = λ m f s. ((λ t. t), (λ t. t))

pub returns-clause-negated : goal.returns-clause-negated
returns-clause-negated c = λ m f s. ((λ t. t), (λ t. t))
