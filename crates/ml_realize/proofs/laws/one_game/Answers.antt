use Rattle.std.proofs.Common.{true}
use Rattle.ml_word_automaton.proofs.BlockGraphs.{one_size}
use Rattle.ml_realize.specs.TaskGame.{most_nodes}
use Rattle.ml_realize.proofs.OneGame.{one_game}
use Rattle.ml_realize.proofs.laws.one_game.Goals as goal

pub returns-clause-size : goal.returns-clause-size
returns-clause-size c = λ t r. one_size t.formula true r.automaton.graph most_nodes r.is_automaton.is_graph

pub returns-clause-one : goal.returns-clause-one
returns-clause-one c = one_game
