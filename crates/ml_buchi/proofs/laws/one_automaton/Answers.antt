use Rattle.ml_buchi.proofs.SameWords.{one_automaton}
use Rattle.ml_buchi.proofs.laws.one_automaton.Goals as goal

pub returns : goal.returns
returns c = one_automaton
