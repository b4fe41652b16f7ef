use Rattle.ml_word_automaton.proofs.Acceptance.{accepts_what_satisfies}
use Rattle.ml_word_automaton.proofs.laws.accepts_what_satisfies.Goals as goal

pub returns : goal.returns
returns c = accepts_what_satisfies
