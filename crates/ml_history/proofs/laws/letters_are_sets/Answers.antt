use Rattle.ml_history.proofs.definition.LetterSets.{letters_are_sets}
use Rattle.ml_history.proofs.laws.letters_are_sets.Goals as goal

pub returns : goal.returns
returns c = letters_are_sets
