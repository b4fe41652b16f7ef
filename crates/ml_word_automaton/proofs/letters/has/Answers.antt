use Rattle.ml_word_automaton.proofs.LettersByNumbers.{member_test}
use Rattle.ml_word_automaton.proofs.letters.has.Goals as goal

pub returns : goal.returns
returns c = member_test c.args.present.now c.args.prop c.contains.result c.contains.ensures
