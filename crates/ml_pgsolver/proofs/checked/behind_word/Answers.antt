-- Its bytes do, too.
use Rattle.std.proofs.Common.{arith}
use Rattle.ml_pgsolver.proofs.WordTokens.{word_fits}
use Rattle.ml_pgsolver.proofs.checked.behind_word.Goals as goal

pub overflow_add-result : goal.overflow_add-result
overflow_add-result c = let fits = word_fits c.args.text.now c.args.word c.requires in omega arith

pub returns-clause-within : goal.returns-clause-within
returns-clause-within c = let fits = word_fits c.args.text.now c.args.word c.requires in omega arith
