use Rattle.ml_pgsolver.proofs.LongestTokens.{front_is_longest}
use Rattle.ml_pgsolver.proofs.laws.longest_token.Goals as goal

pub returns : goal.returns
returns c = front_is_longest
