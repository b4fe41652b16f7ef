-- The digits get fewer.
use Rattle.std.proofs.Common.{length}
use Rattle.ml_driver.proofs.words.+value_from.Given as goal

abbrev pub decreases-value_from : goal.decreases-value_from
decreases-value_from l = length l.digits.now
