use Rattle.ml_blocks.proofs.SpotEquality.{spots_told}
use Rattle.ml_blocks.proofs.numbering.step.Goals as goal

pub put-requires-clause-told : goal.put-requires-clause-told
put-requires-clause-told c = spots_told
