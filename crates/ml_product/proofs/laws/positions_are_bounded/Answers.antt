use Rattle.ml_product.proofs.bound.PositionCodes.{position_bound}
use Rattle.ml_product.proofs.laws.positions_are_bounded.Goals as goal

pub returns : goal.returns
returns c = record { law = position_bound }
