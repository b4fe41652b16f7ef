-- Who moves at a position.
--
--   mover v             == who moves: Odd at diamonds, Even elsewhere
use Rattle.ml_parity.specs.declared.players.Player.{Player}
use Rattle.ml_parity.specs.declared.players.Player.TheVariants.{Even, Odd}
use Rattle.ml_product.specs.DecisionGame.{Clashing, Leading, Open, Settled, Verdict}

abbrev pub mover : Verdict → Player
mover Clashing = Even
mover (Open o) = Even
mover (Leading ds) = Odd
mover Settled = Even
