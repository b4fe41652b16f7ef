-- The structs of the program, as what they hold.
--
--   HasScale g s   == the bounds and the cuts of s are those of its player
--   HasChains g p  == the chains of p have all moves
--   HasSide g p s  == s is the side of player p, with the least progress measure
--   IsSideOf g s   == s is the side of its own player
use Rattle.ml_parity.specs.declared.players.Player.{Player}
use Rattle.ml_parity.specs.Game.{ParityGame, size}
use Rattle.ml_progress.specs.declared.lifting.Side.{Side}
use Rattle.ml_progress.specs.declared.predecessors.Predecessors.{Predecessors}
use Rattle.ml_progress.specs.declared.scale.Scale.{Scale}
use Rattle.ml_progress.specs.private.Scales.{IsScale, IsSide}
use Rattle.ml_progress.specs.private.Waits.{ChainsUpTo}

-- the bounds and the cuts of s are those of its player
abbrev pub HasScale : ParityGame → Scale → Type 0
HasScale g s = IsScale g s.player s.bounds.items s.cuts.items

-- the chains of p have all moves
abbrev pub HasChains : ParityGame → Predecessors → Type 0
HasChains g p = ChainsUpTo g (size g) p.last.items p.arrows.items

-- s is the side of player p, with the least progress measure
abbrev pub HasSide : ParityGame → Player → Side → Type 0
HasSide g p s = IsSide g p s.scale.player s.scale.bounds.items s.scale.cuts.items s.table

-- s is the side of its own player
abbrev pub IsSideOf : ParityGame → Side → Type 0
IsSideOf g s = HasSide g s.scale.player s
