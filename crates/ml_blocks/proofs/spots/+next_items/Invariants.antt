-- The list gets shorter.
use Rattle.std.proofs.Common.{length}
use Rattle.ml_blocks.proofs.spots.+next_items.Given as goal

abbrev pub decreases-next_items : goal.decreases-next_items
decreases-next_items l = length l.items.now
