use Rattle.std.proofs.Common.{◌≡◌, length}
use Rattle.ml_search.specs.private.Checked.{AreReached}
use Rattle.ml_search.proofs.checking_models.reach.Given as goal

abbrev pub invariant-loop-edge : goal.invariant-loop-edge
invariant-loop-edge l = (length l.flags ≡ l.structure.states) × AreReached l.structure l._start l.flags
