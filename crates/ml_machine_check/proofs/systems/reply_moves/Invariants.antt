use Rattle.ml_machine_check.specs.private.AsSystems.{AreMoves, IsReply}
use Rattle.ml_machine_check.proofs.systems.reply_moves.Given as goal

abbrev pub invariant-loop-set : goal.invariant-loop-set
invariant-loop-set l = AreMoves (IsReply l.inputs l.play l.next l.set) l.moves.items
