use Rattle.std.proofs.Common.{arith}
use Rattle.ml_determinise.proofs.FollowedLetters.{has_room}
use Rattle.ml_determinise.proofs.moves.number.Goals as goal

pub returns-clause-few : goal.returns-clause-few
returns-clause-few c =
    has_room c.args.limit c.args.histories.now.keys c.add.new.histories.keys c.args.history c.in_ok-number.number
    c.requires.few c.in_ok-number.ensures (omega arith)
