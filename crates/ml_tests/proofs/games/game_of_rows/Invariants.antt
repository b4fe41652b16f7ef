-- Each turn adds one.
use Rattle.std.proofs.Common.{◌≡◌, vec_len}
use Rattle.ml_tests.proofs.games.game_of_rows.Given as goal

abbrev pub invariant-loop-owner : goal.invariant-loop-owner
invariant-loop-owner l = vec_len l.all ≡ l.owner-index
