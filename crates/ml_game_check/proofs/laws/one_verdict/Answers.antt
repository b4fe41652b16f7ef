use Rattle.ml_game_check.proofs.OneVerdict.{one_verdict}
use Rattle.ml_game_check.proofs.SomeVerdict.{some_verdict}
use Rattle.ml_game_check.proofs.laws.one_verdict.Goals as goal

pub returns : goal.returns
returns c = record { some = some_verdict; one = one_verdict }
