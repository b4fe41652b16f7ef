use Rattle.ml_decide.proofs.SomeArena.{some_arena}
use Rattle.ml_decide.proofs.laws.some_game.Goals as goal

pub returns : goal.returns
returns c = λ g n ok. some_arena g ok n
