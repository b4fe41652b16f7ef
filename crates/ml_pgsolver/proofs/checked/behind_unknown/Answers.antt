-- The solution's refusal comes first.
use Rattle.ml_pgsolver.proofs.CheckedAnswers.{entries_refused, game_unknown, unknown_faultless}
use Rattle.ml_pgsolver.proofs.checked.behind_unknown.Goals as goal
use Rattle.std.proofs.Common.{take}

pub returns-in-Ok : goal.returns-in-Ok
returns-in-Ok c =
    game_unknown c.args.text.now c.args.word c.requires.word c.args.from c.requires.from c.in-Ok.ensures.0
    c.in-Ok.ensures.1 c.args.at c.requires.refused

pub returns-in-Err : goal.returns-in-Err
returns-in-Err c =
    entries_refused c.args.text.now c.args.word c.requires.word c.args.from c.requires.from
    (unknown_faultless (take c.args.word c.args.text.now) c.args.at c.requires.refused) c.in-Err.earlier c.in-Err.ensures
