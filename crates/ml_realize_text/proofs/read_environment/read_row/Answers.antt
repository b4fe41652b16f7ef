use Rattle.ml_realize_text.specs.private.Reads.{environment_of}
use Rattle.ml_realize_text.proofs.EnvironmentRead.{first_refused, play_refused, row_refused}
use Rattle.ml_realize_text.proofs.read_environment.read_row.Goals as goal

pub returns-in-Err-clause-refused : goal.returns-in-Err-clause-refused
returns-in-Err-clause-refused c =
    let ins = c.args.inputs.now in
    let outs = c.args.outputs.now in
    first_refused ins outs c.args.states c.ranges.states.fits c.args.at c.args.state c.in-Err.refusal c.requires.is_state
    (c.in-Err.ensures.refused (environment_of ins outs) c.args.states)

pub returns-in-Err-read_play-clause-refused : goal.returns-in-Err-read_play-clause-refused
returns-in-Err-read_play-clause-refused c =
    play_refused c.args.inputs.now c.args.outputs.now c.args.states c.ranges.states.fits c.args.at c.args.state
    c.in-Err-read_play.refusal c.requires.is_state c.in-Ok.behind c.in-Ok.ensures.read
    (c.in-Err-read_play.ensures.refused c.args.outputs.now c.args.states c.args.state)

pub returns-in-Err-read_replies-clause-refused : goal.returns-in-Err-read_replies-clause-refused
returns-in-Err-read_replies-clause-refused c =
    let ins = c.args.inputs.now in
    row_refused ins c.args.outputs.now c.args.states c.ranges.states.fits c.args.at c.args.state c.in-Err-read_replies.refusal
    c.requires.is_state c.requires.inputs c.in-Ok.behind c.in-Ok-read_play.read.1 c.in-Ok-read_play.read.0
    c.in-Ok-read_play.ensures.is_set c.in-Ok.ensures.read c.in-Ok-read_play.ensures.read
    (c.in-Err-read_replies.ensures.refused ins c.args.state)
