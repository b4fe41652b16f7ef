use Rattle.std.proofs.Common.{ℕ}
use Rattle.std.proofs.lemmas.Result.{IfErr-weaker}
use Rattle.ml_realize_text.specs.RealizeRules.{at_state, at_step}
use Rattle.ml_realize_text.specs.private.Reads.{TellsFault, machine_of}
use Rattle.ml_realize_text.proofs.MachineRead.{first_refused, row_refused}
use Rattle.ml_realize_text.proofs.read_machine.read_row.Goals as goal

pub returns-in-Ok-clause-refused : goal.returns-in-Ok-clause-refused
returns-in-Ok-clause-refused c =
    let ins = c.args.inputs.now in
    let outs = c.args.outputs.now in
    let g = machine_of ins outs in
    IfErr-weaker c.read_steps.result (λ e. (i : ℕ) → TellsFault (at_step g c.args.states i 0) c.in-Ok.behind e)
    (TellsFault (at_state g c.args.states c.args.state) c.args.at)
    (λ e tells.
    row_refused ins outs c.args.states c.requires.inputs c.requires.outputs c.ranges.states.fits c.args.at c.in-Ok.behind c.args.state e
    c.requires.is_state c.in-Ok.ensures.read (tells c.args.state))
    c.read_steps.ensures.refused

pub returns-in-Err-clause-refused : goal.returns-in-Err-clause-refused
returns-in-Err-clause-refused c =
    let ins = c.args.inputs.now in
    let outs = c.args.outputs.now in
    first_refused ins outs c.args.states c.requires.inputs c.requires.outputs c.ranges.states.fits c.args.at c.args.state
    c.in-Err.refusal c.requires.is_state (c.in-Err.ensures.refused (machine_of ins outs) c.args.states)
