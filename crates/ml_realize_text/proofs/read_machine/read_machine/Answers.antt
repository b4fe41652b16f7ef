use Rattle.std.proofs.Common.{◌≡◌, ◌+◌, ◌<◌, [], ◌∷◌, ◌++◌, length, refl, sym, ap, subst, length-append, arith}
use Rattle.std.specs.List.{AllByRecursion}
use Rattle.std.proofs.lemmas.List.{map-append}
use Rattle.std.specs.Global.{Vec}
use Rattle.ml_synthesis.specs.declared.machines.MachineStep.{MachineStep}
use Rattle.ml_realize_text.specs.RealizeRules.{at_state}
use Rattle.ml_realize_text.specs.RealizeText.{machine_state_lines}
use Rattle.ml_realize_text.specs.private.Reads.{Goes, RowFits, TellsFault, machine_of}
use Rattle.ml_realize_text.specs.private.Rows.{steps_of}
use Rattle.ml_realize_text.proofs.Going.{room_on}
use Rattle.ml_realize_text.proofs.MachineRead.{RowsTo, one_row_more, rows_begin, rows_refused}
use Rattle.ml_realize_text.proofs.Tables.{rows_machine}
use Rattle.ml_realize_text.proofs.read_machine.read_machine.Goals as goal

pub loop-state-init : goal.loop-state-init
loop-state-init c =
    let ins = c.args.inputs.now in
    let outs = c.args.outputs.now in
    subst (λ xs. RowsTo ins outs c.args.states c.args.at (steps_of xs) c.args.at × (length (steps_of xs) ≡ 0))
    (sym c.new-steps.ensures.items) (rows_begin ins outs c.args.states c.args.at, refl)

pub read_row-requires-clause-room : goal.read_row-requires-clause-room
read_row-requires-clause-room c = room_on c.loop-state.invariant.0.goes c.requires.room

pub returns-in-Err-clause-refused : goal.returns-in-Err-clause-refused
returns-in-Err-clause-refused c =
    let ins = c.args.inputs.now in
    let outs = c.args.outputs.now in
    let so_far = c.loop-state.invariant in
    let mid = c.loop-state.rest in
    rows_refused ins outs c.args.states c.requires.inputs c.requires.outputs c.ranges.states.fits c.args.at mid
    (steps_of c.loop-state.steps.items) c.in-Err.refusal so_far.0
    (subst (λ s. TellsFault (at_state (machine_of ins outs) c.args.states s) mid c.in-Err.refusal) (sym so_far.1) c.in-Err.ensures.refused)

pub loop-state-preserved : goal.loop-state-preserved
loop-state-preserved c =
    let ins = c.args.inputs.now in
    let outs = c.args.outputs.now in
    let items = λ (row : Vec MachineStep). row.items in
    let rs = c.loop-state.steps.items in
    let mid = c.loop-state.rest in
    let so_far = c.loop-state.invariant in
    let row = c.in-Ok.read.0 in
    let rest = c.in-Ok.read.1 in
    let below : length (steps_of rs) < c.args.states = omega (arith, c.loop-state-test.true, so_far.1) in
    let goes =
    subst (λ s. Goes mid (machine_state_lines ins outs (s, row.items)) rest) (sym so_far.1) c.in-Ok.ensures.read in
    let more = map-append items rs (row ∷ []) in
    subst (λ ys. RowsTo ins outs c.args.states c.args.at (steps_of ys) rest × (length (steps_of ys) ≡ c.loop-state.state + 1))
    (sym c.in_ok-push.ensures.items) (
      one_row_more ins outs c.args.states c.args.at mid rest (steps_of rs) (steps_of (rs ++ row ∷ [])) row.items so_far.0 below goes
          c.in-Ok.ensures.fit more,
      omega (arith, ap length more, length-append (steps_of rs) (row.items ∷ []), so_far.1),
    )

pub returns-clause-read : goal.returns-clause-read
returns-clause-read c = c.loop-state.invariant.0.goes

pub returns-clause-fits : goal.returns-clause-fits
returns-clause-fits c =
    let so_far = c.loop-state.invariant in
    let i = length c.args.inputs.now in
    let o = length c.args.outputs.now in
    let rows = steps_of c.loop-state.steps.items in
    let long : length rows ≡ c.args.states = omega (arith, so_far.1, so_far.0.most, c.loop-state-test.false) in
    rows_machine i o rows (omega (arith, long, c.requires.some))
    (subst (λ n. AllByRecursion (RowFits i o n) rows) (sym long) so_far.0.fit)

pub returns-clause-long : goal.returns-clause-long
returns-clause-long c =
    let so_far = c.loop-state.invariant in omega (arith, so_far.1, so_far.0.most, c.loop-state-test.false)
