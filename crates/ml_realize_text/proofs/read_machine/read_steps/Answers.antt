use Rattle.std.proofs.Common.{◌≡◌, ◌+◌, ◌<◌, ◌^◌, [], ◌∷◌, ◌++◌, length, refl, sym, subst, length-append, arith}
use Rattle.ml_realize_text.specs.RealizeRules.{AtStep}
use Rattle.ml_realize_text.specs.RealizeText.{step_line}
use Rattle.ml_realize_text.specs.private.Reads.{Goes, TellsFault, machine_of}
use Rattle.ml_realize_text.proofs.Going.{room_on}
use Rattle.ml_realize_text.proofs.MachineRead.{StepsTo, steps_begin, steps_done, steps_more, steps_refused}
use Rattle.ml_realize_text.proofs.read_machine.read_steps.Goals as goal

pub loop-set-init : goal.loop-set-init
loop-set-init c =
    let ins = c.args.inputs.now in
    let outs = c.args.outputs.now in
    subst (λ xs. StepsTo ins outs c.args.states c.args.at xs c.args.at × (length xs ≡ 0)) (sym c.new-steps.ensures.items)
    (steps_begin ins outs c.args.states c.args.at, refl)

pub read_step-requires-clause-room : goal.read_step-requires-clause-room
read_step-requires-clause-room c = room_on c.loop-set.invariant.0.goes c.requires.room

pub returns-in-Err-clause-refused : goal.returns-in-Err-clause-refused
returns-in-Err-clause-refused c = λ i.
    let ins = c.args.inputs.now in
    let outs = c.args.outputs.now in
    let xs = c.loop-set.steps.items in
    let mid = c.loop-set.rest in
    let so_far = c.loop-set.invariant in
    let below : length xs < 2 ^ length ins = omega (arith, c.loop-set-test.true, c.sets-set-end.ensures.is, so_far.1) in
    steps_refused ins outs c.args.states c.requires.inputs c.requires.outputs c.ranges.states.fits c.args.at mid xs
    c.in-Err.refusal so_far.0 below
    (λ k.
    subst (λ s. TellsFault (AtStep (machine_of ins outs) c.args.states k s) mid c.in-Err.refusal) (sym so_far.1)
    (c.in-Err.ensures.refused k))
    i

pub loop-set-preserved : goal.loop-set-preserved
loop-set-preserved c =
    let ins = c.args.inputs.now in
    let outs = c.args.outputs.now in
    let xs = c.loop-set.steps.items in
    let mid = c.loop-set.rest in
    let so_far = c.loop-set.invariant in
    let x = c.in-Ok.read.0 in
    let rest = c.in-Ok.read.1 in
    let below : length xs < 2 ^ length ins = omega (arith, c.loop-set-test.true, c.sets-set-end.ensures.is, so_far.1) in
    let goes = subst (λ s. Goes mid (step_line ins outs (s, x) ∷ []) rest) (sym so_far.1) c.in-Ok.ensures.read in
    subst (λ ys. StepsTo ins outs c.args.states c.args.at ys rest × (length ys ≡ c.loop-set.set + 1))
    (sym c.in_ok-push.ensures.items) (
      steps_more ins outs c.args.states c.args.at mid rest xs (xs ++ x ∷ []) x so_far.0 below goes c.in-Ok.ensures.fits refl,
      omega (arith, length-append xs (x ∷ []), so_far.1),
    )

pub returns-clause-read : goal.returns-clause-read
returns-clause-read c = c.loop-set.invariant.0.goes

pub returns-clause-fit : goal.returns-clause-fit
returns-clause-fit c =
    let so_far = c.loop-set.invariant in
    steps_done c.args.inputs.now c.args.outputs.now c.args.states c.args.at c.loop-set.rest c.loop-set.steps.items so_far.0
    (omega (arith, c.loop-set-test.false, c.sets-set-end.ensures.is, so_far.1))
