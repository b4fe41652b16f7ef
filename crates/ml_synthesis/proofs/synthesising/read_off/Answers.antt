-- The solution of the game tells what is made.
use Rattle.std.proofs.Common.{sym, ◌∙◌, arith}
use Rattle.ml_synthesis.proofs.Outcomes.{base_inside, defeated, is_solved, made}
use Rattle.ml_synthesis.proofs.synthesising.read_off.Goals as goal

pub winner-requires : goal.winner-requires
winner-requires c =
    let a = c.args.arena.now in
    let o = c.requires.over in
    let inside =
    base_inside o.inputs o.outputs o.neutral o.moves a.input_sets a.base a.arrivals.keys a.game o.is_over
    c.args.solution.now c.requires.solution in
    let long = c.requires.solution.winners in
    omega (arith, inside, long)

pub machine_of-requires-clause-solved : goal.machine_of-requires-clause-solved
machine_of-requires-clause-solved c =
    let a = c.args.arena.now in
    let o = c.requires.over in
    is_solved o.inputs o.outputs o.neutral o.moves a.input_sets a.base a.arrivals.keys a.game o.is_over
    c.args.solution.now c.requires.solution

pub machine_of-requires-clause-few : goal.machine_of-requires-clause-few
machine_of-requires-clause-few c = c.requires.over.is_over.few_moves

pub environment_of-requires-clause-solved : goal.environment_of-requires-clause-solved
environment_of-requires-clause-solved c =
    let a = c.args.arena.now in
    let o = c.requires.over in
    is_solved o.inputs o.outputs o.neutral o.moves a.input_sets a.base a.arrivals.keys a.game o.is_over
    c.args.solution.now c.requires.solution

pub returns-in_ok-machine_of-in-Even : goal.returns-in_ok-machine_of-in-Even
returns-in_ok-machine_of-in-Even c = λ o.
    let a = c.args.arena.now in
    made o.inputs o.outputs o.neutral o.moves a.input_sets a.base a.arrivals.keys a.game o.is_over c.args.solution.now
    c.requires.solution c.in_ok-machine_of-in-Even.field-0 (sym c.winner.ensures ∙ c.in-Even.is) c.in_ok-machine_of-in-Even.ensures

pub returns-in_ok-environment_of-in-Odd : goal.returns-in_ok-environment_of-in-Odd
returns-in_ok-environment_of-in-Odd c = λ o.
    let a = c.args.arena.now in
    defeated o.inputs o.outputs o.neutral o.moves a.input_sets a.base a.arrivals.keys a.game o.is_over
    c.args.solution.now c.requires.solution c.in_ok-environment_of-in-Odd.field-0 (sym c.winner.ensures ∙ c.in-Odd.is)
    c.in_ok-environment_of-in-Odd.ensures
