-- The state to which the choice leads is numbered.
use Rattle.std.proofs.Common.{◌/◌, Some, ap, ◌∙◌, arith}
use Rattle.std.proofs.lemmas.Option.{slice_get_within}
use Rattle.ml_synthesis.proofs.Choices.{choice_at_known, few_states, state_numbered}
use Rattle.ml_synthesis.proofs.RowsMet.{few_numbers}
use Rattle.ml_synthesis.proofs.machine_making.step_at.Goals as goal

pub give-requires-clause-vertex : goal.give-requires-clause-vertex
give-requires-clause-vertex c =
    let a = c.args.arena.now in
    (choice_at_known a.input_sets a.base a.arrivals.keys a.game c.args.solution.now c.requires.solved c.args.vertex
    c.requires.vertex).is_vertex

pub give-requires-clause-is_move : goal.give-requires-clause-is_move
give-requires-clause-is_move c =
    let a = c.args.arena.now in
    (choice_at_known a.input_sets a.base a.arrivals.keys a.game c.args.solution.now c.requires.solved c.args.vertex
    c.requires.vertex).is_move

pub give-requires-clause-few : goal.give-requires-clause-few
give-requires-clause-few c = c.requires.few c.args.vertex

pub overflow_cast-result : goal.overflow_cast-result
overflow_cast-result c =
    let a = c.args.arena.now in
    let met = state_numbered a.input_sets a.base a.arrivals.keys a.game c.args.solution.now c.requires.solved
    c.args.vertex c.chosen-arrival.result c.from.result c.args.states.now.keys c.number.new.states.keys c.in_ok-number.field-0
    c.chosen-arrival.ensures c.from.ensures c.requires.numbers c.in_ok-number.ensures in
    let few = few_numbers 0 (a.base / a.input_sets) c.number.new.states.keys met.numbers in
    let place = slice_get_within c.number.new.states.keys c.in_ok-number.field-0 c.from.result
    c.in_ok-number.ensures.stands in
    let small = few_states a.input_sets a.base a.arrivals.keys a.game c.args.solution.now c.requires.solved
    c.requires.small in
    omega (arith, few, place, small)

pub returns-clause-step : goal.returns-clause-step
returns-clause-step c = record {
  gives = c.give.ensures;
  arrival = c.chosen-arrival.result;
  comes = c.chosen-arrival.ensures;
  next_is = c.in_ok-number.ensures.stands ∙ ap Some c.from.ensures;
}

pub returns-clause-met : goal.returns-clause-met
returns-clause-met c =
    let a = c.args.arena.now in
    state_numbered a.input_sets a.base a.arrivals.keys a.game c.args.solution.now c.requires.solved c.args.vertex
    c.chosen-arrival.result c.from.result c.args.states.now.keys c.number.new.states.keys c.in_ok-number.field-0
    c.chosen-arrival.ensures c.from.ensures c.requires.numbers c.in_ok-number.ensures
