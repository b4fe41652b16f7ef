-- The choice is read, and the arrival at it.
use Rattle.std.proofs.Common.{ap, arith}
use Rattle.ml_parity.specs.Solution.{GameSolution}
use Rattle.ml_synthesis.proofs.Choices.{arrival_read}
use Rattle.ml_synthesis.proofs.machine_making.chosen.Goals as goal

pub overflow_sub-result : goal.overflow_sub-result
overflow_sub-result c =
    let a = c.args.arena.now in
    (arrival_read a.input_sets a.base a.arrivals.keys a.game c.args.solution.now c.requires.solved c.args.vertex
    c.requires.vertex c.solution.inside.choice.items c.index.result.now c.as_slice.result.now
    (ap (λ (s : GameSolution). s.choice) c.solution.view_is) c.index.ensures c.as_slice.ensures.keys).behind

pub bounds-as_slice-choice : goal.bounds-as_slice-choice
bounds-as_slice-choice c =
    let a = c.args.arena.now in
    (arrival_read a.input_sets a.base a.arrivals.keys a.game c.args.solution.now c.requires.solved c.args.vertex
    c.requires.vertex c.solution.inside.choice.items c.index.result.now c.as_slice.result.now
    (ap (λ (s : GameSolution). s.choice) c.solution.view_is) c.index.ensures c.as_slice.ensures.keys).inside

pub offset_bounds-as_slice-choice : goal.offset_bounds-as_slice-choice
offset_bounds-as_slice-choice c =
    let a = c.args.arena.now in
    let read = arrival_read a.input_sets a.base a.arrivals.keys a.game c.args.solution.now c.requires.solved
    c.args.vertex c.requires.vertex c.solution.inside.choice.items c.index.result.now c.as_slice.result.now
    (ap (λ (s : GameSolution). s.choice) c.solution.view_is) c.index.ensures c.as_slice.ensures.keys in
    let inside = read.inside in
    let small = c.as_slice.type_inv.1 in
    omega (arith, inside, small)

pub returns : goal.returns
returns c =
    let a = c.args.arena.now in
    (arrival_read a.input_sets a.base a.arrivals.keys a.game c.args.solution.now c.requires.solved c.args.vertex
    c.requires.vertex c.solution.inside.choice.items c.index.result.now c.as_slice.result.now
    (ap (λ (s : GameSolution). s.choice) c.solution.view_is) c.index.ensures c.as_slice.ensures.keys).number
    (record { state = 0; priority = 0 })
