-- The game is made and solved, and its solution tells what is made.
use Rattle.std.proofs.Common.{arith}
use Rattle.std.specs.Global.{Vec}
use Rattle.std.proofs.lemmas.List.{length-map}
use Rattle.ml_determinise.specs.Numbering.{rows_of}
use Rattle.ml_determinise.specs.declared.moves.DetMove.{DetMove}
use Rattle.ml_synthesis.proofs.Automata.{accessible_by, are_moves}
use Rattle.ml_synthesis.proofs.Outcomes.{few_positions, too_many}
use Rattle.ml_synthesis.proofs.Positions.{more_states}
use Rattle.ml_synthesis.proofs.synthesising.synthesise.Goals as goal

pub returns-then-moves-limit-clause-passed : goal.returns-then-moves-limit-clause-passed
returns-then-moves-limit-clause-passed c = λ e.
    let rows = rows_of c.args.moves.now in
    let long = length-map c.args.moves.now (λ (r : Vec DetMove). r.items) in
    let more = c.if-moves-limit.true in
    more_states c.args.inputs c.args.outputs c.args.neutral rows
    (are_moves c.args.inputs c.args.outputs c.args.neutral rows c.requires.automaton)
    (accessible_by c.args.inputs c.args.outputs rows c.requires.accessible) c.args.limit (omega (arith, long, more))

pub returns-then-size-limit-clause-passed : goal.returns-then-size-limit-clause-passed
returns-then-size-limit-clause-passed c = λ e.
    let a = c.in_ok-arena.arena in
    too_many c.args.inputs c.args.outputs c.args.neutral (rows_of c.args.moves.now) a.input_sets a.base a.arrivals.keys
    a.game c.in_ok-arena.ensures c.args.limit c.requires.accessible
    (let more = c.if-size-limit.true in let size = c.size.ensures.vertices in omega (arith, more, size))

pub outcome_of-requires-clause-over : goal.outcome_of-requires-clause-over
outcome_of-requires-clause-over c = record {
  inputs = c.args.inputs;
  outputs = c.args.outputs;
  neutral = c.args.neutral;
  moves = rows_of c.args.moves.now;
  is_over = c.in_ok-arena.ensures;
}

pub outcome_of-requires-clause-small : goal.outcome_of-requires-clause-small
outcome_of-requires-clause-small c =
    let few = c.if-size-limit.false in
    let size = c.size.ensures.vertices in
    let fits = c.ranges.limit.fits in
    omega (arith, few, size, fits)

pub returns-clause-not_passed : goal.returns-clause-not_passed
returns-clause-not_passed c =
    let a = c.in_ok-arena.arena in
    few_positions c.args.inputs c.args.outputs c.args.neutral (rows_of c.args.moves.now) a.input_sets a.base
    a.arrivals.keys a.game c.in_ok-arena.ensures c.args.limit c.requires.accessible
    (let few = c.if-size-limit.false in let size = c.size.ensures.vertices in omega (arith, few, size))

pub returns-clause-outcome : goal.returns-clause-outcome
returns-clause-outcome c = c.in_ok-outcome_of.ensures (record {
  inputs = c.args.inputs;
  outputs = c.args.outputs;
  neutral = c.args.neutral;
  moves = rows_of c.args.moves.now;
  is_over = c.in_ok-arena.ensures;
})
