use Rattle.ml_parity.specs.Refusal.{game_of}
use Rattle.ml_determinise.specs.Numbering.{rows_of}
use Rattle.ml_synthesis.proofs.Arenas.{arena_is_game}
use Rattle.ml_synthesis.proofs.arena.Arena.of.Goals as goal

pub game-requires : goal.game-requires
game-requires c =
    let a = c.args.automaton.now in
    let d = c.add_states.new.draft in
    arena_is_game a.input_sets a.output_sets a.neutral (rows_of a.moves.now) c.add_known.new.arrivals.keys
    (game_of d.owner d.priority d.successors) c.requires.moves c.in_ok-add_states.ensures
