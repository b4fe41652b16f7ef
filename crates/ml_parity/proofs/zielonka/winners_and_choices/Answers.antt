-- The row has all vertices, and all moves are counted.
use Rattle.std.proofs.Common.{◌∙◌, sym}
use Rattle.ml_parity.proofs.Whole.{whole_begins}
use Rattle.ml_parity.proofs.zielonka.winners_and_choices.Goals as goal

pub run-requires-clause-begins : goal.run-requires-clause-begins
run-requires-clause-begins c =
    whole_begins c.args.game.now c.size-size.ensures.game _ (record {
      row = c.in_ok-row_of.ensures.row;
      vertices = c.in_ok-row_of.ensures.size ∙ c.size-size.ensures.vertices;
      counts = c.in_ok-move_counts.ensures.size;
      chosen = sym c.in_ok-vec.field-0.ok.0 ∙ c.in_ok-vec.ensures.len ∙ c.size-size.ensures.vertices;
    }) c.in_ok-move_counts.ensures.each
