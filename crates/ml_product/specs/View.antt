-- Positions as an arena lends them.
--
--   viewed x == the position that the view x shows
use Rattle.ml_product.specs.Position.{Position}
use Rattle.ml_product.specs.declared.view.View.{View}
use Rattle.ml_product.specs.Placed.{choice_at}

-- the position that the view shows
abbrev pub viewed : View → Position
viewed x = record {
  sequent = x.sequent.now;
  history = x.history.now;
  priority = x.priority;
  choice = choice_at x.positions.now x.number;
}
