-- What the reader holds.
--
--   row_view r   == the row that r holds
--   rows_view rs == the rows that these hold
--   state_of r   == what the reader r knows
use Rattle.std.specs.Prelude.{List, map}
use Rattle.ml_pgsolver.specs.GameText as game_text
use Rattle.ml_pgsolver.specs.declared.reader.Reader.{Reader}
use Rattle.ml_pgsolver.specs.declared.reader.Row.{Row}
use Rattle.ml_pgsolver.specs.private.Machine.{State}

abbrev pub row_view : Row → game_text.Row
row_view r = record { id = r.id; priority = r.priority; owner = r.owner; successors = r.successors.items }

abbrev pub rows_view : List Row → List game_text.Row
rows_view rs = map row_view rs

abbrev pub state_of : Reader → State
state_of r = record {
  stage = r.stage;
  rows = rows_view r.rows.items;
  ids = r.ids.keys;
  successors = r.successors.items;
  count = r.count;
}
