use Rattle.std.proofs.Common.{◌≡◌, ◌-◌, ◌≤◌, ◌++◌, length}
use Rattle.ml_text.specs.Items.{items, items_from, noted_from}
use Rattle.ml_text.specs.NotedItems.{noted}
use Rattle.ml_text.specs.Tokens.{tokens_from}
use Rattle.ml_text.specs.private.Progress.{KeepsLimits, outcome_from}
use Rattle.ml_text.specs.private.Reading.{text_outcome}
use Rattle.ml_text.proofs.reading.read.Given as goal

abbrev pub invariant-loop-placed : goal.invariant-loop-placed
invariant-loop-placed g l =
    let t = g.L.Notation.tables in
    let rest = items_from t.signs l.text l.progress.context (tokens_from t.signs.words l.text l.at) in
    record {
      limits : KeepsLimits l.progress;
      within : l.at ≤ length l.text;
      comes : text_outcome t.grammar (length l.fn.text) (items t.signs l.fn.text)
          ≡ outcome_from t (length l.text) l.progress rest;
      places : noted t.signs l.fn.text ≡ l.progress.places.items ++ noted_from t.signs l.progress.context rest;
    }

abbrev pub decreases-loop-placed : goal.decreases-loop-placed
decreases-loop-placed g l = length l.text - l.at
