-- The limits that all logics share, beside the one on names.
use Rattle.std.specs.Prelude.{ℕ}
use Rattle.ml_text.specs.declared.limits.TheConstants.{MOST_OCCURRENCES, MOST_OPEN}

-- the limits that all logics share, beside the one on names
abbrev pub most_occurrences : ℕ
most_occurrences = MOST_OCCURRENCES

abbrev pub most_open : ℕ
most_open = MOST_OPEN
