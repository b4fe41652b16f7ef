-- Marks as priorities, of which the lowest one that is met infinitely often decides.
--
--   priority top m == the mark as a number: 2x, 2x + 1, or top for Neutral
use Rattle.std.specs.Prelude.{ℕ, ◌+◌, ◌*◌}
use Rattle.ml_trace.specs.declared.marks.Mark.{Mark}
use Rattle.ml_trace.specs.declared.marks.Mark.TheVariants.{Red, Green, Neutral}

-- the mark as a number; top stands for Neutral
abbrev pub priority : ℕ → Mark → ℕ
priority top (Red x) = 2 * x
priority top (Green x) = 2 * x + 1
priority top Neutral = top
