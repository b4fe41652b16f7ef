-- Places of a lasso, and the places behind one.
--
--   IsPlace l i         == i is a place of l
--   after l i k         == the place that is reached from the place i in k steps
use Rattle.std.specs.Prelude.{ℕ, ◌<◌}
use Rattle.ml_lists.specs.Lasso.{Lasso, next_place}
use Rattle.ml_lists.specs.Walk.{walk}
use Rattle.ml_ctl.specs.Paths.{places}

abbrev pub IsPlace : Lasso → ℕ → Type 0
IsPlace l i = (l.start < places l) × (i < places l)

abbrev pub after : Lasso → ℕ → ℕ → ℕ
after l i k = walk (next_place l) i k
