-- The forms that the program holds, as those of the tables.
--
--   wait_view q   == a form of which a sign is to come
use Rattle.ml_bounded.specs.private.Tables as tables
use Rattle.ml_bounded.specs.Term.{formula_of}
use Rattle.ml_bounded.specs.declared.forms.Wait.{Wait}
use Rattle.ml_bounded.specs.declared.forms.Wait.TheVariants as wait

abbrev pub wait_view : Wait → tables.Wait
wait_view wait.Start = tables.Start
wait_view (wait.BehindInside t) = tables.BehindInside (formula_of t)
wait_view (wait.BehindTense t) = tables.BehindTense t
wait_view (wait.BehindOpening t) = tables.BehindOpening t
wait_view (wait.BehindFirst r m) = tables.BehindFirst r m
wait_view (wait.BehindBetween r m) = tables.BehindBetween r m
wait_view (wait.BehindLast b) = tables.BehindLast b
