-- The forms that the program holds, as those of the tables.
--
--   wait_view q   == a form of which a sign is to come
use Rattle.ml_ctl.specs.private.Tables as tables
use Rattle.ml_ctl.specs.Term.{formula_of}
use Rattle.ml_ctl.specs.declared.forms.Wait.{Wait}
use Rattle.ml_ctl.specs.declared.forms.Wait.TheVariants as wait

abbrev pub wait_view : Wait → tables.Wait
wait_view (wait.Start s) = tables.Start s
wait_view (wait.BehindInside t) = tables.BehindInside (formula_of t)
