-- The forms that the program holds, as those of the tables.
--
--   wait_view q == a form of which a sign is to come
--   hold_view k == a form of which an operand is to come
use Rattle.ml_mu.specs.private.Tables as tables
use Rattle.ml_mu.specs.Term.{formula_of}
use Rattle.ml_mu.specs.declared.forms.Wait.{Wait}
use Rattle.ml_mu.specs.declared.forms.Wait.TheVariants as wait
use Rattle.ml_mu.specs.declared.forms.Hold.{Hold}
use Rattle.ml_mu.specs.declared.forms.Hold.TheVariants as hold

abbrev pub wait_view : Wait → tables.Wait
wait_view wait.Operand = tables.Operand
wait_view (wait.BehindBegin m) = tables.BehindBegin m
wait_view (wait.BehindAction m a) = tables.BehindAction m a
wait_view (wait.BehindFixpoint q) = tables.BehindFixpoint q
wait_view (wait.BehindVariable q x) = tables.BehindVariable q x
wait_view (wait.BehindInside t) = tables.BehindInside (formula_of t)

abbrev pub hold_view : Hold → tables.Hold
hold_view hold.Negation = tables.Negation
hold_view (hold.Modal m a) = tables.Modal m a
hold_view (hold.Binder q x) = tables.Binder q x
hold_view hold.Group = tables.Group
