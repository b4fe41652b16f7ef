-- Propositions replaced by formulas: what definitions mean, written out.
--
-- A definition has a proposition and the formula for which that stands. All propositions of a formula are replaced at once:
-- nothing is replaced in the formulas that come in. Where these are closed, no binder captures anything of theirs.
--
--   Definition          == a proposition, and the formula for which it stands
--   standing_for ds p   == the formula for which p stands by the first definition of p in ds; p itself where there is none
--   replaced ds f       == f with each proposition replaced by the formula for which it stands
use Rattle.std.specs.Prelude.{ℕ, List, unwrap_or}
use Rattle.std.specs.Map.{lookup}
use Rattle.std.specs.Str.{bytes_eq}
use Rattle.ml_mu.specs.Formula.{Binary, Binder, Const, Formula, Modal, Not, Prop, Var}

abbrev pub Definition : Type 0
Definition = List ℕ × Formula

abbrev pub standing_for : List Definition → List ℕ → Formula
standing_for ds p = unwrap_or (lookup (bytes_eq p) ds) (Prop p)

abbrev pub replaced : List Definition → Formula → Formula
replaced ds (Const b) = Const b
replaced ds (Prop p) = standing_for ds p
replaced ds (Var x) = Var x
replaced ds (Not f) = Not (replaced ds f)
replaced ds (Binary op f g) = Binary op (replaced ds f) (replaced ds g)
replaced ds (Modal m a f) = Modal m a (replaced ds f)
replaced ds (Binder q x f) = Binder q x (replaced ds f)
