-- Propositions replaced by formulas: what definitions mean, written out.
--
-- A definition has a proposition and the formula for which that stands. All propositions of a formula are replaced at once,
-- also those in the tests of its programs: nothing is replaced in the formulas that come in. Nothing binds a proposition, so
-- nothing is captured.
--
--   Definition             == a proposition, and the formula for which it stands
--   standing_for ds p      == the formula for which p stands by the first definition of p in ds; p itself where there is none
--   replaced ds f          == f with each proposition replaced by the formula for which it stands
--   replaced_program ds p  == the program p, with those of its tests replaced so
use Rattle.std.specs.Prelude.{ℕ, List, unwrap_or}
use Rattle.std.specs.Map.{lookup}
use Rattle.std.specs.Str.{bytes_eq}
use Rattle.ml_pdl.specs.Formula.{Formula, Const, Prop, Not, Binary, Modal, Repeat, Program, Act, Seq, Alt, Star, Test}

abbrev pub Definition : Type 0
Definition = List ℕ × Formula

abbrev pub standing_for : List Definition → List ℕ → Formula
standing_for ds p = unwrap_or (lookup (bytes_eq p) ds) (Prop p)

abbrev mutual
  pub replaced : List Definition → Formula → Formula
  replaced ds (Const b) = Const b
  replaced ds (Prop p) = standing_for ds p
  replaced ds (Not f) = Not (replaced ds f)
  replaced ds (Binary op f g) = Binary op (replaced ds f) (replaced ds g)
  replaced ds (Modal m p f) = Modal m (replaced_program ds p) (replaced ds f)
  replaced ds (Repeat p) = Repeat (replaced_program ds p)

  pub replaced_program : List Definition → Program → Program
  replaced_program ds (Act a) = Act a
  replaced_program ds (Seq p q) = Seq (replaced_program ds p) (replaced_program ds q)
  replaced_program ds (Alt p q) = Alt (replaced_program ds p) (replaced_program ds q)
  replaced_program ds (Star p) = Star (replaced_program ds p)
  replaced_program ds (Test f) = Test (replaced ds f)
