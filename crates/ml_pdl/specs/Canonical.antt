-- The canonical text of a formula: every connective, `;`, `+` and tested formula in parentheses, single blanks round the
-- connectives and none in programs, one spelling for each sign, and the program `_` left out where it is a modality's
-- whole program.
--
--   whole_program p    == what stands between the signs of a modality with the program p
--   canonical_text f   == the canonical text of the formula f
--   program_text p     == the canonical text of the program p
use Rattle.std.specs.Prelude.{ℕ, true, false, List, [], ◌++◌, if◌then◌else◌, codes}
use Rattle.std.specs.Str.{bytes_eq}
use Rattle.ml_text.specs.Operators.{spelling_of}
use Rattle.ml_pdl.specs.Formula.{Formula, Const, Prop, Not, Binary, Modal, Repeat, Program, Act, Seq, Alt, Star, Test}
use Rattle.ml_pdl.specs.declared.term.Modality.{Modality}
use Rattle.ml_pdl.specs.declared.term.Modality.TheVariants.{Diamond, Square}

-- the text of a program, where it is a modality's whole program
abbrev pub whole_program : Program → List ℕ → List ℕ
whole_program (Act a) text = if bytes_eq a (codes "_") then [] else text
whole_program _ text = text

abbrev pub modality_text : Modality → List ℕ → List ℕ
modality_text Diamond text = codes "<" ++ text ++ codes ">"
modality_text Square text = codes "[" ++ text ++ codes "]"

abbrev mutual
  pub canonical_text : Formula → List ℕ
  canonical_text (Const true) = codes "tt"
  canonical_text (Const false) = codes "ff"
  canonical_text (Prop p) = p
  canonical_text (Not f) = codes "!" ++ canonical_text f
  canonical_text (Binary op f g) =
      codes "(" ++ canonical_text f ++ codes " " ++ spelling_of op ++ codes " " ++ canonical_text g ++ codes ")"
  canonical_text (Modal m p f) = modality_text m (whole_program p (program_text p)) ++ canonical_text f
  canonical_text (Repeat p) = codes "repeat(" ++ program_text p ++ codes ")"

  pub program_text : Program → List ℕ
  program_text (Act a) = a
  program_text (Seq p q) = codes "(" ++ program_text p ++ codes ";" ++ program_text q ++ codes ")"
  program_text (Alt p q) = codes "(" ++ program_text p ++ codes "+" ++ program_text q ++ codes ")"
  program_text (Star p) = program_text p ++ codes "*"
  program_text (Test f) = codes "(" ++ canonical_text f ++ codes ")?"
