-- The canonical text of a formula of PDL has no line end in it.
--
--   canonical_in_line  == where its names are spelled as they must be, it stands in one line
use Rattle.std.proofs.Common.{◌≡◌, ℕ, true, false, List, codes, bytes_eq, refl}
use Rattle.std.specs.Cmp.{first_so}
use Rattle.ml_lines.proofs.InLine.{between_in_line, both_in_line, five_in_line, three_in_line, unless_blank}
use Rattle.ml_lines.proofs.LineFronts.{IsInLine}
use Rattle.ml_text.specs.Operators.{spelling_of}
use Rattle.ml_text.proofs.Names.{spelled_parts}
use Rattle.ml_text.proofs.WithoutByte.{action_without, each_spelling, proposition_without}
use Rattle.ml_pdl.specs.Canonical.{canonical_text, modality_text, program_text, whole_program}
use Rattle.ml_pdl.specs.Formula as plain
use Rattle.ml_pdl.specs.Formula.{Formula, Program, Act, Seq, Alt, Star, Test}
use Rattle.ml_pdl.specs.FormulaNames.{names, program_names}
use Rattle.ml_pdl.specs.declared.term.Modality.{Modality}
use Rattle.ml_pdl.specs.declared.term.Modality.TheVariants.{Diamond, Square}
use Rattle.ml_pdl.specs.Signs.{own}
use Rattle.ml_pdl.specs.Spelling.{is_action, is_proposition, is_spelled, program_is_spelled}

modality_in_line : (m : Modality) (text : List ℕ) → IsInLine text → IsInLine (modality_text m text)
modality_in_line Diamond text is = three_in_line (codes "<") text (codes ">") refl is refl
modality_in_line Square text is = three_in_line (codes "[") text (codes "]") refl is refl

-- what stands between the signs of a modality
whole_in_line : (p : Program) → IsInLine (program_text p) → IsInLine (whole_program p (program_text p))
whole_in_line (Act a) is = unless_blank (bytes_eq a (codes "_")) a is
whole_in_line (Seq p q) is = is
whole_in_line (Alt p q) is = is
whole_in_line (Star p) is = is
whole_in_line (Test f) is = is

mutual
  pub canonical_in_line : (f : Formula) → is_spelled f ≡ true → IsInLine (canonical_text f)
  canonical_in_line (plain.Const true) is = refl
  canonical_in_line (plain.Const false) is = refl
  canonical_in_line (plain.Prop p) is =
      proposition_without 10 refl own p (first_so (is_proposition p) true is)
  canonical_in_line (plain.Not f) is = canonical_in_line f is
  canonical_in_line (plain.Binary o f g) is =
      let parts = spelled_parts own (names f) (names g) is in
      between_in_line (canonical_text f) (spelling_of o) (canonical_text g) (canonical_in_line f parts.0) (each_spelling IsInLine refl refl refl refl o)
      (canonical_in_line g parts.1)
  canonical_in_line (plain.Modal m p f) is =
      let parts = spelled_parts own (program_names p) (names f) is in
      both_in_line (modality_text m (whole_program p (program_text p))) (canonical_text f)
      (modality_in_line m (whole_program p (program_text p)) (whole_in_line p (program_in_line p parts.0))) (canonical_in_line f parts.1)
  canonical_in_line (plain.Repeat p) is =
      three_in_line (codes "repeat(") (program_text p) (codes ")") refl (program_in_line p is) refl

  program_in_line : (p : Program) → program_is_spelled p ≡ true → IsInLine (program_text p)
  program_in_line (Act a) is = action_without 10 refl own a (first_so (is_action a) true is)
  program_in_line (Seq p q) is =
      let parts = spelled_parts own (program_names p) (program_names q) is in
      five_in_line (codes "(") (program_text p) (codes ";") (program_text q) (codes ")") refl (program_in_line p parts.0) refl
      (program_in_line q parts.1) refl
  program_in_line (Alt p q) is =
      let parts = spelled_parts own (program_names p) (program_names q) is in
      five_in_line (codes "(") (program_text p) (codes "+") (program_text q) (codes ")") refl (program_in_line p parts.0) refl
      (program_in_line q parts.1) refl
  program_in_line (Star p) is = both_in_line (program_text p) (codes "*") (program_in_line p is) refl
  program_in_line (Test f) is = three_in_line (codes "(") (canonical_text f) (codes ")?") refl (canonical_in_line f is) refl
