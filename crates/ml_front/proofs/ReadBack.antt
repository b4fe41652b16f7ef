-- What is written is read back.
--
--   heads_read_back  == the head of a written document about a well-formed formula is read as it was written
use Rattle.std.proofs.Common.{refl}
use Rattle.ml_front.specs.Laws.{HeadsReadBack}
use Rattle.ml_front.specs.Logics.{canonical_text}
use Rattle.ml_front.proofs.Logics.{text_in_line, text_parsed}

pub heads_read_back : HeadsReadBack
heads_read_back a v p rest well = record {
  formula_text = canonical_text p.formula;
  in_one_line = text_in_line p.formula well;
  is_text = refl;
  is_parsed = text_parsed p.formula well;
}
