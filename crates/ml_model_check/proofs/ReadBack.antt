-- What is written is read back.
--
--   documents_read_back  == a written document shows the structure and the start that were written
use Rattle.ml_kripke.specs.ModelText.{model_text}
use Rattle.ml_front.specs.declared.answer.Answer.TheVariants.{Satisfiable}
use Rattle.ml_front.proofs.ReadBack.{heads_read_back}
use Rattle.ml_model_check.specs.Laws.{DocumentsReadBack}

pub documents_read_back : DocumentsReadBack
documents_read_back v p m start well written ordered =
    (v, heads_read_back Satisfiable v p (model_text m start) well, written, ordered)
