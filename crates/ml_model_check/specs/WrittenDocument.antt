-- The document that is written for a structure, in version 2.
--
--   satisfiable_document p m s == the document that says that the problem p holds at the state s of the structure m
use Rattle.std.specs.Prelude.{ℕ, List, ◌++◌}
use Rattle.ml_base.specs.Structure.{Structure}
use Rattle.ml_base.specs.declared.version.Version.TheVariants.{Two}
use Rattle.ml_lines.specs.Lines.{text_of}
use Rattle.ml_kripke.specs.ModelText.{model_text}
use Rattle.ml_front.specs.Head.{head_lines}
use Rattle.ml_front.specs.declared.answer.Answer.TheVariants.{Satisfiable}
use Rattle.ml_front.specs.declared.problem.Problem.{Problem}

abbrev pub satisfiable_document : Problem → Structure → ℕ → List ℕ
satisfiable_document p m s = text_of (head_lines Two Satisfiable p) ++ model_text m s
