-- What `quotient` answers of a document with a structure.
--
-- What is written is the document of the same problem, in version 2, with the quotient of the structure, and with the class
-- of its start. The problem needn't hold there.
--
--   IsReduced text out       == the text shows a problem, a structure and a start, and out is the document of the problem
--                               with the quotient and the class of the start
use Rattle.std.specs.Prelude.{ℕ, ◌≡◌, List}
use Rattle.ml_base.specs.Structure.{Structure}
use Rattle.ml_bisim.specs.Quotient.{IsQuotientOf, class_of}
use Rattle.ml_front.specs.declared.problem.Problem.{Problem}
use Rattle.ml_model_check.specs.Checked.{IsDocument}
use Rattle.ml_model_check.specs.WrittenDocument.{satisfiable_document}

pub record IsReduced (text out : List ℕ) : Type 0 where
  pub problem : Problem
  pub structure : Structure
  pub start : ℕ
  pub quotient : Structure
  pub class : List ℕ
  pub is_document : IsDocument text problem structure start
  pub is_quotient : IsQuotientOf structure class quotient
  pub is_written : out ≡ satisfiable_document problem quotient (class_of class start)
