-- Documents: a head that gives an answer about a problem, and a body behind it.
--
-- What a body may be follows from the answer, and stands in the crates that read it: there `P` says what is true of what
-- a document shows, and a format tells the first bad line of a body. The lines of the body are counted on from those of
-- the head, so from 6 on.
--
--   first_body_line    == the number of the first line of a body
--   Shows a text P     == the text is a head that gives the answer a, and then a body, and P is true of the head's version,
--                         its problem and the body
--   IsDocumentFault a IsFaultOf text f == f tells the first bad line of the text, and the lowest rule that it breaks: one
--                         of the head, or one of the body behind a head, as IsFaultOf tells them
use Rattle.std.specs.Prelude.{ℕ, ◌⊎◌, List}
use Rattle.ml_base.specs.declared.doc_fault.DocFault.{DocFault}
use Rattle.ml_base.specs.declared.version.Version.{Version}
use Rattle.ml_front.specs.HeadRules.{IsHead, IsHeadFault}
use Rattle.ml_front.specs.declared.answer.Answer.{Answer}
use Rattle.ml_front.specs.declared.problem.Problem.{Problem}

abbrev pub first_body_line : ℕ
first_body_line = 6

pub record Shows (a : Answer) (text : List ℕ) (P : Version → Problem → List ℕ → Type 0) : Type 0 where
  pub version : Version
  pub problem : Problem
  pub body : List ℕ
  pub has_head : IsHead a text version problem body
  pub holds : P version problem body

abbrev pub IsDocumentFault : Answer → (Version → List ℕ → ℕ → DocFault → Type 0) → List ℕ → DocFault → Type 0
IsDocumentFault a IsFaultOf text fault =
    IsHeadFault a text fault ⊎ Shows a text (λ v p body. IsFaultOf v body first_body_line fault)
