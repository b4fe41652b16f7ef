-- Documents of answers.
--
--   mlsolver answers 1
--   consistent no because a b      a line, as it is written of an answer
--   names 2                        behind `because` a text of a refutation, in version 2
--   ..
--   end
--   without a                      and for each requirement without which there is a structure, in order, this line
--   states 1                       and the text of the structure
--   ..
--   end
--   ..
--   rest yes                       behind an answer by a structure its text
--   states 2
--   ..
--   end
--   possible rescue open           behind `open` nothing
--   end
--
-- Nothing stands behind what is named behind `perhaps:`. A refutation may have any text that is one of it.
--
--   title_line, last_line  == the first line, and the last one
--   without_line xs k      == the line `without`, with the name of the item k
--   IsModel m s text       == the text is that of the structure m, which is in order, with the start s
--   IsRefutationOf r text  == the text is one of the refutation r, in version 2
--   ArePartsText xs ps text == the text is that of the parts ps of a core
--   IsBody xs r text       == the text is one that may stand behind the line of the answer r
--   IsBlock xs r text      == the text is the line of a question and its answer, and what stands behind it
--   AreBlocks xs rs text   == the text is made of these, one for each of rs
--   IsDocumentOf xs rs text == the text is a document of the answers rs to questions of the items xs
--   Answers xs rs text     == so it is, and they answer the questions of xs, one by one
use Rattle.std.specs.Prelude.{ℕ, ◌≡◌, List, [], ◌∷◌, codes}
use Rattle.ml_base.specs.Structure.{Structure}
use Rattle.ml_base.specs.declared.version.Version.TheVariants.{Two}
use Rattle.ml_kripke.specs.ModelText.{IsWritten, model_text}
use Rattle.ml_kripke.specs.Ordered.{IsOrdered}
use Rattle.ml_lines.specs.Lines.{Line}
use Rattle.ml_refutation.specs.Refutation.{Refutation, IsRefutation}
use Rattle.ml_refutation_text.specs.BodyRules.{IsTextOf}
use Rattle.ml_spec.specs.declared.specification.Item.{Item}
use Rattle.ml_replies.specs.Replies.{Part, Replied, Reply, LeftOpen, Met, StillMet, StillOpen, Unmet, Without}
use Rattle.ml_answers.specs.Due.{AreAll}
use Rattle.ml_answers.specs.Lines.{line_of, name_at}
use Rattle.ml_answers.specs.Texts.{IsLine, IsNothing, IsThen}

abbrev pub title_line : Line
title_line = codes "mlsolver" ∷ codes "answers" ∷ codes "1" ∷ []

abbrev pub last_line : Line
last_line = codes "end" ∷ []

abbrev pub without_line : List Item → ℕ → Line
without_line xs k = codes "without" ∷ name_at xs k ∷ []

abbrev pub IsModel : Structure → ℕ → List ℕ → Type 0
IsModel m s text = IsWritten m s × IsOrdered m × (text ≡ model_text m s)

abbrev pub IsRefutationOf : Refutation → List ℕ → Type 0
IsRefutationOf r text = IsRefutation r × IsTextOf Two text r

abbrev pub IsWithoutText : List Item → ℕ → Without → List ℕ → Type 0
IsWithoutText xs k (StillMet m s) text = IsThen (IsLine (without_line xs k)) (IsModel m s) text
IsWithoutText xs k StillOpen text = IsNothing text

abbrev pub ArePartsText : List Item → List Part → List ℕ → Type 0
ArePartsText xs [] text = IsNothing text
ArePartsText xs (p ∷ ps) text = IsThen (IsWithoutText xs p.requirement p.without) (ArePartsText xs ps) text

abbrev pub IsBody : List Item → Reply → List ℕ → Type 0
IsBody xs (Met m s) text = IsModel m s text
IsBody xs (Unmet c) text = IsThen (IsRefutationOf c.refutation) (ArePartsText xs c.parts) text
IsBody xs LeftOpen text = IsNothing text

abbrev pub IsBlock : List Item → Replied → List ℕ → Type 0
IsBlock xs r text = IsThen (IsLine (line_of xs r)) (IsBody xs r.reply) text

abbrev pub AreBlocks : List Item → List Replied → List ℕ → Type 0
AreBlocks xs [] text = IsNothing text
AreBlocks xs (r ∷ rs) text = IsThen (IsBlock xs r) (AreBlocks xs rs) text

abbrev pub IsDocumentOf : List Item → List Replied → List ℕ → Type 0
IsDocumentOf xs rs text = IsThen (IsLine title_line) (IsThen (AreBlocks xs rs) (IsLine last_line)) text

abbrev pub Answers : List Item → List Replied → List ℕ → Type 0
Answers xs rs text = AreAll xs rs × IsDocumentOf xs rs text
