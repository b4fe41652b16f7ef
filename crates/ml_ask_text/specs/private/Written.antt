-- The document that is written of answers. It is one of those of which `ml_answers` speaks: its refutations have the text that
-- is written of them.
--
--   part_text xs p     == the line `without` of a requirement, and the text of the structure that stands without it; nothing
--                         where that stays open
--   body_text xs r     == the text behind the line of the answer r
--   block_text xs r    == that line, and this text
--   document_text xs rs == the document of the answers rs
--   IsShown m s        == the structure m has a text with the start s, and is in order
--   AreShown rs        == so have and are all structures of the answers rs
use Rattle.std.specs.Prelude.{ℕ, List, [], ◌++◌}
use Rattle.std.specs.List.{flat_map, AllByRecursion}
use Rattle.ml_base.specs.Structure.{Structure}
use Rattle.ml_base.specs.declared.version.Version.TheVariants.{Two}
use Rattle.ml_kripke.specs.ModelText.{model_text, IsWritten}
use Rattle.ml_kripke.specs.Ordered.{IsOrdered}
use Rattle.ml_lines.specs.Lines.{line_text}
use Rattle.ml_refutation_text.specs.WrittenText.{written_text}
use Rattle.ml_spec.specs.declared.specification.Item.{Item}
use Rattle.ml_replies.specs.Replies.{Part, Replied, Reply, LeftOpen, Met, StillMet, StillOpen, Unmet, Without}
use Rattle.ml_answers.specs.Documents.{last_line, title_line, without_line}
use Rattle.ml_answers.specs.Lines.{line_of}

abbrev pub without_text : List Item → ℕ → Without → List ℕ
without_text xs k (StillMet m s) = line_text (without_line xs k) ++ model_text m s
without_text xs k StillOpen = []

abbrev pub part_text : List Item → Part → List ℕ
part_text xs p = without_text xs p.requirement p.without

abbrev pub body_text : List Item → Reply → List ℕ
body_text xs (Met m s) = model_text m s
body_text xs (Unmet c) = written_text Two c.refutation ++ flat_map (part_text xs) c.parts
body_text xs LeftOpen = []

abbrev pub block_text : List Item → Replied → List ℕ
block_text xs r = line_text (line_of xs r) ++ body_text xs r.reply

abbrev pub document_text : List Item → List Replied → List ℕ
document_text xs rs = line_text title_line ++ (flat_map (block_text xs) rs ++ line_text last_line)

-- ---- structures

abbrev pub IsShown : Structure → ℕ → Type 0
IsShown m s = IsWritten m s × IsOrdered m

abbrev pub IsWithoutShown : Without → Type 0
IsWithoutShown (StillMet m s) = IsShown m s
IsWithoutShown StillOpen = Unit {0}

abbrev pub IsPartShown : Part → Type 0
IsPartShown p = IsWithoutShown p.without

abbrev pub IsReplyShown : Reply → Type 0
IsReplyShown (Met m s) = IsShown m s
IsReplyShown (Unmet c) = AllByRecursion IsPartShown c.parts
IsReplyShown LeftOpen = Unit {0}

abbrev pub IsRepliedShown : Replied → Type 0
IsRepliedShown r = IsReplyShown r.reply

abbrev pub AreShown : List Replied → Type 0
AreShown rs = AllByRecursion IsRepliedShown rs
