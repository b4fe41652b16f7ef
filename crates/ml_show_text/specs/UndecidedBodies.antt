-- The body of an undecided document, of a problem or of a task, as a format.
--
-- It is two lines: `cause positions N` or `cause closure 4096`, and `end`. The rules of a place stand in the order of their
-- numbers, so the first one that a line breaks is the lowest. A line that is missing is the line of no words.
--
--   Place                 == what stands at a line: the cause; `end`; nothing
--   after place line      == what stands behind a line, if that one is good
--   closure_line          == the line `cause closure 4096`
--   IsPositionsLine line  == the line is `cause positions` and one word more
--   IsCauseLine line      == the line is one of these two
--   HasLimit line         == its number of positions, where it tells one, is spelt as numbers are, and fits 32 bits
--   rule_number r         == the number of a rule
--   rules left place      == the rules of a line at a place, in a text of which `left` stands behind the last LF
--   body left             == the places with their rules
--   IsFaultOf text k f    == f tells the first bad line of the text of a body, whose first line has the number k, and the
--                            lowest rule that it breaks
--   IsReadableBody text   == the text has no bad line
use Rattle.std.specs.Prelude.{ℕ, ◌≡◌, ◌⊎◌, List, [], ◌∷◌, codes}
use Rattle.ml_base.specs.declared.doc_fault.DocFault.{DocFault}
use Rattle.ml_lines.specs.Faults.{IsFault}
use Rattle.ml_lines.specs.Lines.{Line}
use Rattle.ml_lines.specs.Reading.{AreWords, IsNumber, left_of, lines_of, word}
use Rattle.ml_lists.specs.Documents.{Format, Rule, rule}
use Rattle.ml_lists.specs.Readings.{IsReadable}
use Rattle.ml_show_text.specs.declared.cause_rule.CauseRule.{CauseRule}
use Rattle.ml_show_text.specs.declared.cause_rule.CauseRule.TheVariants.{OfKind, Numbers}

pub data Place : Type 0 where
  AtCause AtEnd AtNothing : Place

abbrev pub after : Place → Line → Place
after AtCause line = AtEnd
after AtEnd line = AtNothing
after AtNothing line = AtNothing

abbrev pub closure_line : Line
closure_line = codes "cause" ∷ codes "closure" ∷ codes "4096" ∷ []

abbrev pub IsPositionsLine : Line → Type 0
IsPositionsLine line = AreWords line × (line ≡ codes "cause" ∷ codes "positions" ∷ word line 2 ∷ [])

abbrev pub IsCauseLine : Line → Type 0
IsCauseLine line = (line ≡ closure_line) ⊎ IsPositionsLine line

abbrev pub HasLimit : Line → Type 0
HasLimit line = (line ≡ closure_line) ⊎ IsNumber (word line 2)

abbrev pub rule_number : CauseRule → ℕ
rule_number OfKind = 11
rule_number Numbers = 12

abbrev asks : CauseRule → (Line → Type 0) → Rule Line
asks r = rule (rule_number r)

abbrev pub rules : List ℕ → Place → List (Rule Line)
rules left AtCause = asks OfKind IsCauseLine ∷ asks Numbers HasLimit ∷ []
rules left AtEnd = asks OfKind (λ line. line ≡ codes "end" ∷ []) ∷ []
rules left AtNothing = asks OfKind (λ line. (line ≡ []) × (left ≡ [])) ∷ []

abbrev pub body : List ℕ → Format Line Place
body left = record { rules = rules left; after = after; missing = [] }

abbrev pub IsFaultOf : List ℕ → ℕ → DocFault → Type 0
IsFaultOf text k fault = IsFault body k AtCause text fault

abbrev pub IsReadableBody : List ℕ → Type 0
IsReadableBody text = IsReadable (body (left_of text)) AtCause (lines_of text)
