-- What a refusal of a text tells. Private contracts and proofs cite this.
--
--   Breaks place line r        == the line, which stands at this place, breaks the rule r and no lower one
--   TellsRule place line e     == so does the rule that the refusal e tells, if it isn't for want of memory
--   IsLowest Kind rule r       == r is this rule where a line is of its kind, and else the rule that it is
--   at_line k e                == that refusal, of the line k
--   TellsFault place k text e  == the refusal e tells the first bad line of the text, which stands at this place and is
--                                 counted from k, if it isn't for want of memory
use Rattle.std.specs.Prelude.{ℕ, ◌≡◌, ◌⊎◌, ⊤, List}
use Rattle.ml_base.specs.declared.doc_refusal.DocRefusal.{DocRefusal}
use Rattle.ml_base.specs.declared.doc_refusal.DocRefusal.TheVariants as refused
use Rattle.ml_lines.specs.Lines.{Line}
use Rattle.ml_lines.specs.Faults.{IsFault}
use Rattle.ml_lists.specs.Documents.{IsFirstBroken}
use Rattle.ml_kripke.specs.BodyRules.{Place, body, rules}
use Rattle.ml_kripke.specs.RuleNumbers.{rule_number}
use Rattle.ml_kripke.specs.declared.body_rule.BodyRule.{BodyRule}
use Rattle.ml_kripke.specs.declared.body_rule.BodyRule.TheVariants.{OfKind}
use Rattle.ml_lines.specs.declared.refusal.LineRefusal.{LineRefusal}
use Rattle.ml_lines.specs.declared.refusal.LineRefusal.TheVariants as line

abbrev pub Breaks : Place → Line → BodyRule → Type 0
Breaks place l rule = (left : List ℕ) → IsFirstBroken (rules left place) l (rule_number rule)

abbrev pub TellsRule : Place → Line → LineRefusal BodyRule → Type 0
TellsRule place l (line.Breaks rule) = Breaks place l rule
TellsRule place l line.NoMemory = ⊤

abbrev pub IsLowest : Type 0 → BodyRule → BodyRule → Type 0
IsLowest Kind rule r = ((r ≡ rule) × Kind) ⊎ ((r ≡ OfKind) × ¬ Kind)

abbrev pub TellsFault : Place → ℕ → List ℕ → DocRefusal → Type 0
TellsFault place k text (refused.Fault fault) = IsFault body k place text fault
TellsFault place k text refused.NoMemory = ⊤

abbrev pub at_line : ℕ → LineRefusal BodyRule → DocRefusal
at_line k (line.Breaks rule) = refused.Fault (record { line = k; rule = rule_number rule })
at_line k line.NoMemory = refused.NoMemory
