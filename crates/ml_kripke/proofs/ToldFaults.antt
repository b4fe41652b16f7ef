-- Refusals that tell the first bad line of a text.
--
--   tells_missing, tells_here, tells_line  == a line that is missing, and one that breaks a rule
--   tells_behind                           == a bad line behind lines that were read
use Rattle.std.proofs.Common.{◌≡◌, ℕ, List, [], ◌∷◌, ◌++◌, refl, sym, subst}
use Rattle.ml_lines.specs.Lines.{Line}
use Rattle.ml_lines.specs.Reading.{lines_of, left_of}
use Rattle.ml_lines.specs.private.Fronts.{GoesOn}
use Rattle.ml_lines.proofs.Faults.{fault_here, fault_missing, fault_behind}
use Rattle.ml_lists.specs.Documents.{IsFirstBroken}
use Rattle.ml_lists.specs.Readings.{IsReadTo}
use Rattle.ml_kripke.specs.BodyRules.{Place, body, rules}
use Rattle.ml_kripke.specs.RuleNumbers.{rule_number}
use Rattle.ml_kripke.specs.private.Refusals.{Breaks, TellsRule, TellsFault, at_line}
use Rattle.ml_lines.specs.declared.refusal.LineRefusal.{LineRefusal}
use Rattle.ml_lines.specs.declared.refusal.LineRefusal.TheVariants as LineRefusals
use Rattle.ml_base.specs.declared.doc_refusal.DocRefusal.{DocRefusal}
use Rattle.ml_base.specs.declared.doc_refusal.DocRefusal.TheVariants.{Fault, NoMemory}
use Rattle.ml_kripke.specs.declared.body_rule.BodyRule.{BodyRule}

module _ (place : Place) (k : ℕ) (text : List ℕ) where
  module _ (refusal : DocRefusal) (rule : BodyRule) (is : refusal ≡ Fault (record { line = k; rule = rule_number rule })) where
    pub tells_missing : lines_of text ≡ []
        → IsFirstBroken (rules (left_of text) place) [] (rule_number rule)
        → TellsFault place k text refusal
    tells_missing none broken = subst (TellsFault place k text) (sym is) (fault_missing body k place text (rule_number rule) none broken)

    pub tells_here : (line : Line) (lines : List Line)
        → lines_of text ≡ line ∷ lines
        → Breaks place line rule
        → TellsFault place k text refusal
    tells_here line lines begins broken =
        subst (TellsFault place k text) (sym is)
        (fault_here body k place text (rule_number rule) line lines begins (broken (left_of text)))

  pub tells_line : (line : Line) (lines : List Line) (refusal : LineRefusal BodyRule) → lines_of text ≡ line ∷ lines
      → TellsRule place line refusal → TellsFault place k text (at_line k refusal)
  tells_line line lines (LineRefusals.Breaks rule) begins broken =
      tells_here (Fault (record { line = k; rule = rule_number rule })) rule refl line lines begins broken
  tells_line line lines LineRefusals.NoMemory begins broken = tt

  pub tells_behind : (lines : List Line) (rest : List ℕ) (j : ℕ) (at : Place) (refusal : DocRefusal)
      → GoesOn text lines rest
      → IsReadTo (body (left_of text)) k place (lines ++ lines_of rest) j at (lines_of rest) → TellsFault at j rest refusal
      → TellsFault place k text refusal
  tells_behind lines rest j at NoMemory goes read tells = tt
  tells_behind lines rest j at (Fault fault) goes read tells = fault_behind body k place text lines rest j at fault goes read tells
