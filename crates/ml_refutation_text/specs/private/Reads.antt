-- What the reader of a body knows. Private contracts and proofs cite this.
--
-- A reader goes through a text from place to place; what it keeps is what the place keeps. Each of its functions goes from
-- one place to another, or tells the first bad line between them.
--
--   around_of, arounds_of  == the splits around a line; the program has the innermost last
--   HasRoom at             == the numbers of the lines that are left fit 64 bits
--   IsNext at line rest    == the next line, and what stands behind it
--   Goes v p at q rest     == the lines from `at` up to `rest` are good from the place p on, and lead to q
--   IsUsual p              == p isn't the place behind the end
--   Breaks p line r        == r is the first rule that a line at p breaks
--   TellsRule p line e     == the refusal e tells it, if it isn't for want of memory
--   TellsFault v p at e    == the refusal e tells the first bad line of what is left, which stands at p, if it isn't
--   at_line k e            == the refusal e of a line, with the line's number k
--   IsPlaced               == the line is a fixed word with two words behind it
use Rattle.std.specs.Prelude.{ℕ, ◌+◌, ◌≤◌, ◌<◌, ◌≡◌, ◌^◌, ⊤, List, [], ◌∷◌, length}
use Rattle.ml_base.specs.declared.doc_refusal.DocRefusal.{DocRefusal}
use Rattle.ml_base.specs.declared.doc_refusal.DocRefusal.TheVariants as refused
use Rattle.ml_base.specs.declared.version.Version.{Version}
use Rattle.ml_lines.specs.Faults.{IsFault}
use Rattle.ml_lines.specs.Lines.{Word, Line}
use Rattle.ml_lines.specs.Reading.{AreWords, lines_of, left_of, word}
use Rattle.ml_lists.specs.Documents.{IsFirstBroken}
use Rattle.ml_lists.specs.Readings.{IsReadTo}
use Rattle.ml_refutation.specs.Views.{decision_of}
use Rattle.ml_refutation_text.specs.BodyRules as body
use Rattle.ml_refutation_text.specs.BodyRules.{Place, AtNothing, rules}
use Rattle.ml_refutation_text.specs.RuleNumbers.{rule_number}
use Rattle.ml_refutation_text.specs.declared.body_rule.BodyRule.{BodyRule}
use Rattle.ml_refutation_text.specs.declared.rest.Rest.{Rest}
use Rattle.ml_lines.specs.declared.refusal.LineRefusal.{LineRefusal}
use Rattle.ml_lines.specs.declared.refusal.LineRefusal.TheVariants as line
use Rattle.ml_refutation_text.specs.declared.branches.Around.{Around}
use Rattle.ml_refutation_text.specs.declared.branches.Around.TheVariants as around

-- ---- what the program keeps

abbrev pub around_of : Around → body.Around
around_of (around.InLeft n) = body.InLeft n
around_of (around.InRight n left) = body.InRight n (decision_of left)

-- the splits that come behind others, further in
abbrev pub arounds_in : List body.Around → List Around → List body.Around
arounds_in outer [] = outer
arounds_in outer (a ∷ inner) = arounds_in (around_of a ∷ outer) inner

abbrev pub arounds_of : List Around → List body.Around
arounds_of splits = arounds_in [] splits

-- ---- from place to place

abbrev pub HasRoom : Rest → Type 0
HasRoom at = at.line + length at.text.now < 2 ^ 64

pub record IsNext (at : Rest) (line : Line) (rest : Rest) : Type 0 where
  pub begins : lines_of at.text.now ≡ line ∷ lines_of rest.text.now
  pub left_is : left_of at.text.now ≡ left_of rest.text.now
  pub counted : rest.line ≡ at.line + 1
  pub shorter : length rest.text.now + 1 ≤ length at.text.now

pub record Goes (v : Version) (p : Place) (at : Rest) (q : Place) (rest : Rest) : Type 0 where
  pub read : IsReadTo (body.body v (left_of at.text.now)) at.line p (lines_of at.text.now) rest.line q (lines_of rest.text.now)
  pub left_is : left_of at.text.now ≡ left_of rest.text.now
  pub room : rest.line + length rest.text.now ≤ at.line + length at.text.now

-- ---- refusals

abbrev pub IsUsual : Place → Type 0
IsUsual (AtNothing r) = ⊥
IsUsual _ = ⊤

abbrev pub Breaks : Place → Line → BodyRule → Type 0
Breaks p l rule = (left : List ℕ) → IsFirstBroken (rules left p) l (rule_number rule)

abbrev pub TellsRule : Place → Line → LineRefusal BodyRule → Type 0
TellsRule p l (line.Breaks rule) = Breaks p l rule
TellsRule p l line.NoMemory = ⊤

abbrev pub TellsFault : Version → Place → Rest → DocRefusal → Type 0
TellsFault v p at (refused.Fault fault) = IsFault (body.body v) at.line p at.text.now fault
TellsFault v p at refused.NoMemory = ⊤

abbrev pub at_line : ℕ → LineRefusal BodyRule → DocRefusal
at_line k (line.Breaks rule) = refused.Fault (record { line = k; rule = rule_number rule })
at_line k line.NoMemory = refused.NoMemory

-- ---- lines

abbrev pub IsPlaced : Word → Line → Type 0
IsPlaced fixed line = AreWords line × (line ≡ fixed ∷ word line 1 ∷ word line 2 ∷ [])
