-- What holds of canonical texts and of what is parsed, in CTL* and LTL, beside the laws of `ml_text/specs/Answers`.
--
--   CanonicalStandsForOne == the canonical text of a formula stands for it and for no other
--   ParsedAreWellFormed   == the formulas that are parsed are well formed
--   CanonicalIsParsed     == the canonical text of a well-formed formula is parsed as it
use Rattle.std.specs.Prelude.{ℕ, ◌≡◌, List, IsTrue}
use Rattle.ml_ctl.specs.Canonical.{canonical_text}
use Rattle.ml_ctl.specs.Formula.{Formula}
use Rattle.ml_ctl.specs.Sorts.{is_of}
use Rattle.ml_ctl.specs.Parsing.{IsParsedAs}
use Rattle.ml_ctl.specs.Spelling.{is_spelled}
use Rattle.ml_ctl.specs.TextLaws.{IsTextOf}
use Rattle.ml_ctl.specs.WellFormed.{IsWellFormed}
use Rattle.ml_ctl.specs.declared.language.Language.{Language}

-- the canonical text of a formula of the logic whose names are spelled as they must be stands for it, and for no other
abbrev pub CanonicalStandsForOne : Type 0
CanonicalStandsForOne = (w : Language) (f g : Formula) → IsTrue (is_spelled f) → IsTrue (is_of w f)
    → IsTextOf w (canonical_text f) f × (IsTextOf w (canonical_text f) g → g ≡ f)

-- the formulas that are parsed are well formed
abbrev pub ParsedAreWellFormed : Type 0
ParsedAreWellFormed = (w : Language) (text : List ℕ) (f : Formula) → IsParsedAs w text f → IsWellFormed w f

-- the canonical text of a well-formed formula is parsed as it
abbrev pub CanonicalIsParsed : Type 0
CanonicalIsParsed = (w : Language) (f : Formula) → IsWellFormed w f → IsParsedAs w (canonical_text f) f
