-- What holds of canonical texts and of what is parsed, in the mu-calculus, beside the laws of `ml_text/specs/Answers`.
--
--   CanonicalStandsForOne == the canonical text of a formula stands for it and for no other
--   ParsedAreWellFormed   == the formulas that are parsed are well formed
--   CanonicalIsParsed     == the canonical text of a well-formed formula is parsed as it
use Rattle.std.specs.Prelude.{ℕ, ◌≡◌, List, IsTrue}
use Rattle.ml_mu.specs.Canonical.{canonical_text}
use Rattle.ml_mu.specs.Formula.{Formula}
use Rattle.ml_mu.specs.Parsing.{IsParsedAs}
use Rattle.ml_mu.specs.Spelling.{is_spelled}
use Rattle.ml_mu.specs.TextLaws.{IsTextOf}
use Rattle.ml_mu.specs.WellFormed.{IsWellFormed}

-- the canonical text of a formula whose names are spelled as they must be stands for it, and for no other
abbrev pub CanonicalStandsForOne : Type 0
CanonicalStandsForOne = (f g : Formula) → IsTrue (is_spelled f) → IsTextOf (canonical_text f) f × (IsTextOf (canonical_text f) g → g ≡ f)

-- the formulas that are parsed are well formed
abbrev pub ParsedAreWellFormed : Type 0
ParsedAreWellFormed = (text : List ℕ) (f : Formula) → IsParsedAs text f → IsWellFormed f

-- the canonical text of a well-formed formula is parsed as it
abbrev pub CanonicalIsParsed : Type 0
CanonicalIsParsed = (f : Formula) → IsWellFormed f → IsParsedAs (canonical_text f) f
