-- The canonical text of a formula: every binary operator in parentheses, single blanks round it, and one blank behind X, F,
-- G, E and A.
--
--   tense_letter t     == `X`, `F` or `G`, as a byte
--   pairing_letter p   == `U`, `R` or `W`
--   quantifier_letter q == `E` or `A`
--   canonical_text f   == the canonical text of f
use Rattle.std.specs.Prelude.{ℕ, true, false, List, [], ◌∷◌, ◌++◌, codes}
use Rattle.ml_text.specs.Operators.{spelling_of}
use Rattle.ml_ctl.specs.Formula.{Formula, Const, Prop, Not, Binary, Temporal, Paired, Quantified}
use Rattle.ml_ctl.specs.declared.term.Tense.{Tense}
use Rattle.ml_ctl.specs.declared.term.Tense.TheVariants.{Next, Finally, Globally}
use Rattle.ml_ctl.specs.declared.term.Pairing.{Pairing}
use Rattle.ml_ctl.specs.declared.term.Pairing.TheVariants.{Until, Release, Weak}
use Rattle.ml_ctl.specs.declared.term.Quantifier.{Quantifier}
use Rattle.ml_ctl.specs.declared.term.Quantifier.TheVariants.{Exists, Forall}

abbrev pub tense_letter : Tense → ℕ
tense_letter Next = 88
tense_letter Finally = 70
tense_letter Globally = 71

abbrev pub pairing_letter : Pairing → ℕ
pairing_letter Until = 85
pairing_letter Release = 82
pairing_letter Weak = 87

abbrev pub quantifier_letter : Quantifier → ℕ
quantifier_letter Exists = 69
quantifier_letter Forall = 65

-- two texts with a sign between them
abbrev pub between : List ℕ → List ℕ → List ℕ → List ℕ
between left sign right = codes "(" ++ left ++ codes " " ++ sign ++ codes " " ++ right ++ codes ")"

abbrev pub canonical_text : Formula → List ℕ
canonical_text (Const true) = codes "tt"
canonical_text (Const false) = codes "ff"
canonical_text (Prop p) = p
canonical_text (Not f) = codes "!" ++ canonical_text f
canonical_text (Binary op f g) = between (canonical_text f) (spelling_of op) (canonical_text g)
canonical_text (Temporal t f) = tense_letter t ∷ codes " " ++ canonical_text f
canonical_text (Paired p f g) = between (canonical_text f) (pairing_letter p ∷ []) (canonical_text g)
canonical_text (Quantified q f) = quantifier_letter q ∷ codes " " ++ canonical_text f
