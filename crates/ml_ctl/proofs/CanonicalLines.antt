-- The canonical text of a formula of CTL* or LTL has no line end in it.
--
--   canonical_in_line  == where its names are spelled as they must be, it stands in one line
use Rattle.std.proofs.Common.{◌≡◌, true, false, [], ◌∷◌, codes, refl}
use Rattle.std.specs.Cmp.{first_so}
use Rattle.ml_ctl.specs.Canonical.{canonical_text, pairing_letter, quantifier_letter, tense_letter}
use Rattle.ml_ctl.specs.Formula as plain
use Rattle.ml_ctl.specs.Formula.{Formula}
use Rattle.ml_ctl.specs.FormulaNames.{names}
use Rattle.ml_ctl.specs.declared.term.Tense.{Tense}
use Rattle.ml_ctl.specs.declared.term.Tense.TheVariants.{Next, Finally, Globally}
use Rattle.ml_ctl.specs.declared.term.Pairing.{Pairing}
use Rattle.ml_ctl.specs.declared.term.Pairing.TheVariants.{Until, Release, Weak}
use Rattle.ml_ctl.specs.declared.term.Quantifier.{Quantifier}
use Rattle.ml_ctl.specs.declared.term.Quantifier.TheVariants.{Exists, Forall}
use Rattle.ml_ctl.specs.Signs.{own}
use Rattle.ml_ctl.specs.Spelling.{is_proposition, is_spelled}
use Rattle.ml_lines.proofs.InLine.{between_in_line, both_in_line}
use Rattle.ml_lines.proofs.LineFronts.{IsInLine}
use Rattle.ml_text.specs.Operators.{spelling_of}
use Rattle.ml_text.proofs.Names.{spelled_parts}
use Rattle.ml_text.proofs.WithoutByte.{each_spelling, proposition_without}

pairing_in_line : (p : Pairing) → IsInLine (pairing_letter p ∷ [])
pairing_in_line Until = refl
pairing_in_line Release = refl
pairing_in_line Weak = refl

tense_in_line : (t : Tense) → IsInLine (tense_letter t ∷ codes " ")
tense_in_line Next = refl
tense_in_line Finally = refl
tense_in_line Globally = refl

quantifier_in_line : (q : Quantifier) → IsInLine (quantifier_letter q ∷ codes " ")
quantifier_in_line Exists = refl
quantifier_in_line Forall = refl

pub canonical_in_line : (f : Formula) → is_spelled f ≡ true → IsInLine (canonical_text f)
canonical_in_line (plain.Const true) is = refl
canonical_in_line (plain.Const false) is = refl
canonical_in_line (plain.Prop p) is = proposition_without 10 refl own p (first_so (is_proposition p) true is)
canonical_in_line (plain.Not f) is = canonical_in_line f is
canonical_in_line (plain.Binary o f g) is =
    let parts = spelled_parts own (names f) (names g) is in
    between_in_line (canonical_text f) (spelling_of o) (canonical_text g) (canonical_in_line f parts.0) (each_spelling IsInLine refl refl refl refl o)
    (canonical_in_line g parts.1)
canonical_in_line (plain.Temporal t f) is =
    both_in_line (tense_letter t ∷ codes " ") (canonical_text f) (tense_in_line t) (canonical_in_line f is)
canonical_in_line (plain.Paired p f g) is =
    let parts = spelled_parts own (names f) (names g) is in
    between_in_line (canonical_text f) (pairing_letter p ∷ []) (canonical_text g) (canonical_in_line f parts.0) (pairing_in_line p)
    (canonical_in_line g parts.1)
canonical_in_line (plain.Quantified q f) is =
    both_in_line (quantifier_letter q ∷ codes " ") (canonical_text f) (quantifier_in_line q) (canonical_in_line f is)
