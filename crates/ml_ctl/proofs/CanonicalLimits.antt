-- The canonical text of a formula passes no limit that the formula doesn't pass.
--
--   tokens_short  == the tokens of the canonical text of a formula with short names are short
--   few_open      == it opens at most as many parentheses as its formula has occurrences
use Rattle.std.proofs.Common.{◌≡◌, ℕ, ◌+◌, ◌≤◌, true, false, List, ◌∷◌, codes, refl, arith}
use Rattle.std.specs.List.{AllByRecursion}
use Rattle.ml_text.specs.declared.token.Token.TheVariants as token
use Rattle.ml_text.specs.Operators.{spelling_of}
use Rattle.ml_text.proofs.NamedSigns.{closed_word}
use Rattle.ml_text.proofs.Names.{short_parts}
use Rattle.ml_text.proofs.Pieces.{lone}
use Rattle.ml_text.proofs.TableItems.{IsShort, short_word, opening, opens_spelt}
use Rattle.ml_text.proofs.Scans.{Spelt}
use Rattle.ml_text.proofs.AcceptedTexts.{weight_some}
use Rattle.ml_ctl.specs.Canonical.{tense_letter, pairing_letter, quantifier_letter}
use Rattle.ml_ctl.specs.Formula as plain
use Rattle.ml_ctl.specs.Formula.{Formula, occurrences}
use Rattle.ml_ctl.specs.FormulaNames.{names}
use Rattle.ml_ctl.specs.declared.term.Tense.{Tense}
use Rattle.ml_ctl.specs.declared.term.Tense.TheVariants as tense
use Rattle.ml_ctl.specs.declared.term.Pairing.{Pairing}
use Rattle.ml_ctl.specs.declared.term.Pairing.TheVariants as pairing
use Rattle.ml_ctl.specs.declared.term.Quantifier.{Quantifier}
use Rattle.ml_ctl.specs.declared.term.Quantifier.TheVariants as quantifier
use Rattle.ml_text.specs.Signs.{bracket_of, word_sign}
use Rattle.ml_ctl.specs.Signs.{own}
use Rattle.ml_ctl.specs.Spelling.{HasShortNames}
use Rattle.ml_ctl.proofs.CanonicalTexts.{tokens_onto, sign_spelt}

-- ---- the tokens of a canonical text are short

pub tokens_short : (f : Formula)
    → HasShortNames f
    → (ss : List Spelt)
    → AllByRecursion IsShort ss
    → AllByRecursion IsShort (tokens_onto f ss)
tokens_short (plain.Const true) short ss all = (refl, all)
tokens_short (plain.Const false) short ss all = (refl, all)
tokens_short (plain.Prop p) short ss all = (short_word p short.0, all)
tokens_short (plain.Not f) short ss all = (refl, tokens_short f short ss all)
tokens_short (plain.Binary o f g) short ss all =
    let parts = short_parts (names f) (names g) short in (
      refl,
      tokens_short f parts.0 ((token.Operator o, spelling_of o) ∷ tokens_onto g (lone 41 ∷ ss))
          (refl, tokens_short g parts.1 (lone 41 ∷ ss) (refl, all)),
    )
tokens_short (plain.Temporal t f) short ss all = (refl, tokens_short f short ss all)
tokens_short (plain.Paired p f g) short ss all =
    let parts = short_parts (names f) (names g) short in (
      refl,
      tokens_short f parts.0 (lone (pairing_letter p) ∷ tokens_onto g (lone 41 ∷ ss))
          (refl, tokens_short g parts.1 (lone 41 ∷ ss) (refl, all)),
    )
tokens_short (plain.Quantified q f) short ss all = (refl, tokens_short f short ss all)

-- ---- parentheses

abbrev pub opens_of : List Spelt → ℕ
opens_of ss = opens_spelt (λ s. bracket_of own (sign_spelt s)) ss

closed : (w : List ℕ) → opening (bracket_of own (word_sign own w)) ≡ 0
closed w = closed_word own tt w

closed_tense : (t : Tense) → opening (bracket_of own (sign_spelt (lone (tense_letter t)))) ≡ 0
closed_tense tense.Next = refl
closed_tense tense.Finally = refl
closed_tense tense.Globally = refl

closed_pairing : (p : Pairing) → opening (bracket_of own (sign_spelt (lone (pairing_letter p)))) ≡ 0
closed_pairing pairing.Until = refl
closed_pairing pairing.Release = refl
closed_pairing pairing.Weak = refl

closed_quantifier : (q : Quantifier) → opening (bracket_of own (sign_spelt (lone (quantifier_letter q)))) ≡ 0
closed_quantifier quantifier.Exists = refl
closed_quantifier quantifier.Forall = refl

pub few_open : (f : Formula) (ss : List Spelt) → opens_of (tokens_onto f ss) ≤ occurrences f + opens_of ss
few_open (plain.Const true) ss = omega (arith, closed (codes "tt"))
few_open (plain.Const false) ss = omega (arith, closed (codes "ff"))
few_open (plain.Prop p) ss = omega (arith, closed p)
few_open (plain.Not f) ss = omega (arith, few_open f ss)
few_open (plain.Binary o f g) ss =
    let left = few_open f ((token.Operator o, spelling_of o) ∷ tokens_onto g (lone 41 ∷ ss)) in
    let right = few_open g (lone 41 ∷ ss) in
    omega (arith, weight_some o, left, right)
few_open (plain.Temporal t f) ss = omega (arith, closed_tense t, few_open f ss)
few_open (plain.Paired p f g) ss =
    let left = few_open f (lone (pairing_letter p) ∷ tokens_onto g (lone 41 ∷ ss)) in
    let right = few_open g (lone 41 ∷ ss) in
    omega (arith, closed_pairing p, left, right)
few_open (plain.Quantified q f) ss = omega (arith, closed_quantifier q, few_open f ss)
