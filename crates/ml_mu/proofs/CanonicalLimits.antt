-- The canonical text of a formula passes no limit that the formula doesn't pass.
--
--   tokens_short  == the tokens of the canonical text of a formula with short names are short
--   few_open      == it opens at most as many parentheses as its formula has occurrences
use Rattle.std.proofs.Common.{◌≡◌, ℕ, ◌+◌, ◌≤◌, Bool, true, false, List, ◌∷◌, length, cond, codes, bytes_eq, refl, arith}
use Rattle.std.specs.List.{AllByRecursion}
use Rattle.ml_text.specs.declared.token.Token.TheVariants as token
use Rattle.ml_text.specs.Operators.{spelling_of}
use Rattle.ml_text.proofs.NamedSigns.{closed_word}
use Rattle.ml_text.proofs.Names.{short_parts}
use Rattle.ml_text.proofs.Pieces.{lone}
use Rattle.ml_text.proofs.TableItems.{IsShort, short_word, opening, opens_spelt}
use Rattle.ml_text.proofs.Scans.{Spelt}
use Rattle.ml_text.proofs.AcceptedTexts.{weight_some}
use Rattle.ml_mu.specs.Formula as plain
use Rattle.ml_mu.specs.Formula.{Formula, Modality, Diamond, Square, Fixpoint, Least, Greatest, occurrences}
use Rattle.ml_mu.specs.FormulaNames.{names}
use Rattle.ml_mu.specs.Canonical.{fixpoint_word}
use Rattle.ml_text.specs.Signs.{bracket_of, word_sign}
use Rattle.ml_mu.specs.Signs.{own}
use Rattle.ml_mu.proofs.CanonicalTexts.{action_tokens, begin_byte, end_byte, tokens_onto, sign_spelt}
use Rattle.ml_mu.specs.Spelling.{HasShortNames}

-- ---- the tokens of a canonical text are short

fixpoint_short : (q : Fixpoint) → IsShort (token.Word, fixpoint_word q)
fixpoint_short Least = refl
fixpoint_short Greatest = refl

action_short : (a : List ℕ) (ss : List Spelt)
    → length a ≤ 64
    → AllByRecursion IsShort ss
    → AllByRecursion IsShort (action_tokens a ss)
action_short a ss short all = go (bytes_eq a (codes "_"))
  where
    go : (b : Bool) → AllByRecursion IsShort (cond b ss ((token.Word, a) ∷ ss))
    go true = all
    go false = (short_word a short, all)

pub tokens_short : (f : Formula)
    → HasShortNames f
    → (ss : List Spelt)
    → AllByRecursion IsShort ss
    → AllByRecursion IsShort (tokens_onto f ss)
tokens_short (plain.Const true) short ss all = (refl, all)
tokens_short (plain.Const false) short ss all = (refl, all)
tokens_short (plain.Prop p) short ss all = (short_word p short.0, all)
tokens_short (plain.Var x) short ss all = (short_word x short.0, all)
tokens_short (plain.Not f) short ss all = (refl, tokens_short f short ss all)
tokens_short (plain.Binary o f g) short ss all =
    let parts = short_parts (names f) (names g) short in (
      refl,
      tokens_short f parts.0 ((token.Operator o, spelling_of o) ∷ tokens_onto g (lone 41 ∷ ss))
          (refl, tokens_short g parts.1 (lone 41 ∷ ss) (refl, all)),
    )
tokens_short (plain.Modal m a f) short ss all =
    (refl, action_short a (lone (end_byte m) ∷ tokens_onto f ss) short.0 (refl, tokens_short f short.1 ss all))
tokens_short (plain.Binder q x f) short ss all =
    (refl, (fixpoint_short q, (short_word x short.0, (refl, tokens_short f short.1 (lone 41 ∷ ss) (refl, all)))))

-- ---- parentheses

abbrev pub opens_of : List Spelt → ℕ
opens_of ss = opens_spelt (λ s. bracket_of own (sign_spelt s)) ss

closed : (w : List ℕ) → opening (bracket_of own (word_sign own w)) ≡ 0
closed w = closed_word own (refl, (refl, tt)) w

closed_begin : (m : Modality) → opening (bracket_of own (sign_spelt (lone (begin_byte m)))) ≡ 0
closed_begin Diamond = refl
closed_begin Square = refl

closed_end : (m : Modality) → opening (bracket_of own (sign_spelt (lone (end_byte m)))) ≡ 0
closed_end Diamond = refl
closed_end Square = refl

closed_action : (a : List ℕ) (ss : List Spelt) → opens_of (action_tokens a ss) ≡ opens_of ss
closed_action a ss = go (bytes_eq a (codes "_"))
  where
    go : (b : Bool) → opens_of (cond b ss ((token.Word, a) ∷ ss)) ≡ opens_of ss
    go true = refl
    go false = omega (arith, closed a)

pub few_open : (f : Formula) (ss : List Spelt) → opens_of (tokens_onto f ss) ≤ occurrences f + opens_of ss
few_open (plain.Const true) ss = omega (arith, closed (codes "tt"))
few_open (plain.Const false) ss = omega (arith, closed (codes "ff"))
few_open (plain.Prop p) ss = omega (arith, closed p)
few_open (plain.Var x) ss = omega (arith, closed x)
few_open (plain.Not f) ss = omega (arith, few_open f ss)
few_open (plain.Binary o f g) ss =
    omega (
      arith,
      weight_some o,
      few_open f ((token.Operator o, spelling_of o) ∷ tokens_onto g (lone 41 ∷ ss)),
      few_open g (lone 41 ∷ ss),
    )
few_open (plain.Modal m a f) ss =
    omega (arith, closed_begin m, closed_action a (lone (end_byte m) ∷ tokens_onto f ss), closed_end m, few_open f ss)
few_open (plain.Binder q x f) ss =
    omega (arith, closed (fixpoint_word q), closed x, few_open f (lone 41 ∷ ss))
