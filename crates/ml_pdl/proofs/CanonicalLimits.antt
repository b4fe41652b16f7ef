-- The canonical text of a formula passes no limit that the formula doesn't pass.
--
--   tokens_short  == the tokens of the canonical text of a formula with short names are short
--   few_open      == it opens at most as many parentheses as its formula has occurrences
use Rattle.std.proofs.Common.{◌≡◌, ℕ, ◌+◌, ◌≤◌, Bool, true, false, List, ◌∷◌, length, cond, codes, bytes_eq, refl, sym, subst, ⊎_elim, arith}
use Rattle.std.specs.List.{AllByRecursion}
use Rattle.ml_text.specs.declared.token.Token.TheVariants as token
use Rattle.ml_text.specs.declared.token.Placed.{Placed}
use Rattle.ml_text.specs.Operators.{spelling_of}
use Rattle.ml_text.proofs.NamedSigns.{closed_word}
use Rattle.ml_text.proofs.Names.{short_parts}
use Rattle.ml_text.proofs.Pieces.{lone}
use Rattle.ml_text.proofs.TableItems.{IsShort, short_word, opening, opens_spelt}
use Rattle.ml_text.proofs.Scans.{Spelt, spelt_at}
use Rattle.ml_text.proofs.AcceptedTexts.{weight_some}
use Rattle.ml_pdl.specs.Formula as plain
use Rattle.ml_pdl.specs.Formula.{Formula, Program, occurrences, program_occurrences}
use Rattle.ml_pdl.specs.FormulaNames.{names, program_names}
use Rattle.ml_pdl.specs.declared.term.Modality.{Modality}
use Rattle.ml_pdl.specs.declared.term.Modality.TheVariants.{Diamond, Square}
use Rattle.ml_pdl.specs.Marks.{is_test_behind, with_mark}
use Rattle.ml_text.specs.Signs.{bracket_of, word_sign}
use Rattle.ml_text.specs.declared.named_signs.Sign.TheVariants.{Open}
use Rattle.ml_pdl.specs.Signs.{Sign, own as added}
use Rattle.ml_pdl.specs.Text.{sign_at, sign_by, signs_behind}
use Rattle.ml_pdl.proofs.CanonicalTexts.{action_token, whole_tokens, whole_cases, IsWhole, begin_byte, end_byte, tokens_onto, program_onto, sign_spelt}
use Rattle.ml_pdl.specs.Spelling.{HasShortNames, ProgramHasShortNames}

-- ---- the tokens of a canonical text are short

action_short : (a : List ℕ) → length a ≤ 64 → IsShort (action_token a)
action_short a short = go (bytes_eq a (codes "_"))
  where
    go : (b : Bool) → IsShort (cond b (lone 95) (token.Word, a))
    go true = refl
    go false = short_word a short

whole_short : (p : Program) (own after : List Spelt)
    → AllByRecursion IsShort own
    → AllByRecursion IsShort after
    → AllByRecursion IsShort (whole_tokens p own after)
whole_short p own after a b =
    ⊎_elim
    (λ (is_blank : p ≡ plain.Act (codes "_")). subst (λ q. AllByRecursion IsShort (whole_tokens q own after)) (sym is_blank) b)
    (λ (w : IsWhole p). subst (AllByRecursion IsShort) (sym (w.toks own after)) a)
    (whole_cases p)

mutual
  pub tokens_short : (f : Formula)
      → HasShortNames f
      → (ss : List Spelt)
      → AllByRecursion IsShort ss
      → AllByRecursion IsShort (tokens_onto f ss)
  tokens_short (plain.Const true) short ss all = (refl, all)
  tokens_short (plain.Const false) short ss all = (refl, all)
  tokens_short (plain.Prop p) short ss all = (short_word p short.0, all)
  tokens_short (plain.Not f) short ss all = (refl, tokens_short f short ss all)
  tokens_short (plain.Binary o f g) short ss all =
      let parts = short_parts (names f) (names g) short in (
        refl,
        tokens_short f parts.0 ((token.Operator o, spelling_of o) ∷ tokens_onto g (lone 41 ∷ ss))
            (refl, tokens_short g parts.1 (lone 41 ∷ ss) (refl, all)),
      )
  tokens_short (plain.Modal m p f) short ss all =
      let after = lone (end_byte m) ∷ tokens_onto f ss in
      let parts = short_parts (program_names p) (names f) short in
      let rest : AllByRecursion IsShort after = (refl, tokens_short f parts.1 ss all) in
      (refl, whole_short p (program_onto p after) after (program_short p parts.0 after rest) rest)
  tokens_short (plain.Repeat p) short ss all = (refl, (refl, program_short p short (lone 41 ∷ ss) (refl, all)))

  pub program_short : (p : Program)
      → ProgramHasShortNames p
      → (ss : List Spelt)
      → AllByRecursion IsShort ss
      → AllByRecursion IsShort (program_onto p ss)
  program_short (plain.Act a) short ss all = (action_short a short.0, all)
  program_short (plain.Seq p q) short ss all =
      let parts = short_parts (program_names p) (program_names q) short in
      (refl, program_short p parts.0 (lone 59 ∷ program_onto q (lone 41 ∷ ss)) (refl, program_short q parts.1 (lone 41 ∷ ss) (refl, all)))
  program_short (plain.Alt p q) short ss all =
      let parts = short_parts (program_names p) (program_names q) short in
      (refl, program_short p parts.0 (lone 43 ∷ program_onto q (lone 41 ∷ ss)) (refl, program_short q parts.1 (lone 41 ∷ ss) (refl, all)))
  program_short (plain.Star p) short ss all = program_short p short (lone 42 ∷ ss) (refl, all)
  program_short (plain.Test f) short ss all =
      (refl, tokens_short f short (lone 41 ∷ lone 63 ∷ ss) (refl, (refl, all)))

-- ---- parentheses

abbrev pub opens_of : List Spelt → ℕ
opens_of ss = opens_spelt (λ s. bracket_of added (sign_spelt s)) ss

-- a mark changes no bracket
marked_bracket : (b : Bool) (s : Sign) → bracket_of added (with_mark b s) ≡ bracket_of added s
marked_bracket b Open = refl
marked_bracket b _ = refl

pub token_bracket : (text : List ℕ) (p : Placed)
    → bracket_of added (sign_at text p) ≡ bracket_of added (sign_spelt (spelt_at text p))
token_bracket text p = marked_bracket (is_test_behind 0 (signs_behind text p.end)) (sign_by text p)

closed : (w : List ℕ) → opening (bracket_of added (word_sign added w)) ≡ 0
closed w = closed_word added (refl, tt) w

closed_begin : (m : Modality) → opening (bracket_of added (sign_spelt (lone (begin_byte m)))) ≡ 0
closed_begin Diamond = refl
closed_begin Square = refl

closed_end : (m : Modality) → opening (bracket_of added (sign_spelt (lone (end_byte m)))) ≡ 0
closed_end Diamond = refl
closed_end Square = refl

closed_action : (a : List ℕ) → opening (bracket_of added (sign_spelt (action_token a))) ≡ 0
closed_action a = go (bytes_eq a (codes "_"))
  where
    go : (b : Bool) → opening (bracket_of added (sign_spelt (cond b (lone 95) (token.Word, a)))) ≡ 0
    go true = refl
    go false = closed a

-- a whole program has as many as it has, or none
whole_open : (p : Program) (own after : List Spelt) (n : ℕ)
    → opens_of own ≤ n + opens_of after
    → opens_of (whole_tokens p own after) ≤ n + opens_of after
whole_open p own after n le =
    ⊎_elim
    (λ (is_blank : p ≡ plain.Act (codes "_")). subst (λ q. opens_of (whole_tokens q own after) ≤ n + opens_of after) (sym is_blank) (omega arith))
    (λ (w : IsWhole p). subst (λ l. opens_of l ≤ n + opens_of after) (sym (w.toks own after)) le)
    (whole_cases p)

mutual
  pub few_open : (f : Formula) (ss : List Spelt) → opens_of (tokens_onto f ss) ≤ occurrences f + opens_of ss
  few_open (plain.Const true) ss = omega (arith, closed (codes "tt"))
  few_open (plain.Const false) ss = omega (arith, closed (codes "ff"))
  few_open (plain.Prop p) ss = omega (arith, closed p)
  few_open (plain.Not f) ss = omega (arith, few_open f ss)
  few_open (plain.Binary o f g) ss =
      omega (
        arith,
        weight_some o,
        few_open f ((token.Operator o, spelling_of o) ∷ tokens_onto g (lone 41 ∷ ss)),
        few_open g (lone 41 ∷ ss),
      )
  few_open (plain.Modal m p f) ss =
      let after = lone (end_byte m) ∷ tokens_onto f ss in
      let own = program_few p after in
      omega (arith, closed_begin m, closed_end m, whole_open p (program_onto p after) after (program_occurrences p) own, few_open f ss)
  few_open (plain.Repeat p) ss = omega (arith, closed (codes "repeat"), program_few p (lone 41 ∷ ss))

  pub program_few : (p : Program) (ss : List Spelt) → opens_of (program_onto p ss) ≤ program_occurrences p + opens_of ss
  program_few (plain.Act a) ss = omega (arith, closed_action a)
  program_few (plain.Seq p q) ss =
      omega (arith, program_few p (lone 59 ∷ program_onto q (lone 41 ∷ ss)), program_few q (lone 41 ∷ ss))
  program_few (plain.Alt p q) ss =
      omega (arith, program_few p (lone 43 ∷ program_onto q (lone 41 ∷ ss)), program_few q (lone 41 ∷ ss))
  program_few (plain.Star p) ss = omega (arith, program_few p (lone 42 ∷ ss))
  program_few (plain.Test f) ss = omega (arith, few_open f (lone 41 ∷ lone 63 ∷ ss))
