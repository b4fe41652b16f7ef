-- Bytes that stand in no word: a blank, a line end and others.
--
--   word_without        == such a byte doesn't stand in what begins as a word and goes on as one
--   upper_without, proposition_without, action_without == nor in names of any kind
--   each_spelling       == what holds of the spelling of each connective
use Rattle.std.proofs.Common.{◌≡◌, ℕ, ◌==◌, ◌||◌, true, false, List, [], ◌∷◌, codes, bytes_eq, refl, sym, subst, ⊎_elim}
use Rattle.std.specs.List.{list_all, list_any}
use Rattle.std.proofs.lemmas.Bool.{and_from, and_parts, cases_Bool, or_left}
use Rattle.std.proofs.lemmas.Slice.Eq.{bytes_eq-Decides}
use Rattle.ml_lists.proofs.Absent.{absent}
use Rattle.ml_text.specs.Bytes.{is_digit, is_letter, is_word_byte}
use Rattle.ml_text.specs.Operators.{spelling_of}
use Rattle.ml_text.specs.SignKinds.{is_action}
use Rattle.ml_text.specs.Signs.{OwnSigns, is_proposition, is_reserved, is_upper_word}
use Rattle.ml_text.specs.Words.{is_word_from}
use Rattle.ml_text.specs.declared.token.Operator.{Operator}
use Rattle.ml_text.specs.declared.token.Operator.TheVariants as operator
use Rattle.ml_text.proofs.FirstLetters.{upper_letters}
use Rattle.ml_text.proofs.FreeWords.{of_action, proposition_letters}

module _ (c : ℕ) (no_byte : is_word_byte c ≡ false) where
  abbrev Without : List ℕ → Type 0
  Without w = list_any (λ b. b == c) w ≡ false

  pub word_without : (w : List ℕ) → is_word_from is_letter w ≡ true → Without w
  word_without [] is = absurd (cc)
  word_without (b ∷ bs) is =
      let parts = and_parts (is_letter b) (list_all is_word_byte bs) is in
      absent is_word_byte c no_byte (b ∷ bs)
      (and_from (is_word_byte b) (list_all is_word_byte bs)
      (or_left (is_letter b || is_digit b) (b == 95) (or_left (is_letter b) (is_digit b) parts.0)) parts.1)

  pub upper_without : (x : List ℕ) → is_upper_word x ≡ true → Without x
  upper_without x is = word_without x (upper_letters x is)

  module _ {X : Type 0} (own : OwnSigns X) where
    pub proposition_without : (p : List ℕ) → is_proposition own p ≡ true → Without p
    proposition_without p is = word_without p (proposition_letters p (is_reserved own p) is)

    pub action_without : (a : List ℕ) → is_action own a ≡ true → Without a
    action_without a is =
        ⊎_elim
        (λ (any : bytes_eq a (codes "_") ≡ true).
        subst Without (sym ((bytes_eq-Decides a (codes "_")).0 any)) (absent is_word_byte c no_byte (codes "_") refl))
        (λ (other : bytes_eq a (codes "_") ≡ false).
        word_without a (of_action (Unit {0}) a (is_reserved own a) is other (λ lower. tt) (λ upper. tt)).0)
        (cases_Bool (bytes_eq a (codes "_")))

pub each_spelling : (P : List ℕ → Type 0)
    → P (codes "<->")
    → P (codes "->")
    → P (codes "|")
    → P (codes "&")
    → (o : Operator)
    → P (spelling_of o)
each_spelling P iff implies either both operator.Iff = iff
each_spelling P iff implies either both operator.Implies = implies
each_spelling P iff implies either both operator.Or = either
each_spelling P iff implies either both operator.And = both
