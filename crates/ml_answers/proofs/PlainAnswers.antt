-- The words of answers have bytes, and neither blanks nor LFs.
--
--   IsGood w          == so it is of the word w
--   name_good         == of a name
--   question_good     == of the words of a question
--   reply_good        == of those of an answer
--   good_plain        == a line of such words is plain
--   good_words        == and has no empty word
--   without_plain     == the line `without` is plain, whichever item it names
--   answer_plain      == so is the line of an answer
--   answer_keeps      == and it breaks no rule
use Rattle.std.proofs.Common.{◌≡◌, ℕ, zero, suc, ◌+◌, ◌||◌, ◌&&◌, ◌==◌, nat_le, Bool, true, false, not, List, [], ◌∷◌, ◌++◌, Option, None, Some, codes, length, slice_get, inl, inr, refl, sym, subst}
use Rattle.std.specs.List.{list_all, AllByRecursion}
use Rattle.std.proofs.lemmas.Bool.{and_from, and_parts, false≢true, or_left}
use Rattle.std.proofs.lemmas.Option.{none-some}
use Rattle.ml_base.specs.Name.{longest_name}
use Rattle.ml_lines.specs.Lines.{Line, Word}
use Rattle.ml_lines.specs.Reading.{is_word, AreWords}
use Rattle.ml_lines.proofs.PlainWords.{plain_line, ArePlainWords, Plain}
use Rattle.ml_lines.proofs.Unique.{IsPlain}
use Rattle.ml_lists.proofs.Absent.{absent}
use Rattle.ml_lists.specs.Documents.{KeepsAll}
use Rattle.ml_spec.specs.Items.{is_name, is_name_byte}
use Rattle.ml_spec.specs.Kinds.{kind_word}
use Rattle.ml_spec.specs.Questions.{IsQuestion}
use Rattle.ml_spec.specs.declared.kind.Kind.{Kind}
use Rattle.ml_spec.specs.declared.kind.Kind.TheVariants as kind
use Rattle.ml_spec.specs.declared.question.Question.{Question}
use Rattle.ml_spec.specs.declared.question.Question.TheVariants.{Consistent, Rest, Asks}
use Rattle.ml_spec.specs.declared.specification.Item.{Item}
use Rattle.ml_replies.specs.Replies.{Core, Reply, LeftOpen, Met, Unmet}
use Rattle.ml_answers.specs.Documents.{without_line}
use Rattle.ml_answers.specs.Due.{Fits, FitsCore}
use Rattle.ml_answers.specs.Lines.{asked_name, because_words, first_word, line_of, name_at, name_of, perhaps_words, question_words, reply_words, wants_structure, word_of, yes_or_no}
use Rattle.ml_answers.specs.Rules.{answer_rules, replied, IsAnswer}
use Rattle.ml_answers.specs.private.Marks.{is_needed, is_unsettled, names_by, or_dash, perhaps}
use Rattle.ml_answers.proofs.MarkedCores.{core_marks, parts_words}
use Rattle.ml_answers.proofs.Marking.{names_named, AreNamed}

-- ---- words

abbrev pub IsGood : Word → Type 0
IsGood w = Plain w × (is_word w ≡ true)

abbrev pub AreGood : List Word → Type 0
AreGood ws = AllByRecursion IsGood ws

-- as in names of items
abbrev is_letter : ℕ → Bool
is_letter b = (nat_le 97 b && nat_le b 122) || (nat_le 65 b && nat_le b 90)

abbrev is_digit : ℕ → Bool
is_digit b = nat_le 48 b && nat_le b 57

name_bytes : (w : Word) → is_name w ≡ true → list_all is_name_byte w ≡ true
name_bytes [] e = absurd (false≢true e)
name_bytes (b ∷ bs) e =
    let parts =
    and_parts (is_letter b && list_all is_name_byte bs) (nat_le (length (b ∷ bs)) longest_name) e in
    let bytes = and_parts (is_letter b) (list_all is_name_byte bs) parts.0 in
    let first : is_name_byte b ≡ true =
    or_left (((is_letter b || is_digit b) || (b == 95)) || (b == 45)) (b == 46)
    (or_left ((is_letter b || is_digit b) || (b == 95)) (b == 45)
    (or_left (is_letter b || is_digit b) (b == 95) (or_left (is_letter b) (is_digit b) bytes.0))) in
    and_from (is_name_byte b) (list_all is_name_byte bs) first bytes.1

name_word : (w : Word) → is_name w ≡ true → is_word w ≡ true
name_word [] e = absurd (false≢true e)
name_word (b ∷ bs) e = refl

pub name_good : (w : Word) → is_name w ≡ true → IsGood w
name_good w e =
    let bytes = name_bytes w e in
    ((absent is_name_byte 32 refl w bytes, absent is_name_byte 10 refl w bytes), name_word w e)

names_good : (ws : List Word) → AllByRecursion (λ w. is_name w ≡ true) ws → AreGood ws
names_good [] named = tt
names_good (w ∷ ws) named = (name_good w named.0, names_good ws named.1)

both_good : (ws vs : List Word) → AreGood ws → AreGood vs → AreGood (ws ++ vs)
both_good [] vs one other = other
both_good (w ∷ ws) vs one other = (one.0, both_good ws vs one.1 other)

dash_good : (ws : List Word) → AreGood ws → AreGood (or_dash ws)
dash_good [] good = (((refl, refl), refl), tt)
dash_good (w ∷ ws) good = good

perhaps_good : (ws : List Word) → AreGood ws → AreGood (perhaps ws)
perhaps_good [] good = tt
perhaps_good (w ∷ ws) good = (((refl, refl), refl), good)

kind_good : (k : Kind) → IsGood (kind_word k)
kind_good kind.Require = ((refl, refl), refl)
kind_good kind.Possible = ((refl, refl), refl)
kind_good kind.Follows = ((refl, refl), refl)

yes_good : (b : Bool) → IsGood (yes_or_no b)
yes_good true = ((refl, refl), refl)
yes_good false = ((refl, refl), refl)

-- ---- lines

pub good_plain : (w : Word) (ws : Line) → AreGood (w ∷ ws) → IsPlain (w ∷ ws)
good_plain w ws good = plain_line w ws (all (w ∷ ws) good)
  where
    all : (vs : List Word) → AreGood vs → ArePlainWords vs
    all [] good = tt
    all (v ∷ vs) good = (good.0.0, all vs good.1)

pub good_words : (ws : Line) → AreGood ws → AreWords ws
good_words [] good = refl
good_words (w ∷ ws) good = and_from (is_word w) (list_all is_word ws) good.0.1 (good_words ws good.1)

-- ---- items

there_named : (xs : List Item) (n : ℕ) (x : Item) → AreNamed xs → slice_get xs n ≡ Some x → is_name x.name ≡ true
there_named [] n x named at = absurd (none-some x at)
there_named (y ∷ ys) zero x named at =
    let same : y ≡ x = cc in subst (λ (z : Item). is_name z.name ≡ true) same named.0
there_named (y ∷ ys) (suc n) x named at = there_named ys n x named.1 at

name_plain_of : (o : Option Item) → ((x : Item) → o ≡ Some x → is_name x.name ≡ true) → Plain (name_of o)
name_plain_of None named = (refl, refl)
name_plain_of (Some x) named = (name_good x.name (named x refl)).0

pub without_plain : (xs : List Item) → AreNamed xs → (n : ℕ) → IsPlain (without_line xs n)
without_plain xs named n =
    plain_line (codes "without") (name_at xs n ∷ [])
    ((refl, refl), (name_plain_of (slice_get xs n) (λ x at. there_named xs n x named at), tt))

-- ---- questions and answers

module _ (xs : List Item) (named : AreNamed xs) where
  pub question_good : (q : Question) → IsQuestion xs q → AreGood (question_words xs q)
  question_good Consistent is = (((refl, refl), refl), tt)
  question_good Rest is = (((refl, refl), refl), tt)
  question_good (Asks n) is = (
    subst (λ o. IsGood (word_of o)) (sym is.1) (kind_good is.0.kind),
    (subst (λ o. IsGood (name_of o)) (sym is.1) (name_good is.0.name (there_named xs n is.0 named is.1)), tt),
  )

  core_good : (S : ℕ → Bool) (q : Question) (c : Core)
      → FitsCore xs S q c
      → AreGood (because_words xs c.parts ++ perhaps_words xs c.parts)
  core_good S q c fits =
      let made = core_marks S xs q c fits in
      let ns = names_by is_needed xs made.0 in
      let us = names_by is_unsettled xs made.0 in
      subst AreGood (sym (parts_words S xs made.0 c.parts made.1.are_marks made.1.parts))
      (both_good (or_dash ns) (perhaps us)
      (dash_good ns (names_good ns (names_named is_needed xs made.0 named)))
      (perhaps_good us (names_good us (names_named is_unsettled xs made.0 named))))

  pub reply_good : (S : ℕ → Bool) (q : Question) (wants : Bool) (r : Reply) → Fits xs S q r → AreGood (reply_words xs wants r)
  reply_good S q wants (Met m s) fits = (yes_good wants, tt)
  reply_good S q wants (Unmet c) fits =
      (yes_good (not wants), (((refl, refl), refl), core_good S q c fits))
  reply_good S q wants LeftOpen fits = (((refl, refl), refl), tt)

  module _ (S : ℕ → Bool) (q : Question) (asked : IsQuestion xs q) (r : Reply) (fits : Fits xs S q r) where
    answer_good : AreGood (line_of xs (replied q r))
    answer_good =
        both_good (question_words xs q) (reply_words xs (wants_structure xs q) r) (question_good q asked)
        (reply_good S q (wants_structure xs q) r fits)

    pub answer_plain : IsPlain (line_of xs (replied q r))
    answer_plain =
        good_plain (first_word xs q) (asked_name xs q ++ reply_words xs (wants_structure xs q) r) answer_good

    pub answer_keeps : KeepsAll (answer_rules xs S q) (line_of xs (replied q r))
    answer_keeps = (
      record {
        are_words = good_words (line_of xs (replied q r)) answer_good;
        answer = reply_words xs (wants_structure xs q) r;
        is_line = refl;
        is_answer = by (wants_structure xs q) r;
      },
      ((r, fits, refl), tt),
    )
      where
        by : (wants : Bool) (r : Reply) → IsAnswer wants (reply_words xs wants r)
        by wants (Met m s) = inl refl
        by wants (Unmet c) = inr (inr (because_words xs c.parts ++ perhaps_words xs c.parts, refl))
        by wants LeftOpen = inr (inl refl)
