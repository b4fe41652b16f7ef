-- Lines of answers, and what they tell.
--
--   no_answer_word, no_answer_words == words that are no answer
--   not_words, not_behind, not_answer == lines that are none of a question
--   line_of_kind     == a line with an answer behind the words of its question is of the kind
--   names_missing    == where no marks name items by the words behind `because`, the line is that of no answer
--   told_names       == where marks do, they are told
--   made_fits        == an answer of which a line tells may stand there, and the line is its line
--   some_made        == there is one
--   some_parts_of    == marks make some parts
use Rattle.std.proofs.Common.{◌≡◌, ◌≢◌, ℕ, ◌+◌, Bool, true, not, List, [], ◌∷◌, ◌++◌, codes, length, map, inl, inr, refl, sym, ap, subst, ◌∙◌}
use Rattle.std.specs.List.{list_any}
use Rattle.std.proofs.lemmas.List.{append_cancel_left}
use Rattle.ml_base.specs.Structure.{Structure}
use Rattle.ml_lines.specs.Lines.{Line, Word}
use Rattle.ml_lines.specs.Reading.{AreWords}
use Rattle.ml_lists.specs.Documents.{IsFirstBroken}
use Rattle.ml_refutation.specs.Refutation.{Refutation}
use Rattle.ml_spec.specs.declared.question.Question.{Question}
use Rattle.ml_spec.specs.declared.specification.Item.{Item}
use Rattle.ml_replies.specs.Replies.{Core, Part, Reply, LeftOpen, Met, StillMet, StillOpen, Unmet}
use Rattle.ml_answers.specs.Due.{is_of_conflict, Fits, FitsCore}
use Rattle.ml_answers.specs.Lines.{because_words, line_of, perhaps_words, question_words, wants_structure, yes_or_no}
use Rattle.ml_answers.specs.RuleNumbers.{rule_number}
use Rattle.ml_answers.specs.Rules.{answer_rules, replied, HasNames, IsAnswer, IsAnswerLine}
use Rattle.ml_answers.specs.private.Marks.{is_named, MarkedBy}
use Rattle.ml_answers.specs.private.Reads.{AreAnswerWords, ArePartsOf, IsAnswerOf, IsMadeOf, IsTold}
use Rattle.ml_answers.specs.private.Words.{words_left}
use Rattle.ml_answers.specs.declared.line.AnswerWords.{AnswerWords}
use Rattle.ml_answers.specs.declared.line.AnswerWords.TheVariants as answer
use Rattle.ml_answers.specs.declared.line.ToldLine.{ToldLine}
use Rattle.ml_answers.specs.declared.line.ToldLine.TheVariants as told
use Rattle.ml_answers.specs.declared.names.Mark.{Mark}
use Rattle.ml_answers.specs.declared.names.Mark.TheVariants.{Unnamed, Needed, Perhaps}
use Rattle.ml_answers.specs.declared.names.Names.{Names}
use Rattle.ml_answers.specs.declared.rule.AnswersRule.TheVariants as rule
use Rattle.ml_answers.specs.declared.rule.AnswersRule.TheVariants.{OfKind}
use Rattle.std.specs.Global.{Vec}
use Rattle.ml_answers.proofs.MarkedCores.{core_fits, core_marks, parts_words, some_named}

-- ---- words of answers

pub no_answer_word : (wants : Bool) (w : Word)
    → w ≢ yes_or_no wants
    → w ≢ codes "open"
    → ¬ (IsAnswer wants (w ∷ []))
no_answer_word wants w not_yes is_open (inl e) = let same : w ≡ yes_or_no wants = cc in not_yes same
no_answer_word wants w not_yes is_open (inr (inl e)) = let same : w ≡ codes "open" = cc in is_open same
no_answer_word wants w not_yes is_open (inr (inr (ws, e))) = absurd cc

pub no_answer_words : (wants : Bool) (words : Line)
    → length words ≢ 1
    → ((ws : Line) → ¬ (words ≡ yes_or_no (not wants) ∷ codes "because" ∷ ws))
    → ¬ (IsAnswer wants words)
no_answer_words wants words long other (inl e) = long (ap length e)
no_answer_words wants words long other (inr (inl e)) = long (ap length e)
no_answer_words wants words long other (inr (inr (ws, e))) = other ws e

-- ---- lines of questions

module _ (xs : List Item) (q : Question) (line : Line) where
  pub not_words : ¬ (AreWords line) → ¬ (IsAnswerLine xs q line)
  not_words ne = λ is. ne is.are_words

  pub not_behind : ((w : Word) (ws : Line) → ¬ (line ≡ question_words xs q ++ w ∷ ws)) → ¬ (IsAnswerLine xs q line)
  not_behind none = λ is. by is.answer is.is_line is.is_answer
    where
      by : (a : Line) → line ≡ question_words xs q ++ a → IsAnswer (wants_structure xs q) a → ⊥
      by a is (inl e) = none (yes_or_no (wants_structure xs q)) [] (is ∙ ap (λ ws. question_words xs q ++ ws) e)
      by a is (inr (inl e)) = none (codes "open") [] (is ∙ ap (λ ws. question_words xs q ++ ws) e)
      by a is (inr (inr (ws, e))) =
          none (yes_or_no (not (wants_structure xs q))) (codes "because" ∷ ws)
          (is ∙ ap (λ ws. question_words xs q ++ ws) e)

  pub not_answer : (a : Line)
      → line ≡ question_words xs q ++ a
      → ¬ (IsAnswer (wants_structure xs q) a)
      → ¬ (IsAnswerLine xs q line)
  not_answer a is none = λ other.
      none (subst (IsAnswer (wants_structure xs q))
      (append_cancel_left (question_words xs q) other.answer a (sym other.is_line ∙ is)) other.is_answer)

  by_words : (a : Line) (words : AnswerWords)
      → IsAnswerOf (wants_structure xs q) a words
      → IsAnswer (wants_structure xs q) a
  by_words a answer.Structure is = inl is
  by_words a (answer.Names names) is = inr (inr (words_left names, is))
  by_words a answer.LeftOpen is = inr (inl is)

  pub line_of_kind : (words : AnswerWords) → AreAnswerWords xs q line words → IsAnswerLine xs q line
  line_of_kind words is = record {
    are_words = is.are_words;
    answer = is.answer;
    is_line = is.is_line;
    is_answer = by_words is.answer words is.is_answer;
  }

  pub not_of_kind : (S : ℕ → Bool)
      → ¬ (IsAnswerLine xs q line)
      → IsFirstBroken (answer_rules xs S q) line (rule_number OfKind)
  not_of_kind S ne = inl (refl, ne)

  -- ---- names

  module _ (S : ℕ → Bool) (ws : Line) (is : line ≡ question_words xs q ++ yes_or_no (not (wants_structure xs q)) ∷ codes "because" ∷ ws) where
    -- the same words behind those of the question
    behind : (vs : Line)
        → line ≡ question_words xs q ++ vs
        → vs ≡ yes_or_no (not (wants_structure xs q)) ∷ codes "because" ∷ ws
    behind vs e =
        append_cancel_left (question_words xs q) vs (yes_or_no (not (wants_structure xs q)) ∷ codes "because" ∷ ws)
        (sym e ∙ is)

    named_by : (c : Core) → FitsCore xs S q c → line ≡ line_of xs (replied q (Unmet c))
        → (ms : List Mark) × MarkedBy S (is_of_conflict q) xs ms ws
    named_by c fits e =
        let made = core_marks S xs q c fits in
        let names = because_words xs c.parts ++ perhaps_words xs c.parts in
        let same = behind (yes_or_no (not (wants_structure xs q)) ∷ codes "because" ∷ names) e in
        let words : names ≡ ws = cc in (
          made.0,
          record {
            are_marks = made.1.are_marks;
            are_words = sym words ∙ parts_words S xs made.0 c.parts made.1.are_marks made.1.parts;
            some_named = λ want. by made.0 c.parts (fits.some_named want) made.1.parts;
          },
        )
      where
        by : (ms : List Mark) (ps : List Part) → ps ≢ [] → ArePartsOf 0 ms ps → list_any is_named ms ≡ true
        by ms [] some parts = absurd (some refl)
        by ms (p ∷ ps) some parts = some_named 0 ms p ps parts

    pub names_missing : ((ms : List Mark) → ¬ (MarkedBy S (is_of_conflict q) xs ms ws)) → ¬ (HasNames xs S q line)
    names_missing none = λ has. by has.0 has.1 has.2
      where
        by : (r : Reply) → Fits xs S q r → line ≡ line_of xs (replied q r) → ⊥
        by (Met m s) fits e =
            let same = behind (yes_or_no (wants_structure xs q) ∷ []) e in absurd cc
        by LeftOpen fits e = let same = behind (codes "open" ∷ []) e in absurd cc
        by (Unmet c) fits e = let named = named_by c fits e in none named.0 named.1

    pub names_broken : (words : AnswerWords)
        → AreAnswerWords xs q line words
        → ((ms : List Mark) → ¬ (MarkedBy S (is_of_conflict q) xs ms ws))
        → IsFirstBroken (answer_rules xs S q) line (rule_number rule.Names)
    names_broken words are none = inr (line_of_kind words are, inl (refl, names_missing none))

-- ---- answers of which a line tells

pub made_fits : (xs : List Item) (S : ℕ → Bool) (q : Question) (line : Line) (t : ToldLine) (r : Reply)
    → IsTold xs S q line t
    → IsMadeOf t r
    → Fits xs S q r × (line ≡ line_of xs (replied q r))
made_fits xs S q line told.Structure (Met m s) is made = (tt, is)
made_fits xs S q line told.Structure (Unmet c) is made = absurd made
made_fits xs S q line told.Structure LeftOpen is made = absurd made
made_fits xs S q line (told.Names ms) (Met m s) is made = absurd made
made_fits xs S q line (told.Names ms) (Unmet c) is made =
    let marked = is.2 in (
      core_fits S xs q ms.items c marked.are_marks marked.some_named made.0 made.1,
      is.1
          ∙ ap (λ ws. question_words xs q ++ yes_or_no (not (wants_structure xs q)) ∷ codes "because" ∷ ws)
          (marked.are_words ∙ sym (parts_words S xs ms.items c.parts marked.are_marks made.1)),
    )
made_fits xs S q line (told.Names ms) LeftOpen is made = absurd made
made_fits xs S q line told.LeftOpen (Met m s) is made = absurd made
made_fits xs S q line told.LeftOpen (Unmet c) is made = absurd made
made_fits xs S q line told.LeftOpen LeftOpen is made = (tt, is)

no_states : Structure
no_states = record { states = 0; labels = []; edges = [] }

no_entries : Refutation
no_entries = record { names = 0; entries = [] }

pub some_parts_of : (n : ℕ) (ms : List Mark) → (ps : List Part) × ArePartsOf n ms ps
some_parts_of n [] = ([], refl)
some_parts_of n (Unnamed ∷ ms) = some_parts_of (n + 1) ms
some_parts_of n (Needed ∷ ms) =
    let rest = some_parts_of (n + 1) ms in
    (record { requirement = n; without = StillMet no_states 0 } ∷ rest.0, (refl, refl, rest.1))
some_parts_of n (Perhaps ∷ ms) =
    let rest = some_parts_of (n + 1) ms in
    (record { requirement = n; without = StillOpen } ∷ rest.0, (refl, refl, rest.1))

pub some_made : (t : ToldLine) → (r : Reply) × IsMadeOf t r
some_made told.Structure = (Met no_states 0, tt)
some_made (told.Names ms) =
    let parts = some_parts_of 0 ms.items in
    (Unmet (record { taken = map is_named ms.items; parts = parts.0; refutation = no_entries }), (refl, parts.1))
some_made told.LeftOpen = (LeftOpen, tt)

pub told_names : (xs : List Item) (S : ℕ → Bool) (q : Question) (line : Line) (names : Names) (ms : Vec Mark) (wants : Bool)
    → AreAnswerWords xs q line (answer.Names names)
    → wants ≡ is_of_conflict q
    → MarkedBy S wants xs ms.items (words_left names)
    → IsTold xs S q line (told.Names ms)
told_names xs S q line names ms wants are is marked = (
  words_left names,
  are.is_line ∙ ap (λ ws. question_words xs q ++ ws) are.is_answer,
  subst (λ w. MarkedBy S w xs ms.items (words_left names)) is marked,
)

pub names_told_none : (xs : List Item) (S : ℕ → Bool) (q : Question) (line : Line) (names : Names) (wants : Bool)
    → AreAnswerWords xs q line (answer.Names names)
    → wants ≡ is_of_conflict q
    → ((ms : List Mark) → ¬ (MarkedBy S wants xs ms (words_left names)))
    → IsFirstBroken (answer_rules xs S q) line (rule_number rule.Names)
names_told_none xs S q line names wants are is none =
    names_broken xs q line S (words_left names) (are.is_line ∙ ap (λ ws. question_words xs q ++ ws) are.is_answer)
    (answer.Names names) are
    (λ ms marked. none ms (subst (λ w. MarkedBy S w xs ms (words_left names)) (sym is) marked))
