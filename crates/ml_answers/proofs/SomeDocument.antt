-- A text is a document of answers, or has a fault.
--
--   some_end       == a text is the line `end`, or has a fault there
--   ReadFrom xs d text == the text is made of answers behind which nothing is due, where d is due, and `end`
--   FaultFrom xs d k text == it has a fault, behind good answers
--   read_or_fault  == one of the two
--   IsRead xs text == the text is a document of answers to questions of the items xs
--   some_document  == a text that begins with the title is a document, or has a fault
use Rattle.std.proofs.Common.{◌≡◌, ◌≢◌, ℕ, zero, suc, ◌+◌, ◌<◌, ◌⊎◌, Bool, List, [], ◌∷◌, ◌++◌, codes, length, inl, inr, refl, sym, ap, subst, ◌∙◌, arith}
use Rattle.std.proofs.lemmas.List.{append-nil, append_assoc, length-append}
use Rattle.ml_base.specs.declared.doc_fault.DocFault.{DocFault}
use Rattle.ml_lines.specs.Lines.{line_text}
use Rattle.ml_lines.proofs.DecidedWords.{decided_line}
use Rattle.ml_lists.proofs.Decided.{Decided}
use Rattle.ml_spec.specs.declared.question.Question.{Question}
use Rattle.ml_spec.specs.declared.specification.Item.{Item}
use Rattle.ml_replies.specs.Replies.{Replied}
use Rattle.ml_answers.specs.Checked.{AreTexts}
use Rattle.ml_answers.specs.Documents.{last_line, title_line, AreBlocks, IsBlock}
use Rattle.ml_answers.specs.Due.{asked_of, begun, due_behind, rest_behind, AreAll, Due, LeadTo}
use Rattle.ml_answers.specs.Lines.{line_of}
use Rattle.ml_answers.specs.RuleNumbers.{rule_number}
use Rattle.ml_answers.specs.Rules.{replied, IsAnswersFault, IsBehind, IsDueFault, IsEndFault}
use Rattle.ml_answers.specs.Texts.{line_count, next_line, one_text, IsLine, IsThen}
use Rattle.ml_answers.specs.declared.rule.AnswersRule.TheVariants.{OfKind}
use Rattle.ml_answers.proofs.Marking.{AreNamed, Differ}
use Rattle.ml_answers.proofs.Reading.{count_append, other_line}
use Rattle.ml_answers.proofs.SomeAnswer.{some_answer, AnswerOrFault, TakenAnswer}
use Rattle.ml_answers.proofs.SomeBody.{FaultOf}
use Rattle.ml_answers.proofs.TextFronts.{line_is_there, some_line, Taken}

-- ---- the line `end`

not_nothing : (b : ℕ) (bs : List ℕ) → b ∷ bs ≢ []
not_nothing b bs = λ e. cc

abbrev EndOrFault : ℕ → List ℕ → Type 0
EndOrFault k text = (text ≡ line_text last_line) ⊎ FaultOf IsEndFault k text

pub some_end : (k : ℕ) (text : List ℕ) → EndOrFault k text
some_end k text = by (decided_line (next_line text) last_line)
  where
    behind : (rest : List ℕ) → text ≡ line_text last_line ++ rest → EndOrFault k text
    behind [] both = inl (both ∙ append-nil (line_text last_line))
    behind (b ∷ bs) both =
        inr (
          record { line = k + line_count (line_text last_line); rule = rule_number OfKind },
          inr (record {
            front = line_text last_line;
            rest = b ∷ bs;
            are_both = both;
            is_front = refl;
            is_fault = (not_nothing b bs, refl, refl);
          }),
        )

    by : Decided (next_line text ≡ last_line) → EndOrFault k text
    by (inr other) =
        inr (
          record { line = k; rule = rule_number OfKind },
          inl (refl, other_line (next_line text) last_line other),
        )
    by (inl is) = let there = line_is_there text (codes "end") [] is in behind there.0 there.1

-- ---- answers

pub record ReadFrom (xs : List Item) (d : Due) (text : List ℕ) : Type 0 where
  pub replies : List Replied
  pub texts : List (List ℕ)
  pub end : Due
  pub lead : LeadTo xs d replies end
  pub none_due : end.questions ≡ []
  pub are_texts : AreTexts xs replies texts
  pub is_text : text ≡ one_text texts ++ line_text last_line

pub record FaultFrom (xs : List Item) (d : Due) (k : ℕ) (text : List ℕ) : Type 0 where
  pub fault : DocFault
  pub replies : List Replied
  pub end : Due
  pub lead : LeadTo xs d replies end
  pub is_fault : IsBehind (AreBlocks xs replies) (IsDueFault xs end) k text fault

abbrev pub ReadOrFault : List Item → Due → ℕ → List ℕ → Type 0
ReadOrFault xs d k text = ReadFrom xs d text ⊎ FaultFrom xs d k text

-- a text with an answer is not empty
block_some : (xs : List Item) (r : Replied) (text : List ℕ) → IsBlock xs r text → 0 < length text
block_some xs r text is =
    omega (
      arith,
      ap length is.are_both,
      length-append is.first is.second,
      ap length is.is_first,
      some_line (line_of xs r),
    )

shorter : (xs : List Item) (r : Replied) (text : List ℕ)
    → (taken : Taken (IsBlock xs r) text)
    → length taken.rest < length text
shorter xs r text taken =
    omega (
      arith,
      ap length taken.are_both,
      length-append taken.front taken.rest,
      block_some xs r taken.front taken.is_front,
    )

-- nothing but a fault stands where d is due
fault_here : (xs : List Item) (d : Due) (k : ℕ) (text : List ℕ) (fault : DocFault)
    → IsDueFault xs d k text fault
    → FaultFrom xs d k text
fault_here xs d k text fault is =
    let same : k ≡ k + line_count [] = omega arith in
    record {
      fault = fault;
      replies = [];
      end = d;
      lead = refl;
      is_fault = record {
        front = [];
        rest = text;
        are_both = refl;
        is_front = refl;
        is_fault = subst (λ n. IsDueFault xs d n text fault) same is;
      };
    }

-- a whole document
pub record IsRead (xs : List Item) (text : List ℕ) : Type 0 where
  pub replies : List Replied
  pub texts : List (List ℕ)
  pub are_all : AreAll xs replies
  pub are_texts : AreTexts xs replies texts
  pub is_text : text ≡ line_text title_line ++ (one_text texts ++ line_text last_line)

module _ (xs : List Item) (differ : Differ xs) (named : AreNamed xs) where
  -- no question is due
  at_end : (R : ℕ → Bool) (k : ℕ) (text : List ℕ) → EndOrFault k text
      → ReadOrFault xs (record { rest = R; questions = [] }) k text
  at_end R k text (inl is) =
      inl (record {
        replies = [];
        texts = [];
        end = record { rest = R; questions = [] };
        lead = refl;
        none_due = refl;
        are_texts = tt;
        is_text = is;
      })
  at_end R k text (inr (fault, is)) = inr (fault_here xs (record { rest = R; questions = [] }) k text fault is)

  -- q is due, and answered
  module _ (R : ℕ → Bool) (q : Question) (qs : List Question) (k : ℕ) (text : List ℕ) (is : TakenAnswer xs (asked_of R q) q text) where
    abbrev now : Due
    now = record { rest = R; questions = q ∷ qs }

    abbrev later : Due
    later = record { rest = rest_behind R q is.reply; questions = due_behind q is.reply qs }

    read_behind : ReadFrom xs later is.taken.rest → ReadFrom xs now text
    read_behind read = record {
      replies = replied q is.reply ∷ read.replies;
      texts = is.taken.front ∷ read.texts;
      end = read.end;
      lead = ((refl, is.fits), read.lead);
      none_due = read.none_due;
      are_texts = (is.taken.is_front, read.are_texts);
      is_text =
          is.taken.are_both
          ∙ ap (λ t. is.taken.front ++ t) read.is_text
          ∙ sym (append_assoc is.taken.front (one_text read.texts) (line_text last_line));
    }

    fault_behind : FaultFrom xs later (k + line_count is.taken.front) is.taken.rest → FaultFrom xs now k text
    fault_behind found =
        let b = found.is_fault in
        let line : k + line_count is.taken.front + line_count b.front ≡ k + line_count (is.taken.front ++ b.front) =
        omega (arith, count_append is.taken.front b.front) in
        record {
          fault = found.fault;
          replies = replied q is.reply ∷ found.replies;
          end = found.end;
          lead = ((refl, is.fits), found.lead);
          is_fault = record {
            front = is.taken.front ++ b.front;
            rest = b.rest;
            are_both =
                is.taken.are_both
                ∙ ap (λ t. is.taken.front ++ t) b.are_both
                ∙ sym (append_assoc is.taken.front b.front b.rest);
            is_front = record {
              first = is.taken.front;
              second = b.front;
              are_both = refl;
              is_first = is.taken.is_front;
              is_second = b.is_front;
            };
            is_fault = subst (λ n. IsDueFault xs found.end n b.rest found.fault) line b.is_fault;
          };
        }

    both_behind : ReadOrFault xs later (k + line_count is.taken.front) is.taken.rest → ReadOrFault xs now k text
    both_behind (inl read) = inl (read_behind read)
    both_behind (inr found) = inr (fault_behind found)

  -- with less text left
  abbrev Reads : ℕ → Type 0
  Reads n = (R : ℕ → Bool) (qs : List Question) (k : ℕ) (text : List ℕ)
      → length text < n
      → ReadOrFault xs (record { rest = R; questions = qs }) k text

  step : (n : ℕ) (R : ℕ → Bool) (q : Question) (qs : List Question) (k : ℕ) (text : List ℕ)
      → length text < suc n
      → Reads n
      → AnswerOrFault xs (asked_of R q) q k text
      → ReadOrFault xs (record { rest = R; questions = q ∷ qs }) k text
  step n R q qs k text short again (inl is) =
      both_behind R q qs k text is
      (again (rest_behind R q is.reply) (due_behind q is.reply qs) (k + line_count is.taken.front) is.taken.rest
      (omega (arith, short, shorter xs (replied q is.reply) text is.taken)))
  step n R q qs k text short again (inr (fault, is)) =
      inr (fault_here xs (record { rest = R; questions = q ∷ qs }) k text fault is)

  read_within : (n : ℕ) → Reads n
  read_within zero R qs k text short = absurd (omega (arith, short))
  read_within (suc n) R [] k text short = at_end R k text (some_end k text)
  read_within (suc n) R (q ∷ qs) k text short =
      step n R q qs k text short (read_within n) (some_answer xs (asked_of R q) q k text differ named)

  pub read_or_fault : (d : Due) (k : ℕ) (text : List ℕ) → ReadOrFault xs d k text
  read_or_fault d k text = read_within (length text + 1) d.rest d.questions k text (omega arith)

  -- ---- the title

  pub some_document : (k : ℕ) (text : List ℕ)
      → IsThen (IsLine title_line) (λ t. Unit {0}) text
      → IsRead xs text ⊎ FaultOf (IsAnswersFault xs) k text
  some_document k text title = by (read_or_fault (begun xs) (k + line_count title.first) title.second)
    where
      by : ReadOrFault xs (begun xs) (k + line_count title.first) title.second
          → IsRead xs text ⊎ FaultOf (IsAnswersFault xs) k text
      by (inl read) =
          inl (record {
            replies = read.replies;
            texts = read.texts;
            are_all = (read.end, read.lead, read.none_due);
            are_texts = read.are_texts;
            is_text =
                title.are_both
                ∙ ap (λ t. t ++ title.second) title.is_first
                ∙ ap (λ t. line_text title_line ++ t) read.is_text;
          })
      by (inr found) =
          inr (
            found.fault,
            (
              found.replies,
              found.end,
              found.lead,
              record {
                front = title.first;
                rest = title.second;
                are_both = title.are_both;
                is_front = title.is_first;
                is_fault = found.is_fault;
              },
            ),
          )
