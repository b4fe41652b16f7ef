-- Answers that are found right are those of their specification.
--
--   are_sound     == what a refutation that is accepted refutes can't be met
--   right_is_true == where `Right` is found, the answers are those of the specification
use Rattle.std.proofs.Common.{◌≡◌, ℕ, ◌+◌, ◌≤◌, ◌++◌, List, Option, None, Some, codes, length, take, drop, refl, sym, subst}
use Rattle.std.proofs.lemmas.List.{take-append-drop}
use Rattle.ml_front.proofs.Graphs.{meaningful}
use Rattle.ml_front.specs.declared.logic.Logic.{Logic}
use Rattle.ml_lines.specs.Lines.{line_text}
use Rattle.ml_refute_check.proofs.Refuted.{refuted_is_unsatisfiable}
use Rattle.ml_spec.specs.Questions.{joined_of}
use Rattle.ml_spec.specs.Specification.{IsSpecification}
use Rattle.ml_spec.specs.declared.specification.Item.{Item}
use Rattle.ml_replies.specs.Meeting.{everything, problem_of, AreWellFormed}
use Rattle.ml_replies.specs.Replies.{AreReplies, Replied}
use Rattle.ml_replies.proofs.WellFormedItems.{items_well}
use Rattle.ml_replies.proofs.WellFormedJoins.{joined_well}
use Rattle.ml_answers.specs.Checked.{lines_from, longest_specification, placed, IsCheckedAs, IsFoundFrom, IsVerdict}
use Rattle.ml_answers.specs.Documents.{last_line, title_line}
use Rattle.ml_answers.specs.Laws.{IsOf, RightIsTrue}
use Rattle.ml_answers.specs.Texts.{first_line, line_count, one_text}
use Rattle.ml_answers.specs.declared.finding.AnswersFinding.TheVariants.{Right}
use Rattle.ml_answers.proofs.AnswerTexts.{as_many, blocks_of}
use Rattle.ml_answers.proofs.RightAnswers.{asking_both, blocks_have, replies_so, Sound}
use Rattle.ml_answers.proofs.WholeLines.{whole_before}

pub are_sound : (l : Logic) (xs : List Item) → AreWellFormed xs → Sound l xs
are_sound l xs well S q r question is_refutation refuted =
    refuted_is_unsatisfiable (problem_of l xs S q) refuted.is_accepted.graph r
    (meaningful (joined_of l S xs q) (joined_well l xs S q well question refuted.is_held))
    refuted.is_accepted.is_graph is_refutation refuted.is_accepted.holds

module _ (text : List ℕ) (at : ℕ) (there : first_line (codes "mlsolver answers 1") text ≡ Some at)
    (short : length (take at text) ≤ longest_specification) (l : Logic) (xs : List Item)
    (specified : IsSpecification (take at text) l xs)
    (checked : IsCheckedAs l xs (1 + line_count (take at text)) (drop at text) Right) where
  pub whole_is : IsOf text l xs checked.replies
  whole_is = let read = checked.are_answers in record {
    spec = take at text;
    document = drop at text;
    are_both = sym (take-append-drop at text);
    is_short = short;
    is_whole = whole_before text at there;
    is_specification = specified;
    is_document = record {
      first = line_text title_line;
      second = one_text read.texts ++ line_text last_line;
      are_both = read.is_text;
      is_first = refl;
      is_second = record {
        first = one_text read.texts;
        second = line_text last_line;
        are_both = refl;
        is_first = blocks_of xs checked.replies read.texts read.are_texts;
        is_second = refl;
      };
    };
  }

  pub replies_are : (n : ℕ) → AreReplies l xs n checked.replies
  replies_are n =
      let read = checked.are_answers in
      replies_so l xs n
      (are_sound l xs (items_well (take at text) l xs specified))
      checked.replies
      (lines_from (1 + line_count (take at text) + 1) read.texts)
      read.are_all.0
      (as_many xs checked.replies read.texts (1 + line_count (take at text) + 1) read.are_texts)
      read.are_all.1
      read.are_all.2
      (asking_both xs)
      (blocks_have xs checked.replies (one_text read.texts) (blocks_of xs checked.replies read.texts read.are_texts))
      (subst (λ ks. IsVerdict l xs (placed everything checked.replies ks) Right) read.are_lines checked.is_verdict)

pub right_is_true : RightIsTrue
right_is_true text found = by (first_line (codes "mlsolver answers 1") text) refl found
  where
    by : (o : Option ℕ)
        → first_line (codes "mlsolver answers 1") text ≡ o
        → IsFoundFrom o text Right
        → (l : Logic) × (xs : List Item) × (rs : List Replied) × IsOf text l xs rs × ((n : ℕ) → AreReplies l xs n rs)
    by None there found = absurd found
    by (Some at) there (short, (l, xs, specified, checked)) = (
      l,
      xs,
      checked.replies,
      whole_is text at there short l xs specified checked,
      replies_are text at there short l xs specified checked,
    )
