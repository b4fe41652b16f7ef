-- What is read answers questions of the specification.
--
--   begun_are       == what is due at first are questions of the items
--   behind_are, tail_are == what is due behind an answer are questions where those that were due are
--   lead_judgable   == answers that may stand one by one answer such, and fit the items
--   are_judgable    == so does what is stated
use Rattle.std.proofs.Common.{ℕ, Bool, List, [], ◌∷◌, drop, sym, subst}
use Rattle.std.specs.List.{AllByRecursion}
use Rattle.ml_front.specs.declared.problem.AnyFormula.{AnyFormula}
use Rattle.ml_spec.specs.Joined.{requirements}
use Rattle.ml_spec.specs.Questions.{asking, IsQuestion}
use Rattle.ml_spec.specs.declared.question.Question.{Question}
use Rattle.ml_spec.specs.declared.question.Question.TheVariants.{Consistent, Rest, Asks}
use Rattle.ml_spec.specs.declared.specification.Item.{Item}
use Rattle.ml_replies.specs.Replies.{Replied, Reply, LeftOpen, Met, Unmet}
use Rattle.ml_replies.proofs.SomeReplies.{all_asked}
use Rattle.ml_answers.specs.Due as due
use Rattle.ml_answers.specs.Due.{asked_of, begun, due_behind, with_consistency, AreAll, Due, Fits, LeadTo, MayStandFirst}
use Rattle.ml_answers.specs.declared.stated.Stated.{Stated}
use Rattle.ml_answers.specs.private.Judged.{FitsItems, IsJudgable}
use Rattle.ml_answers.specs.Stated.{replies_of}

pub begun_are : (xs : List Item) → AllByRecursion (IsQuestion xs) (begun xs).questions
begun_are xs = go (requirements xs)
  where
    go : (fs : List AnyFormula) → AllByRecursion (IsQuestion xs) (with_consistency fs (asking xs))
    go [] = all_asked xs
    go (f ∷ fs) = (tt, all_asked xs)

abbrev pub IsJudgableReply : List Item → Replied → Type 0
IsJudgableReply xs r = IsQuestion xs r.question × FitsItems xs r.reply

pub behind_are : (xs : List Item) (q : Question) (r : Reply) (qs : List Question)
    → AllByRecursion (IsQuestion xs) qs
    → AllByRecursion (IsQuestion xs) (due_behind q r qs)
behind_are xs (Asks n) r qs are = are
behind_are xs Consistent (Unmet c) qs are = (tt, are)
behind_are xs Rest (Unmet c) qs are = (tt, are)
behind_are xs Consistent (Met m s) qs are = are
behind_are xs Rest (Met m s) qs are = are
behind_are xs Consistent LeftOpen qs are = are
behind_are xs Rest LeftOpen qs are = are

fits_items : (xs : List Item) (S : ℕ → Bool) (q : Question) (r : Reply) → Fits xs S q r → FitsItems xs r
fits_items xs S q (Met m s) fits = tt
fits_items xs S q (Unmet c) fits = fits.are_told
fits_items xs S q LeftOpen fits = tt

pub tail_are : (xs : List Item) (qs : List Question) → AllByRecursion (IsQuestion xs) qs → AllByRecursion (IsQuestion xs) (drop 1 qs)
tail_are xs [] are = tt
tail_are xs (q ∷ qs) are = are.1

first_judgable : (xs : List Item) (R : ℕ → Bool) (qs : List Question) (r : Replied)
    → MayStandFirst xs R qs r
    → AllByRecursion (IsQuestion xs) qs
    → IsJudgableReply xs r
first_judgable xs R [] r may are = absurd may
first_judgable xs R (q ∷ qs) r may are =
    (subst (IsQuestion xs) (sym may.0) are.0, fits_items xs (asked_of R q) q r.reply may.1)

pub lead_judgable : (xs : List Item) (d e : Due) (rs : List Replied)
    → LeadTo xs d rs e
    → AllByRecursion (IsQuestion xs) d.questions
    → AllByRecursion (IsJudgableReply xs) rs
lead_judgable xs d e [] lead are = tt
lead_judgable xs d e (r ∷ rs) lead are = (
  first_judgable xs d.rest d.questions r lead.0 are,
  lead_judgable xs (due.behind d r) e rs lead.1
      (behind_are xs r.question r.reply (drop 1 d.questions) (tail_are xs d.questions are)),
)

all_stated : (xs : List Item) (stated : List Stated)
    → AllByRecursion (IsJudgableReply xs) (replies_of stated)
    → AllByRecursion (IsJudgable xs) stated
all_stated xs [] are = tt
all_stated xs (a ∷ stated) are =
    (record { is_question = are.0.0; fits = are.0.1 }, all_stated xs stated are.1)

pub are_judgable : (xs : List Item) (stated : List Stated) → AreAll xs (replies_of stated) → AllByRecursion (IsJudgable xs) stated
are_judgable xs stated all =
    all_stated xs stated (lead_judgable xs (begun xs) all.0 (replies_of stated) all.1 (begun_are xs))
