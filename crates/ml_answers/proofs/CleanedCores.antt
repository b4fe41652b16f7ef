-- Answers whose conflicts name requirements alone.
--
-- The flags of a conflict may tell of items that are no requirements, of which nothing stands in a document. Without these a
-- conflict says the same.
--
--   cleaned_flags xs bs == the flags bs of the requirements among the items xs
--   cleaned_core, cleaned_reply, cleaned xs == a conflict and an answer with these
--   cleaned_agree    == these flags agree with those before, on the requirements
--   reply_cleaned    == what answers a question does so with them, asked of the requirements of a set that agrees
--   fits_cleaned     == and it may stand in the question's line
--   block_cleaned    == where the same text stands
use Rattle.std.proofs.Common.{◌≡◌, ◌≢◌, ℕ, zero, suc, ◌<◌, Bool, true, false, ◌&&◌, List, [], ◌∷◌, ◌++◌, length, map, refl, sym, ap, subst, ◌∙◌, arith}
use Rattle.std.specs.List.{AllByRecursion}
use Rattle.std.proofs.lemmas.Bool.{and_from, and_parts, false≢true}
use Rattle.ml_front.specs.Connectives.{joined}
use Rattle.ml_front.specs.Graphs.{OfGraph}
use Rattle.ml_front.specs.Problems.{IsSatisfiable}
use Rattle.ml_front.specs.declared.logic.Logic.{Logic}
use Rattle.ml_refutation.specs.Acceptance.{IsAccepted}
use Rattle.ml_spec.specs.Joined.{requirements}
use Rattle.ml_spec.specs.Questions.{asked_by, chosen, is_in}
use Rattle.ml_spec.specs.declared.question.Question.{Question}
use Rattle.ml_spec.specs.declared.question.Question.TheVariants.{Consistent, Rest, Asks}
use Rattle.ml_spec.specs.declared.specification.Item.{Item}
use Rattle.ml_replies.specs.Meeting.{plain, numbers_in, without, CanStayOpen, IsHeld, IsSmall}
use Rattle.ml_replies.specs.Replies as replies
use Rattle.ml_replies.specs.Replies.{Core, IsCore, IsPart, IsReply, Part, Replied, Reply, LeftOpen, Met, StillMet, StillOpen, Unmet, Without}
use Rattle.ml_replies.proofs.Taken.{flags, flags_among, flags_are, length-flags}
use Rattle.ml_replies.proofs.Truth.{truth_met}
use Rattle.ml_answers.specs.Documents.{IsBlock}
use Rattle.ml_answers.specs.Due.{is_of_conflict, is_required, Fits}
use Rattle.ml_answers.proofs.AlikeRequirements.{agree_without, none_required, numbers_alike, problem_alike, requirements_alike, AgreeOn}
use Rattle.ml_answers.proofs.SameSets.{shown_same}

abbrev pub named_in : List Item → List Bool → ℕ → Bool
named_in xs taken k = is_required xs k && is_in taken k

abbrev pub cleaned_flags : List Item → List Bool → List Bool
cleaned_flags xs taken = flags (named_in xs taken) (length xs)

abbrev pub cleaned_core : List Item → Core → Core
cleaned_core xs c = record { taken = cleaned_flags xs c.taken; parts = c.parts; refutation = c.refutation }

abbrev pub cleaned_reply : List Item → Reply → Reply
cleaned_reply xs (Met m s) = Met m s
cleaned_reply xs (Unmet c) = Unmet (cleaned_core xs c)
cleaned_reply xs LeftOpen = LeftOpen

abbrev pub cleaned : List Item → Replied → Replied
cleaned xs r = record { question = r.question; reply = cleaned_reply xs r.reply }

-- ---- the flags

required_within : (xs : List Item) (k : ℕ) → is_required xs k ≡ true → k < length xs
required_within [] k required = absurd (false≢true required)
required_within (x ∷ xs) zero required = omega arith
required_within (x ∷ xs) (suc k) required = omega (arith, required_within xs k required)

pub cleaned_agree : (xs : List Item) (taken : List Bool) → AgreeOn xs (is_in taken) (is_in (cleaned_flags xs taken))
cleaned_agree xs taken k required =
    sym
    (flags_are (named_in xs taken) (length xs) k (required_within xs k required)
    ∙ ap (λ b. b && is_in taken k) required)

cleaned_among : (xs : List Item) (taken : List Bool) (k : ℕ)
    → is_in (cleaned_flags xs taken) k ≡ true
    → (is_required xs k ≡ true) × (is_in taken k ≡ true)
cleaned_among xs taken k e =
    and_parts (is_required xs k) (is_in taken k) (flags_among (named_in xs taken) (length xs) k e)

-- ---- answers

module _ (l : Logic) (xs : List Item) (n : ℕ) where
  part_alike : (S T : ℕ → Bool) (q : Question) (w : Without)
      → AgreeOn xs S T
      → replies.IsWithout l xs n S q w
      → replies.IsWithout l xs n T q w
  part_alike S T q (StillMet m s) agree is = shown_same l xs S T q m s (requirements_alike S T xs agree) is
  part_alike S T q StillOpen agree is = subst (CanStayOpen n) (problem_alike S T l xs q agree) is

  parts_alike : (S T : ℕ → Bool) (q : Question) (ps : List Part)
      → AgreeOn xs S T
      → AllByRecursion (IsPart l xs n S q) ps
      → AllByRecursion (IsPart l xs n T q) ps
  parts_alike S T q [] agree are = tt
  parts_alike S T q (p ∷ ps) agree are = (
    part_alike (without S p.requirement) (without T p.requirement) q p.without (agree_without xs S T p.requirement agree) are.0,
    parts_alike S T q ps agree are.1,
  )

  module _ (S T : ℕ → Bool) (q : Question) (agree : AgreeOn xs S T) where
    core_among : (c : Core)
        → IsCore l xs n S q c
        → (k : ℕ)
        → is_in (cleaned_flags xs c.taken) k ≡ true
        → (is_required xs k ≡ true) × (T k ≡ true)
    core_among c is k e =
        let both = cleaned_among xs c.taken k e in (both.0, sym (agree k both.0) ∙ is.are_among k both.1)

    cleaned_parts : (c : Core) → IsCore l xs n S q c
        → map (λ p. p.requirement) c.parts ≡ numbers_in (is_in (cleaned_flags xs c.taken)) xs
    cleaned_parts c is =
        is.are_parts ∙ numbers_alike (is_in c.taken) (is_in (cleaned_flags xs c.taken)) xs (cleaned_agree xs c.taken)

    core_cleaned : (c : Core) → IsCore l xs n S q c → IsCore l xs n T q (cleaned_core xs c)
    core_cleaned c is =
        let U = is_in c.taken in
        let V = is_in (cleaned_flags xs c.taken) in
        let same = problem_alike U V l xs q (cleaned_agree xs c.taken) in
        record {
          are_told = length-flags (named_in xs c.taken) (length xs);
          are_among = λ k e. (core_among c is k e).1;
          is_held = subst IsHeld same is.is_held;
          is_small = subst IsSmall same is.is_small;
          is_refuted = record {
            is_refutation = is.is_refuted.is_refutation;
            is_accepted = subst (λ p. OfGraph p (λ g. IsAccepted g c.refutation)) same is.is_refuted.is_accepted;
            is_unsatisfiable = subst (λ p. ¬ (IsSatisfiable p)) same is.is_refuted.is_unsatisfiable;
          };
          are_parts = cleaned_parts c is;
          are_so = parts_alike U V q c.parts (cleaned_agree xs c.taken) is.are_so;
        }

    pub reply_cleaned : (r : Reply) → IsReply l xs n S q r → IsReply l xs n T q (cleaned_reply xs r)
    reply_cleaned (Met m s) is = shown_same l xs S T q m s (requirements_alike S T xs agree) is
    reply_cleaned (Unmet c) is = core_cleaned c is
    reply_cleaned LeftOpen is = subst (CanStayOpen n) (problem_alike S T l xs q agree) is

    -- a conflict without a requirement would refute `tt`
    core_names : (c : Core) → IsCore l xs n S q c → is_of_conflict q ≡ true → c.parts ≢ []
    core_names c is conflict none =
        let numbers : numbers_in (is_in c.taken) xs ≡ [] = sym is.are_parts ∙ ap (map (λ p. p.requirement)) none in
        let formulas : requirements (chosen (is_in c.taken) xs) ++ asked_by xs q ≡ [] =
        ap (λ fs. fs ++ asked_by xs q) (none_required (is_in c.taken) xs numbers) ∙ nothing q conflict in
        is.is_refuted.is_unsatisfiable (subst (λ fs. IsSatisfiable (plain (joined l fs))) (sym formulas) (truth_met l))
      where
        nothing : (q : Question) → is_of_conflict q ≡ true → asked_by xs q ≡ []
        nothing Consistent conflict = refl
        nothing Rest conflict = refl
        nothing (Asks m) conflict = absurd (false≢true conflict)

    pub fits_cleaned : (r : Reply) → IsReply l xs n S q r → Fits xs T q (cleaned_reply xs r)
    fits_cleaned (Met m s) is = tt
    fits_cleaned (Unmet c) is = record {
      are_told = length-flags (named_in xs c.taken) (length xs);
      are_among = λ k e. let both = core_among c is k e in and_from (is_required xs k) (T k) both.0 both.1;
      are_parts = cleaned_parts c is;
      some_named = core_names c is;
    }
    fits_cleaned LeftOpen is = tt

-- ---- texts

pub block_cleaned : (xs : List Item) (r : Replied) (text : List ℕ) → IsBlock xs r text → IsBlock xs (cleaned xs r) text
block_cleaned xs r text is = by r.question r.reply is
  where
    by : (q : Question) (o : Reply)
        → IsBlock xs (record { question = q; reply = o }) text
        → IsBlock xs (record { question = q; reply = cleaned_reply xs o }) text
    by q (Met m s) is = is
    by q (Unmet c) is = is
    by q LeftOpen is = is
