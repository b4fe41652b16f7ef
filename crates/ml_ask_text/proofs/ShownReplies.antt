-- Answers whose structures have a text.
--
-- Where a structure shows something, the decision of its problem gives one that has a text, or leaves the problem open. So each
-- answer may have structures that have one, or stay open where it had one that has none.
--
--   shown_or_open    == a structure that shows that requirements can be met has a text, or that may be left open
--   some_reply_shown == an answer to the same question, whose structures have one
--   some_shown       == answers to the same questions
use Rattle.std.proofs.Common.{◌≡◌, ℕ, ◌<◌, ◌≤◌, ◌^◌, ◌⊎◌, Bool, List, [], ◌∷◌, ◌++◌, map, inl, inr, refl, sym, ap, subst, ◌∙◌}
use Rattle.std.specs.List.{AllByRecursion}
use Rattle.std.proofs.lemmas.Bool.{cases_lt}
use Rattle.ml_base.specs.Structure.{Structure}
use Rattle.ml_text.specs.Limits.{most_occurrences}
use Rattle.ml_decide.proofs.SomeDecision.{some_decision}
use Rattle.ml_decide.specs.Laws.{HasAnswer, by_refutation, by_structure, left_open}
use Rattle.ml_decide.specs.declared.way.Way.TheVariants.{Search}
use Rattle.ml_front.proofs.Connected.{joined_logic}
use Rattle.ml_front.specs.Connectives.{occurrences}
use Rattle.ml_front.specs.Logics.{logic_of}
use Rattle.ml_front.specs.Problems.{IsAdmitted}
use Rattle.ml_front.specs.declared.logic.Logic.{Logic}
use Rattle.ml_lists.proofs.AllOf.{all_both}
use Rattle.ml_front.specs.declared.problem.AnyFormula.{AnyFormula}
use Rattle.ml_spec.specs.Joined.{requirements}
use Rattle.ml_spec.specs.Questions.{is_in, joined_of, parts_of, IsQuestion}
use Rattle.ml_spec.specs.Specification.{IsSpecified}
use Rattle.ml_spec.specs.declared.question.Question.{Question}
use Rattle.ml_spec.specs.declared.question.Question.TheVariants.{Consistent, Rest}
use Rattle.ml_spec.specs.declared.specification.Item.{Item}
use Rattle.ml_spec.proofs.ChosenItems.{parts_in}
use Rattle.ml_replies.specs.Meeting.{beside, everything, problem_of, without, AreWellFormed, CanStayOpen, by_all}
use Rattle.ml_replies.specs.Replies.{AreBehind, AreConflicts, AreOfAll, AreReplies, IsPart, IsReply, IsWithout, Part, Replied, Reply, LeftOpen, Met, StillMet, StillOpen, Unmet, Without}
use Rattle.ml_replies.specs.Replies as replies
use Rattle.ml_replies.proofs.SomeReplies.{all_asked}
use Rattle.ml_replies.proofs.WellFormedJoins.{joined_well}
use Rattle.ml_ask_text.specs.private.Written.{AreShown, IsPartShown, IsReplyShown, IsShown, IsWithoutShown}

module _ (l : Logic) (xs : List Item) (n : ℕ) (small : n < 2 ^ 32) (specified : IsSpecified l xs) (well : AreWellFormed xs) where
  of_logic : (S : ℕ → Bool) (q : Question) → IsQuestion xs q → logic_of (joined_of l S xs q) ≡ l
  of_logic S q is_question = joined_logic l (parts_of S xs q) (parts_in l S xs specified q is_question)

  data ShownOrOpen (S : ℕ → Bool) (q : Question) : Type 0 where
    has_text : (m : Structure) (s : ℕ) → replies.IsShown l xs S q m s → IsShown m s → ShownOrOpen S q
    may_stay : CanStayOpen n (problem_of l xs S q) → ShownOrOpen S q

  shown_or_open : (S : ℕ → Bool) (q : Question) (m : Structure) (s : ℕ)
      → IsQuestion xs q
      → replies.IsShown l xs S q m s
      → ShownOrOpen S q
  shown_or_open S q m s is_question shown = by (cases_lt most_occurrences (occurrences (joined_of l S xs q)))
    where
      logic_is : logic_of (joined_of l S xs q) ≡ l
      logic_is = of_logic S q is_question

      decided : occurrences (joined_of l S xs q) ≤ most_occurrences → HasAnswer Search n (problem_of l xs S q) → ShownOrOpen S q
      decided held (by_structure closed k t met written ordered) =
          has_text k t (
            by_all held closed,
            record {
              is_admitted = subst (λ j. IsAdmitted j k) logic_is met.is_admitted;
              is_state = met.is_state;
              holds = met.holds;
            },
          )
          (written, ordered)
      decided held (by_refutation closed r is) =
          absurd (
          is.is_unsatisfiable
          (m, subst (λ j. IsAdmitted j m) (sym logic_is) shown.1.is_admitted, (s, shown.1.is_state, shown.1.holds))
          )
      decided held (left_open c stays) = may_stay (inr (c, stays))

      by : (most_occurrences < occurrences (joined_of l S xs q)) ⊎ (occurrences (joined_of l S xs q) ≤ most_occurrences)
          → ShownOrOpen S q
      by (inl long) = may_stay (inl long)
      by (inr held) =
          decided held (some_decision Search n (problem_of l xs S q) small (joined_well l xs S q well is_question held))

  -- ---- one answer

  module _ (q : Question) (is_question : IsQuestion xs q) where
    without_shown : (S : ℕ → Bool) (w : Without) → IsWithout l xs n S q w → (v : Without) × IsWithout l xs n S q v × IsWithoutShown v
    without_shown S StillOpen is = (StillOpen, is, tt)
    without_shown S (StillMet m s) is = by (shown_or_open S q m s is_question is)
      where
        by : ShownOrOpen S q → (v : Without) × IsWithout l xs n S q v × IsWithoutShown v
        by (has_text k t met shown) = (StillMet k t, met, shown)
        by (may_stay stays) = (StillOpen, stays, tt)

    record PartsShown (S : ℕ → Bool) (ks : List ℕ) : Type 0 where
      parts : List Part
      are_parts : map (λ p. p.requirement) parts ≡ ks
      are_so : AllByRecursion (IsPart l xs n S q) parts
      are_shown : AllByRecursion IsPartShown parts

    parts_shown : (S : ℕ → Bool) (ps : List Part)
        → AllByRecursion (IsPart l xs n S q) ps
        → PartsShown S (map (λ p. p.requirement) ps)
    parts_shown S [] are = record { parts = []; are_parts = refl; are_so = tt; are_shown = tt }
    parts_shown S (p ∷ ps) are =
        let first = without_shown (without S p.requirement) p.without are.0 in
        let rest = parts_shown S ps are.1 in
        record {
          parts = record { requirement = p.requirement; without = first.0 } ∷ rest.parts;
          are_parts = ap (λ ks. p.requirement ∷ ks) rest.are_parts;
          are_so = (first.1, rest.are_so);
          are_shown = (first.2, rest.are_shown);
        }

    -- the requirements of a conflict stay the same, so what comes behind it does
    record ReplyShown (S : ℕ → Bool) (r : Reply) : Type 0 where
      reply : Reply
      is_reply : IsReply l xs n S q reply
      is_shown : IsReplyShown reply
      is_before : (rs : List Replied) → AreBehind l xs n S r rs → AreBehind l xs n S reply rs

    some_reply_shown : (S : ℕ → Bool) (r : Reply) → IsReply l xs n S q r → ReplyShown S r
    some_reply_shown S LeftOpen is = record { reply = LeftOpen; is_reply = is; is_shown = tt; is_before = λ rs are. are }
    some_reply_shown S (Met m s) is = by (shown_or_open S q m s is_question is)
      where
        by : ShownOrOpen S q → ReplyShown S (Met m s)
        by (has_text k t met shown) = record { reply = Met k t; is_reply = met; is_shown = shown; is_before = λ rs are. are }
        by (may_stay stays) = record { reply = LeftOpen; is_reply = stays; is_shown = tt; is_before = λ rs are. are }
    some_reply_shown S (Unmet c) is =
        let found = parts_shown (is_in c.taken) c.parts is.are_so in
        record {
          reply = Unmet (record { taken = c.taken; parts = found.parts; refutation = c.refutation });
          is_reply = record {
            are_told = is.are_told;
            are_among = is.are_among;
            is_held = is.is_held;
            is_small = is.is_small;
            is_refuted = is.is_refuted;
            are_parts = found.are_parts ∙ is.are_parts;
            are_so = found.are_so;
          };
          is_shown = found.are_shown;
          is_before = λ rs are. are;
        }

  -- ---- all of them

  abbrev ConflictsShown : (ℕ → Bool) → Question → Type 0
  ConflictsShown S q = (rs : List Replied) × AreConflicts l xs n S q rs × AreShown rs

  abbrev BehindShown : (ℕ → Bool) → Reply → Type 0
  BehindShown S r = (rs : List Replied) × AreBehind l xs n S r rs × AreShown rs

  behind_shown : (S : ℕ → Bool) (r : Reply) (rs : List Replied)
      → AreBehind l xs n S r rs
      → ((T : ℕ → Bool) → AreConflicts l xs n T Rest rs → ConflictsShown T Rest)
      → BehindShown S r
  behind_shown S (Unmet c) rs are again = again (beside S (is_in c.taken)) are
  behind_shown S (Met m s) rs are again = ([], refl, tt)
  behind_shown S LeftOpen rs are again = ([], refl, tt)

  conflicts_shown : (rs : List Replied) (S : ℕ → Bool) (q : Question)
      → IsQuestion xs q
      → AreConflicts l xs n S q rs
      → ConflictsShown S q
  conflicts_shown [] S q is_question are = absurd are
  conflicts_shown (r ∷ rs) S q is_question are =
      let first = some_reply_shown q is_question S r.reply are.1 in
      let behind = behind_shown S r.reply rs are.2 (λ T. conflicts_shown rs T Rest tt) in (
        record { question = q; reply = first.reply } ∷ behind.0,
        (refl, first.is_reply, first.is_before behind.0 behind.1),
        (first.is_shown, behind.2),
      )

  first_shown : (fs : List AnyFormula) (rs : List Replied)
      → AreOfAll l xs n fs rs
      → (ts : List Replied) × AreOfAll l xs n fs ts × AreShown ts
  first_shown [] rs are = ([], refl, tt)
  first_shown (f ∷ fs) rs are = conflicts_shown rs everything Consistent tt are

  record OthersShown (qs : List Question) : Type 0 where
    replies : List Replied
    are_questions : map (λ r. r.question) replies ≡ qs
    are_answers : AllByRecursion (λ r. IsReply l xs n everything r.question r.reply) replies
    are_shown : AreShown replies

  others_shown : (rs : List Replied)
      → AllByRecursion (IsQuestion xs) (map (λ r. r.question) rs)
      → AllByRecursion (λ r. IsReply l xs n everything r.question r.reply) rs
      → OthersShown (map (λ r. r.question) rs)
  others_shown [] asked are = record { replies = []; are_questions = refl; are_answers = tt; are_shown = tt }
  others_shown (r ∷ rs) asked are =
      let first = some_reply_shown r.question asked.0 everything r.reply are.0 in
      let rest = others_shown rs asked.1 are.1 in
      record {
        replies = record { question = r.question; reply = first.reply } ∷ rest.replies;
        are_questions = ap (λ qs. r.question ∷ qs) rest.are_questions;
        are_answers = (first.is_reply, rest.are_answers);
        are_shown = (first.is_shown, rest.are_shown);
      }

  pub some_shown : (rs : List Replied) → AreReplies l xs n rs → (ts : List Replied) × AreReplies l xs n ts × AreShown ts
  some_shown rs are =
      let first = first_shown (requirements xs) are.conflicts are.are_conflicts in
      let others = others_shown are.others (subst (AllByRecursion (IsQuestion xs)) (sym are.are_questions) (all_asked xs)) are.are_answers in (
        first.0 ++ others.replies,
        record {
          conflicts = first.0;
          others = others.replies;
          are_both = refl;
          are_conflicts = first.1;
          are_questions = others.are_questions ∙ are.are_questions;
          are_answers = others.are_answers;
        },
        all_both (λ (r : Replied). IsReplyShown r.reply) first.0 others.replies first.2 others.are_shown,
      )
