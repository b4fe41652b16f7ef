-- Answers of a specification may stand in its document, one by one, when their conflicts name requirements alone.
--
--   IsAnswered     == what is stated at a place answers its question, whichever the rest was
--   GoesOn R qs rs == the answers rs may stand where R is the rest and the questions qs are due, behind them no question is
--                     due, and each answers its question
--   go_on          == so it is of an answer with those behind it
--   others_go, conflicts_go == of the further questions, and of those on conflicts
--   all_go         == of all answers of a specification
use Rattle.std.proofs.Common.{◌≡◌, ℕ, Bool, true, false, List, [], ◌∷◌, ◌++◌, map, refl, sym, subst}
use Rattle.std.specs.List.{AllByRecursion}
use Rattle.std.proofs.lemmas.Bool.{false≢true}
use Rattle.ml_front.specs.declared.logic.Logic.{Logic}
use Rattle.ml_front.specs.declared.problem.AnyFormula.{AnyFormula}
use Rattle.ml_spec.specs.Joined.{requirements}
use Rattle.ml_spec.specs.Questions.{asking, is_in, IsQuestion}
use Rattle.ml_spec.specs.declared.question.Question.{Question}
use Rattle.ml_spec.specs.declared.question.Question.TheVariants.{Consistent, Rest, Asks}
use Rattle.ml_spec.specs.declared.specification.Item.{Item}
use Rattle.ml_replies.specs.Meeting.{beside, everything}
use Rattle.ml_replies.specs.Replies.{AreBehind, AreConflicts, AreOfAll, AreReplies, IsReply, Replied, Reply, LeftOpen, Met, Unmet}
use Rattle.ml_answers.specs.Checked.{placed, Placed}
use Rattle.ml_answers.specs.Due.{asked_of, due_behind, is_of_conflict, rest_behind, with_consistency, Due, Fits, LeadTo}
use Rattle.ml_answers.proofs.AlikeRequirements.{agree_beside, AgreeOn}
use Rattle.ml_answers.proofs.CleanedCores.{cleaned, cleaned_agree, cleaned_flags, cleaned_reply, fits_cleaned, reply_cleaned}

module _ (l : Logic) (xs : List Item) (n : ℕ) where
  abbrev pub IsAnswered : Placed → Type 0
  IsAnswered p = IsQuestion xs p.question × IsReply l xs n p.among p.question p.reply

  pub record GoesOn (R : ℕ → Bool) (qs : List Question) (rs : List Replied) : Type 0 where
    pub last : Due
    pub leads : LeadTo xs (record { rest = R; questions = qs }) rs last
    pub is_over : last.questions ≡ []
    pub are_answered : (ks : List ℕ) → AllByRecursion IsAnswered (placed R rs ks)

  none_placed : (R : ℕ → Bool) (ks : List ℕ) → AllByRecursion IsAnswered (placed R [] ks)
  none_placed R [] = tt
  none_placed R (k ∷ ks) = tt

  over : (R : ℕ → Bool) → GoesOn R [] []
  over R = record {
    last = record { rest = R; questions = [] };
    leads = refl;
    is_over = refl;
    are_answered = none_placed R;
  }

  module _ (R : ℕ → Bool) (q : Question) (qs : List Question) (r : Replied) (rs : List Replied) (is : r.question ≡ q)
      (question : IsQuestion xs q)
      (reply : IsReply l xs n (asked_of R q) q r.reply)
      (fits : Fits xs (asked_of R q) q r.reply)
      (on : GoesOn (rest_behind R q r.reply) (due_behind q r.reply qs) rs) where
    placed_on : (ks : List ℕ) → AllByRecursion IsAnswered (placed R (r ∷ rs) ks)
    placed_on [] = tt
    placed_on (k ∷ ks) = (
      subst (λ p. IsQuestion xs p × IsReply l xs n (asked_of R p) p r.reply) (sym is) (question, reply),
      subst (λ p. AllByRecursion IsAnswered (placed (rest_behind R p r.reply) rs ks)) (sym is) (on.are_answered ks),
    )

    pub go_on : GoesOn R (q ∷ qs) (r ∷ rs)
    go_on = record {
      last = on.last;
      leads = (
        (is, fits),
        subst (λ p. LeadTo xs (record { rest = rest_behind R p r.reply; questions = due_behind p r.reply qs }) rs on.last)
            (sym is) on.leads,
      );
      is_over = on.is_over;
      are_answered = placed_on;
    }

  -- ---- the further questions

  abbrev pub AreOfItems : List Question → Type 0
  AreOfItems qs = AllByRecursion (λ q. IsQuestion xs q × (is_of_conflict q ≡ false)) qs

  other_on : (R : ℕ → Bool) (q : Question) (qs : List Question) (r : Reply) (rs : List Replied)
      → is_of_conflict q ≡ false
      → GoesOn R qs rs
      → GoesOn (rest_behind R q r) (due_behind q r qs) rs
  other_on R (Asks m) qs r rs of on = on
  other_on R Consistent qs r rs of on = absurd (false≢true (sym of))
  other_on R Rest qs r rs of on = absurd (false≢true (sym of))

  agree_all : (R : ℕ → Bool) (q : Question) → is_of_conflict q ≡ false → AgreeOn xs everything (asked_of R q)
  agree_all R (Asks m) of = λ k required. refl
  agree_all R Consistent of = absurd (false≢true (sym of))
  agree_all R Rest of = absurd (false≢true (sym of))

  pub others_go : (R : ℕ → Bool) (rs : List Replied)
      → AreOfItems (map (λ r. r.question) rs)
      → AllByRecursion (λ r. IsReply l xs n everything r.question r.reply) rs
      → GoesOn R (map (λ r. r.question) rs) (map (cleaned xs) rs)
  others_go R [] of are = over R
  others_go R (r ∷ rs) of are =
      let q = r.question in
      let agree = agree_all R q of.0.1 in
      go_on R q (map (λ o. o.question) rs) (cleaned xs r) (map (cleaned xs) rs) refl of.0.0
      (reply_cleaned l xs n everything (asked_of R q) q agree r.reply are.0)
      (fits_cleaned l xs n everything (asked_of R q) q agree r.reply are.0)
      (other_on R q (map (λ o. o.question) rs) (cleaned_reply xs r.reply) (map (cleaned xs) rs) of.0.1
      (others_go R rs of.1 are.1))

  -- ---- conflicts

  conflict_asks : (q : Question) → is_of_conflict q ≡ true → IsQuestion xs q
  conflict_asks Consistent of = tt
  conflict_asks Rest of = tt
  conflict_asks (Asks m) of = absurd (false≢true of)

  agree_rest : (R T : ℕ → Bool) (q : Question) → is_of_conflict q ≡ true → AgreeOn xs R T → AgreeOn xs R (asked_of T q)
  agree_rest R T Consistent of agree = agree
  agree_rest R T Rest of agree = agree
  agree_rest R T (Asks m) of agree = absurd (false≢true of)

  module _ (others : List Replied) (qs : List Question)
      (others_on : (T : ℕ → Bool) → GoesOn T qs (map (cleaned xs) others)) where
    conflict_on : (R T : ℕ → Bool) (q : Question) (r : Reply) (cs : List Replied)
        → is_of_conflict q ≡ true
        → AgreeOn xs R T
        → AreBehind l xs n R r cs
        → ((S U : ℕ → Bool)
        → AgreeOn xs S U
        → AreConflicts l xs n S Rest cs
        → GoesOn U (Rest ∷ qs) (map (cleaned xs) (cs ++ others)))
        → GoesOn (rest_behind T q (cleaned_reply xs r)) (due_behind q (cleaned_reply xs r) qs) (map (cleaned xs) (cs ++ others))
    conflict_on R T q r cs of agree behind again = by q r of behind
      where
        alone : cs ≡ [] → GoesOn T qs (map (cleaned xs) (cs ++ others))
        alone none = subst (λ ds. GoesOn T qs (map (cleaned xs) (ds ++ others))) (sym none) (others_on T)

        by : (q : Question) (r : Reply)
            → is_of_conflict q ≡ true
            → AreBehind l xs n R r cs
            → GoesOn (rest_behind T q (cleaned_reply xs r)) (due_behind q (cleaned_reply xs r) qs)
            (map (cleaned xs) (cs ++ others))
        by (Asks m) r of behind = absurd (false≢true of)
        by Consistent (Met m s) of behind = alone behind
        by Consistent LeftOpen of behind = alone behind
        by Consistent (Unmet c) of behind =
            again (beside R (is_in c.taken)) (beside T (is_in (cleaned_flags xs c.taken)))
            (agree_beside xs R T (is_in c.taken) (is_in (cleaned_flags xs c.taken)) agree (cleaned_agree xs c.taken)) behind
        by Rest (Met m s) of behind = alone behind
        by Rest LeftOpen of behind = alone behind
        by Rest (Unmet c) of behind =
            again (beside R (is_in c.taken)) (beside T (is_in (cleaned_flags xs c.taken)))
            (agree_beside xs R T (is_in c.taken) (is_in (cleaned_flags xs c.taken)) agree (cleaned_agree xs c.taken)) behind

    pub conflicts_go : (R T : ℕ → Bool) (q : Question) (cs : List Replied)
        → is_of_conflict q ≡ true
        → AgreeOn xs R T
        → AreConflicts l xs n R q cs
        → GoesOn T (q ∷ qs) (map (cleaned xs) (cs ++ others))
    conflicts_go R T q [] of agree are = absurd are
    conflicts_go R T q (r ∷ cs) of agree are =
        let here = agree_rest R T q of agree in
        go_on T q qs (cleaned xs r) (map (cleaned xs) (cs ++ others)) are.0 (conflict_asks q of)
        (reply_cleaned l xs n R (asked_of T q) q here r.reply are.1)
        (fits_cleaned l xs n R (asked_of T q) q here r.reply are.1)
        (conflict_on R T q r.reply cs of agree are.2 (λ S U agree are. conflicts_go S U Rest cs refl agree are))

  -- ---- all answers

  pub all_go : (rs : List Replied)
      → AreOfItems (asking xs)
      → AreReplies l xs n rs
      → GoesOn everything (with_consistency (requirements xs) (asking xs)) (map (cleaned xs) rs)
  all_go rs of are =
      subst (λ os. GoesOn everything (with_consistency (requirements xs) (asking xs)) (map (cleaned xs) os)) (sym are.are_both)
      (by (requirements xs) are.are_conflicts)
    where
      others_on : (T : ℕ → Bool) → GoesOn T (asking xs) (map (cleaned xs) are.others)
      others_on T =
          subst (λ qs. GoesOn T qs (map (cleaned xs) are.others)) are.are_questions
          (others_go T are.others (subst AreOfItems (sym are.are_questions) of) are.are_answers)

      by : (fs : List AnyFormula)
          → AreOfAll l xs n fs are.conflicts
          → GoesOn everything (with_consistency fs (asking xs)) (map (cleaned xs) (are.conflicts ++ are.others))
      by [] none =
          subst (λ cs. GoesOn everything (asking xs) (map (cleaned xs) (cs ++ are.others))) (sym none) (others_on everything)
      by (f ∷ fs) conflicts =
          conflicts_go are.others (asking xs) others_on everything everything Consistent are.conflicts refl
          (λ k required. refl) conflicts
