-- Requirements that are told by flags, and by a set that agrees with them on the items.
--
--   chosen_same     == the same items are chosen
--   shown_same, fails_same == where their requirements are the same, a structure meets the same
--   comes_same      == the same comes of what is shown and wrong in the same cases
--   judged_same     == so the same comes of an answer
--   comes_all, comes_rest == also where it isn't asked of conflicts, and where it is
--   left_all, left_rest == and the flags agree with the rest behind the answer
use Rattle.std.proofs.Common.{◌≡◌, ◌≢◌, ℕ, ◌+◌, Bool, true, false, not, ◌&&◌, replicate, List, ◌++◌, Contains, length, map, refl, sym, ap, subst, ◌∙◌, arith}
use Rattle.std.specs.List.{AllByRecursion}
use Rattle.ml_base.specs.Structure.{Structure}
use Rattle.ml_front.specs.Connectives.{joined}
use Rattle.ml_front.specs.Problems.{HoldsAt}
use Rattle.ml_front.specs.declared.logic.Logic.{Logic}
use Rattle.ml_spec.specs.Joined.{requirements}
use Rattle.ml_spec.specs.Questions.{asked_by, chosen, is_in}
use Rattle.ml_spec.specs.declared.question.Question.{Question}
use Rattle.ml_spec.specs.declared.question.Question.TheVariants.{Consistent, Rest, Asks}
use Rattle.std.proofs.lemmas.Bool.{false≢true}
use Rattle.std.proofs.lemmas.List.{get_or-replicate}
use Rattle.ml_spec.specs.declared.specification.Item.{Item}
use Rattle.ml_replies.specs.Meeting.{everything, plain, problem_of, problems_asked, problems_of, CanBeChecked, IsHeld, IsSmall, by_all, by_each}
use Rattle.ml_replies.specs.Replies.{FailsByCheck, IsMet, IsShown, Reply, LeftOpen, Met, Unmet, by_joined, by_one, not_admitted}
use Rattle.ml_replies.proofs.Chosen.{chosen_from_same}
use Rattle.ml_answers.specs.Checked as checked
use Rattle.ml_answers.specs.Checked.{IsShownBy}
use Rattle.ml_answers.specs.Due.{asked_of, is_of_conflict, rest_behind}
use Rattle.ml_answers.specs.private.Judged.{ComesTo}
use Rattle.ml_answers.specs.private.Words.{Agrees}
use Rattle.ml_answers.specs.declared.judging.Standing.{Standing}
use Rattle.ml_answers.specs.declared.judging.Standing.TheVariants.{Shown, Unsettled, Wrong}

-- ---- chosen items

pub chosen_same : (xs : List Item) (S : ℕ → Bool) (among : List Bool) → Agrees xs S among → chosen S xs ≡ chosen (is_in among) xs
chosen_same xs S among agrees =
    chosen_from_same S (is_in among) 0 xs
    (λ j low. let same : 0 + j ≡ j = omega arith in subst (λ k. S k ≡ is_in among k) (sym same) (agrees j low))

-- ---- structures

module _ (l : Logic) (xs : List Item) (S T : ℕ → Bool) (q : Question) (m : Structure) (s : ℕ)
    (same : requirements (chosen S xs) ≡ requirements (chosen T xs)) where
  all_same : problem_of l xs S q ≡ problem_of l xs T q
  all_same = ap (λ fs. plain (joined l (fs ++ asked_by xs q))) same

  each_same : problems_of xs S q ≡ problems_of xs T q
  each_same = ap (λ fs. problems_asked xs q ++ map plain fs) same

  checked_same : CanBeChecked l xs S q → CanBeChecked l xs T q
  checked_same (by_each ne small) = by_each ne (subst (AllByRecursion IsSmall) each_same small)
  checked_same (by_all held small) = by_all (subst IsHeld all_same held) (subst IsSmall all_same small)

  met_same : IsMet l xs S q m s → IsMet l xs T q m s
  met_same is = record {
    is_admitted = is.is_admitted;
    is_state = is.is_state;
    holds = subst (HoldsAt m s) all_same is.holds;
  }

  pub shown_same : IsShown l xs S q m s → IsShown l xs T q m s
  shown_same is = (checked_same is.0, met_same is.1)

  pub fails_same : FailsByCheck l xs S q m s → FailsByCheck l xs T q m s
  fails_same (not_admitted ne) = not_admitted ne
  fails_same (by_one ne p in_it small fails) =
      by_one ne p (subst (λ ps. Contains ps p) each_same in_it) small fails
  fails_same (by_joined held small fails) =
      by_joined (subst IsHeld all_same held) (subst IsSmall all_same small)
      (subst (λ p. ¬ (HoldsAt m s p)) all_same fails)

-- ---- what comes of them

pub comes_same : (P Q W V : Type 0) (s : Standing)
    → (P → Q)
    → (Q → P)
    → (W → V)
    → (V → W)
    → ComesTo P W s
    → ComesTo Q V s
comes_same P Q W V Shown to from on back is = to is
comes_same P Q W V Wrong to from on back is = on is
comes_same P Q W V Unsettled to from on back is = (λ q. is.0 (from q), λ v. is.1 (back v))

pub judged_same : (l : Logic) (xs : List Item) (S : ℕ → Bool) (among : List Bool) (q : Question) (r : Reply) (s : Standing)
    → Agrees xs S among
    → ComesTo (IsShownBy l xs (is_in among) q r) (checked.IsWrong l xs (is_in among) q r) s
    → ComesTo (IsShownBy l xs S q r) (checked.IsWrong l xs S q r) s
judged_same l xs S among q LeftOpen s agrees is = is
judged_same l xs S among q (Unmet c) s agrees is = is
judged_same l xs S among q (Met m t) s agrees is =
    let same = ap requirements (chosen_same xs S among agrees) in
    comes_same (IsShown l xs (is_in among) q m t) (IsShown l xs S q m t) (FailsByCheck l xs (is_in among) q m t)
    (FailsByCheck l xs S q m t) s
    (shown_same l xs (is_in among) S q m t (sym same))
    (shown_same l xs S (is_in among) q m t same)
    (fails_same l xs (is_in among) S q m t (sym same))
    (fails_same l xs S (is_in among) q m t same)
    is

-- ---- of conflicts and others

asked_all : (R : ℕ → Bool) (q : Question) → is_of_conflict q ≡ false → asked_of R q ≡ everything
asked_all R (Asks n) of = refl
asked_all R Consistent of = absurd (false≢true (sym of))
asked_all R Rest of = absurd (false≢true (sym of))

rest_kept : (R : ℕ → Bool) (q : Question) (r : Reply) → is_of_conflict q ≡ false → rest_behind R q r ≡ R
rest_kept R (Asks n) r of = refl
rest_kept R Consistent r of = absurd (false≢true (sym of))
rest_kept R Rest r of = absurd (false≢true (sym of))

asked_rest : (R : ℕ → Bool) (q : Question) → is_of_conflict q ≡ true → asked_of R q ≡ R
asked_rest R (Asks n) of = absurd (false≢true of)
asked_rest R Consistent of = refl
asked_rest R Rest of = refl

module _ (l : Logic) (xs : List Item) (R : ℕ → Bool) (among : List Bool) (q : Question) (r : Reply) where
  pub comes_all : (s : Standing)
      → is_of_conflict q ≡ false
      → among ≡ replicate (length xs) true
      → ComesTo (IsShownBy l xs (is_in among) q r) (checked.IsWrong l xs (is_in among) q r) s
      → ComesTo (IsShownBy l xs (asked_of R q) q r) (checked.IsWrong l xs (asked_of R q) q r) s
  comes_all s of all is =
      subst (λ S. ComesTo (IsShownBy l xs S q r) (checked.IsWrong l xs S q r) s) (sym (asked_all R q of))
      (judged_same l xs everything among q r s
      (λ k low. sym (ap (λ bs. is_in bs k) all ∙ get_or-replicate (length xs) k true false low)) is)

  pub comes_rest : (s : Standing)
      → is_of_conflict q ≡ true
      → Agrees xs R among
      → ComesTo (IsShownBy l xs (is_in among) q r) (checked.IsWrong l xs (is_in among) q r) s
      → ComesTo (IsShownBy l xs (asked_of R q) q r) (checked.IsWrong l xs (asked_of R q) q r) s
  comes_rest s of agrees is =
      subst (λ S. ComesTo (IsShownBy l xs S q r) (checked.IsWrong l xs S q r) s) (sym (asked_rest R q of))
      (judged_same l xs R among q r s agrees is)

  pub left_all : is_of_conflict q ≡ false → Agrees xs R among → Agrees xs (rest_behind R q r) among
  left_all of agrees = subst (λ S. Agrees xs S among) (sym (rest_kept R q r of)) agrees

  pub left_rest : (later : List Bool)
      → is_of_conflict q ≡ true
      → Agrees xs R among
      → ((k : ℕ) → is_in later k ≡ rest_behind (is_in among) Rest r k)
      → Agrees xs (rest_behind R q r) later
  left_rest later of agrees now = by q r of now
    where
      by : (q : Question) (r : Reply)
          → is_of_conflict q ≡ true
          → ((k : ℕ) → is_in later k ≡ rest_behind (is_in among) Rest r k)
          → Agrees xs (rest_behind R q r) later
      by (Asks n) r of now = absurd (false≢true of)
      by Consistent (Unmet c) of now = λ k low. ap (λ b. b && not (is_in c.taken k)) (agrees k low) ∙ sym (now k)
      by Rest (Unmet c) of now = λ k low. ap (λ b. b && not (is_in c.taken k)) (agrees k low) ∙ sym (now k)
      by Consistent (Met m t) of now = λ k low. agrees k low ∙ sym (now k)
      by Rest (Met m t) of now = λ k low. agrees k low ∙ sym (now k)
      by Consistent LeftOpen of now = λ k low. agrees k low ∙ sym (now k)
      by Rest LeftOpen of now = λ k low. agrees k low ∙ sym (now k)
