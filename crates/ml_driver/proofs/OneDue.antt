-- One status is due.
--
--   one_answer            == one status answers a question by the whole game
--   answers_agree         == two statuses that answer a question are the same, unless one says that the problem stays open
--   answers_are_exact     == and says what is true
--   one_checked, one_judged, one_migrated == one status is the answer to each command that checks a document, or migrates it
--   one_benched           == one thing is found of the formula of a family
--   one_due               == one status is due at most, for a command that doesn't search
--   one_unless_open       == two statuses that are due agree, for each command
use Rattle.std.proofs.Common.{◌≡◌, ℕ, ◌≤◌, ◌⊎◌, Bool, true, false, List, length, Option, Some, None, IfSome, refl, sym, ap, ap₂, subst, ◌∙◌, inl, inr}
use Rattle.ml_front.specs.Problems.{IsSatisfiable}
use Rattle.ml_front.specs.declared.problem.Problem.{Problem}
use Rattle.ml_front.proofs.Logics.{formula_once, formula_or_refused}
use Rattle.ml_decide.specs.Limits.{IsClosed, StaysOpen}
use Rattle.ml_driver.specs.Decision.{IsAnswered, IsProblem, LeftOpen, Refuted, RefusedText, Satisfied, if_open, if_refused, if_refuted, if_satisfied}
use Rattle.ml_driver.specs.declared.question.Question.{Question}
use Rattle.ml_decide.specs.declared.way.Way.TheVariants.{WholeGame, Search}
use Rattle.ml_model_check.proofs.OneCheck.{one_check}
use Rattle.ml_driver.specs.declared.command.Command.TheVariants.{Decide, Valid, Find, Prove, CheckModel, CheckRefutation, Migrate, Quotient, SolveGame, CheckGame, Path, Show, CheckMachine, CheckAnswers, Determinise, Automaton, Realize, Make, Ask, Gen, Bench}
use Rattle.ml_driver.specs.declared.status.Status.{Status}
use Rattle.ml_driver.specs.declared.status.Status.TheVariants.{Yes, Undecided, Text}
use Rattle.ml_driver.specs.Said.{status_said}
use Rattle.ml_driver.specs.Statuses.{IsUnreadable, longest_input, model_said, refusal_line, refutation_said}
use Rattle.ml_driver.specs.Run.{IsAnswer, IsChecked, IsDue, IsJudged, asked}
use Rattle.ml_driver.specs.declared.command.Command.{Command}
use Rattle.ml_refute_check.specs.Documents.{IsMigrated, IsVerdict}
use Rattle.ml_refute_check.specs.declared.verdict.Verdict.TheVariants.{Unreadable}
use Rattle.ml_refute_check.proofs.OneVerdict.{one_verdict, shown_fault}
use Rattle.ml_gen.specs.declared.family.Family.{Family}
use Rattle.ml_decide.specs.Measures.{IsFinding, answer_of}
use Rattle.ml_driver.specs.Bench.{IsBenched, bench_text, gen_text, status_of}
use Rattle.ml_front.specs.Connectives.{occurrences}
use Rattle.ml_driver.specs.declared.command.TheConstants.{GREATEST_LIMIT}
use Rattle.ml_driver.proofs.AutomatonAnswers.{one_automaton_answer}
use Rattle.ml_driver.proofs.FamilyProblems.{one_family_problem}
use Rattle.ml_driver.proofs.InputLimits.{alike_due}
use Rattle.ml_driver.proofs.CheckedAnswers.{one_checked_answers}
use Rattle.ml_driver.proofs.CheckedGameAnswers.{one_game_check}
use Rattle.ml_driver.proofs.GameAnswers.{one_solved}
use Rattle.ml_decide.proofs.Measures.{one_finding}
use Rattle.ml_driver.proofs.QuotientAnswers.{one_quotient_answer}
use Rattle.ml_driver.proofs.PathAnswers.{one_path_told}
use Rattle.ml_driver.proofs.ShownAnswers.{one_shown}
use Rattle.ml_driver.proofs.MachineAnswers.{one_machine_told}
use Rattle.ml_driver.proofs.AskedAnswers.{asked_agree}
use Rattle.ml_driver.proofs.TaskAnswers.{one_told, tasks_agree}
use Rattle.ml_driver.proofs.TranslationAnswers.{one_translated}
use Rattle.ml_driver.specs.Laws.{AgreeUnlessOpen, AnswersAreExact, OneDue, OneMeasure, OneUnlessOpen, open_at, satisfiable_at, searches, unsatisfiable_at}

-- ---- decide and valid

same_problem : (q : Question) (text : List ℕ) (p r : Problem) → IsProblem q text p → IsProblem q text r → p ≡ r
same_problem q text p r x y =
    ap₂ (λ f n. record { formula = f; negated = n })
    (formula_once text p.formula r.formula (x.of_logic ∙ sym y.of_logic) x.is_parsed y.is_parsed)
    (x.in_sense ∙ sym y.in_sense)

problem_refused : (q : Question) (text more : List ℕ) (p : Problem) → IsProblem q text p → RefusedText q text more → ⊥
problem_refused q text more p x r =
    let none = formula_or_refused q.logic text p.formula r.refusal x.of_logic x.is_parsed r.is_refused in
    let line = r.is_written ∙ ap refusal_line none in
    absurd (cc)

sat_unsat : (q : Question) (text out more : List ℕ) → Satisfied q text out → Refuted q text more → ⊥
sat_unsat q text out more x y =
    let same = same_problem q text y.problem x.problem y.is_problem x.is_problem in
    subst (λ p. ¬ (IsSatisfiable p)) same y.is_unsatisfiable
    (x.structure, x.is_admitted, (x.start, x.can_be_written.is_state, x.holds))

closed_open : (q : Question) (text more : List ℕ) (p : Problem) → q.way ≡ WholeGame
    → IsProblem q text p
    → IsClosed q.way q.limit p
    → LeftOpen q text more
    → ⊥
closed_open q text more p whole is closed y =
    subst (λ w. IsClosed w q.limit p) whole closed y.cause
    (subst (λ r. StaysOpen q.limit r y.cause) (same_problem q text y.problem p y.is_problem is) y.stays_open)

-- an answer stands beside a problem that is left open
abbrev Apart : Question → List ℕ → (Status → Status → Type 0) → Type 0
Apart q text R = (p : Problem) (more : List ℕ) (s t : Status) → IsProblem q text p → IsClosed q.way q.limit p
    → LeftOpen q text more
    → (s ≡ Undecided) ⊎ (t ≡ Undecided) → R s t

module _ (q : Question) (text : List ℕ) (s t : Status) (out more : List ℕ) (R : Status → Status → Type 0)
    (same : (u : Status) → R u u) (apart : Apart q text R) where
  as_same : (u : Status) → s ≡ u → t ≡ u → R s t
  as_same u is also = subst (R s) (is ∙ sym also) (same s)

  -- two answers about one text are related so, if each status is to itself, and so are an answer and that the problem is open
  alike_answers : IsAnswered q text s out → IsAnswered q text t more → R s t
  alike_answers (if_satisfied is x) (if_satisfied also y) = as_same _ is also
  alike_answers (if_satisfied is x) (if_refuted also y) = absurd (sat_unsat q text out more x y)
  alike_answers (if_satisfied is x) (if_open also y) = apart x.problem more s t x.is_problem x.is_closed y (inr also)
  alike_answers (if_satisfied is x) (if_refused also y) = absurd (problem_refused q text more x.problem x.is_problem y)
  alike_answers (if_refuted is x) (if_satisfied also y) = absurd (sat_unsat q text more out y x)
  alike_answers (if_refuted is x) (if_refuted also y) = as_same _ is also
  alike_answers (if_refuted is x) (if_open also y) = apart x.problem more s t x.is_problem x.is_closed y (inr also)
  alike_answers (if_refuted is x) (if_refused also y) = absurd (problem_refused q text more x.problem x.is_problem y)
  alike_answers (if_open is x) (if_satisfied also y) = apart y.problem out s t y.is_problem y.is_closed x (inl is)
  alike_answers (if_open is x) (if_refuted also y) = apart y.problem out s t y.is_problem y.is_closed x (inl is)
  alike_answers (if_open is x) (if_open also y) = as_same _ is also
  alike_answers (if_open is x) (if_refused also y) = absurd (problem_refused q text more x.problem x.is_problem y)
  alike_answers (if_refused is x) (if_satisfied also y) = absurd (problem_refused q text out y.problem y.is_problem x)
  alike_answers (if_refused is x) (if_refuted also y) = absurd (problem_refused q text out y.problem y.is_problem x)
  alike_answers (if_refused is x) (if_open also y) = absurd (problem_refused q text out y.problem y.is_problem x)
  alike_answers (if_refused is x) (if_refused also y) = as_same _ is also

pub answers_are_exact : AnswersAreExact
answers_are_exact q text p s out problem (if_satisfied is y) =
    let one = same_problem q text y.problem p y.is_problem problem in
    satisfiable_at (subst (IsClosed q.way q.limit) one y.is_closed)
    (subst IsSatisfiable one (y.structure, y.is_admitted, (y.start, y.can_be_written.is_state, y.holds))) is
answers_are_exact q text p s out problem (if_refuted is y) =
    let one = same_problem q text y.problem p y.is_problem problem in
    unsatisfiable_at (subst (IsClosed q.way q.limit) one y.is_closed)
    (subst (λ r. ¬ (IsSatisfiable r)) one y.is_unsatisfiable) is
answers_are_exact q text p s out problem (if_open is y) =
    let one = same_problem q text y.problem p y.is_problem problem in
    open_at y.cause (subst (λ r. StaysOpen q.limit r y.cause) one y.stays_open) is
answers_are_exact q text p s out problem (if_refused is y) = absurd (problem_refused q text out p problem y)

-- by the whole game
pub one_answer : (q : Question) (text : List ℕ) (s t : Status) (out more : List ℕ) → q.way ≡ WholeGame
    → IsAnswered q text s out
    → IsAnswered q text t more
    → s ≡ t
one_answer q text s t out more whole x y =
    alike_answers q text s t out more (λ u v. u ≡ v) (λ u. refl)
    (λ p other u v is closed left either. absurd (closed_open q text other p whole is closed left)) x y

-- in both ways
pub answers_agree : (q : Question) (text : List ℕ) (s t : Status) (out more : List ℕ) → IsAnswered q text s out
    → IsAnswered q text t more → AgreeUnlessOpen s t
answers_agree q text s t out more x y =
    alike_answers q text s t out more AgreeUnlessOpen (λ u. inl refl) (λ p other u v is closed left either. inr either) x y

-- ---- documents

one_checked : (text : List ℕ) (s t : Status) (out more : List ℕ) → IsChecked text s out → IsChecked text t more → s ≡ t
one_checked text s t out more x y =
    x.is_said.0 ∙ ap (λ c. status_said (model_said c)) (one_check text x.finding y.finding x.is_found y.is_found) ∙ sym y.is_said.0

one_judged : (text : List ℕ) (s t : Status) (out more : List ℕ) → IsJudged text s out → IsJudged text t more → s ≡ t
one_judged text s t out more x y =
    x.is_said.0
    ∙ ap (λ v. status_said (refutation_said v)) (one_verdict text x.finding y.finding x.is_found y.is_found)
    ∙ sym y.is_said.0

migrated_refused : (text out more : List ℕ) → IsMigrated text out
    → IsUnreadable (λ fault. IsVerdict text (Unreadable fault)) more
    → ⊥
migrated_refused text out more x r = shown_fault text r.fault x r.is_fault

one_migrated : (text : List ℕ) (s t : Status) (out more : List ℕ)
    → IsAnswer Migrate text s out
    → IsAnswer Migrate text t more
    → s ≡ t
one_migrated text Yes Yes out more x y = refl
one_migrated text Yes Text out more x y = absurd (migrated_refused text out more x y)
one_migrated text Text Yes out more x y = absurd (migrated_refused text more out y x)
one_migrated text Text Text out more x y = refl
one_migrated text Yes _ out more x y = absurd y
one_migrated text Text _ out more x y = absurd y
one_migrated text _ t out more x y = absurd x

-- ---- gen and bench

generated : (f : Family) (n : ℕ) (text : List ℕ) (s : Status) (out : List ℕ) → IsAnswer (Gen f n) text s out
    → (s ≡ Yes) × (out ≡ gen_text f n)
generated f n text Yes out due = (refl, due)
generated f n text _ out due = absurd due

one_benched : (f : Family) (n : ℕ) (s t : Status) (out more : List ℕ) → IsBenched f n s out → IsBenched f n t more
    → (s ≡ t) × (out ≡ more)
one_benched f n s t out more x y =
    let p = one_family_problem f n x.problem y.problem x.is_meant y.is_meant in
    let other = subst (λ r. IsFinding GREATEST_LIMIT r y.finding) (sym p) y.is_finding in
    let same = one_finding GREATEST_LIMIT x.problem x.finding y.finding x.is_finding other in (
      x.status_is ∙ ap (λ u. status_of (answer_of u)) same ∙ sym y.status_is,
      x.is_written ∙ ap₂ (λ r u. bench_text f n (occurrences r.formula) u) p same ∙ sym y.is_written,
    )

one_generated : (f : Family) (n : ℕ) (text more : List ℕ) (s t : Status) (out other : List ℕ) → IsAnswer (Gen f n) text s out
    → IsAnswer (Gen f n) more t other
    → (s ≡ t) × (out ≡ other)
one_generated f n text more s t out other x y =
    let a = generated f n text s out x in
    let b = generated f n more t other y in
    (a.0 ∙ sym b.0, a.1 ∙ sym b.1)

-- ---- what is due

one_status : (c : Command) (text : List ℕ) (s t : Status) (out more : List ℕ) → searches (Some c) ≡ false
    → IsAnswer c text s out → IsAnswer c text t more → s ≡ t
one_status (Decide l n) text s t out more whole x y = one_answer (asked false WholeGame l n) text s t out more refl x y
one_status (Valid l n) text s t out more whole x y = one_answer (asked true WholeGame l n) text s t out more refl x y
one_status (Find l n) text s t out more whole x y = absurd (cc)
one_status (Prove l n) text s t out more whole x y = absurd (cc)
one_status CheckModel text s t out more whole x y = one_checked text s t out more x y
one_status CheckRefutation text s t out more whole x y = one_judged text s t out more x y
one_status Migrate text s t out more whole x y = one_migrated text s t out more x y
one_status Quotient text s t out more whole x y = (one_quotient_answer text s t out more x y).0
one_status (SolveGame e) text s t out more whole x y = one_solved e text s t out more x y
one_status CheckGame text s t out more whole x y = (one_game_check text s t out more x y).0
one_status (Determinise n) text s t out more whole x y = (one_automaton_answer n text s t out more x y).0
one_status (Automaton n) text s t out more whole x y = one_translated n text s t out more x y
one_status Path text s t out more whole x y = one_path_told text s t out more x y
one_status Show text s t out more whole x y = one_shown text s t out more x y
one_status CheckMachine text s t out more whole x y = one_machine_told text s t out more x y
one_status CheckAnswers text s t out more whole x y = one_checked_answers text s t out more x y
one_status (Make n) text s t out more whole x y = absurd (cc)
one_status (Realize n) text s t out more whole x y = one_told n text s t out more x y
one_status (Ask f n) text s t out more whole x y = absurd (cc)
one_status (Gen f n) text s t out more whole x y = (one_generated f n text text s t out more x y).0
one_status (Bench f n) text s t out more whole x y = (one_benched f n s t out more x y).0

pub one_due : OneDue
one_due None text s t out more whole x y = x.0 ∙ sym y.0
one_due (Some c) text s t out more whole x y =
    alike_due c text s t out more (s ≡ t) (λ same line. same) (one_status c text s t out more whole) x y

searched_alike : (c : Command) (text : List ℕ) (s t : Status) (out more : List ℕ)
    → (IsAnswer c text s out → IsAnswer c text t more → AgreeUnlessOpen s t)
    → IsDue (Some c) text s out
    → IsDue (Some c) text t more
    → AgreeUnlessOpen s t
searched_alike c text s t out more = alike_due c text s t out more (AgreeUnlessOpen s t) (λ same line. inl same)

by_searching : (c : Option Command) (text : List ℕ) (s t : Status) (out more : List ℕ) (b : Bool) → searches c ≡ b
    → IsDue c text s out → IsDue c text t more → AgreeUnlessOpen s t
by_searching c text s t out more false whole x y = inl (one_due c text s t out more whole x y)
by_searching (Some (Find l n)) text s t out more true is x y =
    searched_alike (Find l n) text s t out more (answers_agree (asked false Search l n) text s t out more) x y
by_searching (Some (Prove l n)) text s t out more true is x y =
    searched_alike (Prove l n) text s t out more (answers_agree (asked true Search l n) text s t out more) x y
by_searching (Some (Make n)) text s t out more true is x y =
    searched_alike (Make n) text s t out more (tasks_agree Search n text s t out more) x y
by_searching (Some (Ask f n)) text s t out more true is x y =
    searched_alike (Ask f n) text s t out more (asked_agree f n text s t out more) x y
by_searching _ text s t out more true is x y = absurd (cc)

pub one_unless_open : OneUnlessOpen
one_unless_open c text s t out more x y = by_searching c text s t out more (searches c) refl x y

-- neither takes an input
answer_of_family : (c : Command) (text : List ℕ) (s : Status) (out : List ℕ) → longest_input c ≡ None
    → IsDue (Some c) text s out
    → IsAnswer c text s out
answer_of_family c text s out none (inl x) = x.1
answer_of_family c text s out none (inr x) =
    absurd (x.0 (subst (λ o. IfSome o (λ n. length text ≤ n)) (sym none) tt))

pub one_measure : OneMeasure
one_measure f n text more s t out other = (
  λ x y.
      (one_generated f n text more s t out other (answer_of_family (Gen f n) text s out refl x)
      (answer_of_family (Gen f n) more t other refl y)).1,
  λ x y.
      (one_benched f n s t out other (answer_of_family (Bench f n) text s out refl x)
      (answer_of_family (Bench f n) more t other refl y)).1,
)
