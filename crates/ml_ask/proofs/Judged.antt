-- What is decided of requirements where a question is asked.
--
--   judged_as   == what is decided of their problem, where the program holds it
--   too_long    == where it doesn't, they stay open
--   problem_is  == the problem that is made of them
use Rattle.std.proofs.Common.{◌≡◌, ◌<◌, ℕ, Bool, false, inl, subst}
use Rattle.ml_text.specs.Limits.{most_occurrences}
use Rattle.ml_front.specs.Connectives.{occurrences}
use Rattle.ml_front.specs.Logics.{IsWellFormed}
use Rattle.ml_front.specs.Problems.{IsAdmitted}
use Rattle.ml_front.specs.declared.problem.Problem.{Problem}
use Rattle.ml_replies.specs.Meeting.{by_all, IsHeld}
use Rattle.ml_replies.proofs.Chosen.{joined_in}
use Rattle.ml_front.proofs.Connected.{well_small}
use Rattle.ml_ask.specs.declared.asked.Asked.{Asked}
use Rattle.ml_ask.specs.declared.deciding.Judged.{Judged}
use Rattle.ml_ask.specs.declared.deciding.Judged.TheVariants as judged
use Rattle.ml_ask.specs.private.Steps.{problem_asked, IsAsked, IsJudged, IsJudgedOf}

pub problem_is : (a : Asked) (S : ℕ → Bool) (p : Problem)
    → p.formula ≡ (problem_asked a S).formula
    → p.negated ≡ false
    → p ≡ problem_asked a S
problem_is a S p formula plain = λ i. record { formula = formula i; negated = plain i }

judged_by : (a : Asked) (S : ℕ → Bool) (j : Judged)
    → IsAsked a
    → IsHeld (problem_asked a S)
    → IsJudgedOf a.limit (problem_asked a S) j
    → IsJudged a S j
judged_by a S (judged.Met m) asked held is = (
  by_all held is.0,
  record {
    is_admitted = subst (λ k. IsAdmitted k m.structure)
        (joined_in a.specification.now.logic S a.specification.now.items.items asked.is_specified a.question asked.is_question)
        is.1.is_admitted;
    is_state = is.1.is_state;
    holds = is.1.holds;
  },
)
judged_by a S (judged.Refuted r) asked held is = (held, is.0, is.1)
judged_by a S judged.Open asked held is = is

pub judged_as : (a : Asked) (S : ℕ → Bool) (p : Problem) (j : Judged)
    → IsAsked a
    → p.formula ≡ (problem_asked a S).formula
    → p.negated ≡ false
    → IsWellFormed p.formula
    → IsJudgedOf a.limit p j
    → IsJudged a S j
judged_as a S p j asked formula plain well is =
    let same = problem_is a S p formula plain in
    judged_by a S j asked (subst IsHeld same (well_small p.formula well))
    (subst (λ r. IsJudgedOf a.limit r j) same is)

pub too_long : (a : Asked) (S : ℕ → Bool)
    → most_occurrences < occurrences (problem_asked a S).formula
    → IsJudged a S judged.Open
too_long a S long = inl long
