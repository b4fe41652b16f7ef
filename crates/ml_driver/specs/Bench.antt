-- What `gen` and `bench` write, both about the formula of a family for a number, and neither about an input.
--
-- `bench` tells how large this formula is, how large its graph and its decision game are, and whether it is satisfiable.
-- Each number is told by definitions alone: the problem is the one that the family's text stands for, and what is found of it
-- is said by `IsFinding` of `ml_decide`.
--
--   IsMeant f n p        == p is the problem of the text of the family f for n
--   status_of a          == the status that goes with this answer
--   gen_text f n         == the family's text for n, as a line
--   found_lines x        == the lines for the nodes and the positions; where there is no graph there is no game
--   bench_text f n k x   == the five lines about a formula with k occurrences of which x is found
--   IsBenched f n s out  == this status and this output are due for `bench f n`
use Rattle.std.specs.Prelude.{ℕ, ◌≡◌, false, List, [], ◌∷◌, ◌++◌, codes}
use Rattle.ml_front.specs.Connectives.{occurrences}
use Rattle.ml_front.specs.Head.{answer_line}
use Rattle.ml_front.specs.Logics.{logic_of, some_logic, IsParsedAs}
use Rattle.ml_front.specs.declared.answer.Answer.{Answer}
use Rattle.ml_front.specs.declared.answer.Answer.TheVariants.{Satisfiable, Unsatisfiable, Undecided}
use Rattle.ml_front.specs.declared.problem.Problem.{Problem}
use Rattle.ml_gen.specs.Families.{family_word, formula_text, logic_name}
use Rattle.ml_gen.specs.declared.family.Family.{Family}
use Rattle.ml_lines.specs.Lines.{Line, line_text, number, text_of}
use Rattle.ml_decide.specs.Measures.{IsFinding, answer_of}
use Rattle.ml_decide.specs.declared.finding.Finding.{Finding}
use Rattle.ml_decide.specs.declared.finding.Finding.TheVariants.{Decided, GamePassed, ClosurePassed}
use Rattle.ml_driver.specs.declared.command.TheConstants.{GREATEST_LIMIT}
use Rattle.ml_driver.specs.declared.status.Status.{Status}
use Rattle.ml_driver.specs.declared.status.Status.TheVariants as status

-- ---- the problem

pub record IsMeant (f : Family) (n : ℕ) (p : Problem) : Type 0 where
  pub of_logic : logic_of p.formula ≡ some_logic (logic_name f)
  pub is_plain : p.negated ≡ false
  pub is_parsed : IsParsedAs (formula_text f n) p.formula

-- ---- what is written

abbrev pub status_of : Answer → Status
status_of Satisfiable = status.Yes
status_of Unsatisfiable = status.No
status_of Undecided = status.Undecided

abbrev pub gen_text : Family → ℕ → List ℕ
gen_text f n = line_text (formula_text f n ∷ [])

abbrev pub found_lines : Finding → List Line
found_lines (Decided nodes positions satisfiable) =
    (codes "nodes" ∷ number nodes ∷ []) ∷ (codes "positions" ∷ number positions ∷ []) ∷ []
found_lines (GamePassed nodes) = (codes "nodes" ∷ number nodes ∷ []) ∷ (codes "positions" ∷ codes "passed" ∷ []) ∷ []
found_lines ClosurePassed = (codes "nodes" ∷ codes "passed" ∷ []) ∷ (codes "closure" ∷ codes "passed" ∷ []) ∷ []

abbrev pub bench_text : Family → ℕ → ℕ → Finding → List ℕ
bench_text f n k x =
    text_of (
    (codes "bench" ∷ family_word f ∷ number n ∷ []) ∷ (codes "occurrences" ∷ number k ∷ [])
    ∷ (found_lines x ++ (answer_line (answer_of x) ∷ []))
    )

pub record IsBenched (f : Family) (n : ℕ) (s : Status) (out : List ℕ) : Type 0 where
  pub problem : Problem
  pub finding : Finding
  pub is_meant : IsMeant f n problem
  pub is_finding : IsFinding GREATEST_LIMIT problem finding
  pub status_is : s ≡ status_of (answer_of finding)
  pub is_written : out ≡ bench_text f n (occurrences problem.formula) finding
