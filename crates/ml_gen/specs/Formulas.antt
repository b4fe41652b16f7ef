-- The formulas of the families, and how many occurrences they have.
--
-- Three families have conjunctions, grouped to the left as texts without parentheses are read; the other two have a
-- program of n actions, grouped so too. A number of 0 is of no range: nobody asks for its formula, and it is any.
--
--   joined both part n == part 1 to part n, grouped to the left
--   acts n             == the program `a;a;..` of n actions
--   and_formula n, or_formula n, step_formula n, fair_formula n, loop_formula n == the formula of the family for n
--   occurrences_for f n == how many occurrences the formula of the family f for n has
--   AreCounted         == it has so many, for each number from 1 on
use Rattle.std.specs.Prelude.{ℕ, zero, suc, ◌≡◌, ◌+◌, ◌-◌, ◌*◌, ◌≤◌, List, ◌++◌, codes}
use Rattle.ml_lines.specs.Lines.{number}
use Rattle.ml_text.specs.declared.token.Operator.TheVariants as operator
use Rattle.ml_ctl.specs.Formula as ctl
use Rattle.ml_ctl.specs.declared.term.Tense.TheVariants as tense
use Rattle.ml_mu.specs.Formula as mu
use Rattle.ml_pdl.specs.Formula as pdl
use Rattle.ml_pdl.specs.declared.term.Modality.TheVariants as modality
use Rattle.ml_gen.specs.declared.family.Family.{Family}
use Rattle.ml_gen.specs.declared.family.Family.TheVariants.{And, Or, Step, Fair, Loop}

abbrev pub joined : {F : Type 0} → (F → F → F) → (ℕ → F) → ℕ → F
joined both part zero = part 0
joined both part (suc zero) = part 1
joined both part (suc (suc k)) = both (joined both part (suc k)) (part (suc (suc k)))

-- the name that is a letter with a number behind it
abbrev pub numbered : List ℕ → ℕ → List ℕ
numbered letter i = letter ++ number i

-- ---- conjunctions

abbrev pub and_part : ℕ → mu.Formula
and_part i = mu.Prop (numbered (codes "p") i)

abbrev pub or_part : ℕ → mu.Formula
or_part i = mu.Binary operator.Or (mu.Prop (numbered (codes "p") i)) (mu.Prop (numbered (codes "q") i))

abbrev pub fair_part : ℕ → ctl.Formula
fair_part i = ctl.Temporal tense.Globally (ctl.Temporal tense.Finally (ctl.Prop (numbered (codes "p") i)))

abbrev pub and_formula : ℕ → mu.Formula
and_formula n = joined (mu.Binary operator.And) and_part n

abbrev pub or_formula : ℕ → mu.Formula
or_formula n = joined (mu.Binary operator.And) or_part n

abbrev pub fair_formula : ℕ → ctl.Formula
fair_formula n = joined (ctl.Binary operator.And) fair_part n

-- ---- programs

abbrev pub act : pdl.Program
act = pdl.Act (codes "a")

abbrev pub acts : ℕ → pdl.Program
acts n = joined pdl.Seq (λ i. act) n

-- `<a;a;..>p & [a*]!p`
abbrev pub step_formula : ℕ → pdl.Formula
step_formula n =
    pdl.Binary operator.And (pdl.Modal modality.Diamond (acts n) (pdl.Prop (codes "p")))
    (pdl.Modal modality.Square (pdl.Star act) (pdl.Not (pdl.Prop (codes "p"))))

-- `repeat(a;a;..)`
abbrev pub loop_formula : ℕ → pdl.Formula
loop_formula n = pdl.Repeat (acts n)

-- ---- occurrences

abbrev pub occurrences_for : Family → ℕ → ℕ
occurrences_for And n = 2 * n - 1
occurrences_for Or n = 4 * n - 1
occurrences_for Step n = 2 * n + 7
occurrences_for Fair n = 4 * n - 1
occurrences_for Loop n = 2 * n

abbrev pub occurrences_in : Family → ℕ → ℕ
occurrences_in And n = mu.occurrences (and_formula n)
occurrences_in Or n = mu.occurrences (or_formula n)
occurrences_in Step n = pdl.occurrences (step_formula n)
occurrences_in Fair n = ctl.occurrences (fair_formula n)
occurrences_in Loop n = pdl.occurrences (loop_formula n)

abbrev pub AreCounted : Type 0
AreCounted = (family : Family) (n : ℕ) → 1 ≤ n → occurrences_in family n ≡ occurrences_for family n
