-- What is the answer to `solve-game`: exactly one status, by both engines the same winners, and by measures one output.
--
--   one_solved   == one status is the answer at most
--   on_game      == some status is, with some output
--   same_winners == both engines name the same game and the same winners
--   one_solution_due == by measures one output is due
use Rattle.std.proofs.Common.{◌≡◌, ◌≢◌, ℕ, List, Some, None, refl, sym, ap, subst, ◌∙◌, ⊎_elim}
use Rattle.ml_parity.specs.Game.{ParityGame, IsGame}
use Rattle.ml_parity.specs.Solution.{GameSolution, IsSolution}
use Rattle.ml_parity.proofs.SolutionFacts.{solutions_agree}
use Rattle.ml_pgsolver.specs.GameText.{NamedGame}
use Rattle.ml_pgsolver.specs.Refusals.{IsReadAs, IsRefusedBy}
use Rattle.ml_pgsolver.specs.SolutionText.{solution_text}
use Rattle.ml_pgsolver.specs.declared.refusal.GameTextRefusal.{GameTextRefusal}
use Rattle.ml_pgsolver.specs.declared.refusal.GameTextRefusal.TheVariants as cause
use Rattle.ml_pgsolver.proofs.OneAnswers.{never_both, one_game_of_text, one_refusal}
use Rattle.ml_pgsolver.proofs.SameTexts.{same_text}
use Rattle.ml_pgsolver.proofs.SomeAnswers.{some_answer}
use Rattle.ml_product.proofs.SomeSolution.{some_solution}
use Rattle.ml_progress.proofs.OneMeasured.{one_measured}
use Rattle.ml_progress.proofs.SomeMeasures.{some_measures}
use Rattle.ml_driver.proofs.InputLimits.{SomeAnswer, alike_due}
use Rattle.ml_driver.specs.Games.{IsByMeasures, IsMadeBy, IsRefusedGame, IsSolved, game_refusal_line}
use Rattle.ml_driver.specs.Laws.{OneSolutionDue, SameWinners}
use Rattle.ml_driver.specs.Run.{IsAnswer}
use Rattle.ml_driver.specs.declared.command.Command.TheVariants.{SolveGame}
use Rattle.ml_driver.specs.declared.engine.Engine.{Engine}
use Rattle.ml_driver.specs.declared.engine.Engine.TheVariants.{Recursive, Measures, Tangles}
use Rattle.ml_driver.specs.declared.status.Status.{Status}
use Rattle.ml_driver.specs.declared.status.Status.TheVariants.{Yes, Text}

-- ---- one status

-- want of memory has no line
pub told_cause : (e : GameTextRefusal) (out : List ℕ) → Some out ≡ game_refusal_line e → e ≢ cause.NoMemory
told_cause e out line is = let none : Some out ≡ None = line ∙ ap game_refusal_line is in absurd (cc)

read_or_refused : (e : Engine) (text out more : List ℕ) → IsSolved e text out → IsRefusedGame text more → ⊥
read_or_refused e text out more x r =
    told_cause r.refusal more r.is_written (never_both text x.named r.refusal x.is_read r.is_refused)

pub one_solved : (e : Engine) (text : List ℕ) (s t : Status) (out more : List ℕ)
    → IsAnswer (SolveGame e) text s out
    → IsAnswer (SolveGame e) text t more
    → s ≡ t
one_solved e text Yes Yes out more x y = refl
one_solved e text Yes Text out more x y = absurd (read_or_refused e text out more x y)
one_solved e text Text Yes out more x y = absurd (read_or_refused e text more out y x)
one_solved e text Text Text out more x y = refl
one_solved e text Yes _ out more x y = absurd y
one_solved e text Text _ out more x y = absurd y
one_solved e text _ t out more x y = absurd x

-- ---- some status

-- the line of a refusal that isn't want of memory
pub game_line : (e : GameTextRefusal) → e ≢ cause.NoMemory → (out : List ℕ) × (Some out ≡ game_refusal_line e)
game_line (cause.Syntax at) told = (_, refl)
game_line (cause.Repeated at) told = (_, refl)
game_line (cause.Unknown at) told = (_, refl)
game_line (cause.TooMany at) told = (_, refl)
game_line (cause.TooLarge at) told = (_, refl)
game_line cause.NoMemory told = absurd (told refl)

solution_by : (e : Engine) (g : ParityGame) → IsGame g → (s : GameSolution) × IsSolution g s × IsMadeBy e g s
solution_by Recursive g ok = let s = some_solution g ok in (s.0, s.1, tt)
solution_by Tangles g ok = let s = some_solution g ok in (s.0, s.1, tt)
solution_by Measures g ok =
    let m = some_measures g ok in
    (m.0.solution, m.1.solution, record { measured = m.0; is_measured = m.1; is_solution = refl })

pub on_game : (e : Engine) (text : List ℕ) → SomeAnswer (SolveGame e) text
on_game e text =
    ⊎_elim
    (λ (read : (g : NamedGame) × IsReadAs text g).
    let s = solution_by e read.0.game read.1.stands.is_game.is_named.game in (
      Yes,
      (
        solution_text read.0 s.0,
        record {
          named = read.0;
          solution = s.0;
          is_read = read.1;
          is_solution = s.1;
          is_made = s.2;
          is_written = refl;
        },
      ),
    ))
    (λ (refused : (d : GameTextRefusal) × (d ≢ cause.NoMemory) × IsRefusedBy text d).
    let line = game_line refused.0 refused.1 in
    (Text, (line.0, record { refusal = refused.0; is_refused = refused.2; is_written = line.1 })))
    (some_answer text)

-- ---- both engines

pub same_winners : SameWinners
same_winners d e text out more x y =
    let same = one_game_of_text text x.named y.named x.is_read.stands y.is_read.stands in
    let other = subst (λ (n : NamedGame). IsSolution n.game y.solution) (sym same) y.is_solution in
    let ok = x.is_read.stands.is_game.is_named.game in
    (same, λ v low. solutions_agree x.named.game ok x.solution y.solution x.is_solution other v low)

-- ---- one output by measures

one_by_measures : (text out more : List ℕ) → IsSolved Measures text out → IsSolved Measures text more → out ≡ more
one_by_measures text out more x y =
    let same = one_game_of_text text x.named y.named x.is_read.stands y.is_read.stands in
    let one : IsByMeasures x.named.game x.solution = x.is_made in
    let other : IsByMeasures x.named.game y.solution =
    subst (λ (g : NamedGame). IsByMeasures g.game y.solution) (sym same) y.is_made in
    let told = one_measured x.named.game one.measured other.measured one.is_measured other.is_measured in
    x.is_written
    ∙ ap (solution_text x.named) one.is_solution
    ∙ same_text x.named one.measured.solution other.measured.solution x.is_read.stands.is_game.is_named told.winners
    told.moves
    ∙ ap (solution_text x.named) (sym other.is_solution)
    ∙ ap (λ g. solution_text g y.solution) same
    ∙ sym y.is_written

same_line : (text out more : List ℕ) → IsRefusedGame text out → IsRefusedGame text more → out ≡ more
same_line text out more r q =
    let told = told_cause r.refusal out r.is_written in
    let known = told_cause q.refusal more q.is_written in
    let same = one_refusal text r.refusal q.refusal told known r.is_refused q.is_refused in
    let line = r.is_written ∙ ap game_refusal_line same ∙ sym q.is_written in
    cc

one_solution_answer : (text : List ℕ) (s t : Status) (out more : List ℕ)
    → IsAnswer (SolveGame Measures) text s out
    → IsAnswer (SolveGame Measures) text t more
    → (s ≡ t) × (out ≡ more)
one_solution_answer text Yes Yes out more x y = (refl, one_by_measures text out more x y)
one_solution_answer text Yes Text out more x y = absurd (read_or_refused Measures text out more x y)
one_solution_answer text Text Yes out more x y = absurd (read_or_refused Measures text more out y x)
one_solution_answer text Text Text out more x y = (refl, same_line text out more x y)
one_solution_answer text Yes _ out more x y = absurd y
one_solution_answer text Text _ out more x y = absurd y
one_solution_answer text _ t out more x y = absurd x

pub one_solution_due : OneSolutionDue
one_solution_due text s t out more x y =
    alike_due (SolveGame Measures) text s t out more ((s ≡ t) × (out ≡ more)) (λ same line. (same, line))
    (one_solution_answer text s t out more) x y
