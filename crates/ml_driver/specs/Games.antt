-- What `solve-game` answers of the text of a parity game.
--
-- All engines answer with a solution of the game that the text stands for: who wins each vertex, and at each vertex whose
-- owner wins it a move of one positional strategy that wins from all vertices of its player. Which moves these are is left
-- open for `recursive` and `tangles`; for `measures` they are the first ones that progress in the owner's least progress
-- measure.
--
--   engine_word e        == the word that names the engine e
--   engine_named w       == the engine that the word w names, if it names one
--   IsByMeasures g s     == the winners of s have lists in the least measures, and its moves are those that progress first
--   IsMadeBy e g s       == what is said of the moves of the solution s of g, by the engine
--   IsSolved e text out  == out is the text of a solution of the game that the text stands for
--   game_refusal_said r  == what is said of the text of a game that is refused: the number of the cause, and the byte
--   game_refusal_line r  == its line
--   IsRefusedGame text out == out says why the text is refused, and at which byte
use Rattle.std.specs.Prelude.{ℕ, ◌≡◌, List, Option, Some, None, option_map, if◌then◌else◌, codes}
use Rattle.std.specs.Str.{bytes_eq}
use Rattle.ml_lines.specs.Lines.{Word}
use Rattle.ml_parity.specs.Game.{ParityGame}
use Rattle.ml_parity.specs.Solution.{GameSolution, IsSolution}
use Rattle.ml_pgsolver.specs.GameText.{NamedGame}
use Rattle.ml_pgsolver.specs.Refusals.{IsReadAs, IsRefusedBy}
use Rattle.ml_pgsolver.specs.SolutionText.{solution_text}
use Rattle.ml_pgsolver.specs.declared.refusal.GameTextRefusal.{GameTextRefusal}
use Rattle.ml_pgsolver.specs.declared.refusal.GameTextRefusal.TheVariants as cause
use Rattle.ml_progress.specs.Measured.{IsMeasured, MeasuredGame}
use Rattle.ml_driver.specs.Said.{said_text}
use Rattle.ml_driver.specs.declared.said.Said.{Said}
use Rattle.ml_driver.specs.declared.said.Said.TheVariants.{RefusedText}
use Rattle.ml_driver.specs.declared.said.TextKind.TheVariants.{Game}
use Rattle.ml_driver.specs.declared.engine.Engine.{Engine}
use Rattle.ml_driver.specs.declared.engine.Engine.TheVariants.{Recursive, Measures, Tangles}

-- ---- engines

abbrev pub engine_word : Engine → Word
engine_word Recursive = codes "recursive"
engine_word Measures = codes "measures"
engine_word Tangles = codes "tangles"

abbrev pub engine_named : Word → Option Engine
engine_named word =
    if bytes_eq word (engine_word Recursive) then Some Recursive
    else (if bytes_eq word (engine_word Measures) then Some Measures
    else (if bytes_eq word (engine_word Tangles) then Some Tangles else None))

-- ---- games that are solved

pub record IsByMeasures (g : ParityGame) (s : GameSolution) : Type 0 where
  pub measured : MeasuredGame
  pub is_measured : IsMeasured g measured
  pub is_solution : s ≡ measured.solution

abbrev pub IsMadeBy : Engine → ParityGame → GameSolution → Type 0
IsMadeBy Recursive g s = Unit {0}
IsMadeBy Measures g s = IsByMeasures g s
IsMadeBy Tangles g s = Unit {0}

pub record IsSolved (e : Engine) (text out : List ℕ) : Type 0 where
  pub named : NamedGame
  pub solution : GameSolution
  pub is_read : IsReadAs text named
  pub is_solution : IsSolution named.game solution
  pub is_made : IsMadeBy e named.game solution
  pub is_written : out ≡ solution_text named solution

-- ---- texts that are refused

-- want of memory is no refusal of the text
abbrev pub game_refusal_said : GameTextRefusal → Option Said
game_refusal_said (cause.Syntax at) = Some (RefusedText Game 1 at)
game_refusal_said (cause.Repeated at) = Some (RefusedText Game 2 at)
game_refusal_said (cause.Unknown at) = Some (RefusedText Game 3 at)
game_refusal_said (cause.TooMany at) = Some (RefusedText Game 4 at)
game_refusal_said (cause.TooLarge at) = Some (RefusedText Game 5 at)
game_refusal_said cause.NoMemory = None

abbrev pub game_refusal_line : GameTextRefusal → Option (List ℕ)
game_refusal_line e = option_map said_text (game_refusal_said e)

pub record IsRefusedGame (text out : List ℕ) : Type 0 where
  pub refusal : GameTextRefusal
  pub is_refused : IsRefusedBy text refusal
  pub is_written : Some out ≡ game_refusal_line refusal
