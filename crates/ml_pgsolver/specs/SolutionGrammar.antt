-- The grammar of a solution behind a game, by its tokens.
--
--   checked  = game solution
--   solution = "paritysol" [ NUM ] ";" { entry }
--   entry    = NUM ( "0" | "1" ) [ NUM ] ";"
--
-- The number behind the word is not used. An entry has the id of a vertex, the player who is said to win it, and the id of
-- a vertex to move to, or none. The word is no token of a game; behind it stand the tokens of games.
--
--   Entry                     == the parts of an entry, as they were written
--   SolutionDraft             == the number behind the word, if there is one, and the entries
--   entry_tokens e            == the tokens of an entry
--   solution_tokens d         == the tokens of a solution, behind the word
--   IsSolutionText ts         == the tokens are those of a solution, behind the word
--   reference_at_place n t    == the id that a token is, where n tokens stand behind the last `;`, or the word
--   solution_form             == as a kind of text: the word stands before its tokens, and but for entries nothing is counted
use Rattle.std.specs.Prelude.{ℕ, zero, suc, ◌≡◌, List, [], ◌∷◌, ◌++◌, Option, Some, None}
use Rattle.std.specs.List.{flat_map}
use Rattle.ml_lines.specs.Reading.{value}
use Rattle.ml_parity.specs.declared.players.Player.{Player}
use Rattle.ml_pgsolver.specs.Grammar.{owner_digits}
use Rattle.ml_pgsolver.specs.Refusals.{Form}
use Rattle.ml_pgsolver.specs.Tokens.{Token, Number, Semicolon}

pub record Entry : Type 0 where
  pub vertex : List ℕ
  pub winner : Player
  pub move_to : Option (List ℕ)

pub record SolutionDraft : Type 0 where
  pub header : Option (List ℕ)
  pub entries : List Entry

abbrev pub number_tokens : Option (List ℕ) → List Token
number_tokens None = []
number_tokens (Some digits) = Number digits ∷ []

abbrev pub entry_tokens : Entry → List Token
entry_tokens e = Number e.vertex ∷ Number (owner_digits e.winner) ∷ (number_tokens e.move_to ++ Semicolon ∷ [])

abbrev pub solution_tokens : SolutionDraft → List Token
solution_tokens d = number_tokens d.header ++ Semicolon ∷ flat_map entry_tokens d.entries

abbrev pub IsSolutionText : List Token → Type 0
IsSolutionText ts = (d : SolutionDraft) × (ts ≡ solution_tokens d)

-- the vertex and the move of an entry; the number behind the word has one token before it
abbrev pub reference_at_place : ℕ → Token → List ℕ
reference_at_place zero (Number digits) = value digits ∷ []
reference_at_place (suc (suc zero)) (Number digits) = value digits ∷ []
reference_at_place n t = []

abbrev pub nothing_counted : ℕ → Token → List ℕ
nothing_counted n t = []

abbrev pub solution_form : Form
solution_form = record { Is = IsSolutionText; start = 1; counted = nothing_counted }
