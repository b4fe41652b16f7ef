-- What is true of texts and answers.
--
--   OneAnswer       == a text is read as one game, or is refused in one way, and never both
--   OneCheckedAnswer == the same of a game's text with a solution behind it, and its claims
--   OneFinding      == something is found of the claims, or the text is refused, and never both; and one thing alone, but for
--                      the vertex that is named with the fourth rule
--   WrittenIsAccepted == what is written for a solution of a text's game, behind the text, is read as the solution's claims,
--                      and found to be right
--   SolutionOrFault == tokens are those of a solution without a fault, or have a first fault
--   TokensAreLongest == each token stands where it is said to, and no longer one begins there
use Rattle.ml_game_check.specs.Laws.{claims_of}
use Rattle.ml_game_check.specs.RightClaims.{Claims}
use Rattle.ml_game_check.specs.declared.verdict.Rule.TheVariants.{NoBadCycle}
use Rattle.ml_pgsolver.specs.CheckedText.{IsCheckRefusedBy, IsCheckedAs, IsFoundIn}
use Rattle.ml_parity.specs.Solution.{GameSolution, IsSolution}
use Rattle.ml_pgsolver.specs.SolutionText.{solution_text}
use Rattle.ml_pgsolver.specs.SolutionGrammar.{SolutionDraft, solution_form, solution_tokens}
use Rattle.ml_pgsolver.specs.Tokens.{Placed, signs_of}
use Rattle.std.specs.Prelude.{ℕ, ◌≡◌, ◌≢◌, ◌⊎◌, List, ◌++◌}
use Rattle.ml_pgsolver.specs.GameText.{NamedGame, StandsFor}
use Rattle.ml_pgsolver.specs.Refusals.{Cause, HasNoFaultIn, IsFirstFaultIn, IsReadAs, IsRefusedBy}
use Rattle.ml_pgsolver.specs.declared.finding.SolutionFinding.{SolutionFinding}
use Rattle.ml_pgsolver.specs.declared.finding.SolutionFinding.TheVariants.{Accepted, Rejected}
use Rattle.ml_pgsolver.specs.declared.refusal.GameTextRefusal.{GameTextRefusal}
use Rattle.ml_pgsolver.specs.declared.refusal.GameTextRefusal.TheVariants as refusal

-- a text stands for one game at most
abbrev pub IsUnambiguous : Type 0
IsUnambiguous = (text : List ℕ) (g h : NamedGame) → StandsFor text g → StandsFor text h → g ≡ h

-- want of memory is the one answer that says nothing of the text
pub record OneAnswer : Type 0 where
  -- each text is read as some game, or is refused for a reason of its own
  pub some : (text : List ℕ)
      → ((g : NamedGame) × IsReadAs text g) ⊎ ((e : GameTextRefusal) × (e ≢ refusal.NoMemory) × IsRefusedBy text e)
  -- but for want of memory, it is refused in one way at most
  pub refused : (text : List ℕ) (e d : GameTextRefusal) → e ≢ refusal.NoMemory → d ≢ refusal.NoMemory
      → IsRefusedBy text e → IsRefusedBy text d → e ≡ d
  -- what is read is refused by nothing but want of memory
  pub exclusive : (text : List ℕ) (g : NamedGame) (e : GameTextRefusal)
      → IsReadAs text g → IsRefusedBy text e → e ≡ refusal.NoMemory

-- the same where a solution stands behind the game
pub record OneCheckedAnswer : Type 0 where
  -- each such text is read as some game with claims, or is refused for a reason of its own
  pub some : (text : List ℕ)
      → ((g : NamedGame) × (cs : Claims) × IsCheckedAs text g cs)
      ⊎ ((e : GameTextRefusal) × (e ≢ refusal.NoMemory) × IsCheckRefusedBy text e)
  -- such a text stands for one game with one list of claims at most
  pub unambiguous : (text : List ℕ) (g h : NamedGame) (cs ds : Claims) → IsCheckedAs text g cs → IsCheckedAs text h ds
      → (g ≡ h) × (cs ≡ ds)
  pub refused : (text : List ℕ) (e d : GameTextRefusal) → e ≢ refusal.NoMemory → d ≢ refusal.NoMemory
      → IsCheckRefusedBy text e → IsCheckRefusedBy text d → e ≡ d
  pub exclusive : (text : List ℕ) (g : NamedGame) (cs : Claims) (e : GameTextRefusal)
      → IsCheckedAs text g cs → IsCheckRefusedBy text e → e ≡ refusal.NoMemory

abbrev pub NamesFour : SolutionFinding → Type 0
NamesFour f = (id : ℕ) × (f ≡ Rejected id NoBadCycle)

pub record OneFinding : Type 0 where
  pub some : (text : List ℕ)
      → ((f : SolutionFinding) × IsFoundIn text f)
      ⊎ ((e : GameTextRefusal) × (e ≢ refusal.NoMemory) × IsCheckRefusedBy text e)
  pub one : (text : List ℕ) (f h : SolutionFinding) → IsFoundIn text f → IsFoundIn text h
      → (f ≡ h) ⊎ (NamesFour f × NamesFour h)
  pub exclusive : (text : List ℕ) (f : SolutionFinding) (e : GameTextRefusal)
      → IsFoundIn text f → IsCheckRefusedBy text e → e ≡ refusal.NoMemory

pub record IsWrittenRight (text : List ℕ) (g : NamedGame) (s : GameSolution) : Type 0 where
  pub is_read : IsCheckedAs (text ++ solution_text g s) g (claims_of g.game s)
  pub is_accepted : IsFoundIn (text ++ solution_text g s) Accepted

abbrev pub WrittenIsAccepted : Type 0
WrittenIsAccepted = (text : List ℕ) (g : NamedGame) (s : GameSolution) → IsReadAs text g → IsSolution g.game s → IsWrittenRight text g s

abbrev pub SolutionOrFault : Type 0
SolutionOrFault =
    (all : List Placed)
    → ((d : SolutionDraft) × (signs_of all ≡ solution_tokens d) × HasNoFaultIn solution_form (signs_of all))
    ⊎ ((c : Cause) × (k : ℕ) × IsFirstFaultIn solution_form c (signs_of all) k)
