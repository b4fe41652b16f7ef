-- Machines and environments as systems: a move for each set of inputs, or of outputs, with the valuation as its letter.
--
--   IsStep i steps n l b      == by some set below n, a machine's steps have the valuation l and lead to b
--   IsReply i play next n l b == by some set of outputs below n, so does what an environment does
--   AreMoves P moves          == these are the moves with the letters l to b of which P l b is true
--   AreMovesOf goes n s       == s has n states, and its moves go as `goes` says
--   IsSought t b w            == the word w satisfies the formula, or doesn't where the problem is negated
--   IsSoughtIn t b s o        == o is such a word of the system s, or none is
--   IsFoundIn t b s c         == c is what is found of the words of the system s, for the problem of sense b
use Rattle.std.specs.Prelude.{ℕ, ◌≡◌, ◌↔◌, ◌<◌, Bool, List, length, get_or, Option, None, Some}
use Rattle.ml_blocks.specs.Closures.{HasMoreThan}
use Rattle.ml_emptiness.specs.Systems.{Goes, IsWordOn, SystemTable}
use Rattle.ml_emptiness.specs.declared.lassos.SystemLasso.{SystemLasso}
use Rattle.ml_emptiness.specs.declared.systems.Move.{Move}
use Rattle.ml_lists.specs.Lasso.{Lasso}
use Rattle.ml_lists.specs.Member.{IsMember}
use Rattle.ml_ltl.specs.Problem.{in_sense}
use Rattle.ml_realize.specs.Realizing.{word_of}
use Rattle.ml_synthesis.specs.Machines.{valuation}
use Rattle.ml_synthesis.specs.declared.machines.MachineStep.{MachineStep}
use Rattle.ml_task.specs.Task.{Task, names_of}
use Rattle.ml_trace.specs.WordAutomata.{WordLasso}
use Rattle.ml_word_automaton.specs.WordAutomaton.{start_block}
use Rattle.ml_word_automaton.specs.Words.{SatisfiedBy}
use Rattle.ml_machine_check.specs.Checked.{most_nodes}
use Rattle.ml_machine_check.specs.declared.found.MachineVerdict.{MachineVerdict}
use Rattle.ml_machine_check.specs.declared.found.MachineVerdict.TheVariants as found

abbrev pub step_in : List MachineStep → ℕ → MachineStep
step_in steps k = get_or steps k (record { give = 0; next = 0 })

pub record IsStep (i : ℕ) (steps : List MachineStep) (n l b : ℕ) : Type 0 where
  pub set : ℕ
  pub low : set < n
  pub letter_is : l ≡ valuation i set (step_in steps set).give
  pub to_is : b ≡ (step_in steps set).next

pub record IsReply (i play : ℕ) (next : List ℕ) (n l b : ℕ) : Type 0 where
  pub set : ℕ
  pub low : set < n
  pub letter_is : l ≡ valuation i play set
  pub to_is : b ≡ get_or next set 0

abbrev pub AreMoves : (ℕ → ℕ → Type 0) → List Move → Type 0
AreMoves P moves = (l b : ℕ) → IsMember (record { letter = l; to = b }) moves ↔ P l b

pub record AreMovesOf (goes : ℕ → ℕ → ℕ → Type 0) (n : ℕ) (s : SystemTable) : Type 0 where
  pub one_each : length s ≡ n
  pub same : (a l b : ℕ) → a < n → Goes s a l b ↔ goes a l b

-- the word w of valuations is one that is looked for
abbrev pub IsSought : Task → Bool → WordLasso ℕ → Type 0
IsSought t negated w = SatisfiedBy (word_of (names_of t) w) (in_sense negated t.formula)

-- a word of the system that is looked for, or none is
abbrev pub IsSoughtIn : Task → Bool → SystemTable → Option SystemLasso → Type 0
IsSoughtIn t negated s None = (lasso : Lasso) (w : WordLasso ℕ) → IsWordOn s lasso w → ¬ (IsSought t negated w)
IsSoughtIn t negated s (Some x) =
    (lasso : Lasso)
    × IsWordOn s lasso (record { word = x.letters.items; loop_start = x.loop_start })
    × IsSought t negated (record { word = x.letters.items; loop_start = x.loop_start })

abbrev pub IsFoundIn : Task → Bool → SystemTable → MachineVerdict → Type 0
IsFoundIn t negated s found.Holds =
    (¬ (HasMoreThan (start_block t.formula negated) most_nodes))
    × ((lasso : Lasso) (w : WordLasso ℕ) → IsWordOn s lasso w → ¬ (IsSought t negated w))
IsFoundIn t negated s (found.Fails w) =
    (¬ (HasMoreThan (start_block t.formula negated) most_nodes))
    × ((lasso : Lasso) × IsWordOn s lasso w × IsSought t negated w)
IsFoundIn t negated s found.ClosureTooLarge = HasMoreThan (start_block t.formula negated) most_nodes
