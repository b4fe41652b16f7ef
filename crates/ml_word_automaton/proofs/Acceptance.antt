-- The automaton of a problem accepts exactly the words that satisfy its formula.
--
--   states_are_told        == Even wins a state node exactly if it holds
--   accepts_what_satisfies == the law
use Rattle.std.proofs.Common.{suc, ◌≡◌, ◌⊎◌, ◌↔◌, inl, inr, arith, true, Bool, not, [], ◌∷◌, slice_get, Some, subst}
use Rattle.std.specs.Bool.{beq}
use Rattle.ml_parity.specs.declared.players.Player.TheVariants.{Even, Odd}
use Rattle.ml_parity.specs.Winner.{Wins}
use Rattle.ml_graph.specs.Graph.{Graph}
use Rattle.ml_trace.specs.WordAutomata.{WordLasso, IsWordLasso, IsAcceptedFrom}
use Rattle.ml_ctl.specs.Formula.{Formula, occurrences}
use Rattle.ml_ctl.specs.Sorts.{is_linear}
use Rattle.ml_ltl.specs.Problem.{in_sense}
use Rattle.ml_blocks.specs.Items.{Item, now}
use Rattle.ml_blocks.proofs.Agreement.{stands_smaller, states_told}
use Rattle.ml_blocks.proofs.BlockSteps.{path}
use Rattle.ml_blocks.proofs.BlocksTold.{ItemsTold, block_told, is_state_item}
use Rattle.ml_blocks.proofs.ItemsWithin.{within_stands}
use Rattle.ml_blocks.proofs.PlaceVertices as vertices
use Rattle.ml_blocks.proofs.PlaceVertices.{Board, Known, at, number_low}
use Rattle.ml_word_automaton.specs.Laws.{AcceptsWhatSatisfies}
use Rattle.ml_word_automaton.specs.WordAutomaton.{IsBlockGraph, Leads, start_block}
use Rattle.ml_word_automaton.specs.Words.{Letter, SatisfiedBy}
use Rattle.ml_word_automaton.proofs.AcceptedRuns.{never_accepted}
use Rattle.ml_word_automaton.proofs.SatisfiedRuns.{accepted}
use Rattle.ml_word_automaton.proofs.WordBoards.{board}
use Rattle.ml_word_automaton.proofs.WordPlaces.{SomePath, some_as_satisfied}

module _ (g : Graph) (f : Formula) (negated : Bool) (w : WordLasso Letter) (is : IsBlockGraph g f negated)
    (ok : IsWordLasso w) (linear : is_linear f ≡ true) where
  abbrev B : Board
  B = board g f negated w is ok

  abbrev first : Item
  first = now 0 f (not negated)

  states_are_told : ItemsTold B first true
  states_are_told s low x of e h =
      let stands = (within_stands 0 f (not negated) _ of).stands in
      let smaller = stands_smaller 0 f x.number x.formula stands in
      states_told B (suc (occurrences f)) x.formula (omega (arith, smaller)) (is_state_item x e) x.number
      (beq x.positive true) s low h

  -- the block is node 0
  abbrev at_start : Known B (path first true (first ∷ []) 0)
  at_start = record {
    number = 0;
    is = subst (λ n. slice_get B.places n ≡ Some (start_block f negated)) B.numbered.is_first B.numbered.root_is;
  }

  abbrev Decided : Type 0
  Decided =
      (SomePath w ok f negated × Wins (vertices.game B) Even (at B 0 0))
      ⊎ ((SomePath w ok f negated → ⊥) × Wins (vertices.game B) Odd (at B 0 0))

  decided : Decided
  decided = block_told B 0 f (not negated) true states_are_told 0 (omega (arith, ok)) at_start

  satisfied : IsAcceptedFrom (Leads g) 0 w → SatisfiedBy w (in_sense negated f)
  satisfied accepts = by_winner decided
    where
      by_winner : Decided → SatisfiedBy w (in_sense negated f)
      by_winner (inl (some, even)) = (some_as_satisfied w ok f negated).0 some
      by_winner (inr (none, odd)) =
          let low = number_low B at_start in
          absurd (never_accepted g f negated w is ok odd.strategy odd.is_strategy 0 low odd.wins accepts)

  accepts_it : SatisfiedBy w (in_sense negated f) → IsAcceptedFrom (Leads g) 0 w
  accepts_it sat = by_winner decided
    where
      by_winner : Decided → IsAcceptedFrom (Leads g) 0 w
      by_winner (inl (some, even)) =
          accepted g f negated w is ok linear even.strategy even.is_strategy at_start even.wins
      by_winner (inr (none, odd)) = absurd (none ((some_as_satisfied w ok f negated).1 sat))

  pub exactly : IsAcceptedFrom (Leads g) 0 w ↔ SatisfiedBy w (in_sense negated f)
  exactly = (satisfied, accepts_it)

pub accepts_what_satisfies : AcceptsWhatSatisfies
accepts_what_satisfies f negated g w linear is ok = exactly g f negated w is ok linear
