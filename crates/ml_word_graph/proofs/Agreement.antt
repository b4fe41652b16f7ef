-- The game on a formula's graph agrees with the formula's meaning on words.
--
--   holds_by_value  == the graph holds at a state exactly where the value of the root there is true
--   problem_by_value == and so does the problem
--   graphs_agree    == so graphs agree with formulas
use Rattle.std.proofs.Common.{◌≡◌, ◌↔◌, ℕ, ◌<◌, Bool, true, false, not, refl, ⊎_elim}
use Rattle.std.proofs.lemmas.Bool.{cases_Bool, false≢true}
use Rattle.ml_lists.specs.Lasso.{Lasso}
use Rattle.ml_base.specs.Structure.{Structure}
use Rattle.ml_parity.specs.declared.players.Player.TheVariants.{Even}
use Rattle.ml_parity.specs.Winner.{Wins}
use Rattle.ml_parity.proofs.Winners.{clash}
use Rattle.ml_graph.specs.Graph.{Graph, size}
use Rattle.ml_graph.specs.CheckingGame.{Holds, Pair, checking_game, vertex_number}
use Rattle.ml_graph.proofs.CheckingGame.{is_game}
use Rattle.ml_graph.proofs.OneStep.{vertex_low}
use Rattle.ml_ctl.specs.Formula.{Formula}
use Rattle.ml_ctl.specs.Sorts.{is_linear}
use Rattle.ml_ctl.specs.Meaning.{Satisfies}
use Rattle.ml_ctl.specs.Problem.{in_sense}
use Rattle.ml_word_graph.specs.Laws.{GraphsAgree}
use Rattle.ml_word_graph.specs.Problem.{HoldsAt, IsAdmitted, IsWordFrom}
use Rattle.ml_word_graph.specs.WordGraph.{IsGraphOf, Place, Root, start_of}
use Rattle.ml_word_graph.proofs.Values.{Says}
use Rattle.ml_word_graph.proofs.Words.{a_word}
use Rattle.ml_word_graph.proofs.StateValues.{value}
use Rattle.ml_word_graph.proofs.Complement.{here_says}
use Rattle.ml_word_graph.proofs.NodeValues.{node_value, signed}
use Rattle.ml_word_graph.proofs.Moves.{good_pair, number_low, player_of}
use Rattle.ml_word_graph.proofs.Cycles.{player_wins}

module _ (f : Formula) (negated : Bool) (g : Graph) (linear : is_linear f ≡ true) (is : IsGraphOf g f negated) (m : Structure) (ok : IsAdmitted m)
    (s : ℕ) (low : s < m.states) where
  abbrev root : Place
  root = Root (start_of f negated)

  abbrev here : ℕ
  here = vertex_number g m (Pair s g.root)

  won : (b : Bool) → node_value m ok root s ≡ b → Wins (checking_game g m) (player_of b) here
  won b value =
      player_wins g m ok root is.is_numbered.0 is.is_numbered.1 linear is.is_graph b (Pair s g.root)
      (good_pair s g.root root low is.is_numbered.1.root_is value)

  holds_by_value : Says (Holds g m s) (node_value m ok root s)
  holds_by_value = (there, λ e. won true e)
    where
      root_low : g.root < size g
      root_low = number_low g m ok root is.is_numbered.0 is.is_numbered.1 linear g.root root is.is_numbered.1.root_is

      there : Holds g m s → node_value m ok root s ≡ true
      there even =
          ⊎_elim (λ (e : node_value m ok root s ≡ true). e)
          (λ (e : node_value m ok root s ≡ false).
          absurd (clash (checking_game g m) (is_game g m is.is_graph ok.is_structure) Even here
          (vertex_low g m is.is_graph ok.is_structure (Pair s g.root) (low, root_low)) even (won false e)))
          (cases_Bool (node_value m ok root s))

  sense_says : (b v : Bool) {P : Type 0} → Says P v → Says (in_sense b P) (signed (not b) v)
  sense_says false v x = x
  sense_says true true x = (λ none. absurd (none (x.1 refl)), λ e. absurd (false≢true e))
  sense_says true false x = (λ none. refl, λ e p. false≢true (x.0 p))

  word_says : (l : Lasso) → IsWordFrom m s l → Says (in_sense negated (Satisfies m l f)) (node_value m ok root s)
  word_says l w = sense_says negated (value m ok f s) (here_says f linear m ok s low l w)

  pub agreement : Holds g m s ↔ HoldsAt m s f negated
  agreement =
      let w = a_word m ok s low in (
        λ h. (w.0, w.1, (word_says w.0 w.1).1 (holds_by_value.0 h)),
        λ p. holds_by_value.1 ((word_says p.0 p.1).0 p.2),
      )

pub graphs_agree : GraphsAgree
graphs_agree f negated g linear is m ok s low = agreement f negated g linear is m ok s low
