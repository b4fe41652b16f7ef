-- What is written of the automaton of a formula, and what the text stands for.
--
--   IsWrittenFor f limit text == the text is that of an automaton of f, whose places are no more than the limit
--   IsSmall b                 == the automaton b has no more states, propositions and edges than one that is read may have
--   TextAccepts f text        == by the grammar the text stands for an automaton that accepts exactly the word lassos that
--                                satisfy f; and it is read as this automaton, if that is small
use Rattle.std.specs.Prelude.{ℕ, ◌≡◌, ◌≤◌, ◌↔◌, List, length}
use Rattle.ml_trace.specs.WordAutomata.{WordLasso, IsWordLasso, IsAcceptedFrom}
use Rattle.ml_ctl.specs.Formula.{Formula}
use Rattle.ml_hoa.specs.Automaton as hoa
use Rattle.ml_hoa.specs.Automaton.{most_edges, most_props, most_states}
use Rattle.ml_hoa.specs.Refusals.{IsReadAs}
use Rattle.ml_labelled.specs.Labelled as labelled
use Rattle.ml_labelled.specs.Labelled.{Letter}
use Rattle.ml_labelled.specs.LabelledText.{GuardsLead, StandsIn, automaton_text}
use Rattle.ml_word_automaton.specs.Words.{SatisfiedBy}
use Rattle.ml_translate.specs.Translation.{IsTranslated}

pub record IsWrittenFor (f : Formula) (limit : ℕ) (text : List ℕ) : Type 0 where
  pub automaton : labelled.Automaton
  pub is_translated : IsTranslated f limit automaton
  pub is_written : text ≡ automaton_text automaton

pub record IsSmall (b : hoa.Automaton) : Type 0 where
  pub few_states : b.states ≤ most_states
  pub few_props : length b.props ≤ most_props
  pub few_edges : length b.edges ≤ most_edges

pub record TextAccepts (f : Formula) (text : List ℕ) : Type 0 where
  pub automaton : hoa.Automaton
  pub stands : StandsIn text automaton
  pub accepts : (w : WordLasso Letter)
      → IsWordLasso w
      → IsAcceptedFrom (GuardsLead automaton) automaton.start w ↔ SatisfiedBy w f
  pub is_read : IsSmall automaton → IsReadAs text automaton
