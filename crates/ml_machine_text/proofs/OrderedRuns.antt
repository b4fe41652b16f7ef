-- Each word has a structure in order.
--
--   ordered_run w    == the structure of the word w, with the names of each letter in order
--   run_is_structure, run_is_ordered, run_is == it is a structure, in order, and that of the word
use Rattle.std.proofs.Common.{[], length, map, get_or, codes, refl, ap, ◌∙◌}
use Rattle.std.proofs.lemmas.List.{get_or-map, length-map}
use Rattle.std.proofs.lemmas.List.Elements.{All-map}
use Rattle.std.specs.Cmp.Lexicographic.{slice_cmp}
use Rattle.std.specs.List.Sorted.{IsStrictlySortedBy}
use Rattle.std.specs.Ordering.{nat_cmp}
use Rattle.ml_base.specs.Structure.{IsStructure, Structure}
use Rattle.ml_base.proofs.Edges.{places_ascend}
use Rattle.ml_kripke.specs.Ordered.{IsOrdered}
use Rattle.ml_paths.specs.Runs.{IsRunOf}
use Rattle.ml_trace.specs.WordAutomata.{IsWordLasso, WordLasso}
use Rattle.ml_word_automaton.specs.Words.{Letter, has, next_letter, word_structure}
use Rattle.ml_word_automaton.proofs.WordPlaces.{word_is_structure}
use Rattle.ml_machine_text.proofs.OrderedLetters.{in_order, order_ascends, order_has}

module _ (w : WordLasso Letter) where
  abbrev pub ordered_run : Structure
  ordered_run = record {
    states = length w.word;
    labels = map in_order w.word;
    edges = (word_structure w).edges;
  }

  pub run_is_structure : IsWordLasso w → IsStructure ordered_run
  run_is_structure loops =
      let plain = word_is_structure w loops in
      record {
        has_state = plain.has_state;
        labels_states = length-map w.word in_order;
        joins_states = plain.joins_states;
      }

  pub run_is_ordered : IsOrdered ordered_run
  run_is_ordered = record {
    labels_ascend =
        All-map (IsStrictlySortedBy (slice_cmp nat_cmp)) in_order w.word (λ k d low. order_ascends (get_or w.word k d));
    edges_ascend =
        places_ascend (λ i. record { source = i; action = codes "_"; target = next_letter w i }) (λ i. refl) 0 (length w.word);
  }

  pub run_is : IsRunOf w ordered_run
  run_is = record {
    one_each = refl;
    labels = λ k p low.
        ap (λ l. has l p) (get_or-map in_order w.word k [] [] low) ∙ order_has (get_or w.word k []) p;
    edges = λ e. (λ h. h, λ h. h);
  }
