-- The structure of the word of the labels along a path.
--
--   states_low       == its places are states
--   letter_is        == the letter at a place is the labels of the place's state
--   along_ordered, along_named, along_structure == it is a structure, in order and with names, since the path's is
--   own_run          == it is the structure of the word
--   one_run          == and the only one that is in order
use Rattle.std.proofs.Common.{ℕ, ◌≡◌, ◌<◌, ◌≤◌, ◌↔◌, ◌∙◌, ⊎_elim, All, Contains, List, [], length, get_or, slice_index_or, refl, sym, subst, arith}
use Rattle.std.specs.Cmp.Lexicographic.{slice_cmp}
use Rattle.std.specs.List.Sorted.{IsStrictlySortedBy}
use Rattle.std.specs.Ordering.{nat_cmp}
use Rattle.std.proofs.lemmas.Bool.{cases_lt}
use Rattle.std.proofs.lemmas.List.{get_or-map, get_or_default, get_or_past, length-map}
use Rattle.ml_base.specs.Name.{IsName}
use Rattle.ml_base.specs.Structure.{IsStructure, Structure}
use Rattle.ml_base.proofs.Listing.{among_iff, lists_iff}
use Rattle.ml_blocks.proofs.SaidItems.{path_states}
use Rattle.ml_ctl.specs.Paths.{IsPath}
use Rattle.ml_kripke.specs.Ordered.{HasNames, IsOrdered}
use Rattle.ml_kripke.proofs.OneStructure.{one_structure}
use Rattle.ml_lists.specs.Lasso.{Lasso, entry}
use Rattle.ml_lists.proofs.Members.{contains_none}
use Rattle.ml_trace.specs.WordAutomata.{IsWordLasso, WordLasso}
use Rattle.ml_word_automaton.specs.Words.{Letter, word_structure}
use Rattle.ml_word_automaton.proofs.WordPlaces.{word_is_structure}
use Rattle.ml_paths.specs.Paths.{labels_at}
use Rattle.ml_paths.specs.Runs.{IsRunOf, word_along}
use Rattle.ml_path_text.specs.WrittenPath.{run_of_path}
use Rattle.ml_path_text.proofs.OrderedRuns.{run_named, run_ordered}

pub own_run : (w : WordLasso Letter) → IsRunOf w (word_structure w)
own_run w = record { one_each = refl; labels = λ k p low. refl; edges = λ e. (λ h. h, λ h. h) }

module _ (m : Structure) (l : Lasso) (ok : IsStructure m) (path : IsPath m l) where
  abbrev letters : List Letter
  letters = (word_along m l).word

  pub long : length letters ≡ length l.entries
  long = length-map l.entries (labels_at m)

  pub loops : IsWordLasso (word_along m l)
  loops = omega (arith, path.starts, long)

  pub letter_is : (k : ℕ) (d : Letter) → k < length letters → get_or letters k d ≡ get_or m.labels (entry l k) []
  letter_is k d low = get_or-map (labels_at m) l.entries k 0 d (omega (arith, low, long))

  state_low : (k : ℕ) → k < length letters → entry l k < m.states
  state_low k low = path_states m l ok path k (path.starts, omega (arith, low, long))

  pub states_low : All (λ t. t < m.states) l.entries
  states_low k d low =
      subst (λ t. t < m.states) (get_or_default l.entries k 0 d low)
      (path_states m l ok path k (path.starts, low))

  -- what is true of the labels of each state is true of those along the path
  all_along : (P : Letter → Type 0) → All P m.labels → All P letters
  all_along P all k d low =
      subst P (sym (letter_is k d low)) (all (entry l k) [] (omega (arith, state_low k low, ok.labels_states)))

  pub along_structure : IsStructure (run_of_path m l)
  along_structure = word_is_structure (word_along m l) loops

  pub along_ordered : IsOrdered m → IsOrdered (run_of_path m l)
  along_ordered ordered =
      run_ordered (word_along m l) (all_along (IsStrictlySortedBy (slice_cmp nat_cmp)) ordered.labels_ascend)

  pub along_named : HasNames m → HasNames (run_of_path m l)
  along_named named = run_named (word_along m l) (all_along (All IsName) named.labels_named)

  module _ (run : Structure) (run_ok : IsStructure run) (is : IsRunOf (word_along m l) run) where
    -- past the last place there are no labels
    no_label : (n : Structure) → IsStructure n → (k : ℕ) → n.states ≤ k → (p : List ℕ)
        → ¬ (Contains (slice_index_or n.labels k []) p)
    no_label n n_ok k past p here =
        let empty = get_or_past n.labels k [] (omega (arith, n_ok.labels_states, past)) in
        contains_none p (subst (λ ps. Contains ps p) empty here)

    same_labels : (k : ℕ) (p : List ℕ)
        → Contains (slice_index_or run.labels k []) p ↔ Contains (slice_index_or letters k []) p
    same_labels k p =
        ⊎_elim
        (λ (low : k < length letters). (
          λ h. (among_iff (get_or letters k []) p).0 (sym (is.labels k p low) ∙ (lists_iff run k p).1 h),
          λ h. (lists_iff run k p).0 (is.labels k p low ∙ (among_iff (get_or letters k []) p).1 h),
        ))
        (λ (past : length letters ≤ k). (
          λ h. absurd (no_label run run_ok k (omega (arith, past, is.one_each)) p h),
          λ h. absurd (no_label (run_of_path m l) along_structure k past p h),
        ))
        (cases_lt k (length letters))

    pub one_run : IsOrdered m → IsOrdered run → run ≡ run_of_path m l
    one_run ordered run_ordered =
        one_structure run (run_of_path m l) run_ok along_structure run_ordered (along_ordered ordered)
        (record { states_same = is.one_each; labels_same = same_labels; edges_same = is.edges })
