-- The problem of LTL on words holds on the structure of a word that satisfies its formula.
--
--   step_there, step_back == the structure has the steps of the word
--   runs_admitted  == so it is one of words
--   runs_hold      == and the problem holds at its first state
--   shown_are_runs == the word of the labels along a path that is shown satisfies the formula
use Rattle.std.proofs.Common.{ℕ, ◌≡◌, ◌+◌, ◌<◌, ◌==◌, ◌&&◌, Bool, true, false, List, [], ◌∷◌, length, get_or, slice_index_or, codes, bytes_eq, refl, sym, ap, ◌∙◌, arith, zero, suc}
use Rattle.std.specs.List.{range_with_len}
use Rattle.std.proofs.lemmas.List.FromFn.{get_or-range_with_len, length-range_with_len}
use Rattle.ml_base.specs.Structure.{IsStructure, Structure, lists}
use Rattle.ml_base.specs.declared.structure.Edge.{Edge}
use Rattle.ml_ctl.specs.Formula.{Formula}
use Rattle.ml_ctl.specs.Meaning.{Satisfies}
use Rattle.ml_ctl.specs.Paths.{IsPathFrom, has_step, places}
use Rattle.ml_ctl.specs.Problem.{in_sense as sense}
use Rattle.ml_ctl.specs.Sorts.{is_linear}
use Rattle.ml_lists.specs.Lasso.{entry, round}
use Rattle.ml_lists.proofs.Member.{list_any-member, member-list_any}
use Rattle.ml_lists.proofs.Members.{contains_of_member, member_of_contains}
use Rattle.ml_ltl.specs.Problem.{in_sense}
use Rattle.ml_trace.specs.WordAutomata.{IsWordLasso, WordLasso}
use Rattle.ml_word_automaton.specs.Words.{Letter, SatisfiedBy, has, next_letter, word_path, word_structure}
use Rattle.ml_word_automaton.proofs.WordPlaces.{has_next, path_is, step_is}
use Rattle.ml_word_graph.specs.Problem as words
use Rattle.ml_paths.specs.Laws.{RunsHold, ShownAreRuns}
use Rattle.ml_paths.specs.Runs.{IsRunOf}
use Rattle.ml_paths.proofs.SameLabels.{satisfied_along, sense_linear, truth_alike}

read_letter : (xs : List Letter) (k : ℕ) → k < length xs → slice_index_or xs k [] ≡ get_or xs k []
read_letter [] k low = absurd (omega (arith, low))
read_letter (x ∷ xs) zero low = refl
read_letter (x ∷ xs) (suc k) low = read_letter xs k (omega (arith, low))

module _ (w : WordLasso Letter) (m : Structure) (loops : IsWordLasso w) (ok : IsStructure m) (run : IsRunOf w m) where
  abbrev leads : ℕ → ℕ → Edge → Bool
  leads s t e = (e.source == s) && bytes_eq e.action (codes "_") && (e.target == t)

  step_there : (s t : ℕ) → has_step (word_structure w) s t ≡ true → has_step m s t ≡ true
  step_there s t is =
      let found = list_any-member (leads s t) (word_structure w).edges is in
      member-list_any (leads s t) found.item m.edges
      (member_of_contains found.item m.edges
      ((run.edges found.item).1 (contains_of_member found.item (word_structure w).edges found.member))) found.passes

  step_back : (s t : ℕ) → has_step m s t ≡ true → has_step (word_structure w) s t ≡ true
  step_back s t is =
      let found = list_any-member (leads s t) m.edges is in
      member-list_any (leads s t) found.item (word_structure w).edges
      (member_of_contains found.item (word_structure w).edges
      ((run.edges found.item).0 (contains_of_member found.item m.edges found.member))) found.passes

  runs_admitted : words.IsAdmitted m
  runs_admitted = record {
    is_structure = ok;
    one_step = λ s low. record {
      target = next_letter w s;
      leads = step_there s (next_letter w s) (has_next w loops s (let one = run.one_each in omega (arith, low, one)));
      only = λ t is. step_is w loops s t (step_back s t is);
    };
  }

  size : length (range_with_len 0 (length w.word)) ≡ length w.word
  size = length-range_with_len 0 (length w.word)

  entry_is : (k : ℕ) → k < length w.word → entry (word_path w) k ≡ k
  entry_is k low = get_or-range_with_len 0 (length w.word) k 0 low ∙ omega arith

  path_there : IsPathFrom m 0 (word_path w)
  path_there =
      let on = path_is w loops in record {
        is_path = record {
          starts = on.is_path.starts;
          joined = λ k low.
              step_there (get_or (round (word_path w)) k 0) (get_or (round (word_path w)) (k + 1) 0) (on.is_path.joined k low);
        };
        starts_at = on.starts_at;
      }

  is_word : words.IsWordFrom m 0 (word_path w)
  is_word = record {
    is_path = path_there;
    differ = λ i j i_low j_low same.
        let long = size in
        sym (entry_is i (omega (arith, i_low, long))) ∙ same ∙ entry_is j (omega (arith, j_low, long));
  }

  same_labels : (i : ℕ) → i < places (word_path w) → (p : List ℕ)
      → lists (word_structure w) (entry (word_path w) i) p ≡ lists m (entry (word_path w) i) p
  same_labels i low p =
      let long = size in
      let inside : i < length w.word = omega (arith, low, long) in
      ap (λ k. lists (word_structure w) k p) (entry_is i inside)
      ∙ ap (λ l. has l p) (read_letter w.word i inside)
      ∙ sym (run.labels i p inside)
      ∙ ap (λ k. lists m k p) (sym (entry_is i inside))

  module _ (f : Formula) (linear : is_linear f ≡ true) where
    satisfied_there : SatisfiedBy w f → Satisfies m (word_path w) f
    satisfied_there sat =
        let long = size in
        (truth_alike (word_structure w) m (word_path w) (word_path w) refl refl
        (let low = loops in omega (arith, low, long)) same_labels f linear 0
        (let low = loops in omega (arith, low, long))).0 sat

in_its_sense : (m : Structure) (f : Formula) (negated : Bool) (w : WordLasso Letter)
    → Satisfies m (word_path w) (in_sense negated f)
    → sense negated (Satisfies m (word_path w) f)
in_its_sense m f false w sat = sat
in_its_sense m f true w sat = sat

pub runs_hold : RunsHold
runs_hold w m f negated loops ok run linear sat = (
  runs_admitted w m loops ok run,
  (
    word_path w,
    is_word w m loops ok run,
    in_its_sense m f negated w (satisfied_there w m loops ok run (in_sense negated f) (sense_linear negated f linear) sat),
  ),
)

pub shown_are_runs : ShownAreRuns
shown_are_runs m s f negated l linear shown =
    (satisfied_along m l (in_sense negated f) shown.is_path.is_path.starts (sense_linear negated f linear)).0
    shown.satisfies
