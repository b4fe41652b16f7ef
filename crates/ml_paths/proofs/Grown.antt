-- Labels and letters, as the program gathers them.
--
--   all_below     == a set that has the propositions that are in a letter has those in it
--   labelled_keeps == what a list of labels has at a place it has still with one label more
--   numbered_none, numbered_more == the numbers of the labels of no state, and of one state more
--   row_none, row_more == the letters of no label, and of one more
--   letters_are   == so each state has its letter
use Rattle.std.proofs.Common.{◌≡◌, ℕ, ◌+◌, ◌<◌, ◌≤◌, ◌⊎◌, inl, inr, arith, List, [], ◌∷◌, ◌++◌, length, get_or, slice_get, Some, sym, ap, ◌∙◌, subst, length-append}
use Rattle.std.proofs.lemmas.Bool.{cases_lt}
use Rattle.std.proofs.lemmas.List.{get_or_append_left, get_or_push}
use Rattle.std.proofs.lemmas.Option.{same_Some, slice_get_within}
use Rattle.ml_base.specs.Structure.{Structure}
use Rattle.ml_graph.specs.Graph.{Graph, prop_at}
use Rattle.ml_lists.specs.Added.{IsAdded}
use Rattle.ml_lists.proofs.Added.{added_keeps}
use Rattle.ml_lists.proofs.PassingBelow.{AreBelow}
use Rattle.ml_trace.specs.declared.letters.Transition.{Transition}
use Rattle.ml_word_automaton.specs.Letters.{AreThoseIn, Automaton, HasTransitions}
use Rattle.ml_word_automaton.specs.Words.{Letter, has}
use Rattle.ml_paths.specs.Paths.{labels_at}
use Rattle.ml_paths.specs.private.Letters.{AreLettersOf, AreNumbered, IsLabelled, IsRowOf, number_of}

-- ---- the propositions of a label

pub all_below : (g : Graph) (letter : Letter) (set : List ℕ)
    → AreBelow (λ n. has letter (prop_at g n)) (length g.props) set
    → AreThoseIn g letter set
all_below g letter set below p low = (λ m. ((below p).0 m).1, λ h. (below p).1 (low, h))

-- ---- numbers of labels

pub labelled_keeps : (g : Graph) (m : Structure) (keys more : List (List ℕ)) (key : List ℕ) (i n s : ℕ)
    → IsAdded keys key more i
    → IsLabelled g m keys n s
    → IsLabelled g m more n s
labelled_keeps g m keys more key i n s added is = record {
  label = is.label;
  stands = added_keeps keys more key i added n is.label is.stands;
  is_label = is.is_label;
}

pub numbered_none : (g : Graph) (m : Structure) (keys : List (List ℕ)) (numbers : List ℕ) → numbers ≡ []
    → AreNumbered g m 0 keys numbers
numbered_none g m keys numbers none = record {
  one_each = ap length none;
  are = λ s low. absurd (omega (arith, low));
}

pub numbered_more : (g : Graph) (m : Structure) (k : ℕ) (keys more : List (List ℕ)) (key numbers : List ℕ) (i : ℕ)
    → AreNumbered g m k keys numbers
    → AreThoseIn g (labels_at m k) key
    → IsAdded keys key more i
    → AreNumbered g m (k + 1) more (numbers ++ i ∷ [])
numbered_more g m k keys more key numbers i so_far is added = record {
  one_each = let size = length-append numbers (i ∷ []) in let one = so_far.one_each in omega (arith, size, one);
  are = λ s low. by s low (cases_lt s k);
}
  where
    by : (s : ℕ) → s < k + 1 → (s < k) ⊎ (k ≤ s) → IsLabelled g m more (number_of (numbers ++ i ∷ []) s) s
    by s low (inl before) =
        let one = so_far.one_each in
        subst (λ n. IsLabelled g m more n s) (sym (get_or_append_left numbers (i ∷ []) 0 s (omega (arith, before, one))))
        (labelled_keeps g m keys more key i (number_of numbers s) s added (so_far.are s before))
    by s low (inr past) =
        let here : s ≡ k = omega (arith, low, past) in
        subst (λ n. IsLabelled g m more n s) (sym (get_or_push numbers i 0 s (so_far.one_each ∙ sym here)))
        (record {
          label = key;
          stands = added.stands;
          is_label = subst (λ t. AreThoseIn g (labels_at m t) key) (sym here) is;
        })

-- ---- letters of labels

pub row_none : (a : Automaton) (keys : List (List ℕ)) (row : List (List Transition)) → row ≡ [] → IsRowOf a keys 0 row
row_none a keys row none = record {
  one_each = ap length none;
  are = λ n label l low stands is. absurd (omega (arith, low));
}

pub row_more : (a : Automaton) (keys : List (List ℕ)) (k : ℕ) (row : List (List Transition)) (key : List ℕ) (letter : List Transition)
    → IsRowOf a keys k row
    → slice_get keys k ≡ Some key
    → ((l : Letter) → AreThoseIn a.graph l key → HasTransitions a l letter)
    → IsRowOf a keys (k + 1) (row ++ letter ∷ [])
row_more a keys k row key letter so_far stands has_them = record {
  one_each = let size = length-append row (letter ∷ []) in let one = so_far.one_each in omega (arith, size, one);
  are = λ n label l low at is. by n label l low at is (cases_lt n k);
}
  where
    by : (n : ℕ) (label : List ℕ) (l : Letter) → n < k + 1 → slice_get keys n ≡ Some label → AreThoseIn a.graph l label
        → (n < k) ⊎ (k ≤ n)
        → HasTransitions a l (get_or (row ++ letter ∷ []) n [])
    by n label l low at is (inl before) =
        let one = so_far.one_each in
        subst (HasTransitions a l) (sym (get_or_append_left row (letter ∷ []) [] n (omega (arith, before, one))))
        (so_far.are n label l before at is)
    by n label l low at is (inr past) =
        let here : n ≡ k = omega (arith, low, past) in
        let same : label ≡ key = same_Some label key (sym at ∙ ap (slice_get keys) here ∙ stands) in
        subst (HasTransitions a l) (sym (get_or_push row letter [] n (so_far.one_each ∙ sym here)))
        (has_them l (subst (AreThoseIn a.graph l) same is))

pub letters_are : (a : Automaton) (m : Structure) (keys : List (List ℕ)) (numbers : List ℕ) (row : List (List Transition))
    → AreNumbered a.graph m m.states keys numbers
    → IsRowOf a keys (length keys) row
    → AreLettersOf a m numbers row
letters_are a m keys numbers row numbered is_row = record {
  one_each = numbered.one_each;
  in_row = λ s low.
      let is = numbered.are s low in
      let inside = slice_get_within keys (number_of numbers s) is.label is.stands in
      let one = is_row.one_each in
      omega (arith, inside, one);
  are = λ s low.
      let is = numbered.are s low in
      is_row.are (number_of numbers s) is.label (labels_at m s)
      (slice_get_within keys (number_of numbers s) is.label is.stands) is.stands is.is_label;
}
