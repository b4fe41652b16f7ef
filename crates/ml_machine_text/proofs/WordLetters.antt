-- The letters of a word of valuations, one after the other.
--
--   letter_added == the names of the inputs that are true, and then those of the outputs
--   letter_more  == the labels of one place more
--   letters_are  == the word of the letters at its places is that of its valuations
--   is_run       == so what is the structure of the one is that of the other
use Rattle.std.proofs.Common.{ℕ, ◌≡◌, ◌+◌, ◌/◌, ◌^◌, ◌<◌, List, [], ◌++◌, length, map, get_or, sym, ap, subst, ◌∙◌, append_assoc, arith}
use Rattle.std.specs.List.{range_with_len}
use Rattle.std.proofs.lemmas.List.{ext_get_or, get_or-map, length-map, map-append}
use Rattle.std.proofs.lemmas.List.FromFn.{get_or-map-range_with_len, length-map-range_with_len}
use Rattle.ml_base.specs.Structure.{Structure}
use Rattle.ml_paths.specs.Runs.{IsRunOf, word_at}
use Rattle.ml_paths.specs.private.Built.{pairs_at, pairs_of}
use Rattle.ml_paths.proofs.Gathered.{pairs_more}
use Rattle.ml_realize.specs.Realizing.{word_of}
use Rattle.ml_realize.proofs.PresentNames.{members_append}
use Rattle.ml_task.specs.NameSets.{members}
use Rattle.ml_trace.specs.WordAutomata.{WordLasso}
use Rattle.ml_word_automaton.specs.Words.{Letter}
use Rattle.ml_machine_text.specs.private.Letters.{letter_at}

pub letter_added : (old mid new : List (ℕ × List ℕ)) (k v : ℕ) (ins outs : List (List ℕ))
    → mid ≡ old ++ pairs_at k (members ins v)
    → new ≡ mid ++ pairs_at k (members outs (v / 2 ^ length ins))
    → new ≡ old ++ pairs_at k (members (ins ++ outs) v)
letter_added old mid new k v ins outs first second =
    let others = members outs (v / 2 ^ length ins) in
    second
    ∙ ap (λ xs. xs ++ pairs_at k others) first
    ∙ append_assoc old (pairs_at k (members ins v)) (pairs_at k others)
    ∙ ap (λ xs. old ++ xs)
    (sym (map-append (λ (p : List ℕ). (k, p)) (members ins v) others) ∙ ap (pairs_at k) (sym (members_append ins outs v)))

pub letter_more : (ns : List (List ℕ)) (vs : List ℕ) (k v : ℕ) (old new : List (ℕ × List ℕ))
    → old ≡ pairs_of (letter_at ns vs) k
    → v ≡ get_or vs k 0
    → new ≡ old ++ pairs_at k (members ns v)
    → new ≡ pairs_of (letter_at ns vs) (k + 1)
letter_more ns vs k v old new so_far is added =
    added ∙ (λ j. so_far j ++ pairs_at k (members ns (is j))) ∙ sym (pairs_more (letter_at ns vs) k)

module _ (ns : List (List ℕ)) (w : WordLasso ℕ) where
  abbrev made : List Letter
  made = map (letter_at ns w.word) (range_with_len 0 (length w.word))

  long : length made ≡ length w.word
  long = length-map-range_with_len (letter_at ns w.word) 0 (length w.word)

  same : made ≡ map (members ns) w.word
  same =
      ext_get_or [] made (map (members ns) w.word) (long ∙ sym (length-map w.word (members ns)))
      (λ k low.
      let inside : k < length w.word = omega (arith, low, long) in
      get_or-map-range_with_len (letter_at ns w.word) 0 (length w.word) k k [] inside (omega arith)
      ∙ sym (get_or-map (members ns) w.word k 0 [] inside))

  pub letters_are : word_at (letter_at ns w.word) (length w.word) w.loop_start ≡ word_of ns w
  letters_are = λ j. record { word = same j; loop_start = w.loop_start }

-- as the program holds them
module _ (w : WordLasso ℕ) (ins outs i o : List (List ℕ)) (vs : List ℕ) (n start : ℕ) (same_ins : i ≡ ins) (same_outs : o ≡ outs)
    (same_word : vs ≡ w.word) (many : n ≡ length vs) (same_start : start ≡ w.loop_start) where
  run_of_word : word_at (letter_at (i ++ o) vs) n start ≡ word_of (ins ++ outs) w
  run_of_word =
      ap (λ k. word_at (letter_at (i ++ o) vs) k start) many
      ∙ (λ j. word_at (letter_at (same_ins j ++ same_outs j) (same_word j)) (length (same_word j)) (same_start j))
      ∙ letters_are (ins ++ outs) w

  pub is_run : (m : Structure)
      → IsRunOf (word_at (letter_at (i ++ o) vs) n start) m
      → IsRunOf (word_of (ins ++ outs) w) m
  is_run m run = subst (λ x. IsRunOf x m) run_of_word run
