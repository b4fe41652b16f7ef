-- The parts of which the structure of a word is built.
--
--   round_edges n s  == the edges from place to place of a word of n places with the loop start s
--   letter_of m xs k == the labels of the state at the place k of the list xs
--   pairs_at k ps    == the names ps, each with the place k
--   pairs_of ls n    == the names of the letters ls at the first n places, each with its place
use Rattle.std.specs.Prelude.{ℕ, suc, List, cond, codes, get_or, ltb, map}
use Rattle.std.specs.List.{flat_map, range_with_len}
use Rattle.ml_base.specs.Structure.{Structure}
use Rattle.ml_base.specs.declared.structure.Edge.{Edge}
use Rattle.ml_word_automaton.specs.Words.{Letter}
use Rattle.ml_paths.specs.Paths.{labels_at}

abbrev pub round_edge : ℕ → ℕ → ℕ → Edge
round_edge n start i = record { source = i; action = codes "_"; target = cond (ltb (suc i) n) (suc i) start }

abbrev pub round_edges : ℕ → ℕ → List Edge
round_edges n start = map (round_edge n start) (range_with_len 0 n)

abbrev pub letter_of : Structure → List ℕ → ℕ → Letter
letter_of m states k = labels_at m (get_or states k 0)

abbrev pub pairs_at : ℕ → List (List ℕ) → List (ℕ × List ℕ)
pairs_at k names = map (λ p. (k, p)) names

abbrev pub pairs_of : (ℕ → Letter) → ℕ → List (ℕ × List ℕ)
pairs_of letters n = flat_map (λ k. pairs_at k (letters k)) (range_with_len 0 n)
