-- Rows of letters that stand for the same sets grow by a letter.
--
--   same_more    == by any letter that is the same set
--   next_letters == so the letters of the valuations up to one more
use Rattle.std.proofs.Common.{ℕ, ◌≡◌, ◌+◌, List, [], ◌∷◌, ◌++◌, map, sym, subst, arith}
use Rattle.std.specs.List.{range_with_len}
use Rattle.std.specs.List.Sorted.{IsPermutation}
use Rattle.std.proofs.lemmas.List.FromFn.{map-range_with_len_more}
use Rattle.ml_trace.specs.declared.letters.Transition.{Transition}
use Rattle.ml_hoa.specs.Automaton.{Automaton}
use Rattle.ml_buchi.specs.Valuations.{SameLetter, SameLetters, letter_of}
use Rattle.ml_buchi.proofs.TakenEdges.{permuted_same}

pub same_more : (row made : List (List Transition)) (l m : List Transition)
    → SameLetters row made
    → SameLetter l m
    → SameLetters (row ++ l ∷ []) (made ++ m ∷ [])
same_more [] [] l m s here = (here, tt)
same_more [] (n ∷ made) l m s here = absurd s
same_more (k ∷ row) [] l m s here = absurd s
same_more (k ∷ row) (n ∷ made) l m s here = (s.0, same_more row made l m s.1 here)

pub next_letters : (a : Automaton) (v : ℕ) (made now : List (List Transition)) (m : List Transition)
    → SameLetters (map (letter_of a) (range_with_len 0 v)) made
    → IsPermutation (letter_of a v) m
    → now ≡ made ++ m ∷ []
    → SameLetters (map (letter_of a) (range_with_len 0 (v + 1))) now
next_letters a v made now m s p is =
    let row : map (letter_of a) (range_with_len 0 (v + 1)) ≡ map (letter_of a) (range_with_len 0 v) ++ letter_of a v ∷ [] =
    map-range_with_len_more (letter_of a) 0 v v (omega arith) in
    subst (λ made. SameLetters (map (letter_of a) (range_with_len 0 (v + 1))) made) (sym is)
    (subst (λ row. SameLetters row (made ++ m ∷ [])) (sym row)
    (same_more (map (letter_of a) (range_with_len 0 v)) made (letter_of a v) m s (permuted_same (letter_of a v) m p)))
