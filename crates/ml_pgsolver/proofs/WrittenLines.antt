-- The lines of a solution, one by one.
--
--   lines_from s i ids   == the lines of the vertices with these ids, of which the first is the vertex i
--   lines_more           == what is written and what is left are the whole: so it stays by a further line
--   lines_done           == and at the end the whole is written
--   moves_within         == the moves of a solution are vertices
use Rattle.std.proofs.Common.{◌≡◌, ℕ, ◌+◌, ◌<◌, ◌≤◌, List, ◌++◌, length, drop, get_or, All, refl, sym, ap, ◌∙◌, arith, append_assoc}
use Rattle.std.specs.List.{flat_map, enumerate_from}
use Rattle.std.proofs.lemmas.List.{append-nil, drop_more, drop_all, get_or_default}
use Rattle.ml_parity.specs.Game.{ParityGame, IsGame, size, owner_of}
use Rattle.ml_parity.specs.Solution.{GameSolution, IsSolution}

abbrev pub lines_from : (ℕ × ℕ → List ℕ) → ℕ → List ℕ → List ℕ
lines_from line i ids = flat_map line (enumerate_from i ids)

pub lines_more : (line : ℕ × ℕ → List ℕ) (ids : List ℕ) (i : ℕ) (written more all : List ℕ)
    → i < length ids
    → written ++ lines_from line i (drop i ids) ≡ all
    → more ≡ written ++ line (i, get_or ids i 0)
    → more ++ lines_from line (i + 1) (drop (i + 1) ids) ≡ all
lines_more line ids i written more all here so_far wrote =
    ap (λ front. front ++ lines_from line (i + 1) (drop (i + 1) ids)) wrote
    ∙ append_assoc written (line (i, get_or ids i 0)) (lines_from line (i + 1) (drop (i + 1) ids))
    ∙ ap (λ rest. written ++ lines_from line i rest) (sym (drop_more ids i 0 here))
    ∙ so_far

pub lines_done : (line : ℕ × ℕ → List ℕ) (ids : List ℕ) (i : ℕ) (written all : List ℕ) → length ids ≤ i
    → written ++ lines_from line i (drop i ids) ≡ all → written ≡ all
lines_done line ids i written all past so_far =
    sym (append-nil written) ∙ ap (λ rest. written ++ lines_from line i rest) (sym (drop_all i ids past)) ∙ so_far

-- the moves of a solution are vertices
pub moves_within : (g : ParityGame) (s : GameSolution) (n : ℕ) → IsGame g → IsSolution g s → n ≡ size g
    → All (λ m. m < n) s.choice
moves_within g s n game solution is k d below =
    let at : k < size g = omega (arith, solution.choices) in
    let move = solution.strategies (owner_of g k) k at refl in
    let low = game.in_range k (get_or s.choice k 0) move in
    let same = get_or_default s.choice k d 0 below in
    omega arith
