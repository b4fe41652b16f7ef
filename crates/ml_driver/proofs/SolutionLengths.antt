-- How long the text of a solution is at most.
--
--   line_short     == the line of a vertex has at most 34 bytes
--   lines_short    == so the lines of vertices have so many for each
--   solution_short == so that of a game that is read is short
use Rattle.std.proofs.Common.{ℕ, ◌≡◌, ◌+◌, ◌-◌, ◌*◌, ◌<◌, ◌≤◌, ◌⊎◌, List, [], ◌∷◌, ◌++◌, length, get_or, inl, inr, refl, arith, length-append, codes}
use Rattle.std.specs.List.{enumerate_from, flat_map}
use Rattle.std.proofs.lemmas.Bool.{cases_lt}
use Rattle.std.proofs.lemmas.Fmt.{length-decimal-le}
use Rattle.std.proofs.lemmas.List.{get_or_past}
use Rattle.ml_lines.specs.Lines.{next, number}
use Rattle.ml_lists.specs.Member.{IsMember}
use Rattle.ml_lists.proofs.Member.{place-member}
use Rattle.ml_parity.specs.Solution.{GameSolution, choice_at, winner_at}
use Rattle.ml_parity.specs.declared.players.Player.{Player}
use Rattle.ml_parity.specs.declared.players.Player.TheVariants.{Even, Odd}
use Rattle.ml_pgsolver.specs.GameText.{NamedGame, id_at}
use Rattle.ml_pgsolver.specs.Refusals.{IsReadAs, greatest_number, most_vertices}
use Rattle.ml_pgsolver.specs.SolutionText.{head_line, line_end, line_of, move_text, player_number, solution_text, vertex_line}
use Rattle.ml_pgsolver.proofs.WrittenSolutions.{few_ids, small_ids}

number_short : (n : ℕ) → n ≤ greatest_number → length (number n) ≤ 10
number_short n low = length-decimal-le 10 n (omega arith) (omega (arith, low)) (omega (arith, low))

player_short : (p : Player) → length (number (player_number p)) ≤ 10
player_short Even = number_short 0 (omega arith)
player_short Odd = number_short 1 (omega arith)

move_short : (owner winner : Player) (m : ℕ) → m ≤ greatest_number → length (move_text owner winner m) ≤ 11
move_short Even Even m low = let short = number_short m low in omega (arith, short)
move_short Odd Odd m low = let short = number_short m low in omega (arith, short)
move_short Even Odd m low = omega arith
move_short Odd Even m low = omega arith

four_long : (a b c d : List ℕ) → length (a ++ b ++ c ++ d) ≡ length a + (length b + (length c + length d))
four_long a b c d =
    omega (arith, length-append (a ++ b ++ c) d, length-append (a ++ b) c, length-append a b)

line_short : (id : ℕ) (owner winner : Player) (m : ℕ) → id ≤ greatest_number → m ≤ greatest_number
    → length (line_of id owner winner m) ≤ 34
line_short id owner winner m low small =
    omega (
      arith,
      four_long (number id) (next (number (player_number winner))) (move_text owner winner m) line_end,
      number_short id low,
      player_short winner,
      move_short owner winner m small,
    )

module _ (ids : List ℕ) (owners : List Player) (s : GameSolution) (small : (n : ℕ) → IsMember n ids → n ≤ greatest_number) where
  id_small : (k : ℕ) → id_at ids k ≤ greatest_number
  id_small k = by (cases_lt k (length ids))
    where
      by : (k < length ids) ⊎ (length ids ≤ k) → id_at ids k ≤ greatest_number
      by (inl low) = small (get_or ids k 0) (place-member ids k 0 low)
      by (inr past) = let none = get_or_past ids k 0 past in omega (arith, none)

  lines_short : (n : ℕ) (xs : List ℕ)
      → ((x : ℕ) → IsMember x xs → x ≤ greatest_number)
      → length (flat_map (vertex_line ids owners s) (enumerate_from n xs)) ≤ 34 * length xs
  lines_short n [] low = omega arith
  lines_short n (x ∷ xs) low =
      let line = vertex_line ids owners s (n, x) in
      let others = flat_map (vertex_line ids owners s) (enumerate_from (n + 1) xs) in
      omega (
        arith,
        length-append line others,
        line_short x (get_or owners n Even) (winner_at s.winner n) (id_at ids (choice_at s.choice n)) (low x (inl refl))
            (id_small (choice_at s.choice n)),
        lines_short (n + 1) xs (λ y m. low y (inr m)),
      )

  head_short : length (head_line ids) ≤ 22
  head_short =
      let greatest = id_at ids (length ids - 1) in
      omega (
        arith,
        length-append (codes "paritysol" ++ next (number greatest)) line_end,
        length-append (codes "paritysol") (next (number greatest)),
        number_short greatest (id_small (length ids - 1)),
      )

pub solution_short : (text : List ℕ) (named : NamedGame) (s : GameSolution) → IsReadAs text named
    → length (solution_text named s) ≤ 34 * most_vertices + 22
solution_short text named s is =
    let ids = named.ids in
    let small = small_ids text named is in
    let lines = flat_map (vertex_line ids named.game.owner s) (enumerate_from 0 ids) in
    omega (
      arith,
      length-append (head_line ids) lines,
      head_short ids named.game.owner s small,
      lines_short ids named.game.owner s small 0 ids small,
      few_ids text named is,
    )
