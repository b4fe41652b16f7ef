-- The text of a solution says no more of the moves than those of vertices whose owner wins.
--
--   same_text == solutions with the same winners, and the same moves where the owner wins, have one text
use Rattle.std.proofs.Common.{ℕ, ◌≡◌, ◌+◌, ◌<◌, List, [], ◌∷◌, ◌++◌, length, refl, ap, ◌∙◌, arith}
use Rattle.std.specs.List.{flat_map, enumerate_from}
use Rattle.ml_lines.specs.Lines.{next, number}
use Rattle.ml_parity.specs.declared.players.Player.{Player}
use Rattle.ml_parity.specs.declared.players.Player.TheVariants.{Even, Odd}
use Rattle.ml_parity.specs.Game.{owner_of, size}
use Rattle.ml_parity.specs.Solution.{GameSolution, choice_at, winner_at}
use Rattle.ml_pgsolver.specs.GameText.{IsNamed, NamedGame, id_at}
use Rattle.ml_pgsolver.specs.SolutionText.{head_line, line_end, line_of, move_text, player_number, solution_text, vertex_line}

same_move : (owner winner : Player) (m k : ℕ) → (owner ≡ winner → m ≡ k) → move_text owner winner m ≡ move_text owner winner k
same_move Even Even m k same = ap (λ n. move_text Even Even n) (same refl)
same_move Odd Odd m k same = ap (λ n. move_text Odd Odd n) (same refl)
same_move Even Odd m k same = refl
same_move Odd Even m k same = refl

same_lines : (line other : ℕ × ℕ → List ℕ) (ids : List ℕ) (k : ℕ)
    → ((v id : ℕ) → v < k + length ids → line (v, id) ≡ other (v, id))
    → flat_map line (enumerate_from k ids) ≡ flat_map other (enumerate_from k ids)
same_lines line other [] k same = refl
same_lines line other (id ∷ ids) k same =
    let here = same k id (omega arith) in
    let later = same_lines line other ids (k + 1) (λ v n low. same v n (omega (arith, low))) in
    λ j. here j ++ later j

module _ (named : NamedGame) (s t : GameSolution) (ok : IsNamed named) (winners : s.winner ≡ t.winner)
    (moves : (v : ℕ) → v < size named.game
    → owner_of named.game v ≡ winner_at s.winner v
    → choice_at s.choice v ≡ choice_at t.choice v) where
  abbrev line_by : GameSolution → ℕ × ℕ → List ℕ
  line_by = vertex_line named.ids named.game.owner

  same_line : (v id : ℕ) → v < 0 + length named.ids → line_by s (v, id) ≡ line_by t (v, id)
  same_line v id low =
      let owner = owner_of named.game v in
      let winner = winner_at s.winner v in
      let from = id_at named.ids (choice_at s.choice v) in
      let to = id_at named.ids (choice_at t.choice v) in
      ap (λ move. number id ++ next (number (player_number winner)) ++ move ++ line_end)
      (same_move owner winner from to (λ own. ap (id_at named.ids) (moves v (omega (arith, low, ok.has_ids.0)) own)))
      ∙ ap (λ ws. line_of id owner (winner_at ws v) to) winners

  pub same_text : solution_text named s ≡ solution_text named t
  same_text =
      ap (λ lines. head_line named.ids ++ lines) (same_lines (line_by s) (line_by t) named.ids 0 same_line)
