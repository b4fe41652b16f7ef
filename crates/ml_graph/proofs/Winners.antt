-- The winner of a checking game tells where the graph holds.
--
--   vertex_of_game == the vertex of a state and the root is one of the game
--   even_holds     == the graph holds at the state exactly if a solution has Even as that vertex's winner
use Rattle.std.proofs.Common.{◌≡◌, ◌↔◌, ℕ, ◌<◌, List, length, get_or, refl, sym, ◌∙◌, ap, subst, arith}
use Rattle.std.proofs.lemmas.List.{get_or_default, length-map}
use Rattle.ml_base.specs.Structure.{Structure}
use Rattle.ml_graph.specs.CheckingGame.{Holds, Pair, checking_game, owner_at, vertex_number, vertices}
use Rattle.ml_graph.specs.Graph as graph
use Rattle.ml_graph.specs.Graph.{Graph}
use Rattle.ml_graph.proofs.CheckingGame.{number_low, vertices-length}
use Rattle.ml_parity.specs.Game.{IsGame, ParityGame, size}
use Rattle.ml_parity.specs.Solution.{GameSolution, IsSolution, winner_at}
use Rattle.ml_parity.specs.Winner.{Wins}
use Rattle.ml_parity.specs.declared.players.Player.{Player}
use Rattle.ml_parity.specs.declared.players.Player.TheVariants.{Even, Odd}
use Rattle.ml_parity.proofs.Winners.{law}

module _ (g : Graph) (m : Structure) (s : ℕ) (low : s < m.states) (is_node : g.root < graph.size g) where
  abbrev vertex : ℕ
  vertex = vertex_number g m (Pair s g.root)

  vertex_low : vertex < size (checking_game g m)
  vertex_low =
      omega (arith, length-map (vertices g m) (owner_at g), vertices-length g m, number_low g m (Pair s g.root) (low, is_node))

  module _ (game : ParityGame) (same : game ≡ checking_game g m) (solution : GameSolution) (solved : IsSolution game solution)
      (win : List Player) (is_win : win ≡ solution.winner) (v : ℕ) (at : v ≡ vertex) where
    pub vertex_of_game : v < length win
    vertex_of_game =
        let count : length solution.winner ≡ size (checking_game g m) = solved.winners ∙ ap size same in
        omega (arith, ap length is_win, count, at, vertex_low)

    module _ (game_ok : IsGame game) (p : Player) (told : p ≡ get_or win v p) where
      is_winner : p ≡ winner_at solution.winner vertex
      is_winner =
          told ∙ get_or_default win v p Even vertex_of_game ∙ ap (λ w. get_or w v Even) is_win
          ∙ ap (λ k. get_or solution.winner k Even) at

      won : Wins (checking_game g m) p vertex
      won =
          subst (λ h. Wins h p vertex) same
          (subst (λ q. Wins game q vertex) (sym is_winner)
          (solved.right vertex (subst (λ h. vertex < size h) (sym same) vertex_low)))

      only_even : (q : Player) → p ≡ q → Holds g m s → q ≡ Even
      only_even Even is even = refl
      only_even Odd is even =
          absurd
          ((law (checking_game g m) (subst IsGame same game_ok)).not_both vertex vertex_low even
          (subst (λ q. Wins (checking_game g m) q vertex) is won))

      pub even_holds : (p ≡ Even) ↔ Holds g m s
      even_holds = (λ is. subst (λ q. Wins (checking_game g m) q vertex) is won, λ even. only_even p refl even)
