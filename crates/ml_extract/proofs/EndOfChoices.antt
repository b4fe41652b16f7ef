-- From each position that Even's moves win they choose until no or-node is open.
--
-- Each choice decides one more node, and there are only so many.
--
--   Ending, ends_from == where Even's moves end, and the spread there
use Rattle.std.proofs.Common.{ℕ, zero, suc, ◌+◌, ◌<◌, length, arith}
use Rattle.ml_graph.specs.Graph.{size}
use Rattle.ml_parity.proofs.FollowedWalks.{won_behind}
use Rattle.ml_parity.specs.declared.players.Player.TheVariants.{Even}
use Rattle.ml_sequent.specs.Spread.{SpreadList}
use Rattle.ml_product.specs.Position.{Position, with_chosen}
use Rattle.ml_product.specs.DecisionGame.{Turn}
use Rattle.ml_product.specs.Arena.{game_of}
use Rattle.ml_product.proofs.ArenaGame.{here}
use Rattle.ml_product.proofs.ReachedChoices.{with_side_length, chosen_few}
use Rattle.ml_extract.specs.Model.{PositionAt, SpreadAt, Chooses, ends, moves}
use Rattle.ml_extract.proofs.Board.{Board, even_moves, WonByMoves}
use Rattle.ml_extract.proofs.Choosing.{AtWon, choosing, leading, settled, at_spread}

module _ (B : Board) where
  -- where Even's moves end, and the spread there
  pub record Ending (v : ℕ) : Type 0 where
    pub last : ℕ
    pub spread : SpreadList
    pub chooses : Chooses B.g B.a B.s v last spread

  within : (fuel v : ℕ) (p : Position)
      → PositionAt B.a v p
      → WonByMoves B v
      → size B.g < length p.choice + fuel
      → Ending v
  within zero v p stands won few =
      let low = chosen_few B.g p (here B.g B.a B.arena v p stands) in
      absurd (omega arith)
  within (suc fuel) v p stands won few =
      by_turn (at_spread B v turn.spread spread won) (λ w q at w_won more. within fuel w q at w_won more)
    where
      turn : Turn B.g p
      turn = (B.arena.played v p stands).turn

      spread : SpreadAt B.g B.a v turn.spread
      spread = record { position = p; stands = stands; is_spread = turn.is_spread }

      by_turn : AtWon B v p turn.spread
          → ((w : ℕ) (q : Position) → PositionAt B.a w q → WonByMoves B w → size B.g < length q.choice + fuel → Ending
          w)
          → Ending v
      by_turn (leading ts r steps vertices own) again =
          record { last = v; spread = turn.spread; chooses = ends v turn.spread spread r.none_open }
      by_turn (settled r none vertices) again =
          record { last = v; spread = turn.spread; chooses = ends v turn.spread spread r.none_open }
      by_turn (choosing o x own is_open next move) again =
          let won_there = won_behind (game_of B.a) Even (even_moves B) v (even_moves B v) move won in
          let e =
          again (even_moves B v) (with_chosen B.g p o x) next won_there
          (omega (arith, with_side_length p.choice o x)) in
          record {
            last = e.last;
            spread = e.spread;
            chooses = moves v e.last o turn.spread e.spread spread is_open
                e.chooses;
          }

  pub ends_from : (v : ℕ) (p : Position) → PositionAt B.a v p → WonByMoves B v → Ending v
  ends_from v p stands won = within (suc (size B.g)) v p stands won (omega arith)
