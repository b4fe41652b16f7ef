-- What the program reads in the fields of a game, said of the game.
--
-- The fields are vectors; the game that contracts see is the record of their lists, and an equation ties the two.
--
--   FieldsOf owner priority successors g == g is the game of these fields, and a game
--   moves_read  == what stands in the third field at a vertex are its moves
--   read_some, read_low == there is one, and all are vertices
use Rattle.std.proofs.Common.{ℕ, ◌≡◌, ◌<◌, arith, List, length, get_or, subst, sym, ap, ◌∙◌}
use Rattle.std.proofs.lemmas.List.{get_or_default, length-map}
use Rattle.std.specs.Global.{Vec}
use Rattle.ml_parity.specs.declared.players.Player.{Player}
use Rattle.ml_parity.specs.Game.{ParityGame, IsGame, HasMove, size, moves_of}
use Rattle.ml_parity.specs.Refusal.{game_of}
use Rattle.ml_parity.proofs.Refusals.{lists_of-at}

-- g is the game of these fields, and a game
pub record FieldsOf (owner : Vec Player) (priority : Vec ℕ) (successors : Vec (Vec ℕ)) (g : ParityGame) : Type 0 where
  pub is : game_of owner priority successors ≡ g
  pub game : IsGame (game_of owner priority successors)

module _ (owner : Vec Player) (priority : Vec ℕ) (successors : Vec (Vec ℕ)) (g : ParityGame)
    (f : FieldsOf owner priority successors g) (v : ℕ) (low : v < size g) (m : Vec ℕ)
    (read : m ≡ get_or successors.items v m) (xs : List ℕ) (same : xs ≡ m.items) where
  -- so g is a game
  is_game : IsGame g
  is_game = subst IsGame f.is f.game

  -- what stands in the third field at the vertex are its moves
  pub moves_read : xs ≡ moves_of g v
  moves_read =
      let here : v < length owner.items = subst (λ (h : ParityGame). v < size h) (sym f.is) low in
      let there : v < length successors.items =
      omega (arith, f.game.lists, length-map successors.items (λ (x : Vec ℕ). x.items)) in
      same ∙ sym (lists_of-at successors.items v m there read) ∙ ap (λ (h : ParityGame). moves_of h v) f.is

  -- there is one
  pub read_some : 0 < length xs
  read_some = omega (arith, is_game.goes_on v low, ap length moves_read)

  -- all are vertices
  pub read_low : (k d : ℕ) → k < length xs → get_or xs k d < size g
  read_low k d below =
      let inside : k < length (moves_of g v) = omega (arith, ap length moves_read) in
      let move : HasMove g v (get_or xs k d) = (
        k,
        inside,
        get_or_default (moves_of g v) k (get_or xs k d) d inside
            ∙ ap (λ (ys : List ℕ). get_or ys k d) (sym moves_read),
      ) in
      is_game.in_range v (get_or xs k d) move
