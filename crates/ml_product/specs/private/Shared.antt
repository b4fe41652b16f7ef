-- The positions of an arena over shared parts, as the program holds them.
--
-- Each sequent and each history is held once, in a table of its own, and a position has their places in these tables.
--
--   seen ss hs x        == the position for which x stands, where ss are the sequents and hs the histories
--   shown ss hs xs      == the positions for which xs stand
--   IsWithin ss hs x    == the places that x has are places of the tables
--   AreWithin ss hs xs  == so are those that each of xs has
--   IsHeld ..           == what an arena keeps: places are places of the tables, there is an owner for each position and
--                          a list of moves, each list has a move, and all moves are vertices of the game
use Rattle.std.specs.Prelude.{ℕ, ◌≡◌, ◌+◌, ◌<◌, ◌^◌, List, [], map, length, get_or, slice_get, Some, Contains}
use Rattle.ml_parity.specs.declared.players.Player.{Player}
use Rattle.ml_trace.specs.Stack.{Item}
use Rattle.ml_product.specs.Position.{Position}
use Rattle.ml_product.specs.Placed.{Placed}

-- the position for which x stands
abbrev pub seen : List (List ℕ) → List (List (Item ℕ)) → Placed → Position
seen ss hs x = record {
  sequent = get_or ss x.sequent [];
  history = get_or hs x.history [];
  priority = x.priority;
  choice = x.choice;
}

-- the positions for which xs stand
abbrev pub shown : List (List ℕ) → List (List (Item ℕ)) → List Placed → List Position
shown ss hs xs = map (seen ss hs) xs

-- the places that x has are places of the tables
pub record IsWithin (ss : List (List ℕ)) (hs : List (List (Item ℕ))) (x : Placed) : Type 0 where
  pub sequent : x.sequent < length ss
  pub history : x.history < length hs

-- the places that each of xs has are
abbrev pub AreWithin : List (List ℕ) → List (List (Item ℕ)) → List Placed → Type 0
AreWithin ss hs xs = (v : ℕ) (x : Placed) → slice_get xs v ≡ Some x → IsWithin ss hs x

-- what an arena keeps
pub record IsHeld (ss : List (List ℕ)) (hs : List (List (Item ℕ))) (xs : List Placed) (owners : List Player) (moves : List (List ℕ)) : Type 0 where
  pub within : AreWithin ss hs xs
  pub an_owner_each : length owners ≡ length xs
  pub moves_each : length moves ≡ length xs
  pub small : length xs < 2 ^ 32
  pub goes_on : (v : ℕ) → v < length xs → 0 < length (get_or moves v [])
  pub in_range : (v w : ℕ) → Contains (get_or moves v []) w → w < length xs + 2
