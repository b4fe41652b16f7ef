-- Which lists are no parity game, and why.
--
-- Of three lists of one length two things can be wrong: a vertex without a successor, and a successor that is no
-- vertex. The first is said of a list of lists too, since the code looks at that list alone.
--
--   lists_of xs                     == the lists of numbers that the vectors hold
--   game_of owner priority moves    == the game of three lists, as the program holds them
--   IsDeadEnd moves v               == vertex v has no successor
--   HasEntryFrom n entries          == some entry is n or more
--   LeavesRange moves n v           == vertex v has a successor that is no vertex below n
use Rattle.std.specs.Prelude.{ℕ, ◌≡◌, ◌≤◌, List, [], map, get_or, Contains}
use Rattle.std.specs.Global.{Vec}
use Rattle.ml_parity.specs.declared.players.Player.{Player}
use Rattle.ml_parity.specs.Game.{ParityGame}

-- the lists of numbers that the vectors hold
abbrev pub lists_of : List (Vec ℕ) → List (List ℕ)
lists_of xs = map (λ (x : Vec ℕ). x.items) xs

-- the game of three lists, as the program holds them
abbrev pub game_of : Vec Player → Vec ℕ → Vec (Vec ℕ) → ParityGame
game_of owner priority successors = record { owner = owner.items; priority = priority.items; successors = lists_of successors.items }

-- vertex v has no successor
abbrev pub IsDeadEnd : List (List ℕ) → ℕ → Type 0
IsDeadEnd moves v = get_or moves v [] ≡ []

-- some entry is n or more
abbrev pub HasEntryFrom : ℕ → List ℕ → Type 0
HasEntryFrom n entries = (w : ℕ) × Contains entries w × (n ≤ w)

-- vertex v has a successor that is no vertex below n
abbrev pub LeavesRange : List (List ℕ) → ℕ → ℕ → Type 0
LeavesRange moves n v = HasEntryFrom n (get_or moves v [])
