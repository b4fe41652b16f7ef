-- Positions as an arena holds them.
--
-- Each sequent and each history is held once, and a position has their numbers. Its choice is whole.
--
--   Placed         == a position, with its sequent and its history by their numbers
--   nowhere        == a placed position, which stands where nobody asks
--   choice_at ps v == the choice of the position at place v of ps; past the end none
use Rattle.std.specs.Prelude.{ℕ, List, [], get_or}
use Rattle.ml_sequent.specs.declared.choice.Side.{Side}

pub record Placed : Type 0 where
  pub sequent : ℕ
  pub history : ℕ
  pub priority : ℕ
  pub choice : List (ℕ × Side)

-- where nobody asks
abbrev pub nowhere : Placed
nowhere = record { sequent = 0; history = 0; priority = 0; choice = [] }

-- the choice of the position at a place
abbrev pub choice_at : List Placed → ℕ → List (ℕ × Side)
choice_at ps v = (get_or ps v nowhere).choice
