-- States as they are numbered. Only private contracts cite this.
--
--   IsUnderWay g a s fs ls  == as far as states were looked at, states begin at the positions fs, and those that were
--                              looked at end at ls
--   AreNumbered g a s fs ls == fs are the positions where the states begin, and ls those where they end
use Rattle.std.specs.Prelude.{ℕ, ◌≡◌, List, length, map, take}
use Rattle.ml_lists.specs.Member.{IsMember}
use Rattle.ml_parity.specs.Solution.{GameSolution}
use Rattle.ml_graph.specs.Graph.{Graph}
use Rattle.ml_product.specs.Arena.{Arena}
use Rattle.ml_extract.specs.Model.{State, Chooses, AreStates, next_positions}
use Rattle.ml_extract.specs.private.Begun.{IsBegun}
use Rattle.ml_extract.specs.private.WonPositions.{IsWon}

pub record IsUnderWay (g : Graph) (a : Arena) (s : GameSolution) (firsts lasts : List ℕ) : Type 0 where
  pub states : List State
  pub chosen : (x : State) → IsMember x states → Chooses g a s x.first x.last x.spread
  pub begun : IsBegun 0 (map (next_positions g a) states) firsts
  pub firsts_are : map (λ x. x.first) states ≡ take (length lasts) firsts
  pub lasts_are : map (λ x. x.last) states ≡ lasts
  pub won : (v : ℕ) → IsMember v firsts → IsWon a s v

pub record AreNumbered (g : Graph) (a : Arena) (s : GameSolution) (firsts lasts : List ℕ) : Type 0 where
  pub states : List State
  pub are_states : AreStates g a s states
  pub firsts_are : map (λ x. x.first) states ≡ firsts
  pub lasts_are : map (λ x. x.last) states ≡ lasts
