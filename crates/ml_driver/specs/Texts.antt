-- What is said of what a text stands for.
--
--   StandsFor Is text P == the text stands for something, as `Is` says, and P is true of it
use Rattle.std.specs.Prelude.{ℕ, List}

pub record StandsFor {X : Type 0} (Is : List ℕ → X → Type 0) (text : List ℕ) (IsSo : X → Type 0) : Type 0 where
  pub meant : X
  pub is_meant : Is text meant
  pub is_so : IsSo meant
