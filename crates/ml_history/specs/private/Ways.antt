-- Stacks as ways down a tree, and tests that pass along them.
--
-- Where stacks are ways down a tree, the names of some of them make a tree again: with a name they have all older ones
-- of its stack. So to flag the names of one stack more it is enough to go back from its end, up to a flag that is set.
--
--   AreWays t         == the stacks of t are ways down a tree: they ascend, and two that share a name agree up to it
--   PassesDown test s == where a name of the stack s passes the test, each older name of s passes it
use Rattle.std.specs.Prelude.{◌≡◌, ℕ, ◌<◌, Bool, true, List}
use Rattle.ml_lists.specs.Ascending.{IsAscending}
use Rattle.ml_lists.specs.Member.{IsMember}
use Rattle.ml_trace.specs.Stack.{Item, has}
use Rattle.ml_history.specs.History.{up_to}

-- the stacks are ways down a tree
pub record AreWays (t : List (Item ℕ)) : Type 0 where
  pub ascend : (a : Item ℕ) → IsMember a t → IsAscending a.stack
  pub agree : (a b : Item ℕ) (y : ℕ)
      → IsMember a t
      → IsMember b t
      → has y a.stack ≡ true
      → has y b.stack ≡ true
      → up_to y a.stack ≡ up_to y b.stack

-- where a name of the stack passes the test, each older name of the stack passes it
abbrev pub PassesDown : (ℕ → Bool) → List ℕ → Type 0
PassesDown test s = (y z : ℕ) → IsMember y s → IsMember z s → y < z → test z ≡ true → test y ≡ true
