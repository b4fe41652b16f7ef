-- What a history is, said of its items.
--
-- Seen as a tree, a history has a vertex for each name, and the stack of a state is the way from the root down to the
-- vertex at which the state ends. That it is a tree is said of stacks: two stacks that share a name agree up to it.
-- That children lie properly inside their parent says that some stack ends at each vertex. A child is younger than its
-- parent: stacks ascend.
--
-- Stacks may begin with different names, so several roots are allowed: what is asked is wider than one tree. It is
-- narrower than any map from states to stacks, of which stacks need neither ascend nor agree.
--
--   up_to y s         == the stack s up to the name y and with it
--   IsHistory h       == h is a history
--   IsSmallHistory h  == h is a history whose states have numbers below 2^30
use Rattle.std.specs.Prelude.{◌≡◌, ℕ, ◌<◌, ◌^◌, true, ◌==◌, List, [], map, ◌≢◌}
use Rattle.ml_lists.specs.Ascending.{IsAscending}
use Rattle.ml_lists.specs.Member.{IsMember}
use Rattle.ml_trace.specs.Stack.{Item, has, ends_in}
use Rattle.ml_history.specs.HistoryStep.{live, through}

-- the stack up to the name y and with it
abbrev pub up_to : ℕ → List ℕ → List ℕ
up_to y s = through (λ x. x == y) s

-- h is a history
pub record IsHistory (h : List (Item ℕ)) : Type 0 where
  -- each state has one stack at most, and the states ascend
  pub states_ascend : IsAscending (map (λ (a : Item ℕ). a.state) h)
  -- each stack has a name at least
  pub not_empty : (a : Item ℕ) → IsMember a h → a.stack ≢ []
  -- its names ascend
  pub stacks_ascend : (a : Item ℕ) → IsMember a h → IsAscending a.stack
  -- two stacks that share a name agree up to it
  pub agree : (a b : Item ℕ) (y : ℕ)
      → IsMember a h
      → IsMember b h
      → has y a.stack ≡ true
      → has y b.stack ≡ true
      → up_to y a.stack ≡ up_to y b.stack
  -- the names in use are 0, 1 and so on, without a gap, and some stack ends in each
  pub each_ends : (y : ℕ) → y < live h → (a : Item ℕ) × IsMember a h × (ends_in y a.stack ≡ true)

-- h is a history whose states have numbers below 2^30
pub record IsSmallHistory (h : List (Item ℕ)) : Type 0 where
  pub history : IsHistory h
  pub small : (a : Item ℕ) → IsMember a h → a.state < 2 ^ 30
