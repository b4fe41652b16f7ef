-- The positions so far, over shared parts.
--
--   positions_of a        == the positions of the pool a
--   position_of x         == the position that was made as x
--   beside p k c          == the position p with another priority and another choice
--   IsPool ss hs xs ..    == what a pool keeps: its tables have nothing twice, places are places of the tables, which have
--                            no more entries than there are positions, the positions are different, and those without a
--                            choice are found
--   KeepsPool a           == so does the pool a
--   IsLonger xs ys        == the list ys begins with xs
--   IsInterned a p b v    == the pool b has the positions of the pool a, and p, at the place v
--   IsEmptyPool a         == the pool a has no positions
use Rattle.std.specs.Prelude.{ℕ, ◌≡◌, ◌≤◌, List, [], ◌++◌, length}
use Rattle.ml_lists.specs.Added.{IsAdded, HasOnePlace}
use Rattle.ml_sequent.specs.declared.choice.Side.{Side}
use Rattle.ml_trace.specs.Stack.{Item}
use Rattle.ml_product.specs.Position.{Position}
use Rattle.ml_product.specs.DecisionGame.{AreDifferent}
use Rattle.ml_product.specs.declared.pool.Pool.{Pool}
use Rattle.ml_product.specs.declared.pool.Fresh.{Fresh}
use Rattle.ml_product.specs.declared.stored.Top.{Top}
use Rattle.ml_product.specs.private.Numbers.{Leads}
use Rattle.ml_product.specs.Placed.{Placed}
use Rattle.ml_product.specs.private.Links.{top_of}
use Rattle.ml_product.specs.private.Shared.{shown, AreWithin}

-- the positions of the pool
abbrev pub positions_of : Pool → List Position
positions_of a = shown a.sequents.keys a.histories.keys a.positions

-- the position that was made
abbrev pub position_of : Fresh → Position
position_of x = record { sequent = x.sequent; history = x.history; priority = x.priority; choice = [] }

-- the position with another priority and another choice
abbrev pub beside : Position → ℕ → List (ℕ × Side) → Position
beside p k c = record { sequent = p.sequent; history = p.history; priority = k; choice = c }

-- what a pool keeps, of its sequents, its histories, its positions, and the numbers of those without a choice
pub record IsPool (ss : List (List ℕ)) (hs : List (List (Item ℕ))) (xs : List Placed) (ts : List Top)
    (ns : List ℕ) : Type 0 where
  pub sequents_once : HasOnePlace ss
  pub histories_once : HasOnePlace hs
  pub within : AreWithin ss hs xs
  pub few_sequents : length ss ≤ length xs
  pub few_histories : length hs ≤ length xs
  pub are_different : AreDifferent (shown ss hs xs)
  pub tops : Leads top_of xs ts ns

abbrev pub KeepsPool : Pool → Type 0
KeepsPool a = IsPool a.sequents.keys a.histories.keys a.positions a.tops.keys a.top_numbers.items

-- one list begins with the other
pub record IsLonger {X : Type 0} (xs ys : List X) : Type 0 where
  pub more : List X
  pub is : ys ≡ xs ++ more

-- the pool b has the positions of the pool a, and p, at the place v
pub record IsInterned (a : Pool) (p : Position) (b : Pool) (v : ℕ) : Type 0 where
  pub is_pool : KeepsPool b
  pub added : IsAdded (positions_of a) p (positions_of b) v
  pub stored : IsLonger a.positions b.positions

-- there are no positions
pub record IsEmptyPool (a : Pool) : Type 0 where
  pub no_sequents : a.sequents.keys ≡ []
  pub no_histories : a.histories.keys ≡ []
  pub no_positions : a.positions ≡ []
  pub no_tops : a.tops.keys ≡ []
  pub no_top_numbers : a.top_numbers.items ≡ []
