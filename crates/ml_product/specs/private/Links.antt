-- Positions as they are stored.
--
-- A position with a side chosen is stored as the position without that side, its parent, with a node and a side.
--
--   choice_under ps l    == the choice to which the link l leads, where ps are the positions before
--   placed ps x          == the position for which x stands, behind the positions ps
--   placed_behind ps xs  == ps, and behind them those for which xs stand
--   placed_all xs        == the positions for which xs stand
--   HasParent ps v l     == the link of the position at v leads to an earlier one that has no side at the node
--   AreLinked xs         == so do the links of all of xs, and what stands at a place is what is stored there
--   site_of x, top_of x  == the numbers of the sequent and of the history of x, and its priority beside them
use Rattle.std.specs.Prelude.{ℕ, ◌≡◌, ◌<◌, List, [], ◌∷◌, ◌++◌, get_or, slice_get, Some, None}
use Rattle.ml_sequent.specs.declared.choice.Side.{Side}
use Rattle.ml_sequent.specs.Choice.{side_of, with_side}
use Rattle.ml_product.specs.declared.stored.Link.{Link}
use Rattle.ml_product.specs.declared.stored.Link.TheVariants as link
use Rattle.ml_product.specs.declared.stored.Site.{Site}
use Rattle.ml_product.specs.declared.stored.Stored.{Stored}
use Rattle.ml_product.specs.declared.stored.Top.{Top}
use Rattle.ml_product.specs.Placed.{Placed, nowhere, choice_at}

-- the choice to which a link leads
abbrev pub choice_under : List Placed → Link → List (ℕ × Side)
choice_under ps link.Unchosen = []
choice_under ps (link.Chosen parent node side) = with_side (choice_at ps parent) node side

-- the position for which x stands
abbrev pub placed : List Placed → Stored → Placed
placed ps x = record {
  sequent = x.sequent;
  history = x.history;
  priority = x.priority;
  choice = choice_under ps x.link;
}

-- the positions for which xs stand, behind others
abbrev pub placed_behind : List Placed → List Stored → List Placed
placed_behind ps [] = ps
placed_behind ps (x ∷ xs) = placed_behind (ps ++ placed ps x ∷ []) xs

abbrev pub placed_all : List Stored → List Placed
placed_all xs = placed_behind [] xs

-- the link leads to an earlier position that has no side at the node
abbrev pub HasParent : List Placed → ℕ → Link → Type 0
HasParent ps v link.Unchosen = Unit {0}
HasParent ps v (link.Chosen parent node side) = (parent < v) × (side_of (choice_at ps parent) node ≡ None)

-- what stands at a place is what is stored there
pub record IsLinked (ps : List Placed) (v : ℕ) (x : Stored) : Type 0 where
  pub is : get_or ps v nowhere ≡ placed ps x
  pub parent : HasParent ps v x.link

abbrev pub AreLinked : List Stored → Type 0
AreLinked xs = (v : ℕ) (x : Stored) → slice_get xs v ≡ Some x → IsLinked (placed_all xs) v x

-- the numbers of its sequent and of its history
abbrev pub site_of : Placed → Site
site_of x = record { sequent = x.sequent; history = x.history }

-- and its priority beside them
abbrev pub top_of : Placed → Top
top_of x = record { sequent = x.sequent; history = x.history; priority = x.priority }
