-- The step along a diamond, with its local traces.
--
-- Along a diamond of action a, the diamond itself and all squares of a in the spread are left for their children: these
-- are the nodes of the next sequent. A trace tells from which node of the sequent which of them is reached, and with
-- which lowest priority; a source and a target may have several.
--
--   IsDiamondOf g sp d    == d is a diamond node of the spread
--   LeadsOut g sp d e m   == e is the diamond d, or a square of its action in the spread, and m its child
--   IsTarget g sp d m     == m is the child of such a node
--   IsTrace g C sp d t    == a local walk goes from t.from in C to such a node with the child t.to, and t.lowest is the
--                            lowest priority on it
--   IsStep g C sp d next made == next has exactly the targets, and made exactly the traces
use Rattle.std.specs.Prelude.{ℕ, ◌≡◌, ◌↔◌, ◌⊎◌, true, List}
use Rattle.ml_lists.specs.Ascending.{IsAscending}
use Rattle.ml_lists.specs.Member.{IsMember}
use Rattle.ml_trace.specs.declared.letters.Triple.{Triple}
use Rattle.ml_graph.specs.declared.node.Node.TheVariants as node
use Rattle.ml_graph.specs.Graph.{Graph, node_at}
use Rattle.ml_sequent.specs.LocalWalk.{LocalWalk}
use Rattle.ml_sequent.specs.Spread.{SpreadList, is_diamond}

-- d is a diamond node of the spread
pub record IsDiamondOf (g : Graph) (sp : SpreadList) (d : ℕ) : Type 0 where
  pub member : IsMember d sp.nodes
  pub holds : is_diamond (node_at g d) ≡ true

-- e is the diamond d, or a square of the same action in the spread, and m its child
pub record LeadsOut (g : Graph) (sp : SpreadList) (d e m : ℕ) : Type 0 where
  pub action : ℕ
  pub child : ℕ
  pub is_diamond : node_at g d ≡ node.Diamond action child
  pub leaves : ((e ≡ d) × (m ≡ child)) ⊎ (IsMember e sp.nodes × (node_at g e ≡ node.Square action m))

-- m is reached along the diamond d
pub record IsTarget (g : Graph) (sp : SpreadList) (d m : ℕ) : Type 0 where
  pub leaving : ℕ
  pub leads : LeadsOut g sp d leaving m

-- a local trace along the diamond d
pub record IsTrace (g : Graph) (C : List ℕ) (sp : SpreadList) (d : ℕ) (t : Triple) : Type 0 where
  pub from : IsMember t.from C
  pub leaving : ℕ
  pub walk : LocalWalk g sp.choice t.from t.lowest leaving
  pub leads : LeadsOut g sp d leaving t.to

-- the step along the diamond d
pub record IsStep (g : Graph) (C : List ℕ) (sp : SpreadList) (d : ℕ) (next : List ℕ) (made : List Triple) : Type 0 where
  pub ascends : IsAscending next
  pub targets : (m : ℕ) → IsMember m next ↔ IsTarget g sp d m
  pub traces : (t : Triple) → IsMember t made ↔ IsTrace g C sp d t
