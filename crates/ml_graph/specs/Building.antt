-- Of which nodes a graph is made, and which of them are refused.
--
--   first_out_of_range g == the first of these numbers that isn't below what it has to be below
--   first_bad refs    == the same, of any list of such references
--   IsSmall g         == the numbers of nodes fit 32 bits
use Rattle.std.specs.Prelude.{ℕ, ◌<◌, ◌^◌, nat_le, List, Option, find}
use Rattle.std.specs.Global.{Vec}
use Rattle.std.specs.Option.{option_map}
use Rattle.ml_graph.specs.declared.node.Node.{Node}
use Rattle.ml_graph.specs.Graph.{Graph, Reference, references, size}

-- the first number that isn't below what it has to be below
abbrev pub first_bad : List Reference → Option ℕ
first_bad refs = option_map (λ r. r.number) (find (λ r. nat_le r.bound r.number) refs)

-- the first number of the graph that is out of range
abbrev pub first_out_of_range : Graph → Option ℕ
first_out_of_range g = first_bad (references g)

-- the numbers of nodes fit 32 bits
abbrev pub IsSmall : Graph → Type 0
IsSmall g = size g < 2 ^ 32

-- the graph of the lists that a program holds
abbrev pub graph_of : Vec Node → Vec ℕ → ℕ → Vec (List ℕ) → Vec (List ℕ) → Graph
graph_of nodes priorities root props actions =
    record {
      nodes = nodes.items;
      priorities = priorities.items;
      root = root;
      props = props.items;
      actions = actions.items;
    }
