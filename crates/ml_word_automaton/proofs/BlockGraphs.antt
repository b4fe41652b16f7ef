-- A problem has an automaton, and one at most.
--
--   reached_from_root == what is reached from the block is reached from the root of the whole problem
--   one_graph, some_graph, one_size == the laws
use Rattle.std.proofs.Common.{ℕ, ◌≤◌, ◌⊎◌, inl, inr, Bool, refl}
use Rattle.ml_graph.specs.Graph.{Graph, size}
use Rattle.ml_nodes.specs.ClosureGraph as closure
use Rattle.ml_nodes.specs.ClosureGraph.{at_root, behind}
use Rattle.ml_nodes.proofs.OneNumbering as numbering
use Rattle.ml_nodes.proofs.OneSize as sizes
use Rattle.ml_nodes.proofs.SomeGraph as graphs
use Rattle.ml_ctl.specs.Formula.{Formula}
use Rattle.ml_blocks.specs.Places.{Place, Root, forms}
use Rattle.ml_blocks.proofs.FiniteClosures.{closures_are_finite}
use Rattle.ml_blocks.proofs.PlaceEquality.{same_place}
use Rattle.ml_word_automaton.specs.Laws.{OneGraph, OneSize, SomeGraph}
use Rattle.ml_word_automaton.specs.WordAutomaton.{IsBlockGraph, start_block}

pub one_graph : OneGraph
one_graph f negated g h x y = numbering.one_graph forms (start_block f negated) g h x y

pub one_size : OneSize
one_size f negated g n is = sizes.one_size forms same_place (start_block f negated) g n is

reached_from_root : (start p : Place) → closure.IsReached forms start p → closure.IsReached forms (Root start) p
reached_from_root start _ at_root = behind (Root start) start at_root (inl refl)
reached_from_root start _ (behind q p reached child) = behind q p (reached_from_root start q reached) child

some_of : (f : Formula) (negated : Bool) (n : ℕ)
    → (closure.HasMoreThan forms (Root (start_block f negated)) n → ⊥)
    → (g : Graph) × IsBlockGraph g f negated
some_of f negated n not_more = from (graphs.some_graph forms same_place (start_block f negated) n)
  where
    from : ((g : Graph) × IsBlockGraph g f negated × (size g ≤ n)) ⊎ closure.HasMoreThan forms (start_block f negated) n
        → (g : Graph) × IsBlockGraph g f negated
    from (inl (g, is, few)) = (g, is)
    from (inr many) =
        absurd (not_more (record {
          places = many.places;
          once = many.once;
          are_reached = λ p member. reached_from_root (start_block f negated) p (many.are_reached p member);
          is_longer = many.is_longer;
        }))

pub some_graph : SomeGraph
some_graph f negated = let finite = (closures_are_finite f negated).1 in some_of f negated finite.0 finite.1
