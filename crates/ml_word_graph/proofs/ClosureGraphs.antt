-- What holds of the graphs of closures, of those of LTL on words.
--
--   one_graph  == a formula has one graph at most, in each sense
--   some_graph == and it has one
use Rattle.std.proofs.Common.{◌+◌, ◌*◌, ◌≤◌, ◌⊎◌, inl, inr, arith}
use Rattle.ml_graph.specs.Graph.{Graph, size}
use Rattle.ml_nodes.specs.ClosureGraph as closure
use Rattle.ml_nodes.proofs.OneNumbering as numbering
use Rattle.ml_nodes.proofs.SomeGraph as graphs
use Rattle.ml_ctl.specs.Formula.{occurrences}
use Rattle.ml_word_graph.specs.Laws.{OneGraph, SomeGraph}
use Rattle.ml_word_graph.specs.WordGraph.{IsGraphOf, Root, forms, start_of}
use Rattle.ml_word_graph.proofs.PlaceEquality.{same_place}
use Rattle.ml_word_graph.proofs.Sizes.{few_reached}

pub one_graph : OneGraph
one_graph f negated g h x y = numbering.one_graph forms (Root (start_of f negated)) g h x y

pub some_graph : SomeGraph
some_graph f negated = from (graphs.some_graph forms same_place (Root (start_of f negated)) (4 * occurrences f + 5))
  where
    from : ((g : Graph) × IsGraphOf g f negated × (size g ≤ 4 * occurrences f + 5))
        ⊎ closure.HasMoreThan forms (Root (start_of f negated)) (4 * occurrences f + 5)
        → (g : Graph) × IsGraphOf g f negated
    from (inl (g, is, few)) = (g, is)
    from (inr many) =
        let few = few_reached f negated many.places many.once many.are_reached in
        absurd (omega (arith, few, many.is_longer))
