-- A problem is unsatisfiable where a refutation is accepted for its graph.
--
--   refuted_is_unsatisfiable == by the agreement of graph and problem
use Rattle.ml_front.specs.Logics.{logic_of}
use Rattle.ml_front.proofs.Graphs.{graph_is, graphs_agree, is_structure}
use Rattle.ml_refute_check.specs.Problems.{RefutedIsUnsatisfiable}
use Rattle.ml_refute_check.proofs.EntryLoops.{accepted_holds_nowhere}

pub refuted_is_unsatisfiable : RefutedIsUnsatisfiable
refuted_is_unsatisfiable p g r meaningful is_graph_of r_ok accepted some =
    let m = some.0 in
    let admitted = some.1 in
    let s = some.2.0 in
    let low = some.2.1 in
    accepted_holds_nowhere g r (graph_is g p.negated p.formula is_graph_of) r_ok accepted m
    (is_structure (logic_of p.formula) m admitted) s low
    ((graphs_agree p g meaningful is_graph_of m admitted s low).1 some.2.2)
