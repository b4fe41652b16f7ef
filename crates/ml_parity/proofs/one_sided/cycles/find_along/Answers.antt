-- The vertex that the arc leaves is found, since the one that it leads to was.
use Rattle.std.proofs.Common.{arith, ◌≡◌, ◌∙◌, sym, subst, true, false}
use Rattle.std.proofs.lemmas.List.{get_or_default}
use Rattle.ml_parity.specs.private.HeightSteps.{IsSearch}
use Rattle.ml_parity.specs.private.SinkGame.{flag_at}
use Rattle.ml_parity.specs.HeightLists.{graph_of}
use Rattle.ml_parity.proofs.HeightRaises.{arc_ends}
use Rattle.ml_parity.proofs.HeightSearches.{search_more}
use Rattle.ml_parity.proofs.one_sided.cycles.find_along.Goals as goal

pub returns-clause-search : goal.returns-clause-search
returns-clause-search c =
    let e = arc_ends (graph_of c.graph.inside.size c.graph.inside.top c.graph.inside.arcs) c.args.graph.now
    c.graph.view_is c.graph.invariant c.args.arc c.requires.member in
    let at : flag_at c.args.search.now.found.items c.args.arc.to ≡ true =
    get_or_default c.args.search.now.found.items c.args.arc.to false c.index-else-index.result.now
    (omega (arith, e.ends, c.requires.search.size)) ∙ sym c.index-else-index.ensures ∙ c.if-not-index.false in
    subst (IsSearch c.args.graph.now c.args.priority c.args.search.now.goal _) (sym c.in_ok-push.ensures.items)
    (search_more c.args.graph.now c.args.priority c.args.search.now.goal c.args.search.now.found.items
    c.args.search.now.steps.items c.args.arc e c.requires.search c.requires.member c.if-arc-priority.false at)
