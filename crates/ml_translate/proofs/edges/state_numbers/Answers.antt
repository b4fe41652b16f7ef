use Rattle.std.proofs.Common.{get_or, sym, ◌∙◌, subst, arith, refl}
use Rattle.std.proofs.lemmas.List.{length-set}
use Rattle.ml_lists.specs.Ascending.{IsAscending}
use Rattle.ml_translate.proofs.EdgesMade.{numbers_more}
use Rattle.ml_translate.proofs.FitPlaces.{listed_low}
use Rattle.ml_translate.proofs.edges.state_numbers.Goals as goal

pub index_mut-requires : goal.index_mut-requires
index_mut-requires c =
    let l = c.loop-state in
    let a = c.args.automaton.now in
    let states = c.states-states.result.now in
    let low = listed_low a c.graph.result.now states l.state c.states-states.ensures.states c.size-size.ensures.is_graph
    c.graph.ensures.value c.states-states.ensures.value c.loop-state-test.true in
    let long = l.invariant.as_long in
    let held = l.numbers.ok.0 in
    omega arith

pub loop-state-preserved : goal.loop-state-preserved
loop-state-preserved c =
    let l = c.loop-state in
    let a = c.args.automaton.now in
    let states = c.states-states.result.now in
    let low = listed_low a c.graph.result.now states l.state c.states-states.ensures.states c.size-size.ensures.is_graph
    c.graph.ensures.value c.states-states.ensures.value c.loop-state-test.true in
    let long = l.invariant.as_long in
    let n = get_or states l.state 0 in
    record {
      as_long = length-set l.numbers.items n l.state ∙ l.invariant.as_long;
      are =
          numbers_more states l.numbers.items l.state n
          (subst IsAscending (sym c.states-states.ensures.value) c.states-states.ensures.states.ascend)
          c.loop-state-test.true refl (omega arith) l.invariant.are;
    }
