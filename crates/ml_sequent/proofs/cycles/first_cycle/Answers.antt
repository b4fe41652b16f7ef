use Rattle.std.proofs.Common.{ℕ, ◌+◌, ◌<◌, ◌∙◌, List, take, subst, sym, arith}
use Rattle.std.proofs.lemmas.List.{take_all}
use Rattle.ml_graph.specs.Graph.{size}
use Rattle.ml_lists.proofs.Member.{member-All}
use Rattle.ml_sequent.specs.private.ConnectedParts.{IsLeast, IsLoopIn}
use Rattle.ml_sequent.proofs.OddPriorities.{more_odds, first_odd}
use Rattle.ml_sequent.proofs.cycles.first_cycle.Goals as goal

pub odds_of-requires : goal.odds_of-requires
odds_of-requires c = member-All (λ n. n < size c.args.graph.now) c.args.nodes.now c.requires.nodes.low

pub loop-odd-preserved : goal.loop-odd-preserved
loop-odd-preserved c =
    let g = c.args.graph.now in
    let ch = c.args.choice.now in
    let odds = c.deref-odd-items.result.now in
    let i = c.loop-odd.odd-index in
    record {
      size = c.least_loop.ensures.size ∙ c.loop-odd.invariant.size;
      least = subst (IsLeast (IsLoopIn g ch c.args.nodes.now (take (i + 1) odds))) (sym c.lesser-first.ensures)
          (more_odds g ch c.args.nodes.now odds i c.loop-odd.first c.in_ok-least.least c.loop-odd-test.true c.loop-odd.invariant.least c.in_ok-least.ensures.least);
    }

pub returns-clause-first : goal.returns-clause-first
returns-clause-first c =
    let g = c.args.graph.now in
    let ch = c.args.choice.now in
    let odds = c.deref-odd-items.result.now in
    let all = take_all c.loop-odd.odd-index odds (omega (arith, c.loop-odd-test.false)) in
    first_odd g ch c.args.nodes.now c.loop-odd.first
    (subst (λ (ds : List ℕ). IsLeast (IsLoopIn g ch c.args.nodes.now ds) c.loop-odd.first) (all ∙ c.deref-odd-items.ensures.value ∙ c.in_ok-odds.ensures) c.loop-odd.invariant.least)
