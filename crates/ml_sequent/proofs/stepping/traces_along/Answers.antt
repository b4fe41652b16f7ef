use Rattle.std.proofs.Common.{ℕ, ◌<◌, ◌∙◌, ◌++◌, ◌↔◌, List, get_or, ap, subst, arith}
use Rattle.std.specs.List.{flat_map}
use Rattle.std.proofs.lemmas.List.{take_all}
use Rattle.ml_graph.specs.Graph.{size}
use Rattle.ml_lists.specs.Member.{IsMember}
use Rattle.ml_trace.specs.declared.letters.Triple.{Triple}
use Rattle.ml_sequent.specs.declared.reach.Visit.{Visit}
use Rattle.ml_sequent.specs.private.Exits.{action_of, exits, IsTraceFrom}
use Rattle.ml_sequent.proofs.Reaching.{found_low}
use Rattle.ml_sequent.proofs.Traces.{traces_more}
use Rattle.ml_sequent.proofs.stepping.traces_along.Goals as goal

pub push_exits-requires : goal.push_exits-requires
push_exits-requires c =
    record { nodes = found_low c.args.graph.now c.args.levels.now c.reach_from.new.reach c.found.result.now c.in_ok-reach_from.ensures.room c.found.ensures.low }

pub loop-node-preserved : goal.loop-node-preserved
loop-node-preserved c =
    let nodes = c.args.nodes.now in
    let i = c.loop-node.node-index in
    let low : get_or nodes i 0 < size c.args.graph.now = c.requires.nodes i 0 c.loop-node-test.true in
    let f = exits c.args.graph.now c.args.levels.now.priorities c.action_of-action.result c.args.diamond (get_or nodes i 0) in
    let more = c.in_ok-push_exits.ensures ∙ ap (λ (found : List Visit). c.loop-node.traces.items ++ flat_map f found) c.found.ensures.value in
    record {
      room = c.in_ok-reach_from.ensures.room;
      traces =
          traces_more c.args.graph.now c.args.choice.now c.args.levels.now c.keeps.ensures.is_graph
          c.requires.ranked c.action_of-action.result c.args.diamond nodes i c.reach_from.new.reach.found c.loop-node.traces.items
          c.push_exits.new.traces.items c.loop-node-test.true low
          c.in_ok-reach_from.ensures.reached more c.loop-node.invariant.traces;
    }

pub returns-clause-traces : goal.returns-clause-traces
returns-clause-traces c =
    let all = take_all c.loop-node.node-index c.args.nodes.now (omega arith) in
    let action = c.action_of-action.ensures ∙ ap action_of c.node.ensures in
    subst
    (λ a. (t : Triple)
    → IsMember t c.loop-node.traces.items ↔
    (IsMember t.from c.args.nodes.now × IsTraceFrom c.args.graph.now c.args.choice.now a c.args.diamond t))
    action
    (subst
    (λ (nodes : List ℕ). (t : Triple)
    → IsMember t c.loop-node.traces.items ↔
    (IsMember t.from nodes × IsTraceFrom c.args.graph.now c.args.choice.now c.action_of-action.result c.args.diamond t))
    all c.loop-node.invariant.traces)
