use Rattle.std.proofs.Common.{◌≡◌, ◌<◌, ◌≤◌, ◌∙◌, ⊎_elim, get_or, length, ap, sym, subst, arith}
use Rattle.std.proofs.lemmas.Bool.{cases_lt}
use Rattle.ml_graph.specs.Graph.{priority_at}
use Rattle.ml_lists.proofs.Member.{member-place, member-All, place-member}
use Rattle.ml_sequent.specs.declared.parts.Stage.TheVariants.{New}
use Rattle.ml_sequent.specs.private.ConnectedParts.{stage_of}
use Rattle.ml_sequent.proofs.PathMeasures.{fit_of, least_of_all}
use Rattle.ml_sequent.proofs.cycles.least_loop.Goals as goal

pub restart-requires : goal.restart-requires
restart-requires c =
    member-All (λ n. n < length c.args.parts.now.stages) c.args.nodes.now
    (λ n m. let low = c.requires.nodes.low n m in omega (arith, c.requires.size))

pub begin_at-requires-clause-node : goal.begin_at-requires-clause-node
begin_at-requires-clause-node c =
    c.requires.nodes.low (get_or c.args.nodes.now c.loop-node.node-index 0)
    (place-member c.args.nodes.now c.loop-node.node-index 0 c.loop-node-test.true)

pub loop-parts-init : goal.loop-parts-init
loop-parts-init c =
    let nodes = c.args.nodes.now in
    let i = c.loop-node.node-index in
    let inside = place-member nodes i 0 c.loop-node-test.true in
    let began = c.in_ok-begin_at.ensures.began nodes c.loop-node.best c.requires.nodes inside c.loop-node.invariant.part in
    record {
      size = c.begin_at.ensures.size ∙ c.loop-node.invariant.size;
      part = began.part;
      met = λ k low high new. ⊎_elim
          (λ (before : k < i).
          c.loop-node.invariant.met k before high (began.fresh (get_or nodes k 0) (place-member nodes k 0 (omega (arith, c.loop-node-test.true))) new))
          (λ (here : i ≤ k).
          let same : k ≡ i = omega arith in
          let node : get_or nodes k 0 ≡ get_or nodes i 0 = ap (λ j. get_or nodes j 0) same in
          began.met (subst (λ n. c.args.priority ≤ priority_at c.args.graph.now n) node high)
          (subst (λ n. stage_of c.begin_at.new.parts n ≡ New) node new))
          (cases_lt k i);
    }

pub step-requires-clause-fit : goal.step-requires-clause-fit
step-requires-clause-fit c =
    fit_of c.args.graph.now c.args.choice.now c.args.priority c.args.nodes.now c.requires.nodes c.loop-parts.parts
    c.loop-parts.invariant.part.under

pub loop-parts-preserved : goal.loop-parts-preserved
loop-parts-preserved c =
    let nodes = c.args.nodes.now in
    let went = c.in_ok-best.ensures.went_on nodes c.requires.nodes c.loop-parts.invariant.part in
    record {
      size = c.step.ensures.size ∙ c.loop-parts.invariant.size;
      part = went.part;
      met = λ k low high new.
          c.loop-parts.invariant.met k low high
          (went.fresh (get_or nodes k 0) (place-member nodes k 0 (omega (arith, c.loop-node-test.true))) new);
    }

pub loop-parts-smaller : goal.loop-parts-smaller
loop-parts-smaller c =
    (c.in_ok-best.ensures.went_on c.args.nodes.now c.requires.nodes c.loop-parts.invariant.part).falls

pub returns-clause-least : goal.returns-clause-least
returns-clause-least c =
    let g = c.args.graph.now in
    let nodes = c.args.nodes.now in
    least_of_all g c.args.choice.now c.args.priority nodes c.requires.nodes c.loop-node.parts c.loop-node.best
    c.loop-node.invariant.part c.loop-node.invariant.over
    (λ n m high new.
    let p = member-place n nodes m in
    c.loop-node.invariant.met p.place (omega (arith, p.below, c.loop-node-test.false))
    (subst (λ k. c.args.priority ≤ priority_at g k) (sym (p.holds 0)) high)
    (subst (λ k. stage_of c.loop-node.parts k ≡ New) (sym (p.holds 0)) new))
