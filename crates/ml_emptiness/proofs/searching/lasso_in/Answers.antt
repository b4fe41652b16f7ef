use Rattle.std.proofs.Common.{◌<◌, ◌≤◌, Contains, IsOk, refl, sym, subst}
use Rattle.ml_lists.proofs.Member.{member-All}
use Rattle.ml_lists.proofs.Members.{member_of_contains}
use Rattle.ml_parity.specs.declared.one_sided.graph.Arc.{Arc}
use Rattle.ml_parity.specs.OneSided.{EvenCycleIn, OneSidedGraph}
use Rattle.ml_emptiness.specs.Systems.{table_of}
use Rattle.ml_emptiness.specs.private.Pairs.{IsJoint}
use Rattle.ml_emptiness.proofs.Accepted.{cycle_of}
use Rattle.ml_emptiness.proofs.Arcs.{joint_source, joint_target, joint_weight}
use Rattle.ml_emptiness.proofs.searching.lasso_in.Goals as goal

pub build-graph-requires : goal.build-graph-requires
build-graph-requires c =
    let row = c.args.both.now.letters.now in
    let s = table_of c.args.both.now.system.now in
    let pairs = c.args.found.pairs.keys in
    let arcs = c.args.found.arcs.items in
    record {
      even = refl;
      priorities = member-All (λ (a : Arc). a.priority ≤ 2) arcs (λ a h. joint_weight row s pairs a (c.requires.found.are_joint a h));
      begins = member-All (λ (a : Arc). a.from < c.len.result) arcs
          (λ a h. subst (λ n. a.from < n) (sym c.len.ensures.len) (joint_source row s pairs a (c.requires.found.are_joint a h)));
      ends = member-All (λ (a : Arc). a.to < c.len.result) arcs
          (λ a h. subst (λ n. a.to < n) (sym c.len.ensures.len) (joint_target row s pairs a (c.requires.found.are_joint a h)));
    }

pub returns-in-Ok : goal.returns-in-Ok
returns-in-Ok c = λ lasso w accepted.
    let found = c.args.found in
    c.in_ok-heights.ensures.where_no_cycle.0 (subst IsOk (sym c.in-Ok.is) refl)
    (subst EvenCycleIn (sym c.build-graph.ensures)
    (cycle_of c.args.both.now.letters.now (table_of c.args.both.now.system.now) found.pairs.keys found.arcs.items
    found.origins.items c.requires.found c.len.result 2 lasso w accepted))

pub lasso_round-requires-clause-joint : goal.lasso_round-requires-clause-joint
lasso_round-requires-clause-joint c = λ a h.
    let arcs = c.args.found.arcs.items in
    subst (λ ps. IsJoint c.args.both.now.letters.now (table_of c.args.both.now.system.now) ps a)
    (sym c.as_slice.ensures.keys)
    (c.requires.found.are_joint a
    (member_of_contains a arcs (subst (λ (g : OneSidedGraph). Contains g.arcs a) c.build-graph.ensures h)))
