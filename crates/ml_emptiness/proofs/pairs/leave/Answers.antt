use Rattle.std.proofs.Common.{◌<◌, ◌≤◌, [], length, sym, ap, subst, take}
use Rattle.std.proofs.lemmas.List.{get_or_default, take_all}
use Rattle.ml_emptiness.specs.Systems.{moves_of, table_of}
use Rattle.ml_emptiness.specs.private.Pairs.{IsLeftBy}
use Rattle.ml_emptiness.proofs.Joined.{left_more, left_whole}
use Rattle.ml_emptiness.proofs.Tables.{entry_is, joint_here, move_member, moves_are, pair_low, read_low, step_next, table_long}
use Rattle.ml_emptiness.proofs.pairs.leave.Goals as goal

pub bounds-both-pair : goal.bounds-both-pair
bounds-both-pair c =
    let low = pair_low (length c.args.both.now.letters.now) c.args.both.now.letters.now
    (table_of c.args.both.now.system.now) c.args.found.now.pairs.keys c.args.found.now.origins.items c.requires.system
    c.requires.partly.met c.args.k c.args.pair c.requires.pair in
    subst (λ n. c.args.pair.state < n) (table_long c.args.both.now.system.now) low

pub bounds-both-step : goal.bounds-both-step
bounds-both-step c =
    let xs = c.deref-step-items.result.now in
    let i = c.loop-step.step-index in
    let low = subst (λ n. c.args.pair.state < n) (table_long c.args.both.now.system.now)
    (pair_low (length c.args.both.now.letters.now) c.args.both.now.letters.now
    (table_of c.args.both.now.system.now) c.args.found.now.pairs.keys c.args.found.now.origins.items c.requires.system
    c.requires.partly.met c.args.k c.args.pair c.requires.pair) in
    read_low (length c.args.both.now.letters.now) (table_of c.args.both.now.system.now) c.args.pair.state xs
    c.requires.system
    (moves_are c.args.both.now.system.now c.args.pair.state c.index-both-pair.result xs low
    c.deref-step-items.ensures.value) i _ c.loop-step-test.true (entry_is xs i _ c.loop-step-test.true)

pub join_all-requires-clause-joint : goal.join_all-requires-clause-joint
join_all-requires-clause-joint c =
    let xs = c.deref-step-items.result.now in
    let i = c.loop-step.step-index in
    let row = c.args.both.now.letters.now in
    let s = table_of c.args.both.now.system.now in
    let low = subst (λ n. c.args.pair.state < n) (table_long c.args.both.now.system.now)
    (pair_low (length row) row s c.args.found.now.pairs.keys c.args.found.now.origins.items c.requires.system
    c.requires.partly.met c.args.k c.args.pair c.requires.pair) in
    let are = moves_are c.args.both.now.system.now c.args.pair.state c.index-both-pair.result xs low
    c.deref-step-items.ensures.value in
    let is = entry_is xs i _ c.loop-step-test.true in
    joint_here row s c.args.pair _ c.leaving-transitions.result.now _
    (move_member (length row) s c.args.pair.state xs c.requires.system are i _ c.loop-step-test.true is)
    (get_or_default row _ c.index-both-step.result []
    (read_low (length row) s c.args.pair.state xs c.requires.system are i _ c.loop-step-test.true is))
    c.leaving-transitions.ensures

pub loop-step-preserved : goal.loop-step-preserved
loop-step-preserved c =
    let xs = c.deref-step-items.result.now in
    let i = c.loop-step.step-index in
    let row = c.args.both.now.letters.now in
    let s = table_of c.args.both.now.system.now in
    let f = c.loop-step.found in
    let f' = c.join_all.new.found in
    let inv = c.loop-step.invariant in
    let low = subst (λ n. c.args.pair.state < n) (table_long c.args.both.now.system.now)
    (pair_low (length row) row s c.args.found.now.pairs.keys c.args.found.now.origins.items c.requires.system
    c.requires.partly.met c.args.k c.args.pair c.requires.pair) in
    let are = moves_are c.args.both.now.system.now c.args.pair.state c.index-both-pair.result xs low
    c.deref-step-items.ensures.value in
    let is = entry_is xs i _ c.loop-step-test.true in
    let joint = joint_here row s c.args.pair _ c.leaving-transitions.result.now _
    (move_member (length row) s c.args.pair.state xs c.requires.system are i _ c.loop-step-test.true is)
    (get_or_default row _ c.index-both-step.result []
    (read_low (length row) s c.args.pair.state xs c.requires.system are i _ c.loop-step-test.true is))
    c.leaving-transitions.ensures in
    let j = c.in_ok-join_all.ensures.joined in (
      c.in_ok-join_all.ensures.partly,
      j.kept.keeps_pairs c.args.k c.args.pair inv.1,
      subst (IsLeftBy row f'.pairs.keys f'.arcs.items c.args.k c.args.pair)
          (sym (step_next (length row) s c.args.pair.state xs c.requires.system are i _ c.loop-step-test.true is))
          (left_more row s c.args.k c.args.pair (take i (moves_of s c.args.pair.state)) _ c.leaving-transitions.result.now f f'
          joint inv.2 j),
    )

pub returns : goal.returns
returns c =
    let xs = c.deref-step-items.result.now in
    let i = c.loop-step.step-index in
    let row = c.args.both.now.letters.now in
    let s = table_of c.args.both.now.system.now in
    let f = c.loop-step.found in
    let inv = c.loop-step.invariant in
    let low = subst (λ n. c.args.pair.state < n) (table_long c.args.both.now.system.now)
    (pair_low (length row) row s c.args.found.now.pairs.keys c.args.found.now.origins.items c.requires.system
    c.requires.partly.met c.args.k c.args.pair c.requires.pair) in
    let are = moves_are c.args.both.now.system.now c.args.pair.state c.index-both-pair.result xs low
    c.deref-step-items.ensures.value in
    let all = take_all i (moves_of s c.args.pair.state) (subst (λ n. n ≤ i) (ap length (sym are)) c.loop-step-test.false) in
    left_whole row s c.args.k c.args.pair f inv.1 inv.0
    (subst (IsLeftBy row f.pairs.keys f.arcs.items c.args.k c.args.pair) all inv.2)
