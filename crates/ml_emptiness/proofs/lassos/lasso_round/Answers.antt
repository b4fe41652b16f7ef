use Rattle.std.proofs.Common.{◌++◌, sym, subst}
use Rattle.ml_emptiness.specs.Emptiness.{IsFound}
use Rattle.ml_emptiness.specs.Systems.{table_of}
use Rattle.ml_emptiness.proofs.Between.{first_low, found_round, walk_members}
use Rattle.ml_emptiness.proofs.lassos.lasso_round.Goals as goal

pub stem-requires-clause-pair : goal.stem-requires-clause-pair
stem-requires-clause-pair c =
    first_low c.args.both.now.letters.now (table_of c.args.both.now.system.now) c.args.pairs.now c.args._graph.now
    c.requires.joint c.args.arcs.now (record { from = 0; priority = 0; to = 0 }) c.requires.cycle

pub turn-requires-clause-joint : goal.turn-requires-clause-joint
turn-requires-clause-joint c a h =
    let cycle = c.requires.cycle in
    c.requires.joint a
    (walk_members c.args.both.now.letters.now (table_of c.args.both.now.system.now) c.args.pairs.now c.args._graph.now
    c.requires.joint cycle.lowest cycle.begins c.args.arcs.now cycle.begins cycle.leads_back a h)

pub returns : goal.returns
returns c =
    let row = c.args.both.now.letters.now in
    let s = table_of c.args.both.now.system.now in
    let t = c.in_ok-stem.stem in
    let u = c.in_ok-turn.turn in
    let x = c.in_ok-lasso.lasso in
    let is = c.in_ok-lasso.ensures in
    subst (λ ns. IsFound row s ns x.letters.items x.loop_start) (sym is.states)
    (subst (λ ls. IsFound row s (t.states.items ++ u.states.items) ls x.loop_start) (sym is.letters)
    (subst (IsFound row s (t.states.items ++ u.states.items) (t.letters.items ++ u.letters.items)) (sym is.loop_start)
    (found_round row s c.args.pairs.now c.args._graph.now c.requires.joint c.args.origins.now c.args.arcs.now
    (record { from = 0; priority = 0; to = 0 }) t.states.items t.letters.items u.states.items u.letters.items
    c.requires.met c.requires.cycle c.in_ok-stem.ensures c.in_ok-turn.ensures)))
