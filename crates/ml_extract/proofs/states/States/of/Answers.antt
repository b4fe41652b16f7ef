use Rattle.std.proofs.Common.{[], nat_eq, sym, ap, ◌∙◌, subst, arith}
use Rattle.indexmap.specs.IndexSet.{insert_key}
use Rattle.ml_extract.specs.private.Numbered.{IsUnderWay}
use Rattle.ml_extract.proofs.Board.{board_of}
use Rattle.ml_extract.proofs.NumberedStates.{begins, is_pending, fewer_left, all_looked_at}
use Rattle.ml_extract.proofs.WonEnds.{inside}
use Rattle.ml_extract.proofs.states.States.of.Goals as goal

pub loop-first-init : goal.loop-first-init
loop-first-init c =
    let B = board_of c.args.game.now.graph.now c.args.game.now.arena.now c.args.game.now.solution.now c.requires in
    let firsts = c.in_ok-insert.ensures.keys ∙ ap (λ ks. insert_key nat_eq ks 0) c.new.ensures.empty in
    subst (IsUnderWay B.g B.a B.s c.insert.new.self.keys) (sym c.new-2.ensures.items)
    (subst (λ ks. IsUnderWay B.g B.a B.s ks []) (sym firsts) (begins B))

pub overflow_cast-first : goal.overflow_cast-first
overflow_cast-first c =
    let B = board_of c.args.game.now.graph.now c.args.game.now.arena.now c.args.game.now.solution.now c.requires in
    let won =
    is_pending B c.loop-first.states.firsts.keys c.loop-first.states.lasts.items c.in-Some.first
    c.loop-first.invariant (sym c.in-Some.ensures) in
    let low = inside B c.in-Some.first won in
    omega arith

pub loop-first-smaller : goal.loop-first-smaller
loop-first-smaller c =
    let B = board_of c.args.game.now.graph.now c.args.game.now.arena.now c.args.game.now.solution.now c.requires in
    fewer_left B c.loop-first.states.firsts.keys c.loop-first.states.lasts.items c.look.new.self.lasts.items
    c.in-Some.first
    c.loop-first.invariant (sym c.in-Some.ensures) c.in_ok-look.ensures.one_more

pub returns : goal.returns
returns c =
    let B = board_of c.args.game.now.graph.now c.args.game.now.arena.now c.args.game.now.solution.now c.requires in
    all_looked_at B c.loop-first.states.firsts.keys c.loop-first.states.lasts.items c.loop-first.invariant
    (sym c.in_default.ensures)
