-- The start alone is explored, and at the end the positions are those that are reached.
use Rattle.std.proofs.Common.{sym, subst, arith}
use Rattle.ml_product.specs.Arena.{IsArenaOf}
use Rattle.ml_product.proofs.Ended.{held_of}
use Rattle.ml_product.proofs.Explored.{is_arena, not_more}
use Rattle.ml_product.proofs.Underway.{started_underway, started_waiting}
use Rattle.ml_product.proofs.exploring.explore.Goals as goal

pub turns_in-requires-clause-underway : goal.turns_in-requires-clause-underway
turns_in-requires-clause-underway c =
    started_underway c.args.graph.now c.args.limit c.in_ok-pool.pool c.requires.some c.in_ok-pool.ensures

pub turns_in-requires-clause-waiting : goal.turns_in-requires-clause-waiting
turns_in-requires-clause-waiting c = started_waiting c.args.graph.now c.in_ok-pool.pool c.in_ok-pool.ensures

pub of-requires : goal.of-requires
of-requires c =
    held_of c.args.graph.now c.args.limit c.turns_in.new.pool c.in_ok-turns.turns.items c.in_ok-turns.ensures.turned
    c.in_ok-turns.ensures.whole (omega (arith, c.ranges.limit.fits))

pub returns-clause-arena : goal.returns-clause-arena
returns-clause-arena c =
    subst (IsArenaOf c.args.graph.now) (sym c.of.ensures)
    (is_arena c.args.graph.now c.args.limit c.turns_in.new.pool c.in_ok-turns.turns.items c.in_ok-turns.ensures.turned
    c.in_ok-turns.ensures.whole)

pub returns-clause-not_passed : goal.returns-clause-not_passed
returns-clause-not_passed c =
    not_more c.args.graph.now c.args.limit c.turns_in.new.pool c.in_ok-turns.turns.items c.in_ok-turns.ensures.turned
    c.in_ok-turns.ensures.whole
