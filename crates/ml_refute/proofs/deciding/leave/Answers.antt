use Rattle.std.proofs.Common.{ap, subst, ◌∙◌}
use Rattle.ml_refute.specs.private.Found.{IsNumberOf, position_at}
use Rattle.ml_refute.proofs.FoundEntries.{leave_decided}
use Rattle.ml_refute.proofs.deciding.leave.Goals as goal

pub returns : goal.returns
returns c =
    let l = c.requires.turn.holds.1 in
    let same = ap (λ w. (position_at c.args.game.now.graph.now c.args.game.now.arena.now w).priority)
    c.next_of-next.ensures in
    leave_decided c.args.game.now.graph.now c.args.game.now.arena.now c.args.game.now.solution.now c.requires.odd
    c.args.vertices.now.keys c.number_of.new.vertices.keys c.args.v c.args.diamond
    c.in_ok-entry.entry c.mark_of.result c.requires.won c.requires.turn
    (subst (λ n. IsNumberOf c.args.game.now.graph.now c.args.game.now.arena.now c.args.game.now.solution.now
    c.args.vertices.now.keys c.number_of.new.vertices.keys n c.in_ok-entry.entry)
    c.next_of-next.ensures c.in_ok-entry.ensures)
    (c.mark_of.ensures l.mark l.is_mark (same ∙ l.marked))
