-- Each way is a move.
use Rattle.std.proofs.Common.{sym, subst}
use Rattle.std.specs.List.{Contains}
use Rattle.ml_game_check.proofs.FirstRules.{other_leaves, other_kept}
use Rattle.ml_game_check.proofs.early.other_break.Goals as goal

pub returns-in-Some : goal.returns-in-Some
returns-in-Some c =
    other_leaves c.args.game.now c.args.claims.now c.args.vertex c.args.claim c.requires.claimed c.requires.other
    c.in-Some.field-0 (subst (λ xs. Contains xs c.in-Some.field-0) c.moves_at.ensures c.in-Some.ensures.0) c.in-Some.ensures.1

pub returns-in-None : goal.returns-in-None
returns-in-None c =
    other_kept c.args.game.now c.args.claims.now c.args.vertex c.args.claim c.requires.claimed c.requires.other
    (λ w move. c.in-None.ensures w (subst (λ xs. Contains xs w) (sym c.moves_at.ensures) move))
