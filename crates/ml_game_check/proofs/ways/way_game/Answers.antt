-- What was made is the game of ways, and a game.
use Rattle.std.proofs.Common.{ap, subst, ◌∙◌}
use Rattle.ml_parity.specs.Game.{ParityGame, IsGame}
use Rattle.ml_parity.specs.Refusal.{lists_of}
use Rattle.ml_game_check.proofs.WayGames.{made_is_game}
use Rattle.ml_game_check.proofs.ways.way_game.Goals as goal

pub invariant_of-result : goal.invariant_of-result
invariant_of-result c =
    let owner = ap (λ (h : ParityGame). h.owner) c.game.view_is in
    made_is_game c.args.game.now c.args.claims.now (subst IsGame c.game.view_is c.game.invariant) c.requires
    c.in_ok-owner.owner c.in_ok-priority.priority c.in_ok-successors.successors
    c.deref.result.now c.deref-2.result.now c.deref-3.result.now
    (c.deref.ensures.value ∙ owner)
    (c.deref-2.ensures.value ∙ owner)
    (ap lists_of c.deref-3.ensures.value ∙ ap (λ (h : ParityGame). h.successors) c.game.view_is)
    (c.in_ok-priority.ensures.items ∙ c.deref-4.ensures.value ∙ ap (λ (h : ParityGame). h.priority) c.game.view_is)
    c.in_ok-owner.ensures c.in_ok-successors.ensures
