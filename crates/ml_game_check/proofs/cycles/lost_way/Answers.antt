-- What is lent is what contracts see.
use Rattle.std.proofs.Common.{ℕ, List, ◌<◌, get_or, length, sym, subst}
use Rattle.ml_game_check.proofs.WayGames.{choices_low, told_of}
use Rattle.ml_game_check.proofs.cycles.lost_way.Goals as goal

pub lost_cycle-requires-clause-within : goal.lost_cycle-requires-clause-within
lost_cycle-requires-clause-within c =
    subst (λ (xs : List ℕ). (k d : ℕ) → k < length xs → get_or xs k d < length xs) (sym c.choices_of.ensures)
    (choices_low c.args.ways.now c.args.solution.now c.priorities_of.ensures.game c.requires.solution)

pub returns : goal.returns
returns c =
    told_of c.args.claims.now c.lost_cycle.result c.winners_of.ensures c.choices_of.ensures c.priorities_of.ensures.value
    c.lost_cycle.ensures
