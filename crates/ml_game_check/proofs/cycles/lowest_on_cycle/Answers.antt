-- One step more.
use Rattle.std.proofs.Common.{ℕ, get_or, length}
use Rattle.ml_parity.specs.Solution.{choice_at}
use Rattle.ml_game_check.proofs.Rounds.{lower_below, lowest_more, there_next}
use Rattle.ml_game_check.proofs.cycles.lowest_on_cycle.Goals as goal

pub loop-preserved : goal.loop-preserved
loop-preserved c =
    let i = c.loop.invariant in
    let next = choice_at c.args.choices.now in
    let f = λ (v : ℕ). get_or c.args.priorities.now v 0 in
    let n = length c.args.choices.now in
    let low = c.requires.within c.loop.at 0 i.1 in (
      there_next next f n c.args.start c.loop.counter c.loop.at c.loop.lowest i.0 i.3,
      low,
      lower_below f c.loop.lowest (next c.loop.at) c.lower_of-lowest.result n c.lower_of-lowest.ensures i.2 low,
      lowest_more next f n c.args.start c.loop.counter c.loop.at c.loop.lowest i.0 i.3 c.lower_of-lowest.result
          c.lower_of-lowest.ensures,
    )
