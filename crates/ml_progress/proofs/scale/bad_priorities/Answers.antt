-- What is collected is sorted, and left without repeats.
use Rattle.std.proofs.Common.{rules, ◌≡◌, ◌∙◌, ap, filter}
use Rattle.std.proofs.lemmas.List.Filters.{dedup_is}
use Rattle.ml_lists.specs.Ascending.{ascending}
use Rattle.ml_progress.specs.Measure.{is_bad}
use Rattle.ml_lists.proofs.Sorted.{sorted_once}
use Rattle.ml_progress.proofs.scale.bad_priorities.Goals as goal

pub returns : goal.returns
returns c =
    let bad : c.in_ok-bad.bad.items ≡ filter (is_bad c.args.player) c.args.game.now.priority =
    search (rules, c.in_ok-bad.ensures.runs) in
    dedup_is _ _ _ c.dedup.ensures.filtered
    ∙ sorted_once c.in_ok-bad.bad.items c.sort_unstable.new.self.items c.sort_unstable.ensures.permutation
    c.sort_unstable.ensures.sorted
    ∙ ap ascending bad
