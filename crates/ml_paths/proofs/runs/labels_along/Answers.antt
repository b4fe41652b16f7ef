use Rattle.std.proofs.Common.{◌++◌, ◌∙◌, sym}
use Rattle.ml_paths.specs.private.Built.{letter_of, pairs_at}
use Rattle.ml_paths.proofs.Gathered.{pairs_more}
use Rattle.ml_paths.proofs.runs.labels_along.Goals as goal

pub loop-place-preserved : goal.loop-place-preserved
loop-place-preserved c =
    let place = c.loop-place.place in
    c.in_ok-add_labels.ensures
    ∙ (λ j. c.loop-place.invariant j ++ pairs_at place (c.labels_of.ensures j))
    ∙ sym (pairs_more (letter_of c.args.structure.now c.args.states.now) place)
