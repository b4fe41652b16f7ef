-- The history that is read is the one with the number v.
use Rattle.std.proofs.Common.{◌*◌, ◌+◌, sym, ap, ◌∙◌, subst}
use Rattle.ml_trace.specs.Marks.{priority}
use Rattle.ml_trace.specs.MarkOrder.{FitsBelow}
use Rattle.ml_history.specs.HistoryStep.{step_mark}
use Rattle.ml_determinise.proofs.FollowedLetters.{read_history}
use Rattle.ml_determinise.proofs.moves.follow.Goals as goal

pub priority_of-requires : goal.priority_of-requires
priority_of-requires c =
    let keys = c.args.histories.now.keys in
    let is = read_history keys c.as_slice.result.now c.args.v c.index-as_slice-v.result c.as_slice.ensures.keys
    c.requires.number c.index-as_slice-v.is in
    subst (FitsBelow (2 * (c.args.states + 1)))
    (ap (λ h. step_mark h c.args.letter.now) (sym is) ∙ sym c.in_ok-history.ensures.mark) c.requires.fits

pub returns-clause-priority : goal.returns-clause-priority
returns-clause-priority c =
    let keys = c.args.histories.now.keys in
    let is = read_history keys c.as_slice.result.now c.args.v c.index-as_slice-v.result c.as_slice.ensures.keys
    c.requires.number c.index-as_slice-v.is in
    c.priority_of.ensures
    ∙ ap (priority (2 * (c.args.states + 1)))
    (c.in_ok-history.ensures.mark ∙ ap (λ h. step_mark h c.args.letter.now) is)
