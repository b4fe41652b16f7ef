-- The history with the number v keeps its number while letters are followed from it.
use Rattle.std.proofs.Common.{◌+◌, drop, take, sym, ap, ◌∙◌, ◌++◌, subst}
use Rattle.std.proofs.lemmas.List.{take-append-drop}
use Rattle.std.proofs.lemmas.Result.{err_from_is_err_and}
use Rattle.ml_lists.specs.Added.{IsAdded}
use Rattle.ml_lists.specs.Member.{IsMember}
use Rattle.ml_lists.proofs.Member.{place-member}
use Rattle.ml_trace.specs.Marks.{priority}
use Rattle.ml_trace.specs.MarkOrder.{FitsBelow}
use Rattle.ml_history.specs.HistoryStep.{stepped, step_mark}
use Rattle.ml_determinise.specs.Histories.{neutral}
use Rattle.ml_determinise.specs.private.Walk.{history_at, HasNoRoom, IsPartway}
use Rattle.ml_determinise.proofs.FollowedLetters.{next_letter, partway_at, partway_more, partway_none, partway_passed}
use Rattle.ml_determinise.proofs.HandedOn.{handed_on}
use Rattle.ml_determinise.proofs.moves.follow_all.Goals as goal

pub loop-letter-init : goal.loop-letter-init
loop-letter-init c =
    let hs = c.args.histories.now.keys in
    let h = history_at hs c.args.v in
    subst (IsPartway c.args.states c.args.limit hs h _ hs) (sym c.in_ok-moves.ensures.items)
    (partway_none c.args.states c.args.limit hs h c.requires.apart c.requires.few)

pub follow-requires-clause-number : goal.follow-requires-clause-number
follow-requires-clause-number c =
    let hs = c.args.histories.now.keys in
    let l = c.loop-letter in
    (partway_at c.args.states c.args.limit hs (history_at hs c.args.v) c.requires.apart _ l.histories.keys l.moves.items
    l.invariant c.args.v c.requires.number).0

pub follow-requires-clause-fits : goal.follow-requires-clause-fits
follow-requires-clause-fits c =
    let hs = c.args.histories.now.keys in
    let l = c.loop-letter in
    let row = c.args.letters.now in
    let letter = c.letter-item.result in
    let at = (partway_at c.args.states c.args.limit hs (history_at hs c.args.v) c.requires.apart _ l.histories.keys
    l.moves.items l.invariant c.args.v c.requires.number).1 in
    subst (λ h. FitsBelow (neutral c.args.states) (step_mark h letter)) (sym at)
    (c.requires.fit letter (subst (λ x. IsMember x row) (sym c.letter-item.is)
    (place-member row l.letter-index letter c.loop-letter-test.true)))

pub returns-in_err-follow-clause-passed : goal.returns-in_err-follow-clause-passed
returns-in_err-follow-clause-passed c = λ e.
    let hs = c.args.histories.now.keys in
    let h = history_at hs c.args.v in
    let l = c.loop-letter in
    let row = c.args.letters.now in
    let letter = c.letter-item.result in
    let done = take l.letter-index row in
    let at = (partway_at c.args.states c.args.limit hs h c.requires.apart done l.histories.keys l.moves.items
    l.invariant c.args.v c.requires.number).1 in
    let next = next_letter row l.letter-index letter c.loop-letter-test.true c.letter-item.is in
    let p = err_from_is_err_and c.from_residual-in_err-follow.result c.from_residual-in_err-follow.ensures.1 in
    partway_passed c.args.states c.args.limit hs h c.requires.apart done l.histories.keys l.moves.items l.invariant
    letter row (drop (l.letter-index + 1) row)
    (ap (λ xs. xs ++ drop (l.letter-index + 1) row) (sym next) ∙ take-append-drop (l.letter-index + 1) row)
    (subst (λ k. HasNoRoom c.args.limit l.histories.keys (stepped k letter)) at
    (c.in_err-follow.ensures.passed (handed_on c.from_residual-in_err-follow.result c.in_err-follow.field-0.0 p e)))

pub loop-letter-preserved : goal.loop-letter-preserved
loop-letter-preserved c =
    let hs = c.args.histories.now.keys in
    let h = history_at hs c.args.v in
    let l = c.loop-letter in
    let row = c.args.letters.now in
    let letter = c.letter-item.result in
    let done = take l.letter-index row in
    let js = c.follow.new.histories.keys in
    let m = c.in_ok-follow.field-0 in
    let at = (partway_at c.args.states c.args.limit hs h c.requires.apart done l.histories.keys l.moves.items
    l.invariant c.args.v c.requires.number).1 in
    partway_more c.args.states c.args.limit hs h c.requires.apart done l.histories.keys l.moves.items l.invariant letter
    (take (l.letter-index + 1) row) js c.push.new.self.items m
    (next_letter row l.letter-index letter c.loop-letter-test.true c.letter-item.is)
    (subst (λ k. IsAdded l.histories.keys (stepped k letter) js m.to) at c.in_ok-follow.ensures.added)
    (c.in_ok-follow.ensures.priority ∙ ap (λ k. priority (neutral c.args.states) (step_mark k letter)) at)
    c.in_ok-follow.ensures.few c.in_ok-push.ensures.items
