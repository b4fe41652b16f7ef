use Rattle.std.proofs.Common.{◌∷◌, ◌++◌, ◌↔◌, List, [], sym, subst, take}
use Rattle.ml_lists.specs.Member.{IsMember}
use Rattle.ml_trace.specs.declared.letters.Transition.{Transition}
use Rattle.ml_emptiness.specs.private.Leaving.{AreSameLetters}
use Rattle.ml_emptiness.proofs.Letters.{next_entry, same_more}
use Rattle.ml_emptiness.proofs.leaving.by_source.Goals as goal

pub loop-letter-preserved : goal.loop-letter-preserved
loop-letter-preserved c =
    let row = c.args.row.now in
    let i = c.loop-letter.letter-index in
    let letter = c.letter-item.result in
    let next = next_entry row i letter c.loop-letter-test.true c.letter-item.is in
    subst (λ us. AreSameLetters us c.push.new.self.items) (sym next)
    (subst (AreSameLetters (take i row ++ letter ∷ [])) (sym c.in_ok-push.ensures.items)
    (same_more (take i row) c.loop-letter.all.items letter _ c.loop-letter.invariant
    (λ t. subst (λ (us : List Transition). IsMember t c.in_ok-of.field-0 ↔ IsMember t us) c.transitions.ensures.value
    (c.in_ok-of.ensures t))))
