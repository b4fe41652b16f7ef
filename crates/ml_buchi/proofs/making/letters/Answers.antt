use Rattle.ml_buchi.proofs.GrowingLetters.{next_letters}
use Rattle.ml_buchi.proofs.making.letters.Goals as goal

pub loop-valuation-preserved : goal.loop-valuation-preserved
loop-valuation-preserved c =
    let l = c.loop-valuation in
    next_letters c.args.automaton.now l.valuation l.letters.items c.push.new.self.items c.in_ok-letter.field-0 l.invariant
    c.in_ok-letter.ensures c.in_ok-push.ensures.items
