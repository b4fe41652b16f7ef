-- One byte after the other.
use Rattle.std.proofs.Common.{sym, ◌∙◌}
use Rattle.ml_pgsolver.proofs.WordPlaces.{word_here, word_later, word_none}
use Rattle.ml_pgsolver.proofs.WordTokens.{word_in-sought}
use Rattle.ml_pgsolver.proofs.checked.word_place.Goals as goal

pub returns-then-has_word : goal.returns-then-has_word
returns-then-has_word c =
    sym (word_in-sought c.args.text.now ∙ c.loop-at.invariant.1 ∙ word_here c.args.text.now c.loop-at.at c.loop-at-test.true (sym c.if-has_word.ensures))

pub loop-at-preserved : goal.loop-at-preserved
loop-at-preserved c =
    let later = word_later c.args.text.now c.loop-at.at c.behind_name-at.result c.loop-at-test.true (sym c.if-has_word.ensures)
    c.behind_name-at.ensures.is in
    (later.fits, c.loop-at.invariant.1 ∙ later.same)

pub returns : goal.returns
returns c = sym (word_in-sought c.args.text.now ∙ c.loop-at.invariant.1 ∙ word_none c.args.text.now c.loop-at.at c.loop-at-test.false)
