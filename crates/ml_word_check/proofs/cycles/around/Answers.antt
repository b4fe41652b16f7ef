use Rattle.std.proofs.Common.{◌-◌, length, arith}
use Rattle.ml_word_check.proofs.ValuesAround.{none_computed, place_back}
use Rattle.ml_word_check.proofs.cycles.around.Goals as goal

pub loop-behind-init : goal.loop-behind-init
loop-behind-init c =
    none_computed c.args.cycle c.args.start c.args.left.now c.args.right.now c.requires.start c.ahead-later.result
    c.ahead-later.ensures

pub loop-behind-preserved : goal.loop-behind-preserved
loop-behind-preserved c =
    place_back c.args.cycle c.args.start c.args.left.now c.args.right.now c.requires.start c.loop-behind.right
    c.loop-behind.later c.loop-behind.behind (length c.loop-behind.right - 1 - c.loop-behind.behind) c.step-later.result
    c.loop-behind.invariant (omega arith) c.step-later.ensures

pub returns-clause-each_place : goal.returns-clause-each_place
returns-clause-each_place c = c.loop-behind.invariant.changed.long

pub returns-clause-values : goal.returns-clause-values
returns-clause-values c = λ i low. c.loop-behind.invariant.changed.done i low (omega arith)
