use Rattle.std.proofs.Common.{◌≤◌, length, arith}
use Rattle.ml_answers.proofs.DocumentRead.{other_end}
use Rattle.ml_answers.proofs.document.read_others.Goals as goal

pub returns-clause-read : goal.returns-clause-read
returns-clause-read c =
    let l = c.loop-number in
    let past : length c.args.items.now ≤ l.number = omega (arith, c.loop-number-test.false, l.auto.number-end) in
    other_end c.args.items.now c.args._start l.stated.items l.rest l.number past l.invariant.0
