use Rattle.std.proofs.Common.{◌<◌, ◌≤◌, length, map, arith}
use Rattle.std.proofs.lemmas.List.{drop_more}
use Rattle.ml_replies.specs.Answers.{part_of}
use Rattle.ml_answers.proofs.PartsRead.{parts_made, parts_taken}
use Rattle.ml_answers.proofs.parts.read_parts.Goals as goal

pub returns-clause-parts : goal.returns-clause-parts
returns-clause-parts c =
    let past : length c.args.marks.now ≤ c.loop-number.number =
    omega (arith, c.loop-number-test.false, c.loop-number.auto.number-end) in
    parts_made c.args.items.now c.args.marks.now c.args.at c.loop-number.number (map part_of c.loop-number.parts.items)
    c.loop-number.rest c.loop-number.invariant past

pub returns-clause-read : goal.returns-clause-read
returns-clause-read c =
    let past : length c.args.marks.now ≤ c.loop-number.number =
    omega (arith, c.loop-number-test.false, c.loop-number.auto.number-end) in
    parts_taken c.args.items.now c.args.marks.now c.args.at c.loop-number.number (map part_of c.loop-number.parts.items)
    c.loop-number.rest c.loop-number.invariant past

pub returns-in-Err-clause-refused : goal.returns-in-Err-clause-refused
returns-in-Err-clause-refused c =
    let low : c.loop-number.number < length c.args.marks.now =
    omega (arith, c.loop-number-test.true, c.loop-number.auto.number-end) in
    c.in-Err.ensures.refused c.args.marks.now c.args.at (drop_more c.args.marks.now c.loop-number.number _ low)
    c.loop-number.invariant

pub loop-number-preserved : goal.loop-number-preserved
loop-number-preserved c =
    let low : c.loop-number.number < length c.args.marks.now =
    omega (arith, c.loop-number-test.true, c.loop-number.auto.number-end) in
    c.in-Ok.ensures.read c.args.marks.now c.args.at (drop_more c.args.marks.now c.loop-number.number _ low)
    c.loop-number.invariant
