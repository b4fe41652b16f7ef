use Rattle.std.proofs.Common.{◌∙◌, ◌<◌, ◌≤◌, get_or, length, refl, arith}
use Rattle.std.proofs.lemmas.List.{length-set}
use Rattle.ml_bisim.specs.Quotient.{class_of}
use Rattle.ml_bisim.proofs.KeptParts.{changed_or_not, written_more}
use Rattle.ml_bisim.proofs.naming.keep_from.Goals as goal

pub loop-i-preserved : goal.loop-i-preserved
loop-i-preserved c =
    let class = c.args.class.now in
    let states = c.args.states.now in
    let ns = c.args.numbers.now in
    let keeper = c.loop-i.keeper in
    let i = c.loop-i.i in
    let first = c.args.first in
    let of = class_of class (get_or states i 0) in
    let low = c.loop-i-test.true in
    let from : first ≤ i = omega (arith, c.loop-i.auto.i, c.requires.before, low) in
    let state_low = c.requires.in_range i 0 low in
    let within = c.requires.classes (get_or states i 0) 0 state_low in
    let inside : of < length keeper = omega (arith, within, c.loop-i.invariant.each_class) in
    record {
      each_class = length-set keeper of (get_or ns i 0) ∙ c.loop-i.invariant.each_class;
      kept = written_more class states ns keeper _ i first of from low refl inside refl
          c.loop-i.invariant.kept;
      others = λ d. changed_or_not class states ns keeper _ i first of from low refl
          inside refl c.args.keeper.now d (c.loop-i.invariant.others d);
    }
