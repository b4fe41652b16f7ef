use Rattle.std.proofs.Common.{arith}
use Rattle.ml_gen.proofs.Parts.{one_more_part}
use Rattle.ml_gen.proofs.texts.append_parts.Goals as goal

pub loop-i-preserved : goal.loop-i-preserved
loop-i-preserved c =
    one_more_part c.args.family c.args.out.now.items c.loop-i.out.items c.args.separator.now
    c.extend_from_slice.new.self.items c.append_part-in-loop-i.new.out.items c.loop-i.i (omega arith) c.loop-i.invariant
    c.in_ok-extend_from_slice.ensures.items c.in_ok-append_part-2.ensures
