use Rattle.std.proofs.Common.{◌-◌, ◌++◌}
use Rattle.std.specs.List.{flat_map, range_with_len}
use Rattle.ml_buchi.specs.private.Openings.{opening}
use Rattle.ml_lists.proofs.WrittenParts.{parts_more}
use Rattle.ml_buchi.proofs.writing.write_openings.Goals as goal

pub loop-set-preserved : goal.loop-set-preserved
loop-set-preserved c =
    let top = c.args.top in
    parts_more (opening top) c.loop-set.set (top - 1) c.loop-set.out.items
    (c.args.out.now.items ++ flat_map (opening top) (range_with_len 0 (top - 1))) c.write_front.new.out.items
    c.loop-set-test.true c.loop-set.invariant c.in_ok-write_front.ensures
