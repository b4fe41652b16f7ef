use Rattle.std.proofs.Common.{◌≡◌, ◌&&◌, false, sym, ap, ◌∙◌, arith}
use Rattle.ml_spec.specs.Kinds.{is_requirement}
use Rattle.ml_spec.specs.Questions.{asked_by, is_in}
use Rattle.ml_spec.specs.private.Sizes.{total}
use Rattle.ml_spec.proofs.ChosenItems.{left_total, parts_total, taken_total, whole_total}
use Rattle.ml_spec.proofs.joining.total_of.Goals as goal
use Rattle.ml_spec.proofs.joining.total_of.Goals.{then-taken-number+then-is_requirement, else-taken-number, else-taken-number-via-then-taken-number+else-is_requirement, else-taken-number-via-else-taken-number}

pub loop-number-preserved : goal.loop-number-preserved
loop-number-preserved c =
    let xs = c.args.items.now in
    let S = is_in c.args.taken.now in
    let i = c.loop-number.number in
    let x = c.index-items-number.result in
    let n = total (asked_by xs c.args.question) in
    elim c.if-taken-number.branch [
      | then-taken-number+then-is_requirement w ↦
          let required = sym w.is_requirement.ensures ∙ w.if-is_requirement.true in
          let more = taken_total S xs i x c.loop-number-test.true c.index-items-number.is n w.if-taken-number.true required in
          record {
            is_total = omega (arith, w.sum-is, w.occurrences.ensures.number, c.loop-number.invariant.is_total, more);
            fits = omega (arith, w.sum-is, w.occurrences.ensures.most, c.loop-number.invariant.fits);
          }
      | else-taken-number w ↦
          let left : (S i && is_requirement x.kind) ≡ false =
          elim w.else-taken-number.branch [
            | else-taken-number-via-then-taken-number+else-is_requirement u ↦
                ap (λ b. b && is_requirement x.kind) u.if-taken-number.true
                ∙ sym u.is_requirement.ensures
                ∙ u.if-is_requirement.false
            | else-taken-number-via-else-taken-number u ↦ ap (λ b. b && is_requirement x.kind) u.if-taken-number.false
          ] in
          let same = left_total S xs i x c.loop-number-test.true c.index-items-number.is n left in
          record {
            is_total = omega (arith, w.sum-is, c.loop-number.invariant.is_total, same);
            fits = omega (arith, w.sum-is, c.loop-number.invariant.fits);
          }
    ]

pub returns : goal.returns
returns c =
    let xs = c.args.items.now in
    let S = is_in c.args.taken.now in
    omega (
      arith,
      c.loop-number.invariant.is_total,
      whole_total S xs c.loop-number.number c.loop-number-test.false,
      parts_total S xs c.args.question,
    )
