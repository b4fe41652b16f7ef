use Rattle.std.proofs.Common.{◌≡◌, ◌+◌, ◌*◌, ◌≤◌, take}
use Rattle.ml_spec.specs.Joined.{requirements}
use Rattle.ml_spec.specs.Questions.{asked_by, chosen, is_in}
use Rattle.ml_spec.specs.private.Sizes.{total}
use Rattle.ml_spec.proofs.joining.total_of.Given as goal

abbrev pub invariant-loop-number : goal.invariant-loop-number
invariant-loop-number l = record {
  is_total : l.sum
      ≡ total (asked_by l.items l.fn.question) + total (requirements (chosen (is_in l.taken) (take l.number l.items)));
  fits : l.sum ≤ 1002 * (l.number + 1);
}
