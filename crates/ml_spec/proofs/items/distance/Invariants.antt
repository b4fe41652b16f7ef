use Rattle.std.proofs.Common.{◌≡◌, ◌≤◌, ◌+◌, ◌-◌, length, drop}
use Rattle.ml_spec.specs.Items.{up_to_item}
use Rattle.ml_spec.proofs.items.distance.Given as goal

abbrev pub invariant-loop-distance : goal.invariant-loop-distance
invariant-loop-distance l =
    (l.distance ≤ length l.text)
    × (length (up_to_item l.fn.starts l.text) ≡ l.distance + length (up_to_item l.starts (drop l.distance l.text)))

abbrev pub decreases-loop-distance : goal.decreases-loop-distance
decreases-loop-distance l = length l.text - l.distance
