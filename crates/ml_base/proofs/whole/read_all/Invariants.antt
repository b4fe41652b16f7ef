-- What is filled was given, and no fault was counted.
use Rattle.std.proofs.Common.{◌-◌, ◌≡◌, ◌≤◌, take, vec_len}
use Rattle.std.specs.Io.KnownBytes.{prepend_known}
use Rattle.ml_base.proofs.whole.read_all.Given as goal

abbrev pub invariant-loop-filled : goal.invariant-loop-filled
invariant-loop-filled g l = (l.filled ≤ vec_len l.bytes) × (vec_len l.bytes ≤ l.end)
    × (g.S.Source.remaining l.initial.source ≡ prepend_known (take l.filled l.bytes.items) (g.S.Source.remaining l.source))
    × (g.S.Source.faults l.source ≡ g.S.Source.faults l.initial.source)

abbrev pub decreases-loop-filled : goal.decreases-loop-filled
decreases-loop-filled g l = l.end - l.filled
