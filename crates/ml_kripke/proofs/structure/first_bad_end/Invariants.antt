use Rattle.std.proofs.Common.{◌≡◌, find, nat_le, drop}
use Rattle.std.specs.List.{flat_map}
use Rattle.ml_kripke.specs.Built.{ends}
use Rattle.ml_kripke.proofs.structure.first_bad_end.Given as goal

abbrev pub invariant-loop-edge : goal.invariant-loop-edge
invariant-loop-edge l =
    find (nat_le l.states) (flat_map ends (drop l.edge-index l.edges)) ≡ find (nat_le l.states) (flat_map ends l.edges)
