use Rattle.std.proofs.Common.{◌-◌}
use Rattle.ml_translate.specs.private.Finding.{IsFound}
use Rattle.ml_translate.proofs.finding.places_of.Given as goal

abbrev pub invariant-loop-done : goal.invariant-loop-done
invariant-loop-done l = IsFound l.automaton l.propositions.names.items l.done l.limit l.places.keys

abbrev pub decreases-loop-done : goal.decreases-loop-done
decreases-loop-done l = l.limit - l.done
