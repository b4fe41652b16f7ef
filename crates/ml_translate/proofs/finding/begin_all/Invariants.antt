use Rattle.std.proofs.Common.{◌≤◌, ℕ, List, length}
use Rattle.ml_translate.specs.private.Finding.{IsBegun}
use Rattle.ml_translate.proofs.finding.begin_all.Given as goal

abbrev pub invariant-loop-state : goal.invariant-loop-state
invariant-loop-state l = record {
  few : length l.places.keys ≤ l.limit;
  begun : (props : List (List ℕ)) → IsBegun l.automaton props l.state l.limit l.places.keys;
}
