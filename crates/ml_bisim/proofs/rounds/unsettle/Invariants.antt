use Rattle.std.proofs.Common.{ℕ, ◌≡◌, ◌<◌, [], All, length, get_or}
use Rattle.ml_bisim.specs.private.Rounds.{AreListed, IsCutOff}
use Rattle.ml_bisim.proofs.rounds.unsettle.Given as goal

abbrev pub invariant-loop-state : goal.invariant-loop-state
invariant-loop-state l = record {
  class : l.partition.class ≡ l.fn.partition.class;
  members : l.partition.members ≡ l.fn.partition.members;
  keepers : l.partition.keeper ≡ l.fn.partition.keeper;
  flags : length l.partition.is_settled.items ≡ l.structure.states;
  in_range : All (λ s. s < l.structure.states) l.unsettled.items;
  listed : AreListed l.partition.is_settled.items l.structure.states l.unsettled.items;
  cut_off : (i : ℕ)
      → i < l.state-index
      → IsCutOff l.structure.edges l.partition.class.items l.structure.states l.partition.is_settled.items
      (get_or l.renamed i 0);
  none : length l.renamed ≡ 0 → l.unsettled.items ≡ [];
}
