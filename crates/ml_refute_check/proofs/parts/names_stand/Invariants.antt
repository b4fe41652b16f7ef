use Rattle.std.proofs.Common.{◌≡◌, ℕ, ◌<◌, ◌≤◌, true, false, length, get_or, take}
use Rattle.std.specs.List.{list_any}
use Rattle.ml_trace.specs.Stack.{has}
use Rattle.ml_refute_check.specs.private.Sources.{stack_of}
use Rattle.ml_refute_check.proofs.parts.names_stand.Given as goal

abbrev pub invariant-loop-item : goal.invariant-loop-item
invariant-loop-item l = record {
  long : length l.stand.items ≡ l.live;
  flagged : (y : ℕ) → get_or l.stand.items y false ≡ list_any (λ a. has y (stack_of l.stacks a)) (take l.item-index l.items);
  within : l.set ≤ length l.stand.items;
  set : (y : ℕ) → y < l.set → get_or l.stand.items y false ≡ true;
}
