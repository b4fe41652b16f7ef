-- The actions so far.
use Rattle.std.proofs.Common.{◌≡◌, take}
use Rattle.ml_search_copies.proofs.copying.copied_actions.Given as goal

abbrev pub invariant-loop-action : goal.invariant-loop-action
invariant-loop-action l = l.copy.items ≡ take l.action-index l.actions
