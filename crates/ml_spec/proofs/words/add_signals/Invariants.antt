use Rattle.std.proofs.Common.{◌≡◌, length, Some, bytes_eq}
use Rattle.std.specs.Map.{lookup}
use Rattle.ml_spec.specs.Known.{with_all}
use Rattle.ml_spec.specs.Scan.{item_text}
use Rattle.ml_spec.specs.declared.context.Declared.TheVariants.{Made, Signal}
use Rattle.ml_spec.proofs.WordSteps.{IsReadUpTo}
use Rattle.ml_spec.proofs.words.add_signals.Given as goal
use Rattle.ml_written.specs.Propositions.{is_proposition}

abbrev pub invariant-loop-alloc : goal.invariant-loop-alloc
invariant-loop-alloc l =
    IsReadUpTo (is_proposition l.logic) (with_all l.fn.declared.entries Signal) (λ es p. lookup (bytes_eq p) es ≡ Some Made)
    (item_text l.item) l.behind_kind l.rest l.declared.entries

abbrev pub decreases-loop-alloc : goal.decreases-loop-alloc
decreases-loop-alloc l = length l.rest
