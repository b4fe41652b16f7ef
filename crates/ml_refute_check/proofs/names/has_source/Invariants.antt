use Rattle.ml_refute_check.specs.private.Sources.{SourceAmong}
use Rattle.ml_refute_check.proofs.Sources.{NoneBefore}
use Rattle.ml_refute_check.proofs.names.has_source.Given as goal

abbrev pub invariant-loop-trace : goal.invariant-loop-trace
invariant-loop-trace l =
    NoneBefore (λ trace. SourceAmong l.stacks l.odds trace l.name l.progress l.items l.behind) l.traces l.trace-index
