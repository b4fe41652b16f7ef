use Rattle.std.proofs.Common.{sym, ◌∙◌}
use Rattle.std.proofs.lemmas.Bool.{true≢false}
use Rattle.ml_refute_check.proofs.FoundByNode.{led_at, led_nowhere}
use Rattle.ml_refute_check.proofs.names.traces_into.Goals as goal

pub returns-then-has_number : goal.returns-then-has_number
returns-then-has_number c =
    led_at c.args.next.now c.args.traces.now c.traces_to.result.now c.args.node (c.has_number.ensures.0 c.if-has_number.true)
    c.traces_to.ensures

pub returns-else-has_number : goal.returns-else-has_number
returns-else-has_number c =
    led_nowhere c.args.next.now c.args.traces.now c.args.node
    (λ m. true≢false (sym (c.has_number.ensures.1 m) ∙ c.if-has_number.false))
