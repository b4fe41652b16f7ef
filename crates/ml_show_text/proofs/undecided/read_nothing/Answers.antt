use Rattle.std.proofs.Common.{◌≡◌, length, ap, arith}
use Rattle.std.proofs.lemmas.Bool.Decides.{nat_tests}
use Rattle.ml_show_text.proofs.CauseBodies.{something_left}
use Rattle.ml_show_text.proofs.undecided.read_nothing.Goals as goal

pub returns-else-is_empty-clause-refused : goal.returns-else-is_empty-clause-refused
returns-else-is_empty-clause-refused c =
    let some : length c.args.text.now ≡ 0 → ⊥ = grind (arith, nat_tests) in
    something_left 8 c.args.text.now c.fault.result (λ none. some (ap length none)) c.fault.ensures.line c.fault.ensures.rule
