use Rattle.std.proofs.Common.{◌≡◌, ◌+◌, length, ap, arith}
use Rattle.std.proofs.lemmas.Bool.Decides.{nat_tests}
use Rattle.ml_kripke.proofs.BodyFaults.{nothing_behind}
use Rattle.ml_kripke.proofs.read.ended.Goals as goal

pub returns-else-is_empty-clause-refused : goal.returns-else-is_empty-clause-refused
returns-else-is_empty-clause-refused c =
    let some : length c.args.rest.now ≡ 0 → ⊥ = grind (arith, nat_tests) in
    nothing_behind (c.args.line + 1) c.args.rest.now c.fault.result (λ none. some (ap length none)) c.fault.ensures
