use Rattle.std.proofs.Common.{length, ap, arith, ◌≡◌}
use Rattle.std.proofs.lemmas.Bool.Decides.{nat_tests}
use Rattle.ml_realize_text.proofs.Ends.{something_left}
use Rattle.ml_realize_text.proofs.rest.ended.Goals as goal

pub returns-else-is_empty-clause-refused : goal.returns-else-is_empty-clause-refused
returns-else-is_empty-clause-refused c =
    let some : length c.args.rest.text.now ≡ 0 → ⊥ = grind (arith, nat_tests) in
    something_left c.args.rest c.fault.result (λ none. some (ap length none)) c.fault.ensures
