use Rattle.std.proofs.Common.{IfOk, sym, subst}
use Rattle.ml_ctl.specs.Enumerations.{first_half, none, second_half}
use Rattle.ml_ctl.specs.private.HeldAs.{IsHeldAs}
use Rattle.ml_ctl.proofs.Halves.{none_of_more}
use Rattle.ml_ctl.proofs.enumerating.+none.Goals as goal

pub returns-in_ok-second-in_default : goal.returns-in_ok-second-in_default
returns-in_ok-second-in_default g t c =
    let ps = c.args.names.now in
    let in_first =
    subst (λ qs. IsHeldAs (none qs) c.in_ok-first-in_default.first) c.halves.ensures.first c.in_ok-first-in_default.ensures in
    let in_second =
    subst (λ qs. IsHeldAs (none qs) c.in_ok-second-in_default.second) c.halves.ensures.second
    c.in_ok-second-in_default.ensures in
    subst (λ f. IfOk c.between.result (IsHeldAs f)) (sym (none_of_more ps c.in_default.len_at_least))
    (c.between.ensures (none (first_half ps)) (none (second_half ps)) in_first in_second)
