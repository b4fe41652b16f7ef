use Rattle.std.proofs.Common.{IfOk, sym, subst}
use Rattle.ml_text.specs.declared.token.Operator.TheVariants.{And}
use Rattle.ml_ctl.specs.Enumerations.{first_half, none, one, second_half}
use Rattle.ml_ctl.specs.Formula.{Binary}
use Rattle.ml_ctl.specs.private.HeldAs.{IsHeldAs}
use Rattle.ml_ctl.proofs.Halves.{one_of_more}
use Rattle.ml_ctl.proofs.enumerating.+one.Goals as goal

pub returns-in_ok-in_second-in_default : goal.returns-in_ok-in_second-in_default
returns-in_ok-in_second-in_default g t c =
    let ps = c.args.names.now in
    let A = first_half ps in
    let B = second_half ps in
    let one_first =
    subst (λ qs. IsHeldAs (one qs) c.in_ok-one-in_default.field-0) c.halves.ensures.first c.in_ok-one-in_default.ensures in
    let none_second =
    subst (λ qs. IsHeldAs (none qs) c.in_ok-none-in_default.field-0) c.halves.ensures.second
    c.in_ok-none-in_default.ensures in
    let none_first =
    subst (λ qs. IsHeldAs (none qs) c.in_ok-none-in_default-2.field-0) c.halves.ensures.first
    c.in_ok-none-in_default-2.ensures in
    let one_second =
    subst (λ qs. IsHeldAs (one qs) c.in_ok-one-in_default-2.field-0) c.halves.ensures.second
    c.in_ok-one-in_default-2.ensures in
    let in_first = c.in_ok-in_first-in_default.ensures (one A) (none B) one_first none_second in
    let in_second = c.in_ok-in_second-in_default.ensures (none A) (one B) none_first one_second in
    subst (λ f. IfOk c.between-in_default-2.result (IsHeldAs f)) (sym (one_of_more ps c.in_default.len_at_least))
    (c.between-in_default-2.ensures (Binary And (one A) (none B)) (Binary And (none A) (one B)) in_first in_second)
