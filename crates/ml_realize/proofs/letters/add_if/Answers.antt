use Rattle.std.proofs.Common.{◌≡◌, ◌↔◌, ◌⊎◌, true, sym, subst}
use Rattle.ml_lists.specs.Member.{IsMember}
use Rattle.ml_lists.proofs.PassingBelow.{with_number}
use Rattle.ml_realize.proofs.letters.add_if.Goals as goal

pub returns-in_ok-insert : goal.returns-in_ok-insert
returns-in_ok-insert c = λ p.
    subst (λ b. IsMember p c.insert.new.self ↔ (IsMember p c.args.set.now ⊎ ((p ≡ c.args.prop) × (b ≡ true))))
    (sym c.if-is_true.true)
    (with_number c.args.set.now c.insert.new.self c.args.prop p c.in_ok-insert.ensures.after)
