use Rattle.std.proofs.Common.{ℕ, ◌≡◌, ◌⊎◌, get_or, subst, arith}
use Rattle.ml_bisim.specs.Quotient.{class_of}
use Rattle.ml_bisim.specs.private.Rounds.{KeepsFrom}
use Rattle.ml_bisim.proofs.KeptParts.{kept_all}
use Rattle.ml_bisim.proofs.naming.keep.Goals as goal

pub keep_larger-requires-clause-kept : goal.keep_larger-requires-clause-kept
keep_larger-requires-clause-kept c = λ i low.
    let class = c.args.class.now in
    let states = c.args.states.now in
    subst (λ ns. KeepsFrom class states ns c.keep_from.new.keeper 0 (class_of class (get_or states i 0)))
    c.deref.ensures.value
    (c.keep_from.ensures.kept i (omega arith) low)

pub returns-clause-kept : goal.returns-clause-kept
returns-clause-kept c =
    let class = c.args.class.now in
    let states = c.args.states.now in
    let new = c.keep_from-2.new.keeper in
    kept_all class states c.args.parts.now.numbers.items c.args.first c.keep_larger.new.keeper new
    c.in_ok-keep_larger.ensures.kept
    (λ i from low. subst (λ ns. KeepsFrom class states ns new c.args.first (class_of class (get_or states i 0)))
    c.deref-2.ensures.value (c.keep_from-2.ensures.kept i from low))
    (subst (λ ns. (d : ℕ) → (get_or new d 0 ≡ get_or c.keep_larger.new.keeper d 0) ⊎ KeepsFrom class states ns new
    c.args.first d)
    c.deref-2.ensures.value c.keep_from-2.ensures.others)
