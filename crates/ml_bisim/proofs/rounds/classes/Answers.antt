use Rattle.std.proofs.Common.{ℕ, ◌≡◌, ◌==◌, ◌∙◌, true, false, List, [], ◌∷◌, Contains, ap, eq-eqb, length, nat_eq, refl, sym, subst, arith}
use Rattle.std.proofs.lemmas.Bool.{eqb-true, false≢true}
use Rattle.std.specs.Global.{Vec}
use Rattle.std.specs.Vec.{vec_len}
use Rattle.ml_bisim.specs.declared.numbering.Numbering.{Numbering}
use Rattle.ml_bisim.specs.Quotient.{AreClasses}
use Rattle.ml_bisim.specs.private.Numbers.{AreNumbers}
use Rattle.ml_bisim.proofs.Passed.{ok_then}
use Rattle.ml_bisim.proofs.Settling.{falls, nothing_left}
use Rattle.ml_bisim.proofs.Stable.{stable_is}
use Rattle.ml_bisim.proofs.rounds.classes.Goals as goal

some : (v : Vec ℕ) → v.items ≡ [] → false ≡ (vec_len v == 0) → ⊥
some v none is =
    let zero : length v.items ≡ 0 = ap length none in
    false≢true (is ∙ eq-eqb (vec_len v) 0 (omega (arith, zero, v.ok.0)))

none : (v : Vec ℕ) → true ≡ (vec_len v == 0) → v.items ≡ []
none v is =
    let zero = eqb-true (vec_len v) 0 (sym is) in nothing v.items (omega (arith, zero, v.ok.0))
  where
    nothing : (xs : List ℕ) → length xs ≡ 0 → xs ≡ []
    nothing [] e = refl
    nothing (x ∷ xs) e = absurd (omega (arith, e))

pub by_labels-requires-clause-all : goal.by_labels-requires-clause-all
by_labels-requires-clause-all c = λ s low.
    subst (λ xs. Contains xs s) (sym c.deref.ensures.value) (c.in_ok-unsettled.ensures.all s low)

pub rounds-smaller : goal.rounds-smaller
rounds-smaller c =
    falls c.args.structure.now.states c.rounds.partition.class.items c.refine.new.partition.class.items
    c.in_ok-unsettled-2.unsettled.items c.rounds.unsettled.items c.in_ok-unsettled-2.ensures.refined.part.each_state
    (λ none. some c.rounds.unsettled none c.rounds-test.ensures) c.in_ok-unsettled-2.ensures.grows

pub returns : goal.returns
returns c =
    let m = c.args.structure.now in
    let p = c.rounds.partition in
    ok_then (λ (n : Numbering). AreNumbers nat_eq p.class.items n.numbers.items n.count)
    (λ (n : Numbering). AreClasses m n.count n.numbers.items)
    (λ (n : Numbering) are. stable_is m c.keeps.ensures.is_structure p.class.items c.rounds.invariant.part
    (nothing_left m p c.rounds.unsettled.items c.rounds.invariant (none c.rounds.unsettled c.rounds-test.ensures))
    n.numbers.items n.count are)
    c.numbered.result c.numbered.ensures
