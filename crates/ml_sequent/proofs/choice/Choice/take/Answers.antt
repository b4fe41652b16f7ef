use Rattle.std.proofs.Common.{ℕ, ◌≡◌, ◌≤◌, List, ◌∷◌, ◌++◌, take, drop, length, None, sym, ap, subst, ◌∙◌, arith}
use Rattle.ml_sequent.specs.declared.choice.Side.{Side}
use Rattle.ml_sequent.specs.Choice.{IsChoice, side_of, with_side}
use Rattle.ml_sequent.specs.private.Trails.{without}
use Rattle.ml_sequent.proofs.Choices.{with_is_choice}
use Rattle.ml_sequent.proofs.ChoicesWithout.{without_inserted}
use Rattle.ml_sequent.proofs.choice.Choice.take.Goals as goal

pub invariant_of-self-2 : goal.invariant_of-self-2
invariant_of-self-2 c =
    let pairs = c.self.inside.pairs.items in
    let p = c.place_behind-place.result in
    let split = subst (λ (xs : List (ℕ × Side)). with_side xs c.args.node c.args.side ≡ take p xs ++ (c.args.node, c.args.side) ∷ drop p xs)
    c.deref.ensures.value (c.place_behind-place.ensures.split c.args.side) in
    let none = subst (λ (xs : List (ℕ × Side)). side_of xs c.args.node ≡ None) (sym c.self.view_is) c.requires in
    subst IsChoice (sym (c.in_ok-insert.ensures.items ∙ sym split)) (with_is_choice pairs c.args.node c.args.side c.self.invariant none)

pub returns-clause-place : goal.returns-clause-place
returns-clause-place c =
    let pairs = c.self.inside.pairs.items in
    let p = c.place_behind-place.result in
    let low : p ≤ length pairs = omega (arith, c.place_behind-place.ensures.within, ap length c.deref.ensures.value) in
    ap (without p) c.in_ok-insert.ensures.items ∙ without_inserted p (c.args.node, c.args.side) pairs low ∙ c.self.view_is
