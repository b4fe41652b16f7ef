use Rattle.std.proofs.Common.{ℕ, ◌≡◌, ◌<◌, ◌≤◌, ◌⊎◌, inl, inr, List, Some, None, length, get_or, sym, ap, subst, ◌∙◌, arith}
use Rattle.ml_sequent.specs.declared.choice.Side.{Side}
use Rattle.ml_sequent.specs.Choice.{IsChoice, side_of}
use Rattle.ml_sequent.specs.private.Trails.{without}
use Rattle.ml_sequent.proofs.ChoicesWithout.{remove_is, without_past, without_is_choice, side_without}
use Rattle.ml_sequent.proofs.choice.Choice.leave.Goals as goal

pub invariant_of-self : goal.invariant_of-self
invariant_of-self c =
    subst IsChoice (sym (c.remove-node.ensures.items ∙ remove_is c.args.place c.self.inside.pairs.items))
    (without_is_choice c.args.place c.self.inside.pairs.items c.self.invariant)

pub returns-then-place-len-clause-left : goal.returns-then-place-len-clause-left
returns-then-place-len-clause-left c =
    c.remove-node.ensures.items ∙ remove_is c.args.place c.self.inside.pairs.items ∙ ap (without c.args.place)
    c.self.view_is

pub returns-then-place-len-clause-others : goal.returns-then-place-len-clause-others
returns-then-place-len-clause-others c = λ n none.
    let pairs = c.self.inside.pairs.items in
    let low : c.args.place < length pairs = omega arith in
    let here = subst (λ (xs : List (ℕ × Side)). side_of xs n ≡ None)
    (c.remove-node.ensures.items ∙ remove_is c.args.place pairs) none in
    by_kind n c.remove-node.ensures.value (side_without c.args.place pairs c.remove-node.result n low here)
  where
    by_kind : (n : ℕ) → c.remove-node.result ≡ get_or c.self.inside.pairs.items c.args.place c.remove-node.result
        → (side_of c.self.inside.pairs.items n ≡ None) ⊎ ((get_or c.self.inside.pairs.items c.args.place
        c.remove-node.result).0 ≡ n)
        → (side_of c.args.self.now n ≡ None) ⊎ (Some c.remove-node.result.0 ≡ Some n)
    by_kind n read (inl before) = inl (subst (λ (xs : List (ℕ × Side)). side_of xs n ≡ None) c.self.view_is before)
    by_kind n read (inr is) = inr (ap (λ (p : ℕ × Side). Some p.0) read ∙ ap Some is)

pub returns-else-place-len-clause-left : goal.returns-else-place-len-clause-left
returns-else-place-len-clause-left c =
    let past : length c.self.inside.pairs.items ≤ c.args.place = omega arith in
    sym (ap (without c.args.place) (sym c.self.view_is) ∙ without_past c.args.place c.self.inside.pairs.items past ∙ c.self.view_is)
