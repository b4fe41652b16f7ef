-- The branch has the spread of the position; where it clashes, there is a cause.
use Rattle.std.proofs.Common.{ℕ, ◌≡◌, Bool, true, false, refl, sym, ◌∙◌, subst}
use Rattle.ml_graph.specs.Graph.{Graph}
use Rattle.ml_sequent.specs.declared.clashes.ClashCause.{ClashCause}
use Rattle.ml_sequent.specs.Branch.{BranchList}
use Rattle.ml_sequent.specs.Spread.{SpreadList, IsSpread, IsCause, IsOpenOr, IsLeastOpenOr}
use Rattle.ml_product.specs.DecisionGame.{IsResolved}
use Rattle.ml_product.proofs.Turning.{spread_of, clashed}
use Rattle.ml_product.proofs.turns.take_turn.Goals as goal

pub is_clashing-requires : goal.is_clashing-requires
is_clashing-requires c =
    spread_of c.args.branch.now.graph c.args.limit c.args.pool.now c.args.v c.args.branch.now.spread c.requires.at

pub returns-then-branch-clause-turned : goal.returns-then-branch-clause-turned
returns-then-branch-clause-turned c =
    let found = c.in_ok-is_clashing.ensures.yes c.if-branch.true in
    clashed c.args.branch.now.graph c.args.limit c.args.pool.now c.args.v c.args.branch.now.spread c.requires.at
    found.0 found.1

pub open_or-requires : goal.open_or-requires
open_or-requires c =
    subst (λ (b : BranchList). IsSpread b.graph b.spread) (sym c.in_ok-is_clashing.ensures.same)
    (spread_of c.args.branch.now.graph c.args.limit c.args.pool.now c.args.v c.args.branch.now.spread c.requires.at)

-- what doesn't clash has no cause
calm : (g : Graph) (sp : SpreadList) (clashes : Bool) → ((x : ClashCause) → IsCause g sp x → clashes ≡ true)
    → clashes ≡ false
    → (x : ClashCause) → IsCause g sp x → ⊥
calm g sp clashes found none x is = let yes = found x is in absurd (cc)

pub go_on-requires-clause-resolved : goal.go_on-requires-clause-resolved
go_on-requires-clause-resolved c =
    let before = sym (c.in-None.ensures.same ∙ c.in_ok-is_clashing.ensures.same) in
    let none = subst (λ (b : BranchList). (n : ℕ) → IsOpenOr b.graph b.spread n → ⊥)
    c.in_ok-is_clashing.ensures.same c.in-None.ensures.least in
    subst (λ (b : BranchList). IsResolved b.graph b.spread) before (record {
      no_clash = calm c.args.branch.now.graph c.args.branch.now.spread c.in_ok-is_clashing.field-0
          c.in_ok-is_clashing.ensures.no c.if-branch.false;
      none_open = none;
    })

pub returns-in-Some-clause-turned : goal.returns-in-Some-clause-turned
returns-in-Some-clause-turned c = (
  record {
    no_clash = calm c.args.branch.now.graph c.args.branch.now.spread c.in_ok-is_clashing.field-0
        c.in_ok-is_clashing.ensures.no c.if-branch.false;
    least = subst (λ (b : BranchList). IsLeastOpenOr b.graph b.spread c.in-Some.node)
        c.in_ok-is_clashing.ensures.same c.in-Some.ensures.least;
  },
  refl,
)
