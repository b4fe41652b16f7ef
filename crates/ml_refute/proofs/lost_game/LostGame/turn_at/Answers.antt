use Rattle.std.proofs.Common.{ℕ, ◌∙◌, ◌≡◌, Option, None, sym, subst, MatchOption}
use Rattle.ml_graph.specs.Graph.{Graph}
use Rattle.ml_sequent.specs.declared.clashes.ClashCause.{ClashCause}
use Rattle.ml_sequent.specs.Branch.{BranchList}
use Rattle.ml_sequent.specs.Spread.{IsSpread, IsCause, IsOpenOr}
use Rattle.ml_sequent.specs.FirstCause.{IsFirstCause}
use Rattle.ml_product.specs.DecisionGame.{IsResolved}
use Rattle.ml_refute.specs.private.Found.{LeavesTo}
use Rattle.ml_refute.proofs.Leaving.{resolved_by}
use Rattle.ml_refute.proofs.lost_game.LostGame.turn_at.Goals as goal

pub clash-requires : goal.clash-requires
clash-requires c = subst (λ g. IsSpread g c.args.branch.now.spread) (sym c.requires.graph) c.requires.spread.is

-- what was asked of the branch
resolved : (g : Graph) (before after : BranchList) (cause : Option ClashCause)
    → before.graph ≡ g
    → after ≡ before
    → cause ≡ None
    → MatchOption cause ((x : ClashCause) → IsCause before.graph before.spread x → ⊥)
    (IsFirstCause before.graph before.spread)
    → ((n : ℕ) → IsOpenOr after.graph after.spread n → ⊥)
    → IsResolved g before.spread
resolved g before after cause graph same none calm shut =
    let first = subst (λ o. MatchOption o ((x : ClashCause) → IsCause before.graph before.spread x → ⊥)
    (IsFirstCause before.graph before.spread)) none calm in
    let second = subst (λ (b : BranchList). (n : ℕ) → IsOpenOr b.graph b.spread n → ⊥) same shut in
    resolved_by g before.graph before.graph before.spread graph graph first second

pub diamond_of-requires-clause-resolved : goal.diamond_of-requires-clause-resolved
diamond_of-requires-clause-resolved c =
    subst (λ (b : BranchList). IsResolved c.args.self.now.graph.now b.spread)
    (sym (c.in-None-open_or.ensures.same ∙ c.in_ok-cause.ensures.same))
    (resolved c.args.self.now.graph.now c.args.branch.now c.clash.new.self c.in_ok-cause.field-0 c.requires.graph
    c.in_ok-cause.ensures.same c.in-None.is c.in_ok-cause.ensures.cause c.in-None-open_or.ensures.least)

pub returns-in_ok-diamond_of-in-None-open_or-clause-turn :
    goal.returns-in_ok-diamond_of-in-None-open_or-clause-turn
returns-in_ok-diamond_of-in-None-open_or-clause-turn c =
    record {
      spread = c.args.branch.now.spread;
      is_spread = c.requires.spread.of;
      holds = (
        resolved c.args.self.now.graph.now c.args.branch.now c.clash.new.self c.in_ok-cause.field-0 c.requires.graph
            c.in_ok-cause.ensures.same c.in-None.is c.in_ok-cause.ensures.cause c.in-None-open_or.ensures.least,
        subst (λ (b : BranchList). LeavesTo c.args.self.now.graph.now c.args.self.now.arena.now
            c.args.self.now.solution.now
            c.args.v b.spread c.in_ok-diamond_of-in-None-open_or.field-0)
            (c.in-None-open_or.ensures.same ∙ c.in_ok-cause.ensures.same) c.in_ok-diamond_of-in-None-open_or.ensures,
      );
    }
