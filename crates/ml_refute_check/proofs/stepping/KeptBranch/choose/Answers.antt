use Rattle.std.proofs.Common.{List, ℕ, sym, subst}
use Rattle.std.specs.Option.{IfSome}
use Rattle.ml_sequent.specs.Choice.{with_side}
use Rattle.ml_sequent.specs.Spread.{IsSpreadOf}
use Rattle.ml_refute_check.specs.private.Stepping.{KeptList, IsBegun}
use Rattle.ml_refute_check.proofs.BegunBranches.{if_begun, begun_longer}
use Rattle.ml_refute_check.proofs.stepping.KeptBranch.choose.Goals as goal

pub invariant_of-self-2 : goal.invariant_of-self-2
invariant_of-self-2 c =
    let sequents = c.self.inside.sequents.now in
    record {
      begun = if_begun c.take-place.result
          (λ place. begun_longer sequents place c.self.inside.branch c.choose.new.self c.args.node c.args.side
          c.in_ok-choose.ensures.graph c.in_ok-choose.ensures.sequent c.in_ok-choose.ensures.before
          c.in_ok-choose.ensures.of c.in_ok-choose.ensures.is_spread)
          (subst (λ place. IfSome place (IsBegun c.self.inside.branch sequents)) (sym c.take-place.ensures.value)
          c.self.invariant.begun);
      last = tt;
    }

pub returns-clause-of : goal.returns-clause-of
returns-clause-of c =
    subst (λ (b : KeptList). (C : List ℕ) → IsSpreadOf b.on.graph C b.on.spread.choice b.on.spread
    → IsSpreadOf b.on.graph C (with_side b.on.spread.choice c.args.node c.args.side) c.choose.new.self.spread)
    c.self.view_is c.in_ok-choose.ensures.of
