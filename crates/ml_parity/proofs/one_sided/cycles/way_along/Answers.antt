-- The step leads on, to the goal or to where an earlier step begins.
use Rattle.std.proofs.Common.{arith, ◌-◌, sym, subst, get_or, All, Contains}
use Rattle.std.proofs.lemmas.List.{get_or_default}
use Rattle.std.proofs.lemmas.List.Elements.{All-push}
use Rattle.ml_parity.specs.declared.one_sided.graph.Arc.{Arc}
use Rattle.ml_parity.specs.private.HeightSteps.{Chain}
use Rattle.ml_parity.proofs.HeightSearches.{chain_push}
use Rattle.ml_parity.proofs.one_sided.cycles.way_along.Goals as goal

pub loop-rest-preserved-then-step-at : goal.loop-rest-preserved-then-step-at
loop-rest-preserved-then-step-at c =
    let d : Arc = record { from = 0; priority = 0; to = 0 } in
    let a : Arc = get_or c.args.steps.now (c.loop-rest.rest - 1) d in
    record {
      low = omega (arith, c.loop-rest.invariant.low);
      chain = subst (λ xs. Chain c.args.start xs a.to) (sym c.in_ok-push.ensures.items)
          (chain_push c.args.start c.loop-rest.at c.loop-rest.way.items a c.loop-rest.invariant.chain
          c.if-step-at.true);
      among = subst (All (Contains c.args.steps.now)) (sym c.in_ok-push.ensures.items)
          (All-push (Contains c.args.steps.now) c.loop-rest.way.items a c.loop-rest.invariant.among (
            c.loop-rest.rest - 1,
            omega (arith, c.loop-rest.invariant.low, c.loop-rest-test.true),
            get_or_default c.args.steps.now (c.loop-rest.rest - 1) a d
                (omega (arith, c.loop-rest.invariant.low, c.loop-rest-test.true)),
          ));
      comes = c.requires.back (c.loop-rest.rest - 1) d
          (omega (arith, c.loop-rest.invariant.low, c.loop-rest-test.true));
    }
