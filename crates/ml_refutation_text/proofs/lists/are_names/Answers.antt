use Rattle.std.proofs.Common.{refl, sym, ◌∙◌}
use Rattle.ml_refutation_text.proofs.AscendingTests.{below_is, below_not}
use Rattle.ml_refutation_text.proofs.lists.are_names.Goals as goal

pub returns-then-ascends-clause-yes : goal.returns-then-ascends-clause-yes
returns-then-ascends-clause-yes c = λ yes.
    (c.if-ascends.ensures.yes refl, below_is c.args.bound c.args.ns.now (sym c.all_below.ensures ∙ yes))

pub returns-then-ascends-clause-otherwise : goal.returns-then-ascends-clause-otherwise
returns-then-ascends-clause-otherwise c = λ not names. below_not c.args.bound c.args.ns.now (sym c.all_below.ensures ∙ not) names.1

pub returns-else-ascends-clause-otherwise : goal.returns-else-ascends-clause-otherwise
returns-else-ascends-clause-otherwise c = λ not names. c.ascends.ensures.otherwise c.if-ascends.false names.0
