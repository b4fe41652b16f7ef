use Rattle.std.proofs.Common.{sym, subst, ◌∙◌}
use Rattle.ml_lists.specs.Ascending.{IsAscending}
use Rattle.ml_refutation_text.proofs.AscendingTests.{ascends_is, ascends_not}
use Rattle.ml_refutation_text.proofs.lists.ascends.Goals as goal

pub returns-in-Some : goal.returns-in-Some
returns-in-Some c =
    let is = c.in-Some.ensures.cases.0 in
    record {
      yes = λ yes. subst IsAscending (sym is) (ascends_is c.in-Some.first.now c.in-Some.others.now (sym c.ascends_from.ensures ∙ yes));
      otherwise = λ not ascends.
          ascends_not c.in-Some.first.now c.in-Some.others.now (sym c.ascends_from.ensures ∙ not) (subst IsAscending is ascends);
    }
