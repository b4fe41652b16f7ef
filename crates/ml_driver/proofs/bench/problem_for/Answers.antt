-- The text of a family for a number of its range is refused for want of memory alone.
use Rattle.std.proofs.Common.{◌∙◌}
use Rattle.ml_driver.proofs.FamilyProblems.{family_not_refused}
use Rattle.ml_driver.proofs.bench.problem_for.Goals as goal

pub want_of-requires : goal.want_of-requires
want_of-requires c =
    family_not_refused c.args.family c.args.n c.logic_for.result c.deref.result.now c.in-Err.refusal c.requires
    c.logic_for.ensures (c.deref.ensures.value ∙ c.in_ok-text.ensures) c.in-Err.ensures.refused
