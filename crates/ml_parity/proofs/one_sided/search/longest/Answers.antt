-- Where no arc raises a number, the numbers are the largest.
use Rattle.std.proofs.Common.{sym, subst, ◌∙◌}
use Rattle.ml_parity.specs.private.HeightSteps.{IsColumn}
use Rattle.ml_parity.proofs.HeightRaises.{column_of, written}
use Rattle.ml_parity.proofs.one_sided.search.longest.Goals as goal

pub returns-in-Stays : goal.returns-in-Stays
returns-in-Stays c =
    let long = c.loop-numbers.numbers.ok.0 ∙ c.loop-numbers.invariant.size ∙ sym c.in-Stays.ensures.attained.size in
    subst (IsColumn c.args.graph.now c.args.priority)
    (sym (written c.loop-numbers.numbers.len c.raise_all.new.numbers _ long))
    (column_of c.args.graph.now c.args.priority c.raise_all.new.numbers c.in-Stays.ensures.attained
    (λ k d low. c.in-Stays.ensures.pass.1 k d low))
