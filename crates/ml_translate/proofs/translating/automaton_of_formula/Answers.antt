use Rattle.std.proofs.Common.{false, sym, subst}
use Rattle.ml_translate.proofs.CubeWalks.{KnowsLiterals}
use Rattle.ml_translate.proofs.KnownLiterals.{known_literals}
use Rattle.ml_translate.proofs.Translated.{made_translated}
use Rattle.ml_translate.proofs.translating.automaton_of_formula.Goals as goal

pub returns-clause-translated : goal.returns-clause-translated
returns-clause-translated c =
    let f = c.args.formula.now in
    let a = c.in_ok-automaton.automaton in
    let props = c.in_ok-propositions.propositions.names.items in
    let names = c.in_ok-propositions.ensures.names in
    let linear = c.in_ok-propositions.ensures.linear in
    let is = c.in_ok-automaton.ensures.automaton in
    made_translated f a props c.in_ok-made.made c.in_ok-reduced_beside.field-0 c.args.limit linear
    (record { is_of = is; fits = c.in_ok-automaton.ensures.fits })
    names
    c.in_ok-made.ensures.made
    (subst (KnowsLiterals a.graph) (sym names) (known_literals f false a.graph linear is.is_graph))
    c.in_ok-reduced_beside.ensures.labelled
    c.in_ok-reduced_beside.ensures.same
    c.in_ok-reduced_beside.ensures.props
    c.in_ok-reduced_beside.ensures.reached
    c.in_ok-reduced_beside.ensures.few
