use Rattle.std.proofs.Common.{◌≡◌, ◌<◌, ◌^◌, [], length, sym, ap, ◌∙◌, subst}
use Rattle.std.proofs.lemmas.Result.{IfOk-weaker}
use Rattle.ml_lists.specs.Added.{HasOnePlace}
use Rattle.ml_nodes.specs.PathNames.{props_onto}
use Rattle.ml_translate.proofs.PropositionNumbers.{props_few, props_once}
use Rattle.ml_translate.proofs.propositions.Propositions.of.Goals as goal
use Rattle.ml_translate.specs.declared.propositions.Propositions.{Propositions}

pub of_names-requires-clause-few : goal.of_names-requires-clause-few
of_names-requires-clause-few c =
    let are = c.in_ok-names.ensures.props ∙ ap (λ f. props_onto f []) c.root.ensures.tree in
    subst (λ ps. length ps < 2 ^ 32) (sym are) (props_few c.args.formula.now c.root.ensures.well_formed.is_small)

pub of_names-requires-clause-once : goal.of_names-requires-clause-once
of_names-requires-clause-once c =
    let are = c.in_ok-names.ensures.props ∙ ap (λ f. props_onto f []) c.root.ensures.tree in
    subst (λ ps. HasOnePlace ps) (sym are) (props_once c.args.formula.now)

pub returns-clause-few : goal.returns-clause-few
returns-clause-few c =
    let are = c.in_ok-names.ensures.props ∙ ap (λ f. props_onto f []) c.root.ensures.tree in
    IfOk-weaker c.of_names.result (λ (p : Propositions). p.names.items ≡ c.in_ok-names.names.props.keys)
    (λ (p : Propositions). length p.names.items < 2 ^ 32)
    (λ p names.
    subst (λ ps. length ps < 2 ^ 32) (sym (names ∙ are)) (props_few c.args.formula.now c.root.ensures.well_formed.is_small))
    c.of_names.ensures.names
