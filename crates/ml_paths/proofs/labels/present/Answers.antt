use Rattle.std.proofs.Common.{◌≡◌, ◌∙◌, ◌↔◌, ◌⊎◌, [], ap, get_or, subst, IsTrue}
use Rattle.std.proofs.lemmas.List.{get_or_default}
use Rattle.ml_graph.specs.Graph.{prop_at}
use Rattle.ml_lists.specs.Member.{IsMember}
use Rattle.ml_word_automaton.specs.Words.{has}
use Rattle.ml_paths.specs.Paths.{labels_at}
use Rattle.ml_lists.proofs.PassingBelow.{one_more}
use Rattle.ml_paths.proofs.labels.present.Goals as goal

pub loop-prop-preserved : goal.loop-prop-preserved
loop-prop-preserved c =
    let letter = labels_at c.args.structure.now c.args.state in
    let n = c.loop-prop.prop in
    let names = c.props-name-items in
    let here : c.name-item.result ≡ prop_at c.args.graph.now n =
    c.name-item.is
    ∙ get_or_default names.result.now n c.name-item.result [] c.loop-prop-test.true
    ∙ ap (λ props. get_or props n []) names.ensures.value in
    one_more (λ p. has letter (prop_at c.args.graph.now p)) n c.loop-prop.set c.add_if.new.set c.has_label.result
    c.loop-prop.invariant (c.has_label.ensures ∙ ap (has letter) here)
    (λ p.
    subst (λ k. IsMember p c.add_if.new.set ↔ (IsMember p c.loop-prop.set ⊎ ((p ≡ k) × IsTrue c.has_label.result)))
    c.in-Ok.ensures.1 (c.in_ok-add_if.ensures p))
