use Rattle.std.proofs.Common.{◌≡◌, ◌<◌, ◌∙◌, false, length, arith, refl, subst, sym}
use Rattle.std.proofs.lemmas.List.{get_or_read_under}
use Rattle.ml_word_graph.proofs.Values.{truth}
use Rattle.ml_word_check.specs.private.Truths.{AreTruths}
use Rattle.ml_word_check.specs.private.Walked.{lasso_from}
use Rattle.ml_word_check.proofs.FoundAtStates.{found_at}
use Rattle.ml_word_check.proofs.Walked.{is_word}
use Rattle.ml_word_check.proofs.holding.holds_along.Goals as goal

pub returns : goal.returns
returns c =
    let m = c.args.structure.now in
    let f = c.args.formula.now in
    let xs = c.in_ok-word.word.states.items in
    let start = c.in_ok-word.word.start in
    let l = lasso_from xs start in
    let fs = c.in_ok-truths.truths.items in
    let word = c.in_ok-word.ensures in
    let are = subst (λ g. AreTruths m l g fs) c.root.ensures.tree c.in_ok-truths.ensures in
    let some : 0 < length xs = omega (arith, word.start_inside) in
    let read : c.index.result.now ≡ truth m l f 0 =
    get_or_read_under fs 0 (length fs) c.index.result.now false c.index.ensures (omega (arith, some, are.each_place)) refl
    ∙ are.are 0 some in
    found_at f c.root.ensures.well_formed.is_of_logic m c.requires.admitted c.args.state c.requires.state l
    (is_word m c.args.next.now c.args.state xs start c.requires.leads word) c.args.negated c.index.result.now (sym read)
