use Rattle.std.proofs.Common.{ap, ◌∙◌, arith}
use Rattle.std.proofs.lemmas.List.Sorted.{IsPermutation-sym}
use Rattle.std.proofs.lemmas.List.{take_all}
use Rattle.ml_lists.specs.Ascending.{ascending}
use Rattle.ml_history.proofs.trees.FlagsOfNames.{set_next, set_sorted}
use Rattle.ml_lists.proofs.Permuted.{permuted-member}
use Rattle.ml_history.proofs.tree.renewal.set_of.Goals as goal

pub loop-state-preserved : goal.loop-state-preserved
loop-state-preserved c =
    set_next c.as_slice-state-items.result.now c.loop-state.set c.insert.new.self c.loop-state.state-index
    c.loop-state-test.true c.loop-state.invariant c.in_ok-insert.ensures.after

pub returns : goal.returns
returns c =
    let before = c.in_ok-sorted.sorted.items in
    let after = c.sort.new.self.items in
    let moved = c.in_ok-sort.ensures.permutation in
    c.loop-state.invariant
    ∙ ap ascending (take_all c.loop-state.state-index c.as_slice-state-items.result.now
    (omega (arith, c.loop-state-test.false, c.loop-state.auto.state-index-end)))
    ∙ ap ascending c.as_slice-state-items.ensures.value
    ∙ set_sorted after before (λ x m. permuted-member x after before (IsPermutation-sym before after moved) m)
    (λ x m. permuted-member x before after moved m)
    ∙ ap ascending c.in_ok-sorted.ensures.items
