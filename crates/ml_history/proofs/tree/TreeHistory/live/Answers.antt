use Rattle.std.proofs.Common.{◌≡◌, ◌≤◌, ◌^◌, arith, sym, ap, ◌∙◌, subst}
use Rattle.ml_history.specs.private.Forest.{names}
use Rattle.ml_history.specs.History.{IsHistory}
use Rattle.ml_history.specs.HistoryStep.{above, live}
use Rattle.ml_history.specs.private.Vertices.{joined}
use Rattle.ml_history.proofs.trees.SmallTrees.{live-above, names_small}
use Rattle.ml_history.proofs.trees.ProperTrees.{proper_is_history}
use Rattle.ml_history.proofs.tree.TreeHistory.live.Goals as goal

pub overflow_cast-result : goal.overflow_cast-result
overflow_cast-result c =
    let small : above (names (joined c.self.inside.roots.items)) ≤ 2 ^ 30 =
    names_small (joined c.self.inside.roots.items) c.self.invariant in
    let is : c.above.result ≡ above (names (joined c.self.inside.roots.items)) = c.above.ensures
    ∙ ap (λ vs. above (names (joined vs))) c.as_slice.ensures.value in
    omega arith

pub returns-clause-value : goal.returns-clause-value
returns-clause-value c =
    c.above.ensures ∙ ap (λ vs. above (names (joined vs))) c.as_slice.ensures.value
    ∙ sym (live-above (joined c.self.inside.roots.items) c.self.invariant.proper) ∙ ap live c.self.view_is

pub returns-clause-history : goal.returns-clause-history
returns-clause-history c = subst IsHistory c.self.view_is
    (proper_is_history (joined c.self.inside.roots.items) c.self.invariant.proper)
