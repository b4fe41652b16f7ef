use Rattle.std.proofs.Common.{ℕ, ◌≡◌, [], ◌++◌, map, rules, ap, ◌∙◌}
use Rattle.std.specs.Prelude.{Vec}
use Rattle.std.specs.declared.alloc.Global.{Global}
use Rattle.std.proofs.lemmas.List.Sorted.{IsNonDecreasingBy-from_sort_by_key}
use Rattle.ml_history.specs.private.Forest.{places}
use Rattle.ml_history.specs.Stacks.{stacked}
use Rattle.ml_history.specs.private.TreeWalks.{behind}
use Rattle.ml_history.specs.private.Vertices.{joined}
use Rattle.ml_history.proofs.trees.SmallTrees.{sorted_items, behind_nothing}
use Rattle.ml_history.proofs.tree.TreeHistory.stacks.Goals as goal

pub returns : goal.returns
returns c =
    let f = joined c.self.inside.roots.items in
    let listed : map stacked c.push_places.new.stacks.items ≡ places f =
    c.in_ok-push_places.ensures ∙ ap (λ l. map stacked l ++ map (behind []) (places (joined c.as_slice.result.now)))
    c.new-stacks.ensures.items ∙ behind_nothing (places (joined c.as_slice.result.now))
    ∙ ap (λ vs. places (joined vs)) c.as_slice.ensures.value
    in
    sorted_items c.push_places.new.stacks.items c.sort_by_key.new.self.items f c.self.invariant.proper listed
    c.in_ok-sort_by_key.ensures.permutation
    (IsNonDecreasingBy-from_sort_by_key (λ (a : ℕ × Vec ℕ Global). a.0) _ c.in_ok-sort_by_key.ensures.sorted
    (λ a r q k. search rules))
    ∙ c.self.view_is
