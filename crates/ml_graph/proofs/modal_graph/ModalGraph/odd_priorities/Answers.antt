use Rattle.std.proofs.Common.{rules, ◌≡◌, ◌%◌, ◌==◌, ◌∙◌, ap, filter}
use Rattle.std.proofs.lemmas.List.Filters.{dedup_is}
use Rattle.ml_lists.specs.Ascending.{ascending}
use Rattle.ml_lists.proofs.Sorted.{sorted_once}
use Rattle.ml_graph.proofs.modal_graph.ModalGraph.odd_priorities.Goals as goal

pub returns : goal.returns
returns c =
    let odds : c.in_ok-odds.odds.items ≡ filter (λ d. d % 2 == 1) c.args.self.now.priorities =
    search (rules, c.in_ok-odds.ensures.runs) in
    dedup_is _ _ _ c.dedup.ensures.filtered
    ∙ sorted_once c.in_ok-odds.odds.items c.sort_unstable.new.self.items c.sort_unstable.ensures.permutation
    c.sort_unstable.ensures.sorted
    ∙ ap ascending odds
