use Rattle.ml_lists.specs.InTurn.{RunsOn}
use Rattle.ml_bisim.specs.declared.numbering.Numbering.{Numbering}
use Rattle.ml_bisim.specs.private.Numbers.{AreNumbers}
use Rattle.ml_bisim.specs.private.Rounds.{IsPartition}
use Rattle.ml_bisim.proofs.Labels.{labelled, row_eq}
use Rattle.ml_bisim.proofs.Passed.{ok_then}
use Rattle.ml_bisim.proofs.partition.by_labels.Goals as goal

pub returns-clause-part : goal.returns-clause-part
returns-clause-part c =
    let m = c.args.structure.now in
    let rows = c.in_ok-rows.rows.items in
    ok_then (λ (n : Numbering). AreNumbers row_eq rows n.numbers.items n.count)
    (λ (n : Numbering). IsPartition m n.numbers.items)
    (λ (n : Numbering) are. labelled m c.keeps.ensures.is_structure c.keeps.ensures.is_ordered rows
    c.in_ok-rows.ensures n.numbers.items n.count are) c.numbered.result c.numbered.ensures

pub returns-clause-in_turn : goal.returns-clause-in_turn
returns-clause-in_turn c =
    let rows = c.in_ok-rows.rows.items in
    ok_then (λ (n : Numbering). AreNumbers row_eq rows n.numbers.items n.count)
    (λ (n : Numbering). RunsOn 0 n.numbers.items n.count) (λ (n : Numbering) are. are.in_turn) c.numbered.result
    c.numbered.ensures
