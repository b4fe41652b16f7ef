use Rattle.std.proofs.Common.{◌<◌, ◌==◌, get_or, sym, ◌∙◌, subst, arith}
use Rattle.std.proofs.lemmas.Result.{on_ok_weaker}
use Rattle.ml_graph.specs.Graph.{size}
use Rattle.ml_graph.proofs.References.{diamond_target}
use Rattle.ml_labelled.specs.private.Views.{rows_of}
use Rattle.ml_translate.specs.private.Finding.{IsEdgePut}
use Rattle.ml_translate.proofs.EdgesMade.{put_diamond, put_true}
use Rattle.ml_translate.proofs.edges.put_edge.Goals as goal

pub bounds-numbers-to : goal.bounds-numbers-to
bounds-numbers-to c =
    let g = c.args.graph.now in
    let low : c.in-Diamond.to < size g =
    diamond_target g c.requires.graph c.args.place.node c.requires.node c.in-Diamond.action c.in-Diamond.to
    (sym c.node.ensures ∙ c.in-Diamond.is) in
    let long = c.requires.numbers in
    omega arith

pub returns-in-Diamond : goal.returns-in-Diamond
returns-in-Diamond c =
    let g = c.args.graph.now in
    let old = rows_of c.args.rows.now.items in
    let new = rows_of c.put.new.rows.items in
    on_ok_weaker c.put.result
    (λ put.
    put_diamond g c.args.numbers.now c.args.place old new c.in-Diamond.action c.in-Diamond.to
    (sym c.node.ensures ∙ c.in-Diamond.is)
    (subst (λ p. IsEdgePut c.args.place (get_or c.args.numbers.now c.in-Diamond.to 0) (p == 0) old new)
    c.priority-accepting.ensures put))
    c.put.ensures

pub returns-in-True : goal.returns-in-True
returns-in-True c =
    on_ok_weaker c.put-in-True.result
    (λ put.
    put_true c.args.graph.now c.args.numbers.now c.args.place (rows_of c.args.rows.now.items)
    (rows_of c.put-in-True.new.rows.items) (sym c.node.ensures ∙ c.in-True.is) put)
    c.put-in-True.ensures
