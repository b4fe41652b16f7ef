use Rattle.std.proofs.Common.{◌≡◌, ◌+◌, ◌∙◌, ◌∷◌, ◌++◌, [], ap, bytes_eq, subst, sym, take}
use Rattle.std.proofs.lemmas.List.{take_more}
use Rattle.ml_emptiness.specs.Systems.{table_of}
use Rattle.ml_paths.specs.private.Systems.{IsMoved, IsSystemOf}
use Rattle.ml_paths.proofs.Moves.{system_more}
use Rattle.ml_paths.proofs.systems.system_from.Goals as goal

pub loop-edge-preserved : goal.loop-edge-preserved
loop-edge-preserved c =
    let m = c.args.structure.now in
    let start = c.args.start in
    let numbers = c.args.numbers.now in
    let i = c.loop-edge.edge-index in
    let edges = c.edges-edge-items.result.now in
    let e = c.edge-item.result in
    let t = table_of c.loop-edge.system.items in
    let t' = table_of c.add_move.new.system.items in
    let same : edges ≡ m.edges = c.edges-edge-items.ensures in
    let next : take (i + 1) edges ≡ take i edges ++ e ∷ [] =
    take_more edges i e c.loop-edge-test.true ∙ ap (λ x. take i edges ++ x ∷ []) (sym c.edge-item.is) in
    subst (λ es. IsSystemOf m start numbers (take (i + 1) es) t') same
    (subst (λ xs. IsSystemOf m start numbers xs t') (sym next)
    (system_more m start numbers (take i edges) e t t'
    (subst (λ es. IsSystemOf m start numbers (take i es) t) (sym same) c.loop-edge.invariant)
    (subst (λ b. IsMoved start numbers (bytes_eq e.action b) e t t') c.in_ok-blank.ensures c.in_ok-add_move.ensures)))
