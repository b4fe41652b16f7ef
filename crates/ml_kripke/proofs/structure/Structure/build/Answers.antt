use Rattle.std.proofs.Common.{◌≡◌, None, map, arith}
use Rattle.ml_kripke.specs.Built.{first_bad_state}
use Rattle.ml_kripke.proofs.Build.{labels_below, is_structure, is_ordered, is_built}
use Rattle.ml_kripke.proofs.structure.Structure.build.Goals as goal

pub rows-requires : goal.rows-requires
rows-requires c =
    let none : first_bad_state c.args.states c.args.labels.items c.args.edges.items ≡ None = cc in
    labels_below c.args.states c.args.labels.items c.ascend.new.items.items c.args.edges.items c.args.edges.items none c.ascend.ensures.same

pub invariant_of-result : goal.invariant_of-result
invariant_of-result c =
    let none : first_bad_state c.args.states c.args.labels.items c.args.edges.items ≡ None = cc in
    let rows = map (λ row. row.items) c.in_ok-rows.field-0.items in (
      is_structure c.args.states c.args.labels.items c.ascend.new.items.items c.args.edges.items c.ascend-2.new.items.items none
          c.ascend.ensures.same rows c.in_ok-rows.ensures c.ascend-2.ensures.same (omega arith),
      is_ordered c.args.states c.args.labels.items c.ascend.new.items.items c.args.edges.items c.ascend-2.new.items.items none
          c.ascend.ensures.same rows c.in_ok-rows.ensures c.ascend-2.ensures.same c.ascend.ensures.ascends
          c.ascend-2.ensures.ascends,
    )

pub returns-clause-built : goal.returns-clause-built
returns-clause-built c =
    let none : first_bad_state c.args.states c.args.labels.items c.args.edges.items ≡ None = cc in
    let rows = map (λ row. row.items) c.in_ok-rows.field-0.items in
    is_built c.args.states c.args.labels.items c.ascend.new.items.items c.args.edges.items c.ascend-2.new.items.items none
    c.ascend.ensures.same rows c.in_ok-rows.ensures c.ascend-2.ensures.same

pub returns-clause-is_structure : goal.returns-clause-is_structure
returns-clause-is_structure c =
    let none : first_bad_state c.args.states c.args.labels.items c.args.edges.items ≡ None = cc in
    is_structure c.args.states c.args.labels.items c.ascend.new.items.items c.args.edges.items c.ascend-2.new.items.items none
    c.ascend.ensures.same (map (λ row. row.items) c.in_ok-rows.field-0.items) c.in_ok-rows.ensures c.ascend-2.ensures.same (omega arith)

pub returns-clause-is_ordered : goal.returns-clause-is_ordered
returns-clause-is_ordered c =
    let none : first_bad_state c.args.states c.args.labels.items c.args.edges.items ≡ None = cc in
    is_ordered c.args.states c.args.labels.items c.ascend.new.items.items c.args.edges.items c.ascend-2.new.items.items none
    c.ascend.ensures.same (map (λ row. row.items) c.in_ok-rows.field-0.items) c.in_ok-rows.ensures c.ascend-2.ensures.same
    c.ascend.ensures.ascends c.ascend-2.ensures.ascends
