use Rattle.std.proofs.Common.{◌<◌, ◌^◌, arith}
use Rattle.ml_bisim.proofs.Merged.{few_classes, parts_in_range, quotient_is, small_classes, some_states}
use Rattle.ml_bisim.proofs.merging.quotient.Goals as goal

pub narrowed-requires : goal.narrowed-requires
narrowed-requires c =
    let small : c.args.structure.now.states < 2 ^ 32 = omega (arith, c.states-states.type_inv, c.states-states.ensures.value) in
    small_classes c.args.structure.now c.in_ok-classes.classes.count c.in_ok-classes.classes.numbers.items
    c.deref.result.now c.in_ok-classes.ensures c.deref.ensures.value small

pub overflow_cast-classes : goal.overflow_cast-classes
overflow_cast-classes c =
    let few = few_classes c.args.structure.now c.in_ok-classes.classes.count c.in_ok-classes.classes.numbers.items
    c.in_ok-classes.ensures in
    omega (arith, c.states-states.type_inv, c.states-states.ensures.value, few)

pub structure_of-requires-clause-some : goal.structure_of-requires-clause-some
structure_of-requires-clause-some c =
    some_states c.args.structure.now c.states-states.ensures.is_structure c.in_ok-classes.classes.count
    c.in_ok-classes.classes.numbers.items c.deref.result.now c.in_ok-class.class.items c.deref-2.result.now
    c.deref-3.result.now c.in_ok-classes.ensures c.deref.ensures.value c.in_ok-class.ensures c.deref-2.ensures.value
    c.deref-3.ensures.value c.in_ok-labels.labels.items c.in_ok-labels.ensures c.in_ok-edges.edges.items
    c.in_ok-edges.ensures

pub structure_of-requires-clause-in_range : goal.structure_of-requires-clause-in_range
structure_of-requires-clause-in_range c =
    parts_in_range c.args.structure.now c.states-states.ensures.is_structure c.in_ok-classes.classes.count
    c.in_ok-classes.classes.numbers.items c.deref.result.now c.in_ok-class.class.items c.deref-2.result.now
    c.deref-3.result.now c.in_ok-classes.ensures c.deref.ensures.value c.in_ok-class.ensures c.deref-2.ensures.value
    c.deref-3.ensures.value c.in_ok-labels.labels.items c.in_ok-labels.ensures c.in_ok-edges.edges.items
    c.in_ok-edges.ensures

pub returns : goal.returns
returns c =
    quotient_is c.args.structure.now c.states-states.ensures.is_structure c.in_ok-classes.classes.count
    c.in_ok-classes.classes.numbers.items c.deref.result.now c.in_ok-class.class.items c.deref-2.result.now
    c.deref-3.result.now c.in_ok-classes.ensures c.deref.ensures.value c.in_ok-class.ensures c.deref-2.ensures.value
    c.deref-3.ensures.value c.in_ok-labels.labels.items c.in_ok-labels.ensures c.in_ok-edges.edges.items
    c.in_ok-edges.ensures c.in_ok-structure.structure c.in_ok-structure.ensures.is_structure c.in_ok-structure.ensures.is_ordered
    c.in_ok-structure.ensures.built
