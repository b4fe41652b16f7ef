use Rattle.std.proofs.Common.{◌≡◌, Some, None, arith, refl}
use Rattle.ml_graph.specs.Building.{first_out_of_range, graph_of}
use Rattle.ml_graph.proofs.References.{no_graph, all_in_range}
use Rattle.ml_graph.proofs.modal_graph.ModalGraph.build.Goals as goal

pub returns-in-Some-clause-accepted : goal.returns-in-Some-clause-accepted
returns-in-Some-clause-accepted c =
    let g = graph_of c.args.nodes c.args.priorities c.args.root c.args.props c.args.actions in
    let bad : first_out_of_range g ≡ Some c.in-Some.number = cc in
    ((λ e. cc), (λ ok. absurd (no_graph g c.in-Some.number bad ok)))

pub returns-in-Some-clause-out_of_range : goal.returns-in-Some-clause-out_of_range
returns-in-Some-clause-out_of_range c =
    let g = graph_of c.args.nodes c.args.priorities c.args.root c.args.props c.args.actions in
    let bad : first_out_of_range g ≡ Some c.in-Some.number = cc in
    λ k. ((λ e. cc), (λ e. cc))

pub invariant_of-result : goal.invariant_of-result
invariant_of-result c =
    let g = graph_of c.args.nodes c.args.priorities c.args.root c.args.props c.args.actions in
    let none : first_out_of_range g ≡ None = cc in (
      record {
        priorities = omega arith;
        in_range = all_in_range _ none;
        props_differ = c.requires.props;
        actions_differ = c.requires.actions;
      },
      omega arith,
    )

pub returns-clause-accepted : goal.returns-clause-accepted
returns-clause-accepted c = ((λ e. (invariant_of-result c).0), (λ ok. refl))

pub returns-clause-out_of_range : goal.returns-clause-out_of_range
returns-clause-out_of_range c =
    let g = graph_of c.args.nodes c.args.priorities c.args.root c.args.props c.args.actions in
    let none : first_out_of_range g ≡ None = cc in
    λ k. ((λ e. cc), (λ e. cc))
