use Rattle.std.proofs.Common.{refl, ap, ◌∙◌, subst, arith, length}
use Rattle.std.proofs.lemmas.List.{length-map}
use Rattle.ml_graph.specs.Graph.{IsGraph}
use Rattle.ml_labelled.specs.private.Views.{edges_in, held}
use Rattle.ml_translate.proofs.FitPlaces.{all_fit}
use Rattle.ml_translate.proofs.Translated.{made_labelled}
use Rattle.ml_translate.proofs.translating.with_places.Goals as goal

pub edges_of-requires : goal.edges_of-requires
edges_of-requires c =
    all_fit c.args.automaton.now c.args.propositions.names.items c.states-states.ensures.states
    (subst IsGraph c.graph.ensures.value c.keeps.ensures.is_graph)
    c.in_ok-places.places.keys c.in_ok-places.ensures.places

pub new-requires : goal.new-requires
new-requires c =
    let a = c.args.automaton.now in
    let props = c.args.propositions.names.items in
    let rows = c.in_ok-rows.rows.items in
    let all = ap length c.states-states.ensures.value in
    let few = c.states-states.ensures.few in
    made_labelled a props (held props rows) c.args.limit c.states-states.ensures.states
    (record {
      places = c.in_ok-places.places.keys;
      are_places = c.in_ok-places.ensures.places;
      few = c.in_ok-places.ensures.few;
      same_props = refl;
      as_many = length-map rows edges_in ∙ c.in_ok-rows.ensures.rows;
      have_edges = c.in_ok-rows.ensures.edges;
    })
    (omega (arith, all, few))
    c.requires.few
    c.requires.named
