-- The view shows the position, whose sequent has nodes of the graph alone.
use Rattle.std.proofs.Common.{ℕ, ◌≡◌, ◌<◌, List, All, sym, ap, ◌∙◌, subst}
use Rattle.std.proofs.lemmas.Result.{on_ok_weaker}
use Rattle.std.proofs.lemmas.Option.{get_or_from_slice_get}
use Rattle.ml_lists.proofs.Member.{place-member}
use Rattle.ml_graph.specs.Graph.{size}
use Rattle.ml_product.specs.Position.{Position, start_of}
use Rattle.ml_product.specs.View.{viewed}
use Rattle.ml_product.specs.private.Pools.{positions_of}
use Rattle.ml_product.specs.private.Exploring.{at_place}
use Rattle.ml_product.proofs.ReachedSequents.{all_reached_low}
use Rattle.ml_product.proofs.Underway.{begun_at}
use Rattle.ml_product.proofs.deciding.begin_at.Goals as goal

pub begin-requires : goal.begin-requires
begin-requires c =
    let g = c.args.branch.now.graph in
    let ps = positions_of c.args.pool.now in
    let same : at_place g ps c.args.v ≡ viewed c.view-view.result =
    get_or_from_slice_get ps c.args.v (viewed c.view-view.result) (start_of g) c.view-view.ensures in
    let reached = c.requires.explores.are_reached (at_place g ps c.args.v)
    (place-member ps c.args.v (start_of g) c.requires.number) in
    subst (λ (ns : List ℕ). All (λ n. n < size g) ns) (ap (λ (p : Position). p.sequent) same ∙ sym c.in_ok-copy.ensures)
    (all_reached_low g c.requires.is_graph (at_place g ps c.args.v) reached)

pub returns-clause-at : goal.returns-clause-at
returns-clause-at c =
    let g = c.args.branch.now.graph in
    let ps = positions_of c.args.pool.now in
    let same : at_place g ps c.args.v ≡ viewed c.view-view.result =
    get_or_from_slice_get ps c.args.v (viewed c.view-view.result) (start_of g) c.view-view.ensures in
    on_ok_weaker c.begin.result
    (begun_at g c.args.limit c.args.pool.now c.args.v c.in_ok-copy.field-0 c.begin.new.self.spread c.requires.explores
    c.requires.number c.requires.unchosen (c.in_ok-copy.ensures ∙ ap (λ (p : Position). p.sequent) (sym same)))
    c.begin.ensures.of

pub returns-clause-sequent : goal.returns-clause-sequent
returns-clause-sequent c =
    let g = c.args.branch.now.graph in
    let ps = positions_of c.args.pool.now in
    let same : at_place g ps c.args.v ≡ viewed c.view-view.result =
    get_or_from_slice_get ps c.args.v (viewed c.view-view.result) (start_of g) c.view-view.ensures in
    on_ok_weaker c.begin.result (λ e. e ∙ c.in_ok-copy.ensures ∙ ap (λ (p : Position). p.sequent) (sym same))
    c.begin.ensures.sequent
