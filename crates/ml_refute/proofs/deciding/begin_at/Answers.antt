-- The view shows the position, whose sequent has nodes of the graph alone.
use Rattle.std.proofs.Common.{ℕ, ◌<◌, List, All, Result, Ok, Err, OnOk, sym, ap, ◌∙◌, subst}
use Rattle.std.proofs.lemmas.Result.{on_ok_weaker}
use Rattle.ml_graph.specs.Graph.{Graph, size}
use Rattle.ml_product.specs.Position.{Position}
use Rattle.ml_product.specs.View.{viewed}
use Rattle.ml_refute.proofs.BranchPositions.{begun_spread}
use Rattle.ml_refute.proofs.Leaving.{nodes_shown, shown}
use Rattle.ml_refute.proofs.deciding.begin_at.Goals as goal

pub begin-requires : goal.begin-requires
begin-requires c =
    subst (λ (g : Graph). All (λ n. n < size g) c.in_ok-copy.field-0) (sym c.requires.graph)
    (subst (λ (ns : List ℕ). All (λ n. n < size c.args.game.now.graph.now) ns) (sym c.in_ok-copy.ensures)
    (nodes_shown _ _ _ c.requires.odd c.args.v c.requires.won _ c.position-position.ensures))

both_ok : {T E : Type 0} {P Q R : Type 0} (r : Result T E) → (P → Q → R) → OnOk r P → OnOk r Q → OnOk r R
both_ok (Ok x) f h k = f h k
both_ok (Err e) f h k = h

pub returns-clause-sequent : goal.returns-clause-sequent
returns-clause-sequent c =
    let same = ap (λ (p : Position). p.sequent)
    (shown _ _ _ c.requires.odd c.args.v c.requires.won (viewed c.position-position.result)
    c.position-position.ensures) in
    on_ok_weaker c.begin.result (λ e. e ∙ c.in_ok-copy.ensures ∙ same) c.begin.ensures.sequent

pub returns-clause-spread : goal.returns-clause-spread
returns-clause-spread c =
    let same = ap (λ (p : Position). p.sequent)
    (shown _ _ _ c.requires.odd c.args.v c.requires.won (viewed c.position-position.result)
    c.position-position.ensures) in
    both_ok c.begin.result
    (begun_spread c.args.game.now.graph.now c.args.branch.now.graph c.args.game.now.arena.now c.args.v
    c.in_ok-copy.field-0
    c.begin.new.self.spread c.requires.graph (c.in_ok-copy.ensures ∙ same) c.requires.unchosen)
    c.begin.ensures.is_spread c.begin.ensures.of
