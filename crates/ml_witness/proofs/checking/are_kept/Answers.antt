use Rattle.std.proofs.Common.{All, List, refl, subst}
use Rattle.ml_base.specs.declared.structure.Edge.{Edge}
use Rattle.ml_witness.specs.private.Claims.{SquaresLead}
use Rattle.ml_witness.proofs.LookedThrough.{all_kept}
use Rattle.ml_witness.proofs.checking.are_kept.Goals as goal

pub returns : goal.returns
returns c =
    λ yes.
    all_kept c.args.graph.now c.args.structure.now c.args.ranks.now (c.if-not-all_stand.ensures refl)
    (subst (λ (es : List Edge). All (SquaresLead c.args.graph.now c.args.ranks.now) es) c.edges.ensures
    (c.squares_lead.ensures yes))
