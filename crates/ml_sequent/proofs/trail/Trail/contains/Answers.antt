use Rattle.std.proofs.Common.{◌<◌, ◌↔◌, IsTrue, length, sym, subst, ◌∙◌, arith}
use Rattle.std.proofs.lemmas.List.{get_or_default}
use Rattle.ml_lists.specs.Member.{IsMember}
use Rattle.ml_sequent.specs.private.Trails.{TrailList}
use Rattle.ml_sequent.proofs.TrailNodes.{stands_told, member_low}
use Rattle.ml_sequent.proofs.trail.Trail.contains.Goals as goal

pub returns-then-node-len-clause-reached : goal.returns-then-node-len-clause-reached
returns-then-node-len-clause-reached c = (
  (λ h. absurd (cc)),
  (λ h.
      let here = subst (λ (r : TrailList). IsMember c.args.node r.nodes) (sym c.self.view_is) h in
      let low = member_low c.self.inside.places.items c.self.inside.nodes.items c.args.node c.self.invariant here in
      absurd (omega arith)),
)

pub returns-clause-reached : goal.returns-clause-reached
returns-clause-reached c =
    let low : c.args.node < length c.self.inside.places.items = omega arith in
    let at = c.index.ensures ∙ get_or_default c.self.inside.places.items c.args.node c.index.result.now 0 low in
    subst (λ (r : TrailList). IsTrue c.stands_at.result ↔ IsMember c.args.node r.nodes) c.self.view_is
    (stands_told c.self.inside.places.items c.self.inside.nodes.items c.deref.result.now c.args.node c.index.result.now
    c.stands_at.result c.self.invariant c.deref.ensures.value at c.stands_at.ensures)
