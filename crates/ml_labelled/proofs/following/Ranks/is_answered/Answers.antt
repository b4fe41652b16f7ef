use Rattle.std.proofs.Common.{map, sym, subst}
use Rattle.ml_lists.specs.Member.{IsMember}
use Rattle.ml_lists.proofs.Member.{member-map, place-member}
use Rattle.ml_labelled.specs.declared.labelled.CubeEdge.{CubeEdge}
use Rattle.ml_labelled.specs.private.Views.{edge_of}
use Rattle.ml_labelled.proofs.FollowedAutomata.{edge_answered}
use Rattle.ml_labelled.proofs.following.Ranks.is_answered.Goals as goal

pub returns-then-has_all : goal.returns-then-has_all
returns-then-has_all c = λ _.
    let others = c.args.others.now in
    let x = c.other-item.result in
    let m : IsMember x others =
    subst (λ (y : CubeEdge). IsMember y others) (sym c.other-item.is)
    (place-member others c.loop-other.other-index x c.loop-other-test.true) in
    edge_answered c.args.self.now c.args.rank (edge_of c.args.edge.now) (edge_of x) (map edge_of others)
    (member-map edge_of x others m)
    (c.answers.ensures c.if-answers.true)
    (λ l k. subst (IsMember l) c.deref.ensures.value (c.has_all.ensures c.if-has_all.true l (subst (IsMember l) (sym c.deref-then-answers.ensures.value) k)))
