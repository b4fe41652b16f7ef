use Rattle.std.proofs.Common.{List, ℕ, map, subst}
use Rattle.ml_labelled.specs.Labelled.{Edge}
use Rattle.ml_labelled.specs.declared.labelled.CubeEdge.{CubeEdge}
use Rattle.ml_labelled.specs.private.Following.{PairFollows}
use Rattle.ml_labelled.specs.private.Views.{edge_of}
use Rattle.ml_labelled.proofs.FollowedAutomata.{rows_all, rows_more}
use Rattle.ml_labelled.proofs.following.Ranks.state_followed.Goals as goal

pub loop-x-preserved : goal.loop-x-preserved
loop-x-preserved c =
    rows_more (λ (k : ℕ) (fs : List Edge). PairFollows c.args.self.now c.args.p k (map edge_of c.args.edges.now) fs)
    c.args.others.now c.loop-x.x c.index-others-x.result c.loop-x-test.true c.index-others-x.is
    (subst (λ (fs : List CubeEdge). PairFollows c.args.self.now c.args.p c.loop-x.x (map edge_of c.args.edges.now) (map edge_of fs))
    c.deref.ensures.value (c.pair_follows.ensures c.if-not-pair_follows.false))
    c.loop-x.invariant

pub returns : goal.returns
returns c = λ _.
    rows_all (λ (k : ℕ) (fs : List Edge). PairFollows c.args.self.now c.args.p k (map edge_of c.args.edges.now) fs)
    c.args.others.now c.loop-x.x c.loop-x-test.false c.loop-x.invariant
