use Rattle.std.proofs.Common.{List, ℕ, map, subst}
use Rattle.ml_labelled.specs.Labelled.{Edge}
use Rattle.ml_labelled.specs.declared.labelled.CubeEdge.{CubeEdge}
use Rattle.ml_labelled.specs.private.Following.{StateFollowed}
use Rattle.ml_labelled.specs.private.Views.{edge_of, rows_of}
use Rattle.ml_labelled.proofs.FollowedAutomata.{rows_all, rows_more}
use Rattle.ml_labelled.proofs.following.Ranks.follows.Goals as goal

pub loop-p-preserved : goal.loop-p-preserved
loop-p-preserved c =
    rows_more (λ (k : ℕ) (es : List Edge). StateFollowed c.args.self.now k es (rows_of c.args.others.now))
    c.args.rows.now c.loop-p.p c.index-rows-p.result c.loop-p-test.true c.index-rows-p.is
    (subst (λ (es : List CubeEdge). StateFollowed c.args.self.now c.loop-p.p (map edge_of es) (rows_of c.args.others.now))
    c.deref.ensures.value (c.state_followed.ensures c.if-not-state_followed.false))
    c.loop-p.invariant

pub returns : goal.returns
returns c = λ _.
    rows_all (λ (k : ℕ) (es : List Edge). StateFollowed c.args.self.now k es (rows_of c.args.others.now))
    c.args.rows.now c.loop-p.p c.loop-p-test.false c.loop-p.invariant
