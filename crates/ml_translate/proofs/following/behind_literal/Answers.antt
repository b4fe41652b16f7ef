use Rattle.std.proofs.Common.{ap}
use Rattle.ml_translate.specs.private.Finding.{places_in}
use Rattle.ml_translate.proofs.FollowedPlaces.{joined_none, joined_some}
use Rattle.ml_translate.proofs.following.behind_literal.Goals as goal
use Rattle.ml_translate.proofs.following.behind_literal.Goals.{in-None, in-Some}

pub returns : goal.returns
returns c =
    let s = c.args.place.now in
    elim c.match-branch-2.branch [
      | in-Some w ↦
          joined_some s c.args.node c.args.literal c.literals.result.now w.in-Some.cube c.in_ok-cube.field-0
          (places_in c.match-branch-2.result) c.literals.ensures c.in_ok-cube.ensures w.in-Some.is (ap places_in w.result-is)
      | in-None w ↦
          joined_none s c.args.node c.args.literal c.literals.result.now c.in_ok-cube.field-0
          (places_in c.match-branch-2.result) c.literals.ensures c.in_ok-cube.ensures w.in-None.is (ap places_in w.result-is)
    ]
