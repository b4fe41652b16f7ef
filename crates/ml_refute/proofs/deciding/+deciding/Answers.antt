-- A side more leads to the position that the arena has for it, and behind it the branch is as before.
use Rattle.std.proofs.Common.{◌≡◌, ◌<◌, ◌+◌, ◌-◌, ◌*◌, length, ap, subst, sym, ◌∙◌, arith}
use Rattle.ml_graph.specs.Graph.{size}
use Rattle.ml_sequent.specs.declared.choice.Side.TheVariants.{Left, Right}
use Rattle.ml_sequent.specs.Branch.{BranchList}
use Rattle.ml_sequent.specs.Choice.{with_side}
use Rattle.ml_sequent.specs.Spread.{IsSpreadOf, IsOpenOr}
use Rattle.ml_sequent.proofs.OwnSpreads.{own_spread}
use Rattle.ml_refutation.specs.Views.{decision_of}
use Rattle.ml_refute.specs.private.Found.{OddWins, IsWon, IsTurnAt, AreNumbered, IsDecided, position_at}
use Rattle.ml_refute.proofs.BranchPositions.{side_more, spread_more}
use Rattle.ml_refute.proofs.FoundEntries.{fewer_left, fewer_right, split_decided}
use Rattle.ml_refute.proofs.deciding.+deciding.Goals as goal

pub decide-decide_side-requires : goal.decide-decide_side-requires
decide-decide_side-requires t c =
    let g = c.args.game.now.graph.now in
    let a = c.args.game.now.arena.now in
    let s = c.args.game.now.solution.now in
    let w = c.sides_of-l.result.0 in
    let o = c.in-Open.node in
    let turn = subst (IsTurnAt g a s c.args.v) c.in-Open.is c.in_ok-cause.ensures.turn in
    let less = fewer_left g a s c.requires.odd c.args.v o c.sides_of-l.result.0 c.sides_of-l.result.1
    c.sides_of-l.ensures in
    let more = side_more g a s c.args.v w o Left c.args.branch.now c.requires.graph c.requires.sequent
    c.requires.spread turn
    c.sides_of-l.ensures.left in
    subst (λ (x : BranchList). (2 * (size g - length (position_at g a w).choice) + 2 < t)
    × (OddWins g a s × (IsWon a s w × ((x.graph ≡ g) × (IsSpreadOf x.graph x.sequent x.spread.choice x.spread
    × (IsOpenOr x.graph x.spread o × ((x.sequent ≡ (position_at g a w).sequent)
    × ((with_side x.spread.choice o Left ≡ (position_at g a w).choice) × AreNumbered g a s
    c.args.vertices.now.keys))))))))
    (sym c.in_ok-cause.ensures.same) (
      omega (arith, less, c.decreases),
      (
        c.requires.odd,
        (
          c.sides_of-l.ensures.left_won,
          (
            c.requires.graph,
            (
              more.0,
              (
                more.1,
                (
                  more.2,
                  (
                    more.3,
                    c.requires.numbered,
                  ),
                ),
              ),
            ),
          ),
        ),
      ),
    )

pub decide-decide_side-requires-in-Open : goal.decide-decide_side-requires-in-Open
decide-decide_side-requires-in-Open t c =
    let g = c.args.game.now.graph.now in
    let a = c.args.game.now.arena.now in
    let s = c.args.game.now.solution.now in
    let w = c.sides_of-l.result.1 in
    let o = c.in-Open.node in
    let turn = subst (IsTurnAt g a s c.args.v) c.in-Open.is c.in_ok-cause.ensures.turn in
    let less = fewer_right g a s c.requires.odd c.args.v o c.sides_of-l.result.0 c.sides_of-l.result.1
    c.sides_of-l.ensures in
    let more = side_more g a s c.args.v w o Right c.args.branch.now c.requires.graph c.requires.sequent
    c.requires.spread turn
    c.sides_of-l.ensures.right in
    subst (λ (x : BranchList). (2 * (size g - length (position_at g a w).choice) + 2 < t)
    × (OddWins g a s × (IsWon a s w × ((x.graph ≡ g) × (IsSpreadOf x.graph x.sequent x.spread.choice x.spread
    × (IsOpenOr x.graph x.spread o × ((x.sequent ≡ (position_at g a w).sequent)
    × ((with_side x.spread.choice o Right ≡ (position_at g a w).choice) × AreNumbered g a s
    c.decide_side.new.vertices.keys))))))))
    (sym (c.in_ok-left-in-Open.ensures.same ∙ c.in_ok-cause.ensures.same)) (
      omega (arith, less, c.decreases),
      (
        c.requires.odd,
        (
          c.sides_of-l.ensures.right_won,
          (
            c.requires.graph,
            (
              more.0,
              (
                more.1,
                (
                  more.2,
                  (
                    more.3,
                    c.in_ok-left-in-Open.ensures.decided.numbered,
                  ),
                ),
              ),
            ),
          ),
        ),
      ),
    )

pub decide-returns-in_ok-new-in-Open-2-clause-decided : goal.decide-returns-in_ok-new-in-Open-2-clause-decided
decide-returns-in_ok-new-in-Open-2-clause-decided t c =
    let turn = subst (IsTurnAt c.args.game.now.graph.now c.args.game.now.arena.now c.args.game.now.solution.now
    c.args.v)
    c.in-Open.is c.in_ok-cause.ensures.turn in
    let left_is : decision_of c.in_ok-left-in-Open.left ≡ decision_of c.in_ok-new-in-Open.field-0.value =
    ap decision_of (sym c.in_ok-new-in-Open.ensures.ok) in
    let right_is : decision_of c.in_ok-right-in-Open.right ≡ decision_of c.in_ok-new-in-Open-2.field-0.value =
    ap decision_of (sym c.in_ok-new-in-Open-2.ensures.ok) in
    split_decided c.args.game.now.graph.now c.args.game.now.arena.now c.args.game.now.solution.now c.requires.odd
    c.args.vertices.now.keys c.decide_side.new.vertices.keys c.decide_side-in-Open.new.vertices.keys c.args.v
    c.in-Open.node
    c.sides_of-l.result.0 c.sides_of-l.result.1 (decision_of c.in_ok-new-in-Open.field-0.value)
    (decision_of c.in_ok-new-in-Open-2.field-0.value) turn c.sides_of-l.ensures
    (subst (IsDecided c.args.game.now.graph.now c.args.game.now.arena.now c.args.game.now.solution.now
    c.args.vertices.now.keys c.decide_side.new.vertices.keys c.sides_of-l.result.0) left_is
    c.in_ok-left-in-Open.ensures.decided)
    (subst (IsDecided c.args.game.now.graph.now c.args.game.now.arena.now c.args.game.now.solution.now
    c.decide_side.new.vertices.keys c.decide_side-in-Open.new.vertices.keys c.sides_of-l.result.1) right_is
    c.in_ok-right-in-Open.ensures.decided)

pub decide_side-choose-requires-clause-spread : goal.decide_side-choose-requires-clause-spread
decide_side-choose-requires-clause-spread t c =
    own_spread c.args.branch.now.graph c.args.branch.now.sequent c.args.branch.now.spread.choice
    c.args.branch.now.spread
    c.requires.spread

pub decide_side-decide-requires : goal.decide_side-decide-requires
decide_side-decide-requires t c =
    let g = c.args.game.now.graph.now in
    let a = c.args.game.now.arena.now in
    let at = spread_more g c.args.branch.now.graph a c.args.w c.args.node c.args.side c.args.branch.now.sequent
    c.args.branch.now.spread c.choose.new.self.spread c.requires.graph c.requires.spread c.requires.sequent
    c.requires.choice
    c.in_ok-choose.ensures.of c.in_ok-choose.ensures.is_spread in (
      omega (arith, c.decreases),
      (
        c.requires.odd,
        (
          c.requires.won,
          (
            c.choose.ensures.graph ∙ c.requires.graph,
            (c.choose.ensures.sequent ∙ c.requires.sequent, (at, c.requires.numbered)),
          ),
        ),
      ),
    )
