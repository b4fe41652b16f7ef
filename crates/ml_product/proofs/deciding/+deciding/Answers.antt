-- The position is turned, its sides are explored one behind the other, and the branch is as before.
use Rattle.std.proofs.Common.{ℕ, ◌≡◌, ◌<◌, ◌≤◌, ◌+◌, ◌-◌, ◌*◌, ◌^◌, List, [], ◌∷◌, length, sym, ◌∙◌, subst, arith}
use Rattle.std.proofs.lemmas.Result.{on_ok_weaker}
use Rattle.ml_graph.specs.Graph.{Graph, IsGraph, size}
use Rattle.ml_sequent.specs.declared.choice.Side.TheVariants.{Left, Right}
use Rattle.ml_sequent.specs.Branch.{BranchList}
use Rattle.ml_sequent.specs.Choice.{with_side}
use Rattle.ml_sequent.specs.Spread.{IsSpreadOf, IsOpenOr}
use Rattle.ml_sequent.proofs.OwnSpreads.{own_spread}
use Rattle.ml_product.specs.Position.{automaton_states, with_chosen}
use Rattle.ml_product.specs.declared.following.Terms.{Terms}
use Rattle.ml_product.specs.declared.pool.Pool.{Pool}
use Rattle.ml_product.specs.declared.recorded.Recorded.{Recorded}
use Rattle.ml_product.specs.declared.recorded.Recorded.TheVariants as recorded
use Rattle.ml_product.specs.private.Pools.{positions_of}
use Rattle.ml_product.specs.private.Exploring.{AreTerms, at_place, IsAt, HasNoneBelow, IsEnded, IsOpen, IsTurnOf, IsUnderway, IsExplored}
use Rattle.ml_product.proofs.Underway.{recorded_underway, ended_explored, explored_both, fresh_sides, side_place, own_at, side_at, fewer_sides}
use Rattle.ml_product.proofs.Vertices.{longer_get}
use Rattle.ml_product.proofs.deciding.+deciding.Goals as goal

-- ---- a position

-- what is asked where an or-node is open
abbrev AsksOpen : ℕ → Terms → ℕ → ℕ → ℕ → List Recorded → BranchList → Pool → Type 0
AsksOpen t terms limit v node rs x b =
    (3 * (size x.graph - length x.spread.choice) + 1 < t)
    × (IsGraph x.graph × ((automaton_states x.graph ≤ 2 ^ 30) × (AreTerms x.graph terms
    × (IsUnderway x.graph limit b rs × (IsAt x.graph limit b v x.spread
    × ((x.sequent ≡ (at_place x.graph (positions_of b) v).sequent) × (IsOpen x.graph x.spread node
    × HasNoneBelow (positions_of b) (at_place x.graph (positions_of b) v))))))))

pub explore_at-explore_open-requires : goal.explore_at-explore_open-requires
explore_at-explore_open-requires t c =
    let x = c.args.branch.now in
    let b = c.args.pool.now in
    let d = c.take_turn.new.pool in
    let rs = c.args.turns.now in
    let turned : IsOpen x.graph x.spread c.in-Open.node × (d ≡ b) =
    subst (IsTurnOf x.graph c.args.limit b c.args.v x.spread d) c.in-Open.is c.in_ok-found.ensures.turned in
    subst (λ (y : BranchList). AsksOpen t c.args.terms.now c.args.limit c.args.v c.in-Open.node rs y d)
    (sym c.in_ok-found.ensures.same)
    (subst (λ (e : Pool). AsksOpen t c.args.terms.now c.args.limit c.args.v c.in-Open.node rs x e) (sym turned.1) (
      omega (arith, c.decreases),
      (
        c.requires.is_graph,
        (
          c.requires.small,
          (
            c.requires.terms,
            (c.requires.underway, (c.requires.at, (c.requires.sequent, (turned.0, c.requires.fresh)))),
          ),
        ),
      ),
    ))

pub explore_at-returns-in_ok-record-in-Ended-clause-explored :
    goal.explore_at-returns-in_ok-record-in-Ended-clause-explored
explore_at-returns-in_ok-record-in-Ended-clause-explored t c =
    let g = c.args.branch.now.graph in
    let b = c.args.pool.now in
    let d = c.take_turn.new.pool in
    let ended : IsEnded g c.args.limit b c.args.v d c.in-Ended.found =
    subst (IsTurnOf g c.args.limit b c.args.v c.args.branch.now.spread d) c.in-Ended.is
    c.in_ok-found.ensures.turned in
    ended_explored g c.args.limit b d c.args.turns.now c.record.new.self c.args.v c.in-Ended.found c.requires.underway
    c.requires.at.number ended c.in_ok-record-in-Ended.ensures

-- ---- its or-node

pub explore_open-explore_side-requires : goal.explore_open-explore_side-requires
explore_open-explore_side-requires t c =
    let g = c.args.branch.now.graph in
    let limit = c.args.limit in
    let b = c.args.pool.now in
    let d = c.choose.new.pool in
    let v = c.args.v in
    let C = c.args.branch.now.sequent in
    let sp = c.args.branch.now.spread in
    let l = c.in_ok-left.left in
    let r = c.in_ok-left.right in
    let opened = c.in_ok-left.ensures.opened in
    let under = recorded_underway g limit b d c.args.turns.now c.record.new.self v (recorded.Chosen (l ∷ r ∷ []))
    c.requires.underway c.requires.at.number opened.turned c.in_ok-record.ensures in
    let fresh = fresh_sides g limit b d v sp c.args.node l r c.requires.at c.requires.fresh opened in
    let side = side_place g limit b d v l c.args.node Left C sp c.requires.at c.requires.sequent opened.left in (
      omega (arith, c.decreases),
      (
        c.requires.is_graph,
        (
          c.requires.small,
          (
            c.requires.terms,
            (
              under,
              (
                own_at g limit b v C sp c.requires.at c.requires.sequent,
                (opened.is_open, (side.0, (side.1, (side.2, fresh.0)))),
              ),
            ),
          ),
        ),
      ),
    )

pub explore_open-explore_side-requires-2 : goal.explore_open-explore_side-requires-2
explore_open-explore_side-requires-2 t c =
    let g = c.args.branch.now.graph in
    let limit = c.args.limit in
    let b = c.args.pool.now in
    let d = c.choose.new.pool in
    let v = c.args.v in
    let C = c.args.branch.now.sequent in
    let sp = c.args.branch.now.spread in
    let node = c.args.node in
    let l = c.in_ok-left.left in
    let r = c.in_ok-left.right in
    let opened = c.in_ok-left.ensures.opened in
    let e = c.explore_side.new.pool in
    let one = c.in_ok-explore_side.ensures.explored in
    let fresh = fresh_sides g limit b d v sp node l r c.requires.at c.requires.fresh opened in
    let side = side_place g limit b e v r node Right C sp c.requires.at c.requires.sequent
    (longer_get (positions_of d) (positions_of e) one.longer r
    (with_chosen g (at_place g (positions_of b) v) node Right) opened.right) in
    subst (λ (x : BranchList). (3 * (size x.graph - length x.spread.choice) < t)
    × (IsGraph x.graph × ((automaton_states x.graph ≤ 2 ^ 30) × (AreTerms x.graph c.args.terms.now
    × (IsUnderway x.graph limit e c.explore_side.new.turns × (IsSpreadOf x.graph x.sequent x.spread.choice x.spread
    × (IsOpenOr x.graph x.spread node × ((r < length (positions_of e))
    × ((x.sequent ≡ (at_place x.graph (positions_of e) r).sequent)
    × ((with_side x.spread.choice node Right ≡ (at_place x.graph (positions_of e) r).choice)
    × HasNoneBelow (positions_of e) (at_place x.graph (positions_of e) r)))))))))))
    (sym c.in_ok-explore_side.ensures.same) (
      omega (arith, c.decreases),
      (
        c.requires.is_graph,
        (
          c.requires.small,
          (
            c.requires.terms,
            (
              one.underway,
              (
                own_at g limit b v C sp c.requires.at c.requires.sequent,
                (opened.is_open, (side.0, (side.1, (side.2, fresh.1 limit e c.record.new.self c.explore_side.new.turns one)))),
              ),
            ),
          ),
        ),
      ),
    )

pub explore_open-returns-clause-explored : goal.explore_open-returns-clause-explored
explore_open-returns-clause-explored t c =
    let g = c.args.branch.now.graph in
    let limit = c.args.limit in
    let e = c.explore_side.new.pool in
    let us = c.explore_side.new.turns in
    let f = c.explore_side-2.new.pool in
    let xs = c.explore_side-2.new.turns in
    on_ok_weaker c.explore_side-2.result
    (λ two. explored_both g limit c.args.pool.now c.choose.new.pool e f c.args.turns.now c.record.new.self us xs c.args.v
    c.args.branch.now.spread c.args.node c.in_ok-left.left c.in_ok-left.right c.requires.underway c.requires.at
    c.requires.fresh c.in_ok-left.ensures.opened c.in_ok-record.ensures c.in_ok-explore_side.ensures.explored
    (subst (λ (x : BranchList). IsExplored x.graph limit e us c.in_ok-left.right f xs)
    c.in_ok-explore_side.ensures.same two))
    c.explore_side-2.ensures.explored

-- ---- with a side more

pub explore_side-choose-requires-clause-spread : goal.explore_side-choose-requires-clause-spread
explore_side-choose-requires-clause-spread t c =
    own_spread c.args.branch.now.graph c.args.branch.now.sequent c.args.branch.now.spread.choice
    c.args.branch.now.spread
    c.requires.spread

pub explore_side-explore_at-requires : goal.explore_side-explore_at-requires
explore_side-explore_at-requires t c =
    let b = c.args.pool.now in
    let sp = c.args.branch.now.spread in
    let sp2 = c.choose.new.self.spread in
    let g = c.args.branch.now.graph in
    let at = side_at g c.args.limit b c.args.w c.args.node c.args.side c.args.branch.now.sequent sp sp2
    c.requires.underway.explores c.requires.spread c.requires.number c.requires.sequent c.requires.choice
    c.in_ok-choose.ensures.of in
    let less = fewer_sides g c.args.limit b c.args.w c.args.node c.args.side sp sp2 at c.requires.choice in
    subst (λ (h : Graph). (3 * (size h - length sp2.choice) + 2 < t)
    × (IsGraph h × ((automaton_states h ≤ 2 ^ 30) × (AreTerms h c.args.terms.now
    × (IsUnderway h c.args.limit b c.args.turns.now × (IsAt h c.args.limit b c.args.w sp2
    × ((c.choose.new.self.sequent ≡ (at_place h (positions_of b) c.args.w).sequent)
    × HasNoneBelow (positions_of b) (at_place h (positions_of b) c.args.w))))))))
    (sym c.choose.ensures.graph) (
      omega (arith, less, c.decreases),
      (
        c.requires.is_graph,
        (
          c.requires.small,
          (
            c.requires.terms,
            (
              c.requires.underway,
              (
                at,
                (c.choose.ensures.sequent ∙ c.requires.sequent, c.requires.fresh),
              ),
            ),
          ),
        ),
      ),
    )
