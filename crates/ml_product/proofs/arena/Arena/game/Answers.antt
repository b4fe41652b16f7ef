-- The lists that are made are those of the game, which is one by what the arena keeps.
use Rattle.std.proofs.Common.{◌+◌, List, [], ◌∷◌, ◌++◌, length, map, ◌∙◌, subst, sym, ap, arith}
use Rattle.ml_parity.specs.declared.players.Player.TheVariants.{Even}
use Rattle.ml_parity.specs.Game.{IsGame}
use Rattle.ml_parity.specs.Refusal.{lists_of}
use Rattle.std.proofs.lemmas.List.{length-map}
use Rattle.ml_product.specs.declared.recorded.Recorded.{Recorded}
use Rattle.ml_product.specs.Placed.{Placed}
use Rattle.ml_product.specs.private.Pools.{positions_of}
use Rattle.ml_product.specs.private.Recorded.{owner_of, moves_of}
use Rattle.ml_product.specs.private.Shared.{seen}
use Rattle.ml_product.specs.Arena.{game_of}
use Rattle.ml_product.proofs.HeldGames.{game_from, held_is_game}
use Rattle.ml_product.proofs.arena.Arena.game.Goals as goal

pub successors_of-requires : goal.successors_of-requires
successors_of-requires c =
    let i = c.self.inside in
    let count = length-map i.pool.positions (seen i.pool.sequents.keys i.pool.histories.keys) ∙ sym c.len-size.ensures in
    let small = c.self.invariant.held.small in
    record {
      small = omega (arith, c.len-size.ensures);
      ends = c.self.invariant.ends ∙ ap (λ n. n ∷ (n + 1) ∷ []) count;
    }

pub returns : goal.returns
returns c =
    let i = c.self.inside in
    let n = c.len-size.result in
    let ps = positions_of i.pool in
    let count = c.len-size.ensures ∙ sym (length-map i.pool.positions (seen i.pool.sequents.keys i.pool.histories.keys)) in
    game_from i.pool.sequents.keys i.pool.histories.keys i.pool.positions (map owner_of i.turns.items)
    (map (moves_of (length ps)) i.turns.items) c.args.self.now
    c.self.view_is c.in_ok-owner.owner.items c.in_ok-priority.priority.items
    (lists_of c.in_ok-successors.successors.items) n c.len-size.ensures
    (c.in_ok-owner.ensures ∙ ap (λ (xs : List Recorded). map owner_of xs ++ Even ∷ Even ∷ []) c.deref.ensures.value)
    (c.in_ok-priority.ensures ∙ ap (λ (xs : List Placed). map (λ (x : Placed). x.priority) xs ++ 1 ∷ 0 ∷ []) c.positions.ensures)
    (c.in_ok-successors.ensures
    ∙ ap (λ (xs : List Recorded). map (moves_of n) xs ++ (n ∷ []) ∷ ((n + 1) ∷ []) ∷ []) c.deref-2.ensures.value
    ∙ ap (λ k. map (moves_of k) i.turns.items ++ (n ∷ []) ∷ ((n + 1) ∷ []) ∷ []) count)

pub invariant_of-result : goal.invariant_of-result
invariant_of-result c =
    let i = c.self.inside in
    subst IsGame (ap game_of c.self.view_is ∙ sym (returns c))
    (held_is_game i.pool.sequents.keys i.pool.histories.keys i.pool.positions (map owner_of i.turns.items)
    (map (moves_of (length (positions_of i.pool))) i.turns.items) c.self.invariant.held)
