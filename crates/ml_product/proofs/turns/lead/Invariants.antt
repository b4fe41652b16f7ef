use Rattle.std.proofs.Common.{ℕ, ◌≡◌, ◌++◌, length, map}
use Rattle.std.specs.Vec.Iter.{into_iter_items, into_iter_len}
use Rattle.ml_product.specs.private.Pools.{positions_of}
use Rattle.ml_product.specs.private.Recorded.{AreVerticesAt}
use Rattle.ml_product.specs.private.Exploring.{target_of, Becomes, AddsUnchosen}
use Rattle.ml_product.proofs.turns.lead.Given as goal

abbrev pub invariant-loop-fresh : goal.invariant-loop-fresh
invariant-loop-fresh l = (l.yielded ++ into_iter_items l.fresh-iterator ≡ into_iter_items l.initial.fresh-iterator)
    × Becomes l.fn.branch.graph l.limit l.fn.pool l.pool
    × ((n : ℕ) → AreVerticesAt n (positions_of l.pool) (map target_of l.yielded) l.moves.items)
    × AddsUnchosen l.fn.branch.graph (positions_of l.fn.pool) l.pool
    × (into_iter_len l.fresh-iterator ≡ length (into_iter_items l.fresh-iterator))
