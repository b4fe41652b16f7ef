-- One number more is explored, and at the end all are.
use Rattle.std.proofs.Common.{ℕ, ◌≡◌, ◌<◌, ◌≤◌, List, [], length, refl, sym, ap, ◌∙◌, subst, arith}
use Rattle.std.proofs.lemmas.List.{length-map}
use Rattle.ml_graph.specs.Graph.{Graph}
use Rattle.ml_product.specs.declared.pool.Pool.{Pool}
use Rattle.ml_product.specs.declared.recorded.Recorded.{Recorded}
use Rattle.ml_product.specs.declared.stored.Site.{Site}
use Rattle.ml_product.specs.private.Shared.{seen}
use Rattle.ml_product.specs.private.Pools.{positions_of}
use Rattle.ml_product.specs.private.Exploring.{AreTurned, IsUnderway, IsExplored, IsWaiting, AreWaiting, AreRooted}
use Rattle.ml_product.proofs.Roots.{rooted_start}
use Rattle.ml_product.proofs.Underway.{explored_next, explored_waiting, all_long, all_turned}
use Rattle.ml_product.proofs.exploring.turns.Goals as goal

pub loop-v-init : goal.loop-v-init
loop-v-init c =
    let g = c.args.branch.now.graph in
    let b = c.args.pool.now in
    let none = sym c.new-turns.ensures in
    record {
      graph = refl;
      underway = subst (IsUnderway g c.args.limit b) none c.requires.underway;
      waiting = subst (λ (rs : List Recorded). AreWaiting g b rs []) none c.requires.waiting;
      rooted = subst (λ (rs : List Recorded). AreRooted b.positions rs c.new-trees.result.sites.keys
          c.new-trees.result.tops.items) none
          (subst (λ (ks : List Site). AreRooted b.positions [] ks c.new-trees.result.tops.items)
          (sym c.new-trees.ensures.sites)
          (subst (AreRooted b.positions [] []) (sym c.new-trees.ensures.tops) (rooted_start g b c.requires.waiting)));
      done = λ w low waits. absurd (omega arith);
    }

pub loop-v-preserved : goal.loop-v-preserved
loop-v-preserved c =
    let g = c.args.branch.now.graph in
    let l = c.loop-v in
    let explored = subst (λ (h : Graph). IsExplored h c.args.limit l.pool l.turns l.v c.explore_from.new.pool
    c.explore_from.new.turns)
    l.invariant.graph c.in_ok-explore_from.ensures.explored in
    record {
      graph = c.in_ok-explore_from.ensures.graph ∙ l.invariant.graph;
      underway = explored.underway;
      waiting = explored_waiting g c.args.limit l.pool c.explore_from.new.pool l.turns c.explore_from.new.turns l.v
          explored l.invariant.waiting;
      rooted = c.in_ok-explore_from.ensures.rooted;
      done = explored_next g c.args.limit l.pool c.explore_from.new.pool l.turns c.explore_from.new.turns l.v
          explored l.invariant.done;
    }

all_done : (b : Pool) (ts : List Recorded) (n size : ℕ) → ((w : ℕ) → w < n → IsWaiting ts w → ⊥)
    → size ≡ length b.positions
    → size ≤ n
    → (v : ℕ) → v < length (positions_of b) → IsWaiting ts v → ⊥
all_done b ts n size done all high v low =
    let long = length-map b.positions (seen b.sequents.keys b.histories.keys) in done v (omega arith)

pub returns-clause-turned : goal.returns-clause-turned
returns-clause-turned c =
    let l = c.loop-v in
    subst (AreTurned c.args.branch.now.graph c.args.limit l.pool) (sym c.into_vec.ensures)
    (all_turned c.args.branch.now.graph c.args.limit l.pool l.turns l.invariant.underway
    (all_done l.pool l.turns l.v c.len.result l.invariant.done c.len.ensures c.loop-v-test.false))

pub returns-clause-whole : goal.returns-clause-whole
returns-clause-whole c =
    let l = c.loop-v in
    ap length c.into_vec.ensures
    ∙ all_long c.args.branch.now.graph c.args.limit l.pool l.turns l.invariant.underway
    (all_done l.pool l.turns l.v c.len.result l.invariant.done c.len.ensures c.loop-v-test.false)
