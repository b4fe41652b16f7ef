use Rattle.std.specs.Global.{Vec}
use Rattle.std.proofs.Common.{ℕ, List, ap, ◌∙◌, ◌≡◌, ◌∷◌, [], length, map, get_or, sym, subst, arith, append_assoc, ◌++◌}
use Rattle.std.proofs.lemmas.List.{length-append, length-map, map-append, get_or-map}
use Rattle.std.proofs.lemmas.Option.{slice_get_within}
use Rattle.ml_parity.specs.Refusal.{lists_of}
use Rattle.ml_refutation.specs.Refutation.{Decision}
use Rattle.ml_refutation.specs.Views.{decision_of, entry_of}
use Rattle.ml_refute.specs.private.PutTogether.{ArePut}
use Rattle.ml_refute.specs.private.Tables.{entries_in}
use Rattle.ml_refute.proofs.PuttingTogether.{vertex_low, put_none, put_next, row_low}
use Rattle.ml_refute.proofs.making.entries_of.Goals as goal

pub vertex_at-requires : goal.vertex_at-requires
vertex_at-requires c =
    let tables = c.loop-decision.tables in
    let whole = ap length c.loop-decision.invariant.3 in
    let next = ap length c.in-Some.ensures.steps.0 in
    omega (
      arith,
      whole,
      next,
      length-append c.loop-decision.yielded c.loop-decision.decision-iterator.rest.items,
      c.loop-decision.invariant.2.an_entry_each,
      length-map c.loop-decision.yielded decision_of,
      length-map tables.entries.items (entry_of tables.sequents tables.stacks),
      c.len-e.ensures,
      tables.entries.ok,
      c.requires.all,
    )

pub position-view-requires : goal.position-view-requires
position-view-requires c =
    vertex_low c.args.game.now.graph.now c.args.game.now.arena.now c.args.game.now.solution.now
    c.args.found.vertices.keys c.requires.numbered c.len-e.result c.vertex_at.result c.vertex_at.ensures

pub push-requires-clause-low : goal.push-requires-clause-low
push-requires-clause-low c =
    let low = slice_get_within c.args.found.vertices.keys c.len-e.result c.vertex_at.result c.vertex_at.ensures in
    let row : c.deref.result.now ≡ get_or (lists_of c.args.rows.now) c.len-e.result [] =
    c.deref.ensures.value ∙ ap (λ (x : Vec ℕ). x.items) c.index-rows-e.is
    ∙ sym (get_or-map (λ (x : Vec ℕ). x.items) c.args.rows.now c.len-e.result c.index-rows-e.result []
    (omega (arith, low, c.requires.a_row_each))) in
    row_low 4294967295 (lists_of c.args.rows.now) c.len-e.result c.deref.result.now c.requires.low row

pub loop-decision-init : goal.loop-decision-init
loop-decision-init c = (
  tt,
  tt,
  subst (λ es. ArePut c.args.game.now.graph.now c.args.game.now.arena.now c.args.found.vertices.keys
      (lists_of c.args.rows.now) [] (map (entry_of c.in_ok-tables.tables.sequents c.in_ok-tables.tables.stacks) es))
      (sym c.in_ok-tables.ensures)
      (put_none c.args.game.now.graph.now c.args.game.now.arena.now c.args.found.vertices.keys
      (lists_of c.args.rows.now)),
  c.into_iter-decision-iterator.ensures.into_iter_gives.0,
  λ k d low. absurd (omega (arith, low, ap length c.in_ok-tables.ensures)),
)

pub loop-decision-preserved : goal.loop-decision-preserved
loop-decision-preserved c =
    let tables = c.loop-decision.tables in
    let low = slice_get_within c.args.found.vertices.keys c.len-e.result c.vertex_at.result c.vertex_at.ensures in
    let row : c.deref.result.now ≡ get_or (lists_of c.args.rows.now) c.len-e.result [] =
    c.deref.ensures.value ∙ ap (λ (x : Vec ℕ). x.items) c.index-rows-e.is
    ∙ sym (get_or-map (λ (x : Vec ℕ). x.items) c.args.rows.now c.len-e.result c.index-rows-e.result []
    (omega (arith, low, c.requires.a_row_each))) in
    let place : c.len-e.result ≡ length (entries_in tables) =
    omega (
      arith,
      c.len-e.ensures,
      tables.entries.ok,
      length-map tables.entries.items (entry_of tables.sequents tables.stacks),
    ) in
    let put =
    put_next c.args.game.now.graph.now c.args.game.now.arena.now c.args.found.vertices.keys c.args.odds.now
    c.deref.result.now (lists_of c.args.rows.now) (map decision_of c.loop-decision.yielded) (entries_in tables)
    (entries_in c.push.new.self) (decision_of c.in-Some.decision) _ c.vertex_at.result c.len-e.result
    c.loop-decision.invariant.2 place c.vertex_at.ensures c.position-view.ensures c.requires.odds row
    c.in_ok-push.ensures.put in (
      tt,
      tt,
      subst (λ (ds : List Decision). ArePut c.args.game.now.graph.now c.args.game.now.arena.now
          c.args.found.vertices.keys (lists_of c.args.rows.now) ds (entries_in c.push.new.self))
          (sym (map-append decision_of c.loop-decision.yielded (c.in-Some.decision ∷ []))) put,
      append_assoc c.loop-decision.yielded (c.in-Some.decision ∷ []) c.next.new.self.rest.items
          ∙ ap (λ xs. c.loop-decision.yielded ++ xs) (sym c.in-Some.ensures.steps.0)
          ∙ c.loop-decision.invariant.3,
      c.in_ok-push.ensures.named,
    )
