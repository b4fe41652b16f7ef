use Rattle.std.proofs.Common.{◌≡◌, ◌∙◌, arith}
use Rattle.std.proofs.lemmas.Iterator.Adapters.{YieldsList-from_vec}
use Rattle.std.proofs.lemmas.Iterator.Consumers.{YieldsList-turn}
use Rattle.ml_kripke.proofs.LabelRows.{rows_none, length_rows, row_pushed, label_in_range}
use Rattle.ml_kripke.proofs.structure.rows.Goals as goal

pub loop-state-init : goal.loop-state-init
loop-state-init c =
    let all : c.loop.counter ≡ c.args.states = omega arith in
    (tt, tt, rw all at (c.loop.invariant ∙ rows_none 0 c.loop.counter))

pub index_mut-requires : goal.index_mut-requires
index_mut-requires c =
    let turn =
    YieldsList-turn (YieldsList-from_vec c.args.labels.items (cc) (cc)) c.loop-state.yielded c.loop-state.state-iterator
    c.loop-state.yielded_by c.next.result c.next.new.self (c.in-Some.state, c.in-Some.label) c.in-Some.is
    c.next.ensures.steps
    in
    let below = label_in_range c.args.labels.items c.args.states _ (c.in-Some.state, c.in-Some.label) c.requires turn.0 turn.1 in
    let long = length_rows (λ row. row.items) c.loop-state.rows.items c.loop-state.yielded c.args.states c.loop-state.invariant.2 in
    omega arith

pub loop-state-preserved : goal.loop-state-preserved
loop-state-preserved c =
    let turn =
    YieldsList-turn (YieldsList-from_vec c.args.labels.items (cc) (cc)) c.loop-state.yielded c.loop-state.state-iterator
    c.loop-state.yielded_by c.next.result c.next.new.self (c.in-Some.state, c.in-Some.label) c.in-Some.is
    c.next.ensures.steps
    in
    let below = label_in_range c.args.labels.items c.args.states _ (c.in-Some.state, c.in-Some.label) c.requires turn.0 turn.1 in (
      tt,
      tt,
      row_pushed (λ row. row.items) c.loop-state.rows.items c.loop-state.yielded c.args.states c.in-Some.state c.in-Some.label
          c.index_mut.result.now c.push-in-loop-state.new.self below c.loop-state.invariant.2 c.index_mut.ensures.value c.in_ok-push-2.ensures.items,
    )
