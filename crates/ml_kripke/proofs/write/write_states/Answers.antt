use Rattle.std.proofs.Common.{◌≡◌, ◌<◌, ◌≤◌, All, length, map, get_or, sym, ◌∙◌, ap, arith}
use Rattle.std.proofs.lemmas.Grind.{common_steps}
use Rattle.std.proofs.lemmas.List.{get_or-map, length-map}
use Rattle.ml_base.specs.Name.{IsName}
use Rattle.ml_lists.proofs.Members.{All-more_read, All-read}
use Rattle.ml_kripke.proofs.WrittenStates.{states_more}
use Rattle.ml_kripke.proofs.write.write_states.Goals as goal

pub loop-state-preserved : goal.loop-state-preserved
loop-state-preserved c =
    let rows = map (λ row. row.items) c.args.rows.now in
    let s = c.loop-state.state in
    let labels = c.deref.result.now in
    let row = c.index-rows-state.result in
    let here : s < length rows = omega (arith, length-map c.args.rows.now (λ row. row.items)) in
    let is : labels ≡ get_or rows s labels =
    c.deref.ensures.value ∙ ap (λ row. row.items) c.index-rows-state.is
    ∙ sym (get_or-map (λ row. row.items) c.args.rows.now s row labels c.loop-state-test.true) in (
      states_more rows s labels c.loop-state.out.items c.write_state.new.out.items _ here is c.loop-state.invariant.0
          c.in_ok-write_state.ensures.text,
      All-more_read (All IsName) rows s labels here is c.in_ok-write_state.ensures.named c.loop-state.invariant.1,
      grind (arith, common_steps),
    )

pub returns-clause-named : goal.returns-clause-named
returns-clause-named c =
    let rows = map (λ row. row.items) c.args.rows.now in
    let past : length rows ≤ c.loop-state.state = omega (arith, length-map c.args.rows.now (λ row. row.items)) in
    All-read (All IsName) rows c.loop-state.state past c.loop-state.invariant.1
