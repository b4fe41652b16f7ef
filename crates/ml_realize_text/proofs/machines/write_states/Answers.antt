use Rattle.std.proofs.Common.{◌≡◌, ◌++◌, [], get_or, sym, ap, ◌∙◌, arith}
use Rattle.std.proofs.lemmas.List.{get_or-map, length-map}
use Rattle.std.specs.Global.{Vec}
use Rattle.std.specs.List.{enumerate_from, flat_map}
use Rattle.ml_lines.specs.Lines.{text_of}
use Rattle.ml_synthesis.specs.declared.machines.MachineStep.{MachineStep}
use Rattle.ml_realize_text.specs.RealizeText.{machine_state_lines}
use Rattle.ml_realize_text.specs.private.Rows.{steps_of}
use Rattle.ml_realize_text.proofs.WrittenParts.{rows_more}
use Rattle.ml_realize_text.proofs.machines.write_states.Goals as goal

pub loop-state-preserved : goal.loop-state-preserved
loop-state-preserved c =
    let l = c.loop-state in
    let lines = machine_state_lines c.args.inputs.now c.args.outputs.now in
    let rows = steps_of c.args.rows.now in
    let items = λ (row : Vec MachineStep). row.items in
    let long = length-map c.args.rows.now items in
    let row : c.deref.result.now ≡ get_or rows l.state [] =
    c.deref.ensures.value ∙ ap items c.index-rows-state.is
    ∙ sym (get_or-map items c.args.rows.now l.state c.index-rows-state.result [] c.loop-state-test.true) in
    rows_more lines rows l.state [] l.out.items c.write_state.new.out.items
    (c.args.out.now.items ++ text_of (flat_map lines (enumerate_from 0 rows))) (omega arith) l.invariant
    (c.in_ok-write_state.ensures ∙ ap (λ steps. l.out.items ++ text_of (lines (l.state, steps))) row)
