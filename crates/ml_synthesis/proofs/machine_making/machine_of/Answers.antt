-- One state more, until each has its steps.
use Rattle.std.proofs.Common.{◌≡◌, ◌/◌, [], ◌∷◌, length, map, slice_get, sym, ap, ◌∙◌, subst, arith, length-append}
use Rattle.std.specs.Global.{Vec}
use Rattle.std.proofs.lemmas.List.{length-map, map_push}
use Rattle.std.proofs.lemmas.Option.{slice_get_within}
use Rattle.ml_synthesis.specs.Synthesis.{nexts}
use Rattle.ml_synthesis.specs.declared.machines.MachineStep.{MachineStep}
use Rattle.ml_synthesis.specs.private.Numbered.{IsMachineMet}
use Rattle.ml_synthesis.proofs.Choices.{states_some}
use Rattle.ml_synthesis.proofs.MachineSteps.{machine_first, machine_more}
use Rattle.ml_synthesis.proofs.RowsMet.{few_numbers, met_all}
use Rattle.ml_synthesis.proofs.machine_making.machine_of.Goals as goal

pub loop-state-init : goal.loop-state-init
loop-state-init c =
    let a = c.args.arena.now in
    subst (λ xs. IsMachineMet a.input_sets a.base a.arrivals.keys a.game c.args.solution.now.choice
    c.in_ok-states.states.keys (map (λ (row : Vec MachineStep). row.items) xs)) (sym c.new-steps.ensures.items)
    (subst (λ ks. IsMachineMet a.input_sets a.base a.arrivals.keys a.game c.args.solution.now.choice ks [])
    (sym c.in_ok-states.ensures) (machine_first a.input_sets a.base a.arrivals.keys a.game c.args.solution.now.choice
    (states_some a.input_sets a.base a.arrivals.keys a.game c.args.solution.now c.requires.solved)))

pub loop-state-smaller : goal.loop-state-smaller
loop-state-smaller c =
    let a = c.args.arena.now in
    let l = c.loop-state in
    let here = ap (slice_get l.states.keys) (sym (c.len.ensures ∙ l.steps.ok.0)) ∙ sym c.in-Some.ensures in
    let place = slice_get_within l.states.keys (length l.steps.items) c.in-Some.state here in
    let few = few_numbers 0 (a.base / a.input_sets) l.states.keys l.invariant.met.numbers in
    let one = ap length c.in_ok-push.ensures.items ∙ length-append l.steps.items (c.in_ok-steps_of.field-0 ∷ []) in
    omega (arith, place, few, one)

pub loop-state-preserved : goal.loop-state-preserved
loop-state-preserved c =
    let a = c.args.arena.now in
    let l = c.loop-state in
    let table = map (λ (row : Vec MachineStep). row.items) l.steps.items in
    let long : length table ≡ length l.steps.items = length-map l.steps.items (λ (row : Vec MachineStep). row.items) in
    subst (IsMachineMet a.input_sets a.base a.arrivals.keys a.game c.args.solution.now.choice
    c.steps_of.new.states.keys) (sym (ap (map (λ (row : Vec MachineStep). row.items)) c.in_ok-push.ensures.items
    ∙ map_push (λ (row : Vec MachineStep). row.items) l.steps.items c.in_ok-steps_of.field-0))
    (machine_more a.input_sets a.base a.arrivals.keys a.game c.args.solution.now.choice l.states.keys
    c.steps_of.new.states.keys table c.in-Some.state c.in_ok-steps_of.field-0.items l.invariant
    (ap (slice_get l.states.keys) (long ∙ sym (c.len.ensures ∙ l.steps.ok.0)) ∙ sym c.in-Some.ensures)
    c.in_ok-steps_of.ensures.steps c.in_ok-steps_of.ensures.met)

pub steps_of-requires-clause-state : goal.steps_of-requires-clause-state
steps_of-requires-clause-state c =
    let l = c.loop-state in
    l.invariant.met.numbers.low (length l.steps.items) c.in-Some.state
    (ap (slice_get l.states.keys) (sym (c.len.ensures ∙ l.steps.ok.0)) ∙ sym c.in-Some.ensures)

pub steps_of-requires-clause-numbers : goal.steps_of-requires-clause-numbers
steps_of-requires-clause-numbers c = c.loop-state.invariant.met.numbers

pub returns : goal.returns
returns c =
    let a = c.args.arena.now in
    let l = c.loop-state in
    let table = map (λ (row : Vec MachineStep). row.items) l.steps.items in
    let long = length-map l.steps.items (λ (row : Vec MachineStep). row.items) in
    let rows = length-map table nexts in
    record {
      states = l.states.keys;
      met = l.invariant;
      all =
          sym rows
          ∙ met_all 0 (a.base / a.input_sets) l.states.keys (map nexts table) l.invariant.met c.len.result
          (c.len.ensures ∙ l.steps.ok.0 ∙ sym long ∙ sym rows) (sym c.in_default.ensures);
    }
