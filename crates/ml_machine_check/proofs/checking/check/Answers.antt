use Rattle.std.proofs.Common.{◌+◌, ◌^◌, true, false, length, sym, ap, subst, ◌∙◌}
use Rattle.ml_emptiness.specs.Systems.{IsSystem, table_of}
use Rattle.ml_synthesis.specs.Machines.{EnvironmentGoes, MachineGoes}
use Rattle.ml_task.specs.Task.{task_of}
use Rattle.ml_machine_check.specs.Checked.{Fits, IsChecked}
use Rattle.ml_machine_check.specs.private.AsSystems.{AreMovesOf, IsFoundIn}
use Rattle.ml_machine_check.proofs.AsSystems.{checked_environment, checked_machine, environment_is, machine_is}
use Rattle.ml_machine_check.proofs.checking.check.Goals as goal

pub check_system-requires : goal.check_system-requires
check_system-requires c =
    let t = task_of c.args.task.now.inputs.items c.args.task.now.outputs.items c.args.task.now.formula in
    let m = c.in-Made.machine in
    let fits = subst (Fits t) c.in-Made.is c.requires in
    let inputs = c.len.ensures ∙ c.args.task.now.inputs.ok.0 in
    subst (IsSystem (2 ^ (length t.inputs + length t.outputs))) (sym (ap table_of c.deref.ensures.value))
    (machine_is (length t.inputs) (length t.outputs) m fits (table_of c.in_ok-system-in-Made.system.items)
    (subst (λ i. AreMovesOf (MachineGoes i m) (length m) (table_of c.in_ok-system-in-Made.system.items)) inputs
    c.in_ok-system-in-Made.ensures))

pub check_system-requires-in-Defeated : goal.check_system-requires-in-Defeated
check_system-requires-in-Defeated c =
    let t = task_of c.args.task.now.inputs.items c.args.task.now.outputs.items c.args.task.now.formula in
    let e = c.in-Defeated.environment in
    let fits = subst (Fits t) c.in-Defeated.is c.requires in
    let inputs = c.len.ensures ∙ c.args.task.now.inputs.ok.0 in
    let outputs = c.len-2.ensures ∙ c.args.task.now.outputs.ok.0 in
    subst (IsSystem (2 ^ (length t.inputs + length t.outputs))) (sym (ap table_of c.deref-in-Defeated.ensures.value))
    (environment_is (length t.inputs) (length t.outputs) e fits (table_of c.in_ok-system-in-Defeated.system.items)
    (subst (λ o. AreMovesOf (EnvironmentGoes (length t.inputs) o e) (length e.plays) (table_of c.in_ok-system-in-Defeated.system.items)) outputs
    (subst (λ i. AreMovesOf (EnvironmentGoes i c.len-2.result e) (length e.plays) (table_of c.in_ok-system-in-Defeated.system.items)) inputs
    c.in_ok-system-in-Defeated.ensures)))

pub returns-in_ok-found-in-Made : goal.returns-in_ok-found-in-Made
returns-in_ok-found-in-Made c =
    let t = task_of c.args.task.now.inputs.items c.args.task.now.outputs.items c.args.task.now.formula in
    let m = c.in-Made.machine in
    let fits = subst (Fits t) c.in-Made.is c.requires in
    let inputs = c.len.ensures ∙ c.args.task.now.inputs.ok.0 in
    let s = table_of c.in_ok-system-in-Made.system.items in
    let x = c.in_ok-found-in-Made.found in
    subst (λ r. IsChecked t r x) (sym c.in-Made.is)
    (checked_machine t c.args.task.now.is_task s m fits
    (subst (λ i. AreMovesOf (MachineGoes i m) (length m) s) inputs c.in_ok-system-in-Made.ensures) x
    (subst (λ u. IsFoundIn t true u x) (ap table_of c.deref.ensures.value) c.in_ok-found-in-Made.ensures))

pub returns-in_ok-found-in-Defeated : goal.returns-in_ok-found-in-Defeated
returns-in_ok-found-in-Defeated c =
    let t = task_of c.args.task.now.inputs.items c.args.task.now.outputs.items c.args.task.now.formula in
    let e = c.in-Defeated.environment in
    let fits = subst (Fits t) c.in-Defeated.is c.requires in
    let inputs = c.len.ensures ∙ c.args.task.now.inputs.ok.0 in
    let outputs = c.len-2.ensures ∙ c.args.task.now.outputs.ok.0 in
    let s = table_of c.in_ok-system-in-Defeated.system.items in
    let x = c.in_ok-found-in-Defeated.found in
    subst (λ r. IsChecked t r x) (sym c.in-Defeated.is)
    (checked_environment t c.args.task.now.is_task s e fits
    (subst (λ o. AreMovesOf (EnvironmentGoes (length t.inputs) o e) (length e.plays) s) outputs
    (subst (λ i. AreMovesOf (EnvironmentGoes i c.len-2.result e) (length e.plays) s) inputs c.in_ok-system-in-Defeated.ensures)) x
    (subst (λ u. IsFoundIn t false u x) (ap table_of c.deref-in-Defeated.ensures.value) c.in_ok-found-in-Defeated.ensures))
