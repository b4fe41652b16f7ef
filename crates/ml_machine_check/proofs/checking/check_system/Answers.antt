use Rattle.std.proofs.Common.{ℕ, subst, sym}
use Rattle.ml_emptiness.specs.Systems.{IsWordOn, table_of}
use Rattle.ml_lists.specs.Lasso.{Lasso}
use Rattle.ml_task.specs.Task.{task_of}
use Rattle.ml_trace.specs.WordAutomata.{WordLasso}
use Rattle.ml_machine_check.specs.private.AsSystems.{IsSought, IsSoughtIn}
use Rattle.ml_machine_check.proofs.WordsRead.{not_large}
use Rattle.ml_machine_check.proofs.checking.check_system.Goals as goal

pub returns-in-Some : goal.returns-in-Some
returns-in-Some c =
    let t = task_of c.args.task.now.inputs.items c.args.task.now.outputs.items c.args.task.now.formula in
    let s = table_of c.args.system.now in (
      not_large t c.args.negated c.in-Ok.automaton c.in-Ok.ensures.automaton c.in-Ok.ensures.fits,
      subst (λ (w : WordLasso ℕ). (lasso : Lasso) × IsWordOn s lasso w × IsSought t c.args.negated w) (sym c.new.ensures)
          (subst (IsSoughtIn t c.args.negated s) c.in-Some.is c.in_ok-lasso.ensures),
    )

pub returns : goal.returns
returns c =
    let t = task_of c.args.task.now.inputs.items c.args.task.now.outputs.items c.args.task.now.formula in (
      not_large t c.args.negated c.in-Ok.automaton c.in-Ok.ensures.automaton c.in-Ok.ensures.fits,
      subst (IsSoughtIn t c.args.negated (table_of c.args.system.now)) c.in-None.is c.in_ok-lasso.ensures,
    )
