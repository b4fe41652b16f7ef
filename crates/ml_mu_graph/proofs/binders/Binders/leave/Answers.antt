use Rattle.std.proofs.Common.{None, Some, ap, ◌∙◌, sym, unwrap_or}
use Rattle.ml_mu_graph.specs.private.NodeList.{bound}
use Rattle.ml_mu_graph.specs.private.Views.{around}
use Rattle.ml_mu_graph.proofs.Bindings.{put_at}
use Rattle.ml_mu_graph.proofs.binders.Binders.leave.Goals as goal

pub returns-in_ok-insert-in-Some : goal.returns-in_ok-insert-in-Some
returns-in_ok-insert-in-Some c =
    put_at c.args.variable.now c.args.self.now (record { innermost = c.insert.new.self }) (Some c.in-Some.at)
    c.in_ok-insert-in-Some.ensures.updates
    ∙ ap (λ o. bound c.args.variable.now (unwrap_or o 0) (around c.args.self.now)) (sym c.in-Some.is)

pub returns-in-None : goal.returns-in-None
returns-in-None c =
    put_at c.args.variable.now c.args.self.now (record { innermost = c.remove.new.self }) None c.remove.ensures.updates
    ∙ ap (λ o. bound c.args.variable.now (unwrap_or o 0) (around c.args.self.now)) (sym c.in-None.is)
