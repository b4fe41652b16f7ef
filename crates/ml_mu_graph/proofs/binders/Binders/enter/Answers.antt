use Rattle.std.proofs.Common.{Some}
use Rattle.ml_mu_graph.proofs.Bindings.{put_at}
use Rattle.ml_mu_graph.proofs.binders.Binders.enter.Goals as goal

pub returns-clause-inside : goal.returns-clause-inside
returns-clause-inside c =
    put_at c.args.variable.now c.args.self.now (record { innermost = c.insert.new.self }) (Some c.args.at)
    c.in_ok-insert.ensures.updates
