-- One more is put behind those that wait, unless it waits or has the top.
use Rattle.std.proofs.Common.{sym, subst}
use Rattle.ml_progress.specs.private.Waits.{IsWaiting}
use Rattle.std.proofs.Common.{set, true}
use Rattle.ml_progress.proofs.Queues.{wait_added}
use Rattle.ml_progress.proofs.waiting.Waiting.add.Goals as goal

pub returns-clause-waiting : goal.returns-clause-waiting
returns-clause-waiting c =
    subst (IsWaiting (set c.args.self.now.flags.items c.args.vertex true)) (sym c.in_ok-push_back.ensures.items)
    (wait_added c.args.vertex c.args.self.now.flags.items c.args.self.now.queue.items c.requires.low c.requires.waiting)
