use Rattle.std.proofs.Common.{◌-◌, ap, drop, length, take}
use Rattle.ml_paths.proofs.ShorterLassos.{cut_read}
use Rattle.ml_paths.proofs.shortening.cut_loop.Goals as goal

pub returns : goal.returns
returns c =
    let s = c.args.loop_start in
    let xs = c.deref.result.now in
    cut_read c.args.states.now.items (take (length xs - s) (drop s xs)) c.truncate.new.self.items s
    c.least_period-period.result c.requires (ap (λ ys. take (length ys - s) (drop s ys)) c.deref.ensures.value)
    c.least_period-period.ensures c.truncate.ensures.items
