use Rattle.std.proofs.Common.{subst, sym}
use Rattle.ml_lists.specs.Lasso.{Lasso}
use Rattle.ml_paths.specs.private.Shortening.{IsShortened}
use Rattle.ml_paths.proofs.ShorterLassos.{shortened}
use Rattle.ml_paths.proofs.shortening.shortest_path.Goals as goal

pub returns : goal.returns
returns c =
    let l : Lasso = record { entries = c.args.states.items; start = c.args.loop_start } in
    let mid : Lasso = record { entries = c.cut_loop.new.states.items; start = c.args.loop_start } in
    let k : Lasso = record { entries = c.roll_back-loop_start.new.states.items; start = c.roll_back-loop_start.result } in
    subst (λ p. IsShortened p l) (sym c.new.ensures) (shortened l mid k c.cut_loop.ensures c.roll_back-loop_start.ensures)
