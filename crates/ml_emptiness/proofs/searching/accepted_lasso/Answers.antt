use Rattle.std.proofs.Common.{MatchOption, subst}
use Rattle.ml_emptiness.specs.Emptiness.{IsEmpty, IsFound}
use Rattle.ml_emptiness.specs.Systems.{table_of}
use Rattle.ml_emptiness.proofs.SameRows.{told_of}
use Rattle.ml_emptiness.proofs.searching.accepted_lasso.Goals as goal

pub returns : goal.returns
returns c =
    let s = table_of c.args.system.now in
    told_of c.args.row.now c.in_ok-letters.letters.items s c.in_ok-letters.ensures c.in_ok-lasso.lasso
    (subst
    (λ all. MatchOption c.in_ok-lasso.lasso (IsEmpty all s)
    (λ l. IsFound all s l.states.items l.letters.items l.loop_start)) c.deref.ensures.value c.in_ok-lasso.ensures)
