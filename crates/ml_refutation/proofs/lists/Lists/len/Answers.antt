use Rattle.std.proofs.Common.{length, ap, arith}
use Rattle.ml_refutation.proofs.Rows.{rows_length}
use Rattle.ml_refutation.proofs.lists.Lists.len.Goals as goal

pub returns : goal.returns
returns c =
    let a = c.self.inside in
    omega (arith, c.len.ensures, a.ends.ok.0, rows_length 0 a.ends.items a.numbers.items, ap length c.self.view_is)
