use Rattle.std.proofs.Common.{arith}
use Rattle.std.proofs.lemmas.List.{length-map}
use Rattle.ml_labelled.specs.private.Views.{edges_in}
use Rattle.ml_labelled.proofs.fitting.are_edges.Goals as goal

pub returns : goal.returns
returns c = λ is.
    let long = length-map c.args.rows.now edges_in in
    record {
      some_state = omega (arith, long);
      few_states = omega (arith, long);
      all_fit = c.rows_fit.ensures is;
    }
