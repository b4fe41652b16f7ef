use Rattle.ml_refute.proofs.Entries.{Extraction}
use Rattle.ml_refute.proofs.GoCycles.{no_even_cycle}
use Rattle.ml_refute.proofs.GoGraph.{is_one_sided}
use Rattle.ml_refute.proofs.laws.no_even_cycle.Goals as goal

pub returns : goal.returns
returns c = record {
  law = λ g a s r arena solution odd o.
      let X : Extraction = record { g = g; a = a; arena = arena; s = s; r = r; o = o } in
      (is_one_sided X, no_even_cycle X solution odd);
}
