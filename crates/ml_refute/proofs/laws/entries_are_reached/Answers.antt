use Rattle.ml_refute.proofs.Entries.{Extraction}
use Rattle.ml_refute.proofs.ReachedByOdd.{are_reached}
use Rattle.ml_refute.proofs.laws.entries_are_reached.Goals as goal

pub returns : goal.returns
returns c = record {
  law = λ g a s r arena solution o.
      let X : Extraction = record { g = g; a = a; arena = arena; s = s; r = r; o = o } in
      are_reached X solution;
}
