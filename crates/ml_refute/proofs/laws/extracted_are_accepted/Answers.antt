use Rattle.ml_refute.proofs.Accepted.{extracted_accepted}
use Rattle.ml_refute.proofs.WellFormed.{extracted_refutation}
use Rattle.ml_refute.proofs.laws.extracted_are_accepted.Goals as goal

pub returns : goal.returns
returns c = record {
  law = λ g a s r arena is. extracted_accepted (record { g = g; a = a; arena = arena; s = s; r = r; o = is.outline }) is.heights;
  is_refutation = λ g a s r g_ok small priorities_fit positions_fit arena is.
      extracted_refutation (record { g = g; a = a; arena = arena; s = s; r = r; o = is.outline }) g_ok small is.heights
      priorities_fit positions_fit;
}
