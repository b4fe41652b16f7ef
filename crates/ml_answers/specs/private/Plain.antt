-- A refutation that is read, as a plain value. Private contracts and proofs cite this.
--
--   plain r == the plain refutation
use Rattle.ml_refutation.specs.Refutation as spec
use Rattle.ml_refutation.specs.Views.{of_parts}
use Rattle.ml_refutation.specs.declared.refutation.Refutation as held

abbrev pub plain : held.Refutation → spec.Refutation
plain r = of_parts r.names r.sequents r.stacks r.entries
