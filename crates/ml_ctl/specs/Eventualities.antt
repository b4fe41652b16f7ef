-- Which formulas ask for something that has to come about: it may be put off, but not for ever.
--
-- F and U do, and so do the negations of G, R and W.
--
--   is_eventual f sign  == does f, or its negation, ask for something that has to come about?
use Rattle.std.specs.Prelude.{Bool, false, not}
use Rattle.ml_ctl.specs.Formula.{Formula, Temporal, Paired}
use Rattle.ml_ctl.specs.declared.term.Tense.TheVariants.{Finally, Globally}
use Rattle.ml_ctl.specs.declared.term.Pairing.TheVariants.{Until, Release, Weak}

abbrev pub is_eventual : Formula → Bool → Bool
is_eventual (Temporal Finally f) sign = sign
is_eventual (Temporal Globally f) sign = not sign
is_eventual (Paired Until f g) sign = sign
is_eventual (Paired Release f g) sign = not sign
is_eventual (Paired Weak f g) sign = not sign
is_eventual f sign = false
