use Rattle.ml_mu.proofs.Fixpoints.{meaning_fixpoint, least_within, greatest_around}
use Rattle.ml_mu.proofs.laws.binders_mean_fixpoints.Goals as goal

pub returns : goal.returns
returns c = record {
  fixpoint = λ m g q x f flags positive. meaning_fixpoint m q x f g positive flags;
  least = λ m g x f s flags positive long keeps. least_within m x f g s positive flags long keeps;
  greatest = λ m g x f s flags positive long keeps. greatest_around m x f g s positive flags long keeps;
}
