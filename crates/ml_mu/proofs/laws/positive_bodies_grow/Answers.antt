use Rattle.ml_mu.proofs.Monotone.{body_grows}
use Rattle.ml_mu.proofs.laws.positive_bodies_grow.Goals as goal

pub returns : goal.returns
returns c = λ m g q x f s t flags positive s_long t_long within. body_grows m q x f g s t positive flags s_long t_long within
