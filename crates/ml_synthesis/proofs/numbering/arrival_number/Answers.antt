use Rattle.ml_lists.proofs.Added.{added}
use Rattle.ml_synthesis.proofs.Arrivals.{arrival_eq, arrival_eq-same, arrival_eq-refl}
use Rattle.ml_synthesis.proofs.numbering.arrival_number.Goals as goal

pub returns : goal.returns
returns c =
    added arrival_eq arrival_eq-same arrival_eq-refl c.args.arrivals.now.keys c.insert_full.new.self.keys c.args.arrival
    c.in_ok-number.number c.in_ok-number.ensures.keys c.in_ok-number.ensures.stored
