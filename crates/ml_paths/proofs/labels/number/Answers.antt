use Rattle.std.proofs.Common.{bytes_eq, refl}
use Rattle.std.proofs.lemmas.Slice.Eq.{bytes_eq-Decides}
use Rattle.ml_lists.proofs.Added.{added}
use Rattle.ml_paths.proofs.labels.number.Goals as goal

pub returns : goal.returns
returns c =
    added bytes_eq (λ x y e. (bytes_eq-Decides x y).0 e) (λ x. (bytes_eq-Decides x x).1 refl) c.args.labels.now.keys
    c.insert_full.new.self.keys c.args.label c.in_ok-at.at c.in_ok-at.ensures.keys c.in_ok-at.ensures.stored
