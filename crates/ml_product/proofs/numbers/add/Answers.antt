use Rattle.ml_lists.proofs.Added.{added}
use Rattle.ml_product.proofs.numbers.add.Goals as goal

pub returns : goal.returns
returns g c =
    added g.K.PartialEq.eq c.requires g.met.K.Eq.laws.refl c.args.table.now.keys c.insert_full.new.self.keys c.args.key
    c.in_ok-place.place c.in_ok-place.ensures.keys c.in_ok-place.ensures.stored
