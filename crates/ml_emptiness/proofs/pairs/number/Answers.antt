use Rattle.ml_lists.proofs.Added.{added}
use Rattle.ml_emptiness.proofs.EqualPairs.{pair_eq, pair_eq-refl, pair_eq-same}
use Rattle.ml_emptiness.proofs.pairs.number.Goals as goal

pub returns : goal.returns
returns c = record {
  added =
      added pair_eq pair_eq-same pair_eq-refl c.args.pairs.now.keys c.insert_full.new.self.keys c.args.pair
      c.in_ok-insert_full.field-0.0 c.in_ok-insert_full.ensures.keys c.in_ok-insert_full.ensures.stored;
  longer = c.in_ok-insert_full.ensures.len;
}
