use Rattle.ml_lists.proofs.Added.{added}
use Rattle.ml_translate.proofs.PlaceEquality.{place_eq, place_eq-refl, place_eq-same}
use Rattle.ml_translate.proofs.finding.add_place.Goals as goal

pub returns : goal.returns
returns c =
    added place_eq place_eq-same place_eq-refl c.args.places.now.keys c.insert_full.new.self.keys c.args.place
    c.in_ok-at.at c.in_ok-at.ensures.keys c.in_ok-at.ensures.stored
