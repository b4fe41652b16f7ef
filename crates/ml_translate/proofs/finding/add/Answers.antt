use Rattle.ml_translate.proofs.FoundPlaces.{grown_one}
use Rattle.ml_translate.proofs.finding.add.Goals as goal

pub returns-clause-grown : goal.returns-clause-grown
returns-clause-grown c =
    grown_one c.args.places.now.keys c.add_place.new.places.keys c.args.place c.in_ok-_number._number c.in_ok-_number.ensures
