use Rattle.ml_refutation_text.proofs.MetLists.{lists_put, place_put}
use Rattle.ml_refutation_text.proofs.table.put.Goals as goal

pub returns-clause-place : goal.returns-clause-place
returns-clause-place c =
    let known = c.in_ok-place.ensures in
    place_put c.args.lists.now.keys c.insert_full.new.self.keys c.args.list c.in_ok-place.place known.keys known.index
    known.within

pub returns-clause-lists : goal.returns-clause-lists
returns-clause-lists c = lists_put c.args.lists.now.keys c.insert_full.new.self.keys c.args.list c.in_ok-place.ensures.keys
