use Rattle.ml_lists.proofs.Added.{added}
use Rattle.ml_nodes.proofs.numbering.add.Goals as goal

pub returns : goal.returns
returns g c =
    added _ c.requires.same c.requires.own c.args.values.now.keys c.insert_full.new.self.keys c.args.value
    c.in_ok-place.place c.in_ok-place.ensures.keys c.in_ok-place.ensures.stored
