use Rattle.std.proofs.Common.{refl, ◌∙◌}
use Rattle.ml_sequent.proofs.NotedPlaces.{noted_none}
use Rattle.ml_sequent.proofs.notes.Notes.new.Goals as goal

pub returns : goal.returns
returns c = λ ranks choice nodes.
    noted_none c.args.graph.now ranks choice nodes _ refl refl refl
    (c.in_ok-new-2.ensures.room ∙ c.size.ensures.value) (c.in_ok-new.ensures nodes)
