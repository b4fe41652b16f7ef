-- What is noted of the trail is cut with it, and the node is a candidate again.
use Rattle.std.proofs.Common.{◌∙◌}
use Rattle.ml_sequent.proofs.NotedPlaces.{keeps_undone, keeps_left}
use Rattle.ml_sequent.proofs.branch.Branch.undo.Goals as goal

pub invariant_of-self : goal.invariant_of-self
invariant_of-self c = record {
  places = c.back_to.ensures.room ∙ c.self.invariant.places;
  falls = c.self.invariant.falls;
  notes = keeps_undone c.self.inside.phase c.self.inside.descent c.self.inside.choice c.leave-node.new.self
      c.self.inside.trail.nodes c.back_to.new.self.nodes c.in-Some.last.first c.self.inside.notes c.cut.new.self
      c.reopen.new.self
      c.in-Some-node.node c.leave-node.result c.back_to.ensures.nodes c.cut.ensures c.in-Some-node.is
      c.leave-node.ensures.others
      c.reopen.ensures.others c.reopen.ensures.room c.reopen.ensures.kept c.reopen.ensures.added c.self.invariant.notes;
}

pub invariant_of-self-in_default-node : goal.invariant_of-self-in_default-node
invariant_of-self-in_default-node c = record {
  places = c.back_to.ensures.room ∙ c.self.invariant.places;
  falls = c.self.invariant.falls;
  notes = keeps_left c.self.inside.phase c.self.inside.descent c.self.inside.choice c.leave-node.new.self
      c.self.inside.trail.nodes c.back_to.new.self.nodes c.in-Some.last.first c.self.inside.notes c.cut.new.self
      c.leave-node.result c.back_to.ensures.nodes c.cut.ensures c.in_default-node.is c.leave-node.ensures.others
      c.self.invariant.notes;
}
