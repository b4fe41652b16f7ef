use Rattle.std.proofs.Common.{ap, sym, ◌∙◌, subst}
use Rattle.ml_graph.specs.Graph.{size}
use Rattle.ml_sequent.specs.private.Descents.{Falls}
use Rattle.ml_sequent.specs.private.Notes.{KeepsNotes}
use Rattle.ml_sequent.specs.private.Trails.{TrailList}
use Rattle.ml_sequent.proofs.branch.Branch.new.Goals as goal

pub invariant_of-result : goal.invariant_of-result
invariant_of-result c =
    let same = c.in_ok-phase.ensures in
    record {
      places = ap (λ (t : TrailList). t.room) c.in_ok-trail.ensures ∙ c.size.ensures.value ∙ ap size (sym same);
      falls = subst (λ g. Falls g c.in_ok-descent.descent) (sym same) c.in_ok-descent.ensures;
      notes = subst (λ g. KeepsNotes g c.in_ok-descent.descent c.empty-2.result c.in_ok-trail.trail.nodes
          c.in_ok-notes.notes) (sym same)
          (c.in_ok-notes.ensures c.in_ok-descent.descent c.empty-2.result c.in_ok-trail.trail.nodes);
    }
