-- The least candidate that is open is the least open or-node.
use Rattle.std.proofs.Common.{ℕ, MatchOption, subst}
use Rattle.ml_sequent.specs.Branch.{BranchList}
use Rattle.ml_sequent.specs.Spread.{IsOpenOr, IsLeastOpenOr}
use Rattle.ml_sequent.specs.private.ConnectedParts.{IsLeast}
use Rattle.ml_sequent.specs.private.Notes.{IsNoted, HasOpen, IsOpenAt}
use Rattle.ml_sequent.specs.private.Tournament.{Holds}
use Rattle.ml_sequent.proofs.NotedPlaces.{keeps_looked}
use Rattle.ml_sequent.proofs.NotedClashes.{least_told}
use Rattle.ml_sequent.proofs.branch.Branch.open_or.Goals as goal

pub invariant_of-self : goal.invariant_of-self
invariant_of-self c =
    let a = c.self.inside in
    let y = c.note_all.new.self in
    let z = c.least_open.new.self in
    let has = c.note_all.ensures.has_open a.choice in
    record {
      places = c.self.invariant.places;
      falls = c.self.invariant.falls;
      notes = keeps_looked a.phase a.descent a.choice a.trail.nodes y z c.note_all.ensures.done
          (subst (λ g. IsNoted g a.descent a.trail.nodes y.done y) c.graph-graph.ensures c.note_all.ensures.noted)
          (subst (λ g. HasOpen g a.choice a.trail.nodes a.notes.done a.notes.candidates
          → HasOpen g a.choice a.trail.nodes y.done y.candidates) c.graph-graph.ensures has
          c.self.invariant.notes.has_open)
          c.least_open.ensures.others c.least_open.ensures.room
          (subst (λ g. (n : ℕ) → Holds y.candidates n → IsOpenAt g a.choice a.trail.nodes n → Holds z.candidates n)
          c.graph-graph.ensures c.least_open.ensures.kept);
    }

pub returns-clause-least : goal.returns-clause-least
returns-clause-least c =
    let a = c.self.inside in
    let y = c.note_all.new.self in
    let has = c.note_all.ensures.has_open a.choice in
    subst (λ (b : BranchList). MatchOption c.least_open.result ((n : ℕ) → IsOpenOr b.graph b.spread n → ⊥)
    (IsLeastOpenOr b.graph b.spread)) c.self.view_is
    (least_told a.phase a.choice a.trail.nodes y.done y.candidates c.least_open.result c.note_all.ensures.done
    (subst (λ g. HasOpen g a.choice a.trail.nodes a.notes.done a.notes.candidates
    → HasOpen g a.choice a.trail.nodes y.done y.candidates) c.graph-graph.ensures has c.self.invariant.notes.has_open)
    (subst (λ g. IsLeast (λ n. Holds y.candidates n × IsOpenAt g a.choice a.trail.nodes n) c.least_open.result)
    c.graph-graph.ensures c.least_open.ensures.least))
