-- Where no place has a conflict or may lie on a cycle, nothing clashes.
use Rattle.std.proofs.Common.{rules, ◌≡◌, false, subst}
use Rattle.ml_sequent.specs.declared.clashes.ClashCause.{ClashCause}
use Rattle.ml_sequent.specs.Branch.{BranchList}
use Rattle.ml_sequent.specs.Spread.{IsCause}
use Rattle.ml_sequent.specs.private.Notes.{IsNoted}
use Rattle.ml_sequent.proofs.NotedClashes.{none_clashes, none_when}
use Rattle.ml_sequent.proofs.branch.Branch.is_calm.Goals as goal

pub returns-clause-calm : goal.returns-clause-calm
returns-clause-calm c = λ calm.
    let a = c.self.inside in
    let y = c.note_all.new.self in
    let noted = subst (λ g. IsNoted g a.descent a.trail.nodes y.done y) c.graph-graph.ensures
    c.note_all.ensures.noted in
    let no_conflict = none_when y.conflict c.has_conflict.result c.has_conflict.ensures c.if-has_conflict.false in
    let other : c.has_suspect.result ≡ false = search (rules, calm) in
    let no_suspect = none_when y.suspect c.has_suspect.result c.has_suspect.ensures other in
    subst (λ (b : BranchList). (x : ClashCause) → IsCause b.graph b.spread x → ⊥) c.self.view_is
    (none_clashes a.phase a.descent a.trail.nodes a.choice y noted c.self.invariant.falls c.note_all.ensures.done
    no_conflict
    no_suspect)
