use Rattle.std.proofs.Common.{rules, ◌<◌, ◌∙◌, ◌↔◌, IsTrue, false, length, sym, subst}
use Rattle.std.proofs.lemmas.List.{get_or_default}
use Rattle.ml_lists.specs.Member.{IsMember}
use Rattle.ml_sequent.specs.private.Reach.{ReachList, code}
use Rattle.ml_sequent.proofs.Reaching.{found_before}
use Rattle.ml_sequent.proofs.reach.Reach.has.Goals as goal

pub returns : goal.returns
returns c =
    let width = c.self.inside.width in
    let marks = c.self.inside.marks.items in
    let found = c.self.inside.found.items in
    let v = c.args.visit in
    let rank : v.rank < width = search (rules, c.requires.rank, c.self.view_is) in
    let room : code width v < length marks = search (rules, c.requires.room, c.self.view_is) in
    let read = get_or_default marks (code width v) false c.index.result.now room ∙ sym c.index.ensures in
    subst (λ (r : ReachList). IsTrue c.index.result.now ↔ IsMember v r.found) c.self.view_is
    ((λ h. found_before width marks found v c.self.invariant rank (read ∙ h)), (λ h. sym read ∙ c.self.invariant.marked v h))
