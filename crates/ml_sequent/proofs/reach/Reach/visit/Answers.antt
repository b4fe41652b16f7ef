use Rattle.std.proofs.Common.{rules, ◌≡◌, false, true, List, [], ◌∷◌, ◌++◌, set, subst, sym, ap, ◌∙◌, ◌<◌, length}
use Rattle.std.proofs.lemmas.List.{get_or_default}
use Rattle.ml_sequent.specs.declared.reach.Visit.{Visit}
use Rattle.ml_sequent.specs.private.Reach.{ReachList, IsMarked, IsVisited, code, mark}
use Rattle.ml_sequent.proofs.Reaching.{newly_marked, visited_new, visited_old, found_before}
use Rattle.ml_sequent.proofs.reach.Reach.visit.Goals as goal

pub invariant_of-self-then-not-index : goal.invariant_of-self-then-not-index
invariant_of-self-then-not-index c =
    let width = c.self.inside.width in
    let marks = c.self.inside.marks.items in
    let fresh : mark marks (code width c.args.visit) ≡ false = search (rules, c.index.ensures, c.if-not-index.true) in
    let rank : c.args.visit.rank < width = search (rules, c.requires.rank, c.self.view_is) in
    let room : code width c.args.visit < length marks = search (rules, c.requires.room, c.self.view_is) in
    subst (λ (found : List Visit). IsMarked width (set marks (code width c.args.visit) true) found) (sym c.in_ok-push.ensures.items)
    (newly_marked width marks c.self.inside.found.items c.args.visit c.self.invariant rank room fresh)

pub returns-in_ok-push-clause-visited : goal.returns-in_ok-push-clause-visited
returns-in_ok-push-clause-visited c =
    subst (λ (found : List Visit). IsVisited (c.args.visit ∷ []) c.args.self.now.found found) (sym c.in_ok-push.ensures.items)
    (subst
    (λ (found : List Visit). IsVisited (c.args.visit ∷ []) found (c.self.inside.found.items ++ c.args.visit ∷ []))
    (ap (λ r. r.found) c.self.view_is) (visited_new c.self.inside.found.items c.args.visit))

pub returns-else-not-index-clause-visited : goal.returns-else-not-index-clause-visited
returns-else-not-index-clause-visited c =
    let width = c.self.inside.width in
    let room : code width c.args.visit < length c.self.inside.marks.items = search (rules, c.requires.room, c.self.view_is) in
    let read = get_or_default c.self.inside.marks.items (code width c.args.visit) false c.index.result.now room ∙ sym c.index.ensures in
    let marked = read ∙ c.if-not-index.false in
    let rank : c.args.visit.rank < width = search (rules, c.requires.rank, c.self.view_is) in
    subst (λ (r : ReachList). IsVisited (c.args.visit ∷ []) r.found r.found) c.self.view_is
    (visited_old c.self.inside.found.items c.args.visit
    (found_before width c.self.inside.marks.items c.self.inside.found.items c.args.visit c.self.invariant rank marked))
