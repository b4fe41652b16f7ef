use Rattle.std.proofs.Common.{[], ◌∷◌, map, ap, sym, ◌∙◌}
use Rattle.ml_sequent.specs.private.Reach.{onto, above}
use Rattle.ml_sequent.proofs.Floors.{above_two}
use Rattle.ml_sequent.proofs.Reaching.{visited_two}
use Rattle.ml_sequent.proofs.reach.go_on.Goals as goal

pub returns-in_ok-visit_onto-in-Two-clause-visited :
    goal.returns-in_ok-visit_onto-in-Two-clause-visited
returns-in_ok-visit_onto-in-Two-clause-visited c =
    let floor = c.args.floor in
    let f = onto c.args.levels.now.ranks c.args.visit.rank in
    let left = f c.in-Two.left in
    let right = f c.in-Two.right in
    visited_two (above floor (left ∷ [])) (above floor (right ∷ [])) _ c.args.reach.now.found c.visit_onto-in-Two.new.reach.found
    c.visit_onto-in-Two-2.new.reach.found c.visit_onto-in-Two-2.result
    c.in_ok-visit_onto-in-Two.ensures.visited c.visit_onto-in-Two-2.ensures.visited
    (ap (λ ks. above floor (map f ks)) (sym c.in-Two.ensures.value) ∙ above_two floor left right)
