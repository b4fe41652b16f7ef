use Rattle.std.proofs.Common.{rules, ℕ, ◌≡◌, ◌<◌, false, List, ◌∷◌, [], ◌++◌, length, set, sym, ap, subst, arith}
use Rattle.ml_lists.specs.Member.{IsMember}
use Rattle.ml_sequent.specs.private.Trails.{TrailList, ArePlaced, IsJoined}
use Rattle.ml_sequent.proofs.TrailNodes.{placed_more, joined_new}
use Rattle.ml_sequent.proofs.trail.Trail.reach.Goals as goal

pub invariant_of-self-then-not-contains : goal.invariant_of-self-then-not-contains
invariant_of-self-then-not-contains c =
    let places = c.self.inside.places.items in
    let nodes = c.self.inside.nodes.items in
    let low : c.args.node < length places = search (rules, c.requires, c.self.view_is) in
    let fresh : IsMember c.args.node nodes → ⊥ = λ h.
    let there = c.contains.ensures.reached.1 (subst (λ (r : TrailList). IsMember c.args.node r.nodes) c.self.view_is h) in
    let other : c.contains.result ≡ false = search (rules, c.if-not-contains.true) in cc
    in
    let long : c.len-place.result ≡ length nodes = omega arith in
    let made = placed_more places nodes c.args.node c.self.invariant low fresh in
    subst (λ (xs : List ℕ). ArePlaced (set places c.args.node c.len-place.result) xs) (sym c.in_ok-push.ensures.items)
    (subst (λ k. ArePlaced (set places c.args.node k) (nodes ++ c.args.node ∷ [])) (sym long) made)

pub returns-in_ok-push-clause-joined : goal.returns-in_ok-push-clause-joined
returns-in_ok-push-clause-joined c =
    subst (λ (xs : List ℕ). IsJoined (c.args.node ∷ []) c.args.self.now.nodes xs) (sym c.in_ok-push.ensures.items)
    (subst (λ (xs : List ℕ). IsJoined (c.args.node ∷ []) xs (c.self.inside.nodes.items ++ c.args.node ∷ []))
    (ap (λ (r : TrailList). r.nodes) c.self.view_is)
    (joined_new c.self.inside.nodes.items c.args.node))
