use Rattle.std.proofs.Common.{ap, subst, sym, ◌∙◌, ◌≡◌, ◌∷◌, [], length, map, slice_get, arith}
use Rattle.std.proofs.lemmas.List.{map-append, length-map}
use Rattle.ml_lists.proofs.Member.{member_of_get}
use Rattle.ml_refutation.specs.Views.{decision_of}
use Rattle.ml_refute.specs.private.Found.{AreLooked}
use Rattle.ml_refute.proofs.FoundEntries.{look_more, next_won}
use Rattle.ml_refute.proofs.deciding.Decided.look_at_next.Goals as goal

pub decide_from-requires-clause-won : goal.decide_from-requires-clause-won
decide_from-requires-clause-won c =
    next_won c.args.game.now.graph.now c.args.game.now.arena.now c.args.game.now.solution.now c.requires.odd
    c.args.self.now.vertices.keys (map decision_of c.args.self.now.decisions.items) c.len.result
    c.vertex_at-v.result c.requires.looked c.vertex_at-v.ensures

pub decide_from-requires-clause-unchosen : goal.decide_from-requires-clause-unchosen
decide_from-requires-clause-unchosen c =
    c.requires.looked.numbered.unchosen c.vertex_at-v.result
    (member_of_get c.args.self.now.vertices.keys c.len.result c.vertex_at-v.result c.vertex_at-v.ensures)

pub returns-clause-looked : goal.returns-clause-looked
returns-clause-looked c =
    let place : length (map decision_of c.args.self.now.decisions.items) ≡ c.len.result =
    omega (arith, c.len.ensures, c.args.self.now.decisions.ok, length-map c.args.self.now.decisions.items decision_of) in
    subst (AreLooked c.args.game.now.graph.now c.args.game.now.arena.now c.args.game.now.solution.now
    c.decide_from.new.vertices.keys)
    (sym (ap (map decision_of) c.in_ok-push.ensures.items
    ∙ map-append decision_of c.args.self.now.decisions.items (c.in_ok-decision.decision ∷ [])))
    (look_more c.args.game.now.graph.now c.args.game.now.arena.now c.args.game.now.solution.now c.requires.odd
    c.args.self.now.vertices.keys c.decide_from.new.vertices.keys (map decision_of c.args.self.now.decisions.items)
    c.vertex_at-v.result (decision_of c.in_ok-decision.decision) c.requires.looked
    (ap (slice_get c.args.self.now.vertices.keys) place ∙ c.vertex_at-v.ensures) c.in_ok-decision.ensures.decided)
