use Rattle.std.proofs.Common.{◌≡◌, ◌<◌, ◌↔◌, None, Some, length, sym, ◌∙◌, arith}
use Rattle.std.proofs.lemmas.List.{get_or_default}
use Rattle.std.proofs.lemmas.Result.{IfOk-weaker}
use Rattle.ml_graph.proofs.References.{prop_in_range}
use Rattle.ml_lists.specs.Member.{IsMember}
use Rattle.ml_translate.specs.Places.{Place}
use Rattle.ml_translate.specs.private.Finding.{IsBehindLiteral, IsPast, number_at, places_in}
use Rattle.ml_translate.proofs.FollowedPlaces.{numbered_none, numbered_some, past_literal, past_none}
use Rattle.ml_translate.proofs.following.past.Goals as goal

pub index-requires : goal.index-requires
index-requires c =
    let g = c.args.reading.now.graph.now in
    let is = sym c.node.ensures ∙ c.in-Lit.is in
    let low : c.in-Lit.prop < length g.props =
    prop_in_range g c.requires.graph c.args.state_node c.requires.node c.in-Lit.prop c.in-Lit.positive is in
    let long = c.requires.numbers.as_long in
    let held = c.args.reading.now.propositions.now.numbers.ok.0 in
    omega arith

pub returns-in-Some : goal.returns-in-Some
returns-in-Some c =
    let g = c.args.reading.now.graph.now in
    let props = c.args.reading.now.propositions.now.names.items in
    let numbers = c.args.reading.now.propositions.now.numbers.items in
    let s = c.args.place.now in
    let k = c.in-Lit.prop in
    let is = sym c.node.ensures ∙ c.in-Lit.is in
    let low : k < length g.props = prop_in_range g c.requires.graph c.args.state_node c.requires.node k c.in-Lit.positive is in
    let long = c.requires.numbers.as_long in
    let read : number_at numbers k ≡ Some c.in-Some.prop =
    get_or_default numbers k None c.index.result.now (omega arith) ∙ sym c.index.ensures ∙ c.in-Some.is in
    IfOk-weaker c.behind_literal.result
    (λ b. (t : Place)
    → IsMember t (places_in b)
    ↔ IsBehindLiteral s c.args.node (record { prop = c.in-Some.prop; positive = c.in-Lit.positive }) t)
    (λ b. (t : Place) → IsMember t (places_in b) ↔ IsPast g props s c.args.state_node c.args.node t)
    (λ b h. past_literal g props s c.args.state_node c.args.node k c.in-Lit.positive c.in-Some.prop (places_in b) is
    c.requires.numbers.once (numbered_some g props numbers k c.in-Some.prop c.requires.numbers low read) h)
    c.behind_literal.ensures

pub returns-in-None : goal.returns-in-None
returns-in-None c =
    let g = c.args.reading.now.graph.now in
    let props = c.args.reading.now.propositions.now.names.items in
    let numbers = c.args.reading.now.propositions.now.numbers.items in
    let k = c.in-Lit.prop in
    let is = sym c.node.ensures ∙ c.in-Lit.is in
    let low : k < length g.props = prop_in_range g c.requires.graph c.args.state_node c.requires.node k c.in-Lit.positive is in
    let long = c.requires.numbers.as_long in
    let read : number_at numbers k ≡ None =
    get_or_default numbers k None c.index.result.now (omega arith) ∙ sym c.index.ensures ∙ c.in-None.is in
    past_none g props c.args.place.now c.args.state_node c.args.node k c.in-Lit.positive is
    (numbered_none g props numbers k c.requires.numbers low read)
