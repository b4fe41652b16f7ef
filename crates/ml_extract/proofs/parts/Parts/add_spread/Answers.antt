-- What is known of the state is told by the position where Even's choices end, which `lasts` has.
use Rattle.std.proofs.Common.{get_or, sym, ◌∙◌, subst, arith}
use Rattle.std.proofs.lemmas.List.{get_or_default}
use Rattle.indexmap.proofs.MapLemmas.{OnOk-map}
use Rattle.ml_extract.specs.Model.{SpreadAt}
use Rattle.ml_extract.proofs.StateParts.{here_at, diamonds_are, diamonds_fit, are_diamonds, all_begin, numbered_few, gathered_more, spread_is}
use Rattle.ml_extract.proofs.parts.Parts.add_spread.Goals as goal

pub add_edges-requires-clause-nodes : goal.add_edges-requires-clause-nodes
add_edges-requires-clause-nodes c =
    let g = c.args.game.now.graph.now in
    let a = c.args.game.now.arena.now in
    let s = c.args.game.now.solution.now in
    let fs = c.args.states.now.firsts.keys in
    let ls = c.args.states.now.lasts.items in
    let n = c.requires.numbered in
    let i = c.args.state in
    let last = c.index-last.result.now in
    let h = here_at g a s fs ls n i last c.requires.state c.index-last.ensures in
    let at =
    subst (λ v. SpreadAt g a v c.args.spread.now)
    (sym (c.index-last.ensures ∙ get_or_default ls i last 0 c.requires.state)) c.requires.spread in
    diamonds_fit g a s fs ls n i last h c.deref.result.now
    (diamonds_are g a s fs ls n i last h c.args.phase.now c.args.spread.now c.deref.result.now c.requires.phase at
    (c.deref.ensures.value ∙ c.in_ok-diamonds.ensures))

pub add_edges-requires-clause-are_diamonds : goal.add_edges-requires-clause-are_diamonds
add_edges-requires-clause-are_diamonds c =
    let g = c.args.game.now.graph.now in
    let a = c.args.game.now.arena.now in
    let s = c.args.game.now.solution.now in
    let fs = c.args.states.now.firsts.keys in
    let ls = c.args.states.now.lasts.items in
    let n = c.requires.numbered in
    let i = c.args.state in
    let last = c.index-last.result.now in
    let h = here_at g a s fs ls n i last c.requires.state c.index-last.ensures in
    let at =
    subst (λ v. SpreadAt g a v c.args.spread.now)
    (sym (c.index-last.ensures ∙ get_or_default ls i last 0 c.requires.state)) c.requires.spread in
    are_diamonds g a s fs ls n i last h c.deref.result.now
    (diamonds_are g a s fs ls n i last h c.args.phase.now c.args.spread.now c.deref.result.now c.requires.phase at
    (c.deref.ensures.value ∙ c.in_ok-diamonds.ensures))

pub add_edges-requires-clause-begin : goal.add_edges-requires-clause-begin
add_edges-requires-clause-begin c =
    let g = c.args.game.now.graph.now in
    let a = c.args.game.now.arena.now in
    let s = c.args.game.now.solution.now in
    let fs = c.args.states.now.firsts.keys in
    let ls = c.args.states.now.lasts.items in
    let n = c.requires.numbered in
    let i = c.args.state in
    let last = c.index-last.result.now in
    let h = here_at g a s fs ls n i last c.requires.state c.index-last.ensures in
    let at =
    subst (λ v. SpreadAt g a v c.args.spread.now)
    (sym (c.index-last.ensures ∙ get_or_default ls i last 0 c.requires.state)) c.requires.spread in
    all_begin g a s fs ls n i last h c.deref.result.now c.moves.result.now
    (diamonds_are g a s fs ls n i last h c.args.phase.now c.args.spread.now c.deref.result.now c.requires.phase at
    (c.deref.ensures.value ∙ c.in_ok-diamonds.ensures))
    c.moves.ensures

pub add_edges-requires-clause-few : goal.add_edges-requires-clause-few
add_edges-requires-clause-few c =
    omega (
      arith,
      numbered_few c.args.game.now.graph.now c.args.game.now.arena.now c.args.game.now.solution.now
          c.args.states.now.firsts.keys c.args.states.now.lasts.items c.requires.numbered,
    )

pub returns : goal.returns
returns c =
    let g = c.args.game.now.graph.now in
    let a = c.args.game.now.arena.now in
    let s = c.args.game.now.solution.now in
    let fs = c.args.states.now.firsts.keys in
    let ls = c.args.states.now.lasts.items in
    let i = c.args.state in
    let last = c.index-last.result.now in
    let sp = c.args.spread.now in
    let at =
    subst (λ v. SpreadAt g a v sp) (sym (c.index-last.ensures ∙ get_or_default ls i last 0 c.requires.state))
    c.requires.spread in
    OnOk-map c.add_edges.result _ _
    (λ edges_is n old.
    let h = here_at g a s fs ls n i last c.requires.state c.index-last.ensures in
    let ds_is =
    diamonds_are g a s fs ls n i last h c.args.phase.now sp c.deref.result.now c.requires.phase at
    (c.deref.ensures.value ∙ c.in_ok-diamonds.ensures) in
    gathered_more g a s fs ls n i last h c.deref.result.now c.moves.result.now sp c.args.self.now.labels.items
    c.add_labels.new.labels.items c.args.self.now.edges.items c.add_edges.new.edges.items ds_is c.moves.ensures
    (spread_is g a s fs ls n i last h sp at) c.in_ok-add_labels.ensures edges_is old)
    c.add_edges.ensures
