use Rattle.std.proofs.Common.{◌*◌, sym, ap, ◌∙◌, subst, subst₂}
use Rattle.std.specs.Global.{Vec}
use Rattle.std.proofs.lemmas.List.{length-map}
use Rattle.ml_determinise.specs.Numbering.{rows_of}
use Rattle.ml_determinise.specs.declared.moves.DetMove.{DetMove}
use Rattle.ml_synthesis.specs.private.Arena.{AreMoves}
use Rattle.ml_synthesis.specs.private.Solved.{IsArenaOver}
use Rattle.ml_synthesis.proofs.Automata.{are_moves}
use Rattle.ml_synthesis.proofs.Outcomes.{arena_is_over}
use Rattle.ml_synthesis.proofs.synthesising.arena_over.Goals as goal

pub of-requires-clause-moves : goal.of-requires-clause-moves
of-requires-clause-moves c =
    let rows = rows_of c.args.moves.now in
    subst₂ (λ n m. AreMoves n m c.args.neutral rows) (sym c.sets_of.ensures.sets) (sym c.sets_of-2.ensures.sets)
    (are_moves c.args.inputs c.args.outputs c.args.neutral rows c.requires.automaton)

pub returns : goal.returns
returns c =
    let a = c.in_ok-arena.arena in
    let rows = rows_of c.args.moves.now in
    let long = length-map c.args.moves.now (λ (r : Vec DetMove). r.items) in
    subst (λ n. IsArenaOver c.args.inputs c.args.outputs c.args.neutral rows n a.base a.arrivals.keys a.game)
    (sym c.in_ok-arena.ensures.sets)
    (arena_is_over c.args.inputs c.args.outputs c.args.neutral rows c.sets_of.result c.sets_of-2.result a.base
    a.arrivals.keys a.game c.requires.automaton c.sets_of.ensures.sets c.sets_of-2.ensures.sets c.sets_of.ensures.few
    c.sets_of-2.ensures.few
    (c.in_ok-arena.ensures.base ∙ ap (λ q. q * c.sets_of.result) (sym long)) c.in_ok-arena.ensures.arena)
