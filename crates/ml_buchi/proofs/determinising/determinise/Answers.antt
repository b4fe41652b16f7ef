use Rattle.std.proofs.Common.{◌+◌, ◌*◌, refl, ◌∙◌}
use Rattle.std.proofs.lemmas.Result.{err_from_is_err_and}
use Rattle.ml_determinise.specs.Numbering.{rows_of}
use Rattle.ml_determinise.proofs.HandedOn.{handed_on}
use Rattle.ml_buchi.specs.Deterministic.{Deterministic}
use Rattle.ml_buchi.proofs.MadeDeterministic.{made_determinised, made_few, made_many, made_stays}
use Rattle.ml_buchi.proofs.Writable.{determinised_writable}
use Rattle.ml_buchi.proofs.determinising.determinise.Goals as goal

pub determinise-requires-clause-stays : goal.determinise-requires-clause-stays
determinise-requires-clause-stays c =
    made_stays c.args.automaton.now c.in_ok-letters.letters.items c.deref.result.now c.states-states.result c.start.result
    c.in_ok-letters.ensures c.deref.ensures.value c.states-states.ensures.value c.start.ensures.value
    c.states-states.ensures.automaton

pub returns-in_err-moves-clause-passed : goal.returns-in_err-moves-clause-passed
returns-in_err-moves-clause-passed c = λ e.
    let p = err_from_is_err_and c.from_residual-in_err-moves.result c.from_residual-in_err-moves.ensures.1 in
    made_many c.args.automaton.now c.in_ok-letters.letters.items c.deref.result.now c.states-states.result c.start.result
    c.in_ok-letters.ensures c.deref.ensures.value c.states-states.ensures.value c.start.ensures.value c.args.limit
    (c.in_err-moves.ensures.passed (handed_on c.from_residual-in_err-moves.result c.in_err-moves.field-0.0 p e))

pub new-requires : goal.new-requires
new-requires c =
    let rows = rows_of c.in_ok-moves.moves.items in
    let d : Deterministic = record { props = c.in_ok-props.props.items; top = 2 * c.states-states.result + 3; moves = rows } in
    determinised_writable c.args.automaton.now d c.states-states.ensures.automaton
    (made_determinised c.args.automaton.now c.in_ok-letters.letters.items c.deref.result.now c.states-states.result
    c.start.result c.in_ok-letters.ensures c.deref.ensures.value c.states-states.ensures.value c.start.ensures.value
    c.in_ok-props.props.items rows d (c.in_ok-props.ensures ∙ c.props.ensures.value) c.in_ok-moves.ensures.numbered refl)

pub returns-clause-determinised : goal.returns-clause-determinised
returns-clause-determinised c =
    made_determinised c.args.automaton.now c.in_ok-letters.letters.items c.deref.result.now c.states-states.result
    c.start.result c.in_ok-letters.ensures c.deref.ensures.value c.states-states.ensures.value c.start.ensures.value
    c.in_ok-props.props.items (rows_of c.in_ok-moves.moves.items) c.new.result (c.in_ok-props.ensures ∙ c.props.ensures.value)
    c.in_ok-moves.ensures.numbered c.new.ensures

pub returns-clause-writable : goal.returns-clause-writable
returns-clause-writable c =
    determinised_writable c.args.automaton.now c.new.result c.states-states.ensures.automaton (returns-clause-determinised c)

pub returns-clause-not_passed : goal.returns-clause-not_passed
returns-clause-not_passed c =
    made_few c.args.automaton.now c.in_ok-letters.letters.items c.deref.result.now c.states-states.result c.start.result
    c.in_ok-letters.ensures c.deref.ensures.value c.states-states.ensures.value c.start.ensures.value c.args.limit
    c.in_ok-moves.ensures.not_passed
