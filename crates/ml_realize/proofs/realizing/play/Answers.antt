use Rattle.std.proofs.Common.{◌/◌, ◌∙◌, Err, ap, sym, subst}
use Rattle.ml_determinise.specs.Numbering.{HasMoreThan, IsNumbered, rows_of}
use Rattle.ml_realize.proofs.HistoryGame.{is_accessible, is_automaton, many_positions, starts_many, to_histories, to_numbers}
use Rattle.ml_realize.proofs.realizing.play.Goals as goal

pub returns-then-most-eq0-clause-passed : goal.returns-then-most-eq0-clause-passed
returns-then-most-eq0-clause-passed c = λ passed.
    let a = c.args in
    many_positions a.states a.row.now a.inputs a.outputs c.requires.one_each a.limit
    (subst (HasMoreThan a.row.now 0) (sym (ap (λ n. a.limit / n) (sym c.sets.ensures) ∙ c.if-most-eq0.true))
    (starts_many a.states a.row.now a.inputs a.outputs c.requires.one_each))

pub returns-in-Err-Passed-clause-passed : goal.returns-in-Err-Passed-clause-passed
returns-in-Err-Passed-clause-passed c = λ passed.
    let a = c.args in
    many_positions a.states a.row.now a.inputs a.outputs c.requires.one_each a.limit
    (subst (λ n. HasMoreThan a.row.now 0 (a.limit / n)) c.sets.ensures (c.in-Err-Passed.ensures.passed (ap Err c.in-Err-Passed.field-0-is)))

pub synthesise-requires-clause-automaton : goal.synthesise-requires-clause-automaton
synthesise-requires-clause-automaton c =
    let a = c.args in
    is_automaton a.states a.row.now a.inputs a.outputs c.requires.one_each (rows_of c.deref.result.now)
    (subst (λ xs. IsNumbered a.states a.row.now 0 (rows_of xs)) (sym c.deref.ensures.value) c.in-Ok.ensures.numbered)
    c.requires.stays c.requires.some

pub synthesise-requires-clause-accessible : goal.synthesise-requires-clause-accessible
synthesise-requires-clause-accessible c =
    let a = c.args in
    is_accessible a.states a.row.now a.inputs a.outputs c.requires.one_each (rows_of c.deref.result.now)
    (subst (λ xs. IsNumbered a.states a.row.now 0 (rows_of xs)) (sym c.deref.ensures.value) c.in-Ok.ensures.numbered)

pub returns-in-Ok-synthesise-clause-played : goal.returns-in-Ok-synthesise-clause-played
returns-in-Ok-synthesise-clause-played c =
    let a = c.args in
    let moves = rows_of c.deref.result.now in
    let numbered =
    subst (λ xs. IsNumbered a.states a.row.now 0 (rows_of xs)) (sym c.deref.ensures.value) c.in-Ok.ensures.numbered in
    record {
      within = λ more.
          c.in-Ok-synthesise.ensures.not_passed
          (to_numbers a.states a.row.now a.inputs a.outputs c.requires.one_each moves numbered a.limit more);
      moves = moves;
      are_numbered = numbered;
      is_outcome = c.in-Ok-synthesise.ensures.outcome;
    }

pub returns-in-Err-Passed-synthesise-clause-passed : goal.returns-in-Err-Passed-synthesise-clause-passed
returns-in-Err-Passed-synthesise-clause-passed c = λ passed.
    let a = c.args in
    to_histories a.states a.row.now a.inputs a.outputs c.requires.one_each (rows_of c.deref.result.now)
    (subst (λ xs. IsNumbered a.states a.row.now 0 (rows_of xs)) (sym c.deref.ensures.value) c.in-Ok.ensures.numbered)
    a.limit
    (c.in-Err-Passed-synthesise.ensures.passed (ap Err c.in-Err-Passed-synthesise.field-0-is))
