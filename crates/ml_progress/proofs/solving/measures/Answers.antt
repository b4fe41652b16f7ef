-- The solution is read off the least measures of both players.
use Rattle.std.proofs.lemmas.Result.{IfOk-weaker}
use Rattle.ml_parity.specs.Solution.{IsSolution, FirstElsewhere}
use Rattle.ml_progress.specs.Measured.{FirstProgressing, IsTold, MeasuredGame}
use Rattle.ml_progress.proofs.ToldSolutions.{answer_solution, answer_elsewhere, answer_told, answer_first}
use Rattle.ml_progress.proofs.solving.measures.Goals as goal

pub returns-clause-ok : goal.returns-clause-ok
returns-clause-ok c =
    let sides = c.in_ok-sides.sides in
    IfOk-weaker c.read_off.result _ (λ (m : MeasuredGame). IsSolution c.args.game.now m.solution)
    (answer_solution c.args.game.now c.size-size.ensures.game sides.even.table.rows sides.odd.table.rows
    c.in_ok-sides.ensures.even.least c.in_ok-sides.ensures.odd.least)
    c.read_off.ensures

pub returns-clause-told : goal.returns-clause-told
returns-clause-told c =
    let sides = c.in_ok-sides.sides in
    IfOk-weaker c.read_off.result _ (IsTold c.args.game.now)
    (answer_told c.args.game.now c.size-size.ensures.game sides.even.table.rows sides.odd.table.rows
    c.in_ok-sides.ensures.even.least c.in_ok-sides.ensures.odd.least)
    c.read_off.ensures

pub returns-clause-choices : goal.returns-clause-choices
returns-clause-choices c =
    let sides = c.in_ok-sides.sides in
    IfOk-weaker c.read_off.result _ (FirstProgressing c.args.game.now)
    (answer_first c.args.game.now c.size-size.ensures.game sides.even.table.rows sides.odd.table.rows
    c.in_ok-sides.ensures.even.least c.in_ok-sides.ensures.odd.least)
    c.read_off.ensures

pub returns-clause-elsewhere : goal.returns-clause-elsewhere
returns-clause-elsewhere c =
    let sides = c.in_ok-sides.sides in
    IfOk-weaker c.read_off.result _ (λ (m : MeasuredGame). FirstElsewhere c.args.game.now m.solution)
    (answer_elsewhere c.args.game.now c.size-size.ensures.game sides.even.table.rows sides.odd.table.rows
    c.in_ok-sides.ensures.even.least c.in_ok-sides.ensures.odd.least)
    c.read_off.ensures
