-- The choice is read, and the states behind it are numbered.
use Rattle.std.proofs.Common.{suc, ◌≡◌, ◌+◌, ◌%◌, [], ◌∷◌, ◌++◌, get_or, take, sym, ap, ◌∙◌, subst, arith}
use Rattle.std.proofs.Math.Seq.{take-suc}
use Rattle.std.proofs.lemmas.List.{take_all}
use Rattle.std.proofs.lemmas.Option.{slice_get_within}
use Rattle.ml_parity.specs.Game.{moves_of, size}
use Rattle.ml_parity.specs.Solution.{GameSolution, choice_at}
use Rattle.ml_synthesis.specs.private.Numbered.{AreNumbersOf, IsRowMet}
use Rattle.ml_synthesis.proofs.Choices.{choice_low, choice_read, known_is_vertex}
use Rattle.ml_synthesis.proofs.EnvironmentSteps.{numbers_more, numbers_none, row_numbered}
use Rattle.ml_synthesis.proofs.RowsMet.{few_numbers, row_none}
use Rattle.ml_synthesis.proofs.environment_making.answer_at.Goals as goal

pub moves_at-moves-requires : goal.moves_at-moves-requires
moves_at-moves-requires c =
    let a = c.args.arena.now in
    known_is_vertex a.input_sets a.base a.arrivals.keys a.game c.args.solution.now c.requires.solved
    c.index-choice.result.now
    (choice_low a.input_sets a.base a.arrivals.keys a.game c.args.solution.now c.requires.solved c.args.vertex
    c.requires.is_state c.requires.is_vertex c.solution.inside.choice.items c.index-choice.result.now
    (ap (λ (s : GameSolution). s.choice) c.solution.view_is) c.index-choice.ensures)

pub loop-state-init : goal.loop-state-init
loop-state-init c =
    let a = c.args.arena.now in
    let ks = c.args.states.now.keys in
    let none = sym c.in_ok-numbers.ensures.items in (
      subst (AreNumbersOf ks []) none (numbers_none ks),
      subst (λ row. IsRowMet a.base (size a.game) ks row ks) none (row_none a.base (size a.game) ks c.requires.numbers),
    )

pub overflow_cast-branch : goal.overflow_cast-branch
overflow_cast-branch c =
    let a = c.args.arena.now in
    let l = c.loop-state in
    let met = row_numbered a.input_sets a.base a.arrivals.keys a.game c.args.solution.now c.requires.solved
    c.args.vertex c.requires.is_state c.requires.is_vertex c.solution.inside.choice.items c.index-choice.result.now
    (ap (λ (s : GameSolution). s.choice) c.solution.view_is) c.index-choice.ensures c.moves_at-moves.result.now
    c.moves_at-moves.ensures l.state-index c.loop-state-test.true c.args.states.now.keys l.numbers.items l.states.keys
    c.number.new.states.keys c.in_ok-number.field-0 l.invariant.1 c.in_ok-number.ensures in
    let few = few_numbers a.base (size a.game) c.number.new.states.keys met.numbers in
    let place = slice_get_within c.number.new.states.keys c.in_ok-number.field-0
    (get_or c.moves_at-moves.result.now l.state-index 0)
    c.in_ok-number.ensures.stands in
    let small = c.requires.small in
    omega (arith, few, place, small)

pub loop-state-preserved : goal.loop-state-preserved
loop-state-preserved c =
    let a = c.args.arena.now in
    let l = c.loop-state in
    let row = c.moves_at-moves.result.now in
    let hs = c.number.new.states.keys in
    let grown : c.push.new.self.items ≡ l.numbers.items ++ c.in_ok-number.field-0 ∷ [] =
    c.in_ok-push.ensures.items in
    let pushed = sym grown in
    let one : l.state-index + 1 ≡ suc l.state-index = omega arith in
    let longer : take (l.state-index + 1) row ≡ take l.state-index row ++ get_or row l.state-index 0 ∷ [] =
    ap (λ k. take k row) one ∙ take-suc row l.state-index 0 c.loop-state-test.true in (
      subst (λ done. AreNumbersOf hs done c.push.new.self.items) (sym longer)
          (subst (AreNumbersOf hs (take l.state-index row ++ get_or row l.state-index 0 ∷ [])) pushed
          (numbers_more l.states.keys (take l.state-index row) l.numbers.items (get_or row l.state-index 0) hs
          c.in_ok-number.field-0 l.invariant.0 c.in_ok-number.ensures)),
      subst (λ ns. IsRowMet a.base (size a.game) c.args.states.now.keys ns hs) pushed
          (row_numbered a.input_sets a.base a.arrivals.keys a.game c.args.solution.now c.requires.solved c.args.vertex
          c.requires.is_state c.requires.is_vertex c.solution.inside.choice.items c.index-choice.result.now
          (ap (λ (s : GameSolution). s.choice) c.solution.view_is) c.index-choice.ensures c.moves_at-moves.result.now
          c.moves_at-moves.ensures l.state-index c.loop-state-test.true c.args.states.now.keys l.numbers.items
          l.states.keys c.number.new.states.keys c.in_ok-number.field-0 l.invariant.1 c.in_ok-number.ensures),
    )

pub returns-clause-answer : goal.returns-clause-answer
returns-clause-answer c =
    let a = c.args.arena.now in
    let l = c.loop-state in
    let row = c.moves_at-moves.result.now in
    let is = choice_read a.input_sets a.base a.arrivals.keys a.game c.args.solution.now c.requires.solved c.args.vertex
    c.requires.is_vertex c.solution.inside.choice.items c.index-choice.result.now
    (ap (λ (s : GameSolution). s.choice) c.solution.view_is) c.index-choice.ensures in
    let whole : take l.state-index row ≡ moves_of a.game (choice_at c.args.solution.now.choice c.args.vertex) =
    take_all l.state-index row c.loop-state-test.false ∙ c.moves_at-moves.ensures ∙ ap (moves_of a.game) is in
    record {
      play_is = ap (λ k. c.index-choice.result.now % k) c.from.ensures ∙ ap (λ x. x % a.input_sets) is;
      numbers = subst (λ done. AreNumbersOf l.states.keys done l.numbers.items) whole l.invariant.0;
    }

pub returns-clause-met : goal.returns-clause-met
returns-clause-met c = c.loop-state.invariant.1
