-- A solution has a machine of its choices.
--
--   some_step, some_steps == steps as the program makes them
--   some_machine          == one state after the other
use Rattle.std.proofs.Common.{ℕ, zero, suc, ◌≡◌, ◌+◌, ◌*◌, ◌/◌, ◌<◌, ◌≤◌, ⊎_elim, arith}
use Rattle.std.proofs.Common.{List, [], ◌∷◌, ◌++◌, length, sym, subst}
use Rattle.std.proofs.Common.{length-append}
use Rattle.std.proofs.lemmas.Bool.{cases_lt}
use Rattle.std.proofs.lemmas.List.{length-map, map_push}
use Rattle.ml_lists.proofs.Entries.{some_entry}
use Rattle.ml_lists.proofs.Member.{member-place}
use Rattle.ml_lists.proofs.Members.{member_of_contains}
use Rattle.ml_parity.specs.Game.{ParityGame, moves_of}
use Rattle.ml_parity.specs.Solution.{GameSolution, choice_at}
use Rattle.ml_synthesis.specs.Machines.{MachineTable}
use Rattle.ml_synthesis.specs.Synthesis.{nexts}
use Rattle.ml_synthesis.specs.declared.arrival.Arrival.{Arrival}
use Rattle.ml_synthesis.specs.declared.machines.MachineStep.{MachineStep}
use Rattle.ml_synthesis.specs.private.Numbered.{AreNumbers, AreStepsAt}
use Rattle.ml_synthesis.specs.private.Numbered.{IsMachine, IsMachineMet, IsRowMet}
use Rattle.ml_synthesis.specs.private.Numbered.{IsStepAt}
use Rattle.ml_synthesis.specs.private.Solved.{IsSolved}
use Rattle.ml_synthesis.proofs.Choices.{IsChoice, choice_at_known}
use Rattle.ml_synthesis.proofs.Choices.{state_low, states_some, vertex_low}
use Rattle.ml_synthesis.proofs.MachineSteps.{machine_first, machine_more, rows_joined, steps_more, steps_none}
use Rattle.ml_synthesis.proofs.RowsMet.{few_numbers, row_more, row_none}
use Rattle.ml_synthesis.proofs.SomeGames.{add_number}

module _ (n base : ℕ) (ks : List Arrival) (g : ParityGame) (s : GameSolution) (solved : IsSolved n base ks g s) where
  record Stepped (states : List ℕ) (v : ℕ) : Type 0 where
    behind : List ℕ
    step : MachineStep
    at : IsStepAt base ks g s.choice behind v step
    met : IsRowMet 0 (base / n) states (step.next ∷ []) behind

  some_step : (states : List ℕ) (v : ℕ) → AreNumbers 0 (base / n) states → v < base → Stepped states v
  some_step states v numbers low =
      let c : IsChoice n base ks g s solved v = choice_at_known n base ks g s solved v low in
      let seat = member-place (choice_at s.choice v) (moves_of g v)
      (member_of_contains (choice_at s.choice v) (moves_of g v) c.is_move) in
      let a = add_number states c.arrival.state in
      record {
        behind = a.behind;
        step = record { give = seat.place; next = a.place };
        at = record {
          gives = record { is_move = seat.below; chosen = seat.holds 0 };
          arrival = c.arrival;
          comes = record { place = c.place; is = c.is; stands = c.stands };
          next_is = a.added.stands;
        };
        met =
            row_more 0 (base / n) states [] states c.arrival.state a.behind a.place
            (row_none 0 (base / n) states numbers)
            (omega arith) (state_low n base ks g s solved c.place c.arrival c.stands) a.added;
      }

  record Steps (states : List ℕ) (q count : ℕ) : Type 0 where
    behind : List ℕ
    steps : List MachineStep
    are : AreStepsAt n base ks g s.choice behind q count steps
    met : IsRowMet 0 (base / n) states (nexts steps) behind

  some_steps : (states : List ℕ) (q : ℕ) → AreNumbers 0 (base / n) states → q < base / n → (count : ℕ) → count ≤ n
      → Steps states q count
  some_steps states q numbers low zero few = record {
    behind = states;
    steps = [];
    are = steps_none n base ks g s.choice states q;
    met = row_none 0 (base / n) states numbers;
  }
  some_steps states q numbers low (suc ins) few =
      let r = some_steps states q numbers low ins (omega (arith, few)) in
      let x = some_step r.behind (q * n + ins) r.met.numbers
      (vertex_low n base ks g s solved q ins low (omega (arith, few))) in
      let one : ins + 1 ≡ suc ins = omega arith in
      record {
        behind = x.behind;
        steps = r.steps ++ x.step ∷ [];
        are =
            subst (λ k. AreStepsAt n base ks g s.choice x.behind q k (r.steps ++ x.step ∷ [])) one
            (steps_more n base ks g s.choice (base / n) r.behind x.behind q ins r.steps x.step r.are x.met x.at);
        met =
            subst (λ row. IsRowMet 0 (base / n) states row x.behind)
            (sym (map_push (λ (y : MachineStep). y.next) r.steps x.step))
            (rows_joined 0 (base / n) states (nexts r.steps) r.behind (x.step.next ∷ []) x.behind r.met x.met);
      }

  abbrev TheMachine : Type 0
  TheMachine = (t : MachineTable) × IsMachine n base ks g s.choice t

  -- from so many states on, where so many are left at most
  abbrev MachineFrom : ℕ → Type 0
  MachineFrom fuel =
      (states : List ℕ) (m : MachineTable) → IsMachineMet n base ks g s.choice states m → base / n ≤ length m + fuel →
      TheMachine

  all_made : (states : List ℕ) (m : MachineTable)
      → IsMachineMet n base ks g s.choice states m
      → length states ≤ length m
      → TheMachine
  all_made states m is past =
      let within = is.met.within in
      let rows = length-map m nexts in
      (m, record { states = states; met = is; all = omega (arith, past, within, rows) })

  one_more : (fuel : ℕ) → MachineFrom fuel → MachineFrom (suc fuel)
  one_more fuel rest states m is enough =
      ⊎_elim (λ (here : length m < length states). further here)
      (λ (past : length states ≤ length m). all_made states m is past)
      (cases_lt (length m) (length states))
    where
      further : length m < length states → TheMachine
      further here =
          let q = some_entry states (length m) here in
          let x = some_steps states q.0 is.met.numbers (is.met.numbers.low (length m) q.0 q.1) n (omega arith) in
          rest x.behind (m ++ x.steps ∷ [])
          (machine_more n base ks g s.choice states x.behind m q.0 x.steps is q.1 x.are x.met)
          (let one = length-append m (x.steps ∷ []) in omega (arith, enough, one))

  machine_from : (fuel : ℕ) → MachineFrom fuel
  machine_from zero states m is enough =
      let few = few_numbers 0 (base / n) states is.met.numbers in all_made states m is (omega (arith, few, enough))
  machine_from (suc fuel) states m is enough = one_more fuel (machine_from fuel) states m is enough

  pub some_machine : (t : MachineTable) × IsMachine n base ks g s.choice t
  some_machine =
      machine_from (base / n) (0 ∷ []) [] (machine_first n base ks g s.choice (states_some n base ks g s solved))
      (omega arith)
