-- The machine of a winning strategy is right.
--
--   machine_fits, machine_stands == it fits, and its states stand for states of the automaton
--   machine_right                == where the strategy wins for Even, no word of it is accepted
--   is_made                      == all of it
use Rattle.std.proofs.Common.{ℕ, ◌≡◌, ◌+◌, ◌*◌, ◌/◌, ◌%◌, ◌^◌, ◌<◌, ◌≤◌, arith, List, [], ◌∷◌, length, get_or, map}
use Rattle.std.proofs.Common.{slice_get, Some}
use Rattle.std.proofs.Common.{sym, ap, ◌∙◌, subst}
use Rattle.std.proofs.Math.Nat.{mul-div_cancel}
use Rattle.std.proofs.lemmas.List.{get_or_append_left, length-map}
use Rattle.std.proofs.lemmas.Option.{get_or_from_slice_get, same_Some, slice_get-get_or, slice_get_within}
use Rattle.ml_parity.specs.declared.players.Player.TheVariants.{Even, Odd}
use Rattle.ml_parity.specs.Game.{ParityGame}
use Rattle.ml_parity.specs.Solution.{choice_at}
use Rattle.ml_parity.specs.Winner.{WinsFrom}
use Rattle.ml_trace.specs.WordAutomata.{WordLasso, IsDetAcceptedFrom}
use Rattle.ml_determinise.specs.Numbering.{automaton_of, move_at}
use Rattle.ml_determinise.specs.declared.moves.DetMove.{DetMove}
use Rattle.ml_synthesis.specs.Machines.{valuation, MachineTable, MachineFits, MachineGoes, step_at, IsMachineWord}
use Rattle.ml_synthesis.specs.Synthesis.{IsMade, MachineStands, nexts}
use Rattle.ml_synthesis.specs.declared.arrival.Arrival.{Arrival}
use Rattle.ml_synthesis.specs.private.Arena.{AreMoves, IsArena}
use Rattle.ml_synthesis.specs.private.Numbered.{AreStepsAt, IsMachine, IsStepAt}
use Rattle.ml_synthesis.proofs.AlongWords.{AreParts, at, letter_parts, named, run_closed, states_low}
use Rattle.ml_synthesis.proofs.Answered.{letter_low}
use Rattle.ml_synthesis.proofs.Arenas.{arena_is_board, reply_at, row_length}
use Rattle.ml_synthesis.proofs.Runs.{behind}
use Rattle.ml_synthesis.proofs.RowsMet.{met_in_order}
use Rattle.ml_synthesis.proofs.Boards.{reply}
use Rattle.ml_synthesis.proofs.WordPlays.{even_refuses, is_state, letter}
use Rattle.ml_synthesis.proofs.WordPlays as plays

module _ (i o neutral : ℕ) (moves : List (List DetMove)) (ks : List Arrival) (g : ParityGame) (choice : List ℕ)
    (are : AreMoves (2 ^ i) (2 ^ o) neutral moves) (arena : IsArena (2 ^ i) (2 ^ o) neutral moves ks g)
    (t : MachineTable) (is : IsMachine (2 ^ i) (length moves * 2 ^ i) ks g choice t) where
  abbrev n : ℕ
  n = 2 ^ i

  abbrev base : ℕ
  base = length moves * 2 ^ i

  -- the state of the automaton for which a state stands
  abbrev name : ℕ → ℕ
  name s = get_or is.states s 0

  name_at : (s : ℕ) → s < length t → slice_get is.states s ≡ Some (name s)
  name_at s low = slice_get-get_or is.states s 0 (let all = is.all in omega (arith, low, all))

  name_low : (s : ℕ) → s < length t → name s < length moves
  name_low s low =
      let bound = is.met.met.numbers.low s (name s) (name_at s low) in
      let same = mul-div_cancel (length moves) {n = 2 ^ i} are.sets in
      omega (arith, bound, same)

  steps_at : (s : ℕ) → s < length t → AreStepsAt n base ks g choice is.states (name s) n (get_or t s [])
  steps_at s low = is.met.steps s (name s) low (name_at s low)

  one_step : (s ins : ℕ)
      → s < length t
      → ins < n
      → IsStepAt base ks g choice is.states (name s * n + ins) (step_at t s ins)
  one_step s ins low set = (steps_at s low).steps ins set

  gives : (s ins : ℕ) → s < length t → ins < n → (step_at t s ins).give < 2 ^ o
  gives s ins low set =
      let bound = (one_step s ins low set).gives.is_move in
      let long = row_length n (2 ^ o) neutral moves ks g are arena (name s) ins (name_low s low) set in
      omega (arith, bound, long)

  leads : (s ins : ℕ) → s < length t → ins < n → (step_at t s ins).next < length t
  leads s ins low set =
      let x = one_step s ins low set in
      let within = slice_get_within is.states (step_at t s ins).next x.arrival.state x.next_is in
      let all = is.all in
      omega (arith, within, all)

  machine_fits : MachineFits i o t
  machine_fits = record {
    some = let first = slice_get_within is.states 0 0 is.met.met.begins in let all = is.all in
        omega (arith, first, all);
    a_step_each = λ s low. (steps_at s low).one_each;
    gives = gives;
    leads = leads;
  }

  -- the steps go along with the moves
  follows : (s ins : ℕ) → s < length t → ins < n
      → name (step_at t s ins).next ≡ (move_at moves (name s) (valuation i ins (step_at t s ins).give)).to
  follows s ins low set =
      let x = one_step s ins low set in
      let given = gives s ins low set in
      let r = reply_at n (2 ^ o) neutral moves ks g are arena (name s) ins (step_at t s ins).give (name_low s low) set
      given in
      let one : base + x.comes.place ≡ base + r.place = sym x.comes.is ∙ sym x.gives.chosen ∙ r.is in
      let place : x.comes.place ≡ r.place = omega (arith, one) in
      let arrival : x.arrival ≡ r.arrival =
      same_Some x.arrival r.arrival (sym x.comes.stands ∙ ap (slice_get ks) place ∙ r.stands) in
      get_or_from_slice_get is.states (step_at t s ins).next x.arrival.state 0 x.next_is
      ∙ ap (λ (a : Arrival). a.state) (arrival ∙ r.ends)

  first_name : name 0 ≡ 0
  first_name = get_or_from_slice_get is.states 0 0 0 is.met.met.begins

  machine_stands : MachineStands i moves t
  machine_stands = record {
    state = name;
    begins = first_name;
    apart = λ s u s_low u_low same.
        is.met.met.numbers.once s u (name u) (name_at s s_low ∙ ap Some same) (name_at u u_low);
    follows = follows;
  }

  -- ---- words

  goes_low : (s v u : ℕ) → s < length t → MachineGoes i t s v u → u < length t
  goes_low s v u low goes = subst (λ x. x < length t) (sym goes.next_is) (leads s goes.ins low goes.is_set)

  goes_named : (s v u : ℕ) → s < length t → MachineGoes i t s v u → name u ≡ (move_at moves (name s) v).to
  goes_named s v u low goes =
      ap name goes.next_is ∙ follows s goes.ins low goes.is_set
      ∙ ap (λ x. (move_at moves (name s) x).to) (sym goes.valuation_is)

  module _ (w : WordLasso ℕ) (along : IsMachineWord i t w) (wins : WinsFrom g Even (choice_at choice) base) where
    abbrev goes : ℕ → ℕ → ℕ → Type 0
    goes = MachineGoes i t

    at_low : (k : ℕ) → k ≤ length w.word → at goes w along k < length t
    at_low = states_low goes w along (length t) machine_fits.some goes_low

    word_low : (k : ℕ) → k < length w.word → get_or w.word k 0 < n * 2 ^ o
    word_low k here =
        let step = along.goes_on k here in
        let s_low = at_low k (omega (arith, here)) in
        subst (λ v. v < n * 2 ^ o) (sym step.valuation_is)
        (letter_low n (2 ^ o) step.ins (step_at t (at goes w along k) step.ins).give step.is_set
        (gives (at goes w along k) step.ins s_low step.is_set))

    name_is : (k : ℕ) → k ≤ length w.word → behind (automaton_of moves) 0 w.word k ≡ name (at goes w along k)
    name_is = named goes w along (automaton_of moves) (length t) machine_fits.some goes_low name first_name goes_named

    -- what the machine gives is the choice
    chosen : (k : ℕ)
        → k < length w.word
        → reply g n (behind (automaton_of moves) 0 w.word k) (letter w k % n) (letter w k / n)
        ≡ choice_at choice (behind (automaton_of moves) 0 w.word k * n + letter w k % n)
    chosen k here =
        let step = along.goes_on k here in
        let s = at goes w along k in
        let parts : AreParts n (letter w k) step.ins (step_at t (at goes w along k) step.ins).give =
        letter_parts n (letter w k) step.ins (step_at t (at goes w along k) step.ins).give step.is_set
        (letter_at k here ∙ step.valuation_is) in
        let value = (one_step (at goes w along k) step.ins (at_low k (omega (arith, here))) step.is_set).gives.chosen in
        subst (λ q. reply g n q (letter w k % n) (letter w k / n) ≡ choice_at choice (q * n + letter w k % n))
        (sym (name_is k (omega (arith, here))))
        (subst (λ a. reply g n (name (at goes w along k)) a (letter w k / n) ≡ choice_at choice
        (name (at goes w along k) * n + a)) (sym parts.inputs)
        (subst (λ b. reply g n (name (at goes w along k)) step.ins b ≡ choice_at choice
        (name (at goes w along k) * n + step.ins)) (sym parts.outputs) value))
      where
        letter_at : (k : ℕ) → k < length w.word → letter w k ≡ get_or w.word k 0
        letter_at k here = get_or_append_left w.word (get_or w.word w.loop_start 0 ∷ []) 0 k here

    follows_choice : plays.AreMoves g (automaton_of moves) n (2 ^ o) (length moves) neutral base
        (arena_is_board n (2 ^ o) neutral moves ks g are arena) w Even (choice_at choice)
    follows_choice = record {
      to_known = λ k here own.
          let odd = (is_state g (automaton_of moves) n (2 ^ o) (length moves) neutral base
          (arena_is_board n (2 ^ o) neutral moves ks g are arena) w along.loops word_low k here).owner in
          let wrong : Odd ≡ Even = sym odd ∙ own in
          absurd (cc);
      to_state = λ k here own. chosen k here;
    }

    machine_refuses : IsDetAcceptedFrom (automaton_of moves) 0 w → ⊥
    machine_refuses =
        even_refuses g (automaton_of moves) n (2 ^ o) (length moves) neutral base
        (arena_is_board n (2 ^ o) neutral moves ks g are arena) w along.loops word_low
        (run_closed goes w along (automaton_of moves) (length t) machine_fits.some goes_low name first_name goes_named)
        (choice_at choice) follows_choice wins

  pub is_made : WinsFrom g Even (choice_at choice) base → IsMade i o moves t
  is_made wins = record {
    fits = machine_fits;
    right = λ w along. machine_refuses w along wins;
    stands = machine_stands;
    in_order = met_in_order 0 (base / n) is.states (map nexts t) is.met.met (length-map t nexts ∙ is.all);
  }
