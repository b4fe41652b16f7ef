-- What is made in a game of at most n positions has at most n states.
--
--   set_into      == an entry of a row is what some set leads to
--   Arrives       == a state of a machine is met in the game
--   machine_few   == so it has at most as many states as the game has positions
--   pair_met      == a state of an environment is met in the game, with its priority
--   environment_few == so has an environment
--   found_few     == so has an outcome that is found
use Rattle.std.proofs.Common.{ℕ, zero, suc, ◌≡◌, ◌+◌, ◌*◌, ◌^◌, ◌<◌, ◌≤◌, ⊎_elim, List, [], length, map, get_or, sym, ap, subst, ◌∙◌, length-append, arith}
use Rattle.std.proofs.lemmas.Bool.{cases_lt}
use Rattle.std.proofs.lemmas.List.{get_or-map, length-map}
use Rattle.std.proofs.lemmas.List.FromFn.{get_or-range_with_len, length-range_with_len}
use Rattle.std.proofs.lemmas.Nat.{pow_pos}
use Rattle.ml_determinise.specs.Numbering.{automaton_of, move_at}
use Rattle.ml_determinise.specs.declared.moves.DetMove.{DetMove}
use Rattle.ml_lists.specs.Member.{IsMember}
use Rattle.ml_lists.proofs.Member.{member-place}
use Rattle.ml_realize.specs.Realizing.{inputs_of, outputs_of}
use Rattle.ml_realize.specs.TaskGame.{IsFound, states}
use Rattle.ml_realize.proofs.HistoryGame.{to_histories}
use Rattle.ml_realize_text.specs.ReadText.{states_of}
use Rattle.ml_synthesis.specs.Game.{HasMorePositions, IsReached, Position, along, at_start, at_state, by_inputs, by_outputs, with_inputs}
use Rattle.ml_synthesis.specs.Machines.{EnvironmentTable, MachineTable, play_at, step_at, valuation}
use Rattle.ml_synthesis.specs.Synthesis.{AreInOrder, IsDefeat, IsMade, IsOutcome, nexts}
use Rattle.ml_synthesis.specs.declared.machines.MachineStep.{MachineStep}
use Rattle.ml_synthesis.specs.declared.outcome.Outcome.{Outcome}
use Rattle.ml_synthesis.specs.declared.outcome.Outcome.TheVariants as outcome
use Rattle.ml_synthesis.proofs.Positions.{length-listed, listed, listed-apart, listed-member}
use Rattle.ml_task.specs.Task.{Task}

-- ---- states that are numbered breadth first

-- each state but the first stands in the row of an earlier one
pub record Earlier (rows : List (List ℕ)) (s : ℕ) : Type 0 where
  pub state : ℕ
  pub before : state < s
  pub place : ℕ
  pub below : place < length (get_or rows state [])
  pub leads : get_or (get_or rows state []) place 0 ≡ s

earlier_state : (rows : List (List ℕ)) (s : ℕ) → AreInOrder rows → 0 < s → s < length rows → Earlier rows s
earlier_state rows s order some low =
    let long = length-range_with_len 0 (length rows) in
    let (j, before, member) = order.from_earlier s some (omega (arith, low, long)) in
    let here = get_or-range_with_len 0 (length rows) s 0 low in
    let p = member-place s (get_or rows j [])
    (subst (λ k. IsMember k (get_or rows j [])) (here ∙ omega arith) member) in
    record { state = j; before = before; place = p.place; below = p.below; leads = p.holds 0 }

-- what is true of state 0, and of each further one where it is true of an earlier one, is true of all
all_states : (P : ℕ → Type 0) (rows : List (List ℕ))
    → AreInOrder rows
    → P 0
    → ((s : ℕ) → s < length rows → (e : Earlier rows s) → P e.state → P s)
    → (k s : ℕ)
    → s < k
    → s < length rows
    → P s
all_states P rows order begins on zero s low inside = absurd (omega (arith, low))
all_states P rows order begins on (suc k) s low inside =
    ⊎_elim
    (λ (some : 0 < s).
    let e = earlier_state rows s order some inside in
    on s inside e
    (all_states P rows order begins on k e.state (let before = e.before in omega (arith, low, before))
    (let before = e.before in omega (arith, inside, before))))
    (λ (none : s ≤ 0). let first : 0 ≡ s = omega (arith, none) in subst P first begins)
    (cases_lt 0 s)

module _ (i o neutral : ℕ) (moves : List (List DetMove)) where
  abbrev Met : Position ℕ → Type 0
  Met x = IsReached (automaton_of moves) 0 neutral i o x

  abbrev HasMore : ℕ → Type 0
  HasMore n = HasMorePositions (automaton_of moves) 0 neutral i o n

  -- different positions that are met are no more than there are
  no_more : (n k : ℕ) (position : ℕ → Position ℕ)
      → ((s t : ℕ) → s < k → t < k → position s ≡ position t → s ≡ t)
      → ((s : ℕ) → s < k → Met (position s))
      → ¬ (HasMore n)
      → k ≤ n
  no_more n k position one met within =
      ⊎_elim
      (λ (more : n < k).
      absurd (within (record {
        positions = listed position k;
        are_apart = listed-apart position k one;
        are_reached = λ x member.
            let v = listed-member position k x member in subst Met (sym v.is) (met v.place v.low);
        are_more = let long = length-listed position k in omega (arith, more, long);
      })))
      (λ (few : k ≤ n). few)
      (cases_lt n k)

  -- from a state over a set of inputs and a set of outputs
  goes_on : (q p ins outs : ℕ)
      → ins < 2 ^ i
      → outs < 2 ^ o
      → Met (at_state q p)
      → Met (at_state (move_at moves q (valuation i ins outs)).to (move_at moves q (valuation i ins outs)).priority)
  goes_on q p ins outs low few met =
      let v = valuation i ins outs in
      along (with_inputs q ins) (at_state (move_at moves q v).to (move_at moves q v).priority)
      (along (at_state q p) (with_inputs q ins) met (by_inputs q p ins low)) (by_outputs q ins outs few)

  -- ---- machines

  module _ (m : MachineTable) (made : IsMade i o moves m) where
    record Arrives (s : ℕ) : Type 0 where
      pub priority : ℕ
      pub met : Met (at_state (made.stands.state s) priority)

    row_is : (j : ℕ) → j < length m → get_or (map nexts m) j [] ≡ nexts (get_or m j [])
    row_is j low = get_or-map nexts m j [] [] low

    -- what stands in the row of a state is what a step leads to
    on : (s : ℕ) → s < length (map nexts m) → (e : Earlier (map nexts m) s) → Arrives e.state → Arrives s
    on s inside e at =
        let j = e.state in
        let ins = e.place in
        let before = e.before in
        let rows = length-map m nexts in
        let low : j < length m = omega (arith, inside, before, rows) in
        let row = row_is j low in
        let steps = get_or m j [] in
        let wide = length-map steps (λ (x : MachineStep). x.next) in
        let each = made.fits.a_step_each j low in
        let below = e.below in
        let set : ins < 2 ^ i = omega (arith, below, ap length row, wide, each) in
        let x = step_at m j ins in
        let next : x.next ≡ s =
        sym (get_or-map (λ (y : MachineStep). y.next) steps ins (record { give = 0; next = 0 }) 0 (omega (arith, set, each)))
        ∙ ap (λ r. get_or r ins 0) (sym row) ∙ e.leads in
        let v = valuation i ins x.give in
        record {
          priority = (move_at moves (made.stands.state j) v).priority;
          met =
              subst (λ k. Met (at_state k (move_at moves (made.stands.state j) v).priority))
              (sym (made.stands.follows j ins low set) ∙ ap made.stands.state next)
              (goes_on (made.stands.state j) at.priority ins x.give set (made.fits.gives j ins low set) at.met);
        }

    arrives : (s : ℕ) → s < length m → Arrives s
    arrives s low =
        let rows = length-map m nexts in
        all_states Arrives (map nexts m) made.in_order
        (record { priority = neutral; met = subst (λ q. Met (at_state q neutral)) (sym made.stands.begins) at_start }) on (suc s) s
        (omega arith) (omega (arith, low, rows))

    pub machine_few : (n : ℕ) → ¬ (HasMore n) → length m ≤ n
    machine_few n within =
        no_more n (length m) (λ s. with_inputs (made.stands.state s) 0)
        (λ s t s_low t_low same. made.stands.apart s t s_low t_low (of_state same))
        (λ s low.
        let at = arrives s low in
        along (at_state (made.stands.state s) at.priority) (with_inputs (made.stands.state s) 0) at.met
        (by_inputs (made.stands.state s) at.priority 0 (pow_pos i)))
        within
      where
        state_in : Position ℕ → ℕ
        state_in (at_state q p) = q
        state_in (with_inputs q ins) = q

        of_state : {q k : ℕ} → with_inputs q 0 ≡ with_inputs k 0 → q ≡ k
        of_state same = ap state_in same

  -- ---- environments

  module _ (e : EnvironmentTable) (made : IsDefeat i o neutral moves e) where
    abbrev position : ℕ → Position ℕ
    position s = at_state (made.stands.pair s).to (made.stands.pair s).priority

    step : (s : ℕ) → s < length e.next → (x : Earlier e.next s) → Met (position x.state) → Met (position s)
    step s inside x met =
        let j = x.state in
        let outs = x.place in
        let before = x.before in
        let one = made.fits.a_row_each in
        let low : j < length e.plays = omega (arith, inside, before, one) in
        let each = made.fits.a_next_each j low in
        let below = x.below in
        let set : outs < 2 ^ o = omega (arith, below, each) in
        let pair = made.stands.pair in
        let v = valuation i (play_at e j) outs in
        subst (λ (k : DetMove). Met (at_state k.to k.priority)) (sym (made.stands.follows j outs low set) ∙ ap pair x.leads)
        (goes_on (pair j).to (pair j).priority (play_at e j) outs (made.fits.plays_sets j low) set met)

    pair_met : (s : ℕ) → s < length e.plays → Met (position s)
    pair_met s low =
        let one = made.fits.a_row_each in
        all_states (λ k. Met (position k)) e.next made.in_order
        (subst (λ (k : DetMove). Met (at_state k.to k.priority)) (sym made.stands.begins) at_start) step (suc s) s (omega arith)
        (omega (arith, low, one))

    pub environment_few : (n : ℕ) → ¬ (HasMore n) → length e.plays ≤ n
    environment_few n within =
        no_more n (length e.plays) position
        (λ s t s_low t_low same. made.stands.apart s t s_low t_low (λ j. move_in (same j))) pair_met within
      where
        move_in : Position ℕ → DetMove
        move_in (at_state q p) = record { priority = p; to = q }
        move_in (with_inputs q ins) = record { priority = 0; to = q }

-- ---- of a task

pub found_few : (t : Task) (n : ℕ) (r : Outcome) → IsFound t n r → states_of r ≤ n
found_few t n r found = go r found.is_outcome
  where
    one_each : length found.reading.row ≡ 2 ^ (inputs_of t + outputs_of t)
    one_each = found.reading.is_row.one_each ∙ ap (λ k. 2 ^ k) (length-append t.inputs t.outputs)

    within : ¬ (HasMore (inputs_of t) (outputs_of t) (2 * (states found.reading + 1)) found.moves n)
    within more =
        found.within
        (to_histories (states found.reading) found.reading.row (inputs_of t) (outputs_of t) one_each found.moves found.are_numbered n more)

    go : (x : Outcome)
        → IsOutcome (inputs_of t) (outputs_of t) (2 * (states found.reading + 1)) found.moves x
        → states_of x ≤ n
    go (outcome.Made m) made =
        machine_few (inputs_of t) (outputs_of t) (2 * (states found.reading + 1)) found.moves m made n within
    go (outcome.Defeated e) made =
        environment_few (inputs_of t) (outputs_of t) (2 * (states found.reading + 1)) found.moves e made n within
