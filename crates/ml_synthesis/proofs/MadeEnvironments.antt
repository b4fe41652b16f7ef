-- The environment of a winning strategy defeats all machines.
--
--   environment_fits, environment_stands == it fits, and its states stand for states with priorities
--   environment_accepts                  == where the strategy wins for Odd, each word of it is accepted
--   is_defeat                            == all of it
use Rattle.std.proofs.Common.{ℕ, zero, suc, ◌≡◌, ◌+◌, ◌-◌, ◌*◌, ◌/◌, ◌%◌, ◌^◌, ◌<◌, ◌≤◌, ⊎_elim, arith, List, [], ◌∷◌}
use Rattle.std.proofs.Common.{length, get_or}
use Rattle.std.proofs.Common.{slice_get, Some, sym, ap, ◌∙◌, subst}
use Rattle.std.proofs.Math.Nat.{mod-lt}
use Rattle.std.proofs.lemmas.Bool.{cases_lt}
use Rattle.std.proofs.lemmas.List.{get_or_append_left}
use Rattle.std.proofs.lemmas.Nat.{mod-mul-add}
use Rattle.std.proofs.lemmas.Option.{get_or_from_slice_get, same_Some, slice_get-get_or, slice_get_within}
use Rattle.ml_parity.specs.declared.players.Player.TheVariants.{Even, Odd}
use Rattle.ml_parity.specs.Game.{ParityGame, moves_of, size}
use Rattle.ml_parity.specs.Solution.{GameSolution, choice_at}
use Rattle.ml_parity.specs.Winner.{WinsFrom}
use Rattle.ml_trace.specs.WordAutomata.{WordLasso, IsDetAcceptedFrom}
use Rattle.ml_determinise.specs.Numbering.{automaton_of, move_at}
use Rattle.ml_determinise.specs.declared.moves.DetMove.{DetMove}
use Rattle.ml_synthesis.specs.Machines.{valuation, EnvironmentTable, EnvironmentFits, EnvironmentGoes, play_at, next_at}
use Rattle.ml_synthesis.specs.Machines.{IsEnvironmentWord}
use Rattle.ml_synthesis.specs.Synthesis.{EnvironmentStands, IsDefeat}
use Rattle.ml_synthesis.specs.declared.arrival.Arrival.{Arrival}
use Rattle.ml_synthesis.specs.private.Arena.{arrival_of, begun}
use Rattle.ml_synthesis.specs.private.Numbered.{IsEnvironment}
use Rattle.ml_synthesis.specs.private.Solved.{IsSolved}
use Rattle.ml_synthesis.proofs.AlongWords.{AreParts, at, at_end, at_first, letter_parts, named, run_closed, states_low}
use Rattle.ml_synthesis.proofs.Answered.{letter_low}
use Rattle.ml_synthesis.proofs.Arenas.{arena_is_board, arrival_low, known_at, reply_at, row_length}
use Rattle.ml_synthesis.proofs.Choices.{IsSetChoice, choice_at_state}
use Rattle.ml_synthesis.proofs.RowsMet.{met_in_order}
use Rattle.ml_synthesis.proofs.Runs.{behind}
use Rattle.ml_synthesis.proofs.Boards.{reply}
use Rattle.ml_synthesis.proofs.WordPlays.{odd_accepts, letter, letter_end, vertex}
use Rattle.ml_synthesis.proofs.WordPlays as plays

module _ (i o base : ℕ) (ks : List Arrival) (g : ParityGame) (s : GameSolution) (solved : IsSolved (2 ^ i) base ks g s)
    (outs_are : solved.output_sets ≡ 2 ^ o) (e : EnvironmentTable) (is : IsEnvironment (2 ^ i) base g s.choice e) where
  abbrev n : ℕ
  n = 2 ^ i

  abbrev moves : List (List DetMove)
  moves = solved.moves

  abbrev choice : ℕ → ℕ
  choice = choice_at s.choice

  -- the vertex for which a state stands, and its arrival
  abbrev place : ℕ → ℕ
  place t = get_or is.states t 0

  abbrev arrival : ℕ → Arrival
  arrival t = get_or ks (place t - base) (record { state = 0; priority = 0 })

  abbrev name : ℕ → ℕ
  name t = (arrival t).state

  sizes : size g ≡ base + length ks
  sizes = solved.arena.owners ∙ ap (λ b. b + length ks) (sym solved.base_is)

  place_at : (t : ℕ) → t < length e.plays → slice_get is.states t ≡ Some (place t)
  place_at t low = slice_get-get_or is.states t 0 (let all = is.all in omega (arith, low, all))

  behind_base : (t : ℕ) → t < length e.plays → base ≤ place t
  behind_base t low = is.met.met.numbers.from_first t (place t) (place_at t low)

  place_low : (t : ℕ) → t < length e.plays → place t < size g
  place_low t low = is.met.met.numbers.low t (place t) (place_at t low)

  arrival_at : (t : ℕ) → t < length e.plays → slice_get ks (place t - base) ≡ Some (arrival t)
  arrival_at t low =
      slice_get-get_or ks (place t - base) (record { state = 0; priority = 0 })
      (let a = behind_base t low in let b = place_low t low in let c = sizes in omega (arith, a, b, c))

  name_low : (t : ℕ) → t < length e.plays → name t < length moves
  name_low t low =
      arrival_low n solved.output_sets solved.neutral moves ks g solved.are_moves solved.arena (place t - base)
      (arrival t) (arrival_at t low)

  -- the set of inputs that is played
  record IsPlayed (t : ℕ) : Type 0 where
    ins : ℕ
    is_set : ins < n
    choice_is : choice (place t) ≡ name t * n + ins
    play_is : play_at e t ≡ ins

  played : (t : ℕ) → t < length e.plays → IsPlayed t
  played t low =
      let c = choice_at_state n base ks g s solved (place t) (behind_base t low) (place_low t low) in
      let same : c.arrival ≡ arrival t = same_Some c.arrival (arrival t) (sym (stands c) ∙ arrival_at t low) in
      let value : choice (place t) ≡ name t * n + c.ins = c.is ∙ ap (λ (a : Arrival). a.state * n + c.ins) same in
      record {
        ins = c.ins;
        is_set = c.is_set;
        choice_is = value;
        play_is =
            (is.met.answers t (place t) low (place_at t low)).play_is ∙ ap (λ x. x % n) value
            ∙ mod-mul-add (name t) n c.ins c.is_set;
      }
    where
      stands : (c : IsSetChoice n base ks g s solved (place t)) → slice_get ks (place t - base) ≡ Some c.arrival
      stands c =
          let at_place : place t - base ≡ c.place = let v = c.vertex_is in omega (arith, v) in
          ap (slice_get ks) at_place ∙ c.stands

  row_long : (t : ℕ) → t < length e.plays → length (moves_of g (choice (place t))) ≡ 2 ^ o
  row_long t low =
      let p = played t low in
      ap (λ u. length (moves_of g u)) p.choice_is
      ∙ row_length n solved.output_sets solved.neutral moves ks g solved.are_moves solved.arena (name t) p.ins
      (name_low t low) p.is_set
      ∙ outs_are

  -- the vertex of the next state
  next_place : (t outs : ℕ) → t < length e.plays → outs < 2 ^ o
      → slice_get is.states (next_at e t outs) ≡ Some (get_or (moves_of g (choice (place t))) outs 0)
  next_place t outs low given =
      (is.met.answers t (place t) low (place_at t low)).numbers.stand outs
      (let long = row_long t low in omega (arith, given, long))

  leads : (t outs : ℕ) → t < length e.plays → outs < 2 ^ o → next_at e t outs < length e.plays
  leads t outs low given =
      let within = slice_get_within is.states (next_at e t outs) (get_or (moves_of g (choice (place t))) outs 0)
      (next_place t outs low given) in
      let all = is.all in
      omega (arith, within, all)

  place_next : (t outs : ℕ) → t < length e.plays → outs < 2 ^ o
      → place (next_at e t outs) ≡ reply g n (name t) (play_at e t) outs
  place_next t outs low given =
      let p = played t low in
      get_or_from_slice_get is.states (next_at e t outs) (get_or (moves_of g (choice (place t))) outs 0) 0
      (next_place t outs low given)
      ∙ ap (λ u. get_or (moves_of g u) outs 0) (p.choice_is ∙ ap (λ x. name t * n + x) (sym p.play_is))

  plays_set : (t : ℕ) → t < length e.plays → play_at e t < n
  plays_set t low = let p = played t low in subst (λ x. x < n) (sym p.play_is) p.is_set

  environment_fits : EnvironmentFits i o e
  environment_fits = record {
    some =
        let first = slice_get_within is.states 0 base is.met.met.begins in
        let all = is.all in
        omega (arith, first, all);
    a_row_each = sym is.met.a_play_each;
    a_next_each = λ t low.
        (is.met.answers t (place t) low (place_at t low)).numbers.one_each ∙ row_long t low;
    plays_sets = plays_set;
    leads = leads;
  }

  -- the next states stand for the ends of moves
  follows : (t outs : ℕ) → t < length e.plays → outs < 2 ^ o
      → arrival (next_at e t outs) ≡ arrival_of (move_at moves (name t) (valuation i (play_at e t) outs))
  follows t outs low given =
      let r = reply_at n solved.output_sets solved.neutral moves ks g solved.are_moves solved.arena (name t)
      (play_at e t) outs (name_low t low) (plays_set t low) (let same = outs_are in omega (arith, given, same)) in
      let value : place (next_at e t outs) ≡ base + r.place =
      place_next t outs low given ∙ r.is ∙ ap (λ b. b + r.place) (sym solved.base_is) in
      let at_place : place (next_at e t outs) - base ≡ r.place = omega (arith, value) in
      get_or_from_slice_get ks (place (next_at e t outs) - base) r.arrival (record { state = 0; priority = 0 })
      (ap (slice_get ks) at_place ∙ r.stands)
      ∙ r.ends

  first_place : place 0 ≡ base
  first_place = get_or_from_slice_get is.states 0 base 0 is.met.met.begins

  first_arrival : arrival 0 ≡ begun solved.neutral
  first_arrival =
      let none : place 0 - base ≡ 0 = let first = first_place in omega (arith, first) in
      get_or_from_slice_get ks (place 0 - base) (begun solved.neutral) (record { state = 0; priority = 0 })
      (ap (slice_get ks) none ∙ solved.arena.arrivals.begins)

  -- an arrival as a move
  abbrev move_of : Arrival → DetMove
  move_of a = record { priority = a.priority; to = a.state }

  environment_stands : EnvironmentStands i o solved.neutral moves e
  environment_stands = record {
    pair = λ t. move_of (arrival t);
    begins = ap move_of first_arrival;
    apart = λ t u t_low u_low same. one t u t_low u_low (ap arrival_of same);
    follows = λ t outs low given. ap move_of (follows t outs low given);
  }
    where
      one : (t u : ℕ) → t < length e.plays → u < length e.plays → arrival t ≡ arrival u → t ≡ u
      one t u t_low u_low same =
          let places : place t - base ≡ place u - base =
          solved.arena.arrivals.once (place t - base) (place u - base) (arrival u) (arrival_at t t_low ∙ ap Some same)
          (arrival_at u u_low) in
          let a = behind_base t t_low in
          let b = behind_base u u_low in
          let vertices : place t ≡ place u = omega (arith, places, a, b) in
          is.met.met.numbers.once t u (place u) (place_at t t_low ∙ ap Some vertices) (place_at u u_low)

  -- ---- words

  goes_low : (t v u : ℕ) → t < length e.plays → EnvironmentGoes i o e t v u → u < length e.plays
  goes_low t v u low goes = subst (λ x. x < length e.plays) (sym goes.next_is) (leads t goes.outs low goes.is_set)

  goes_named : (t v u : ℕ) → t < length e.plays → EnvironmentGoes i o e t v u → name u ≡ (move_at moves (name t) v).to
  goes_named t v u low goes =
      ap name goes.next_is
      ∙ ap (λ (a : Arrival). a.state) (follows t goes.outs low goes.is_set)
      ∙ ap (λ x. (move_at moves (name t) x).to) (sym goes.valuation_is)

  first_name : name 0 ≡ 0
  first_name = ap (λ (a : Arrival). a.state) first_arrival

  some : 0 < length e.plays
  some = environment_fits.some

  module _ (w : WordLasso ℕ) (along : IsEnvironmentWord i o e w) (wins : WinsFrom g Odd choice base) where
    abbrev goes : ℕ → ℕ → ℕ → Type 0
    goes = EnvironmentGoes i o e

    abbrev met : ℕ → ℕ
    met = at goes w along

    at_low : (k : ℕ) → k ≤ length w.word → met k < length e.plays
    at_low = states_low goes w along (length e.plays) some goes_low

    word_low : (k : ℕ) → k < length w.word → get_or w.word k 0 < n * solved.output_sets
    word_low k here =
        let step = along.goes_on k here in
        let t_low = at_low k (omega (arith, here)) in
        let same = outs_are in
        subst (λ v. v < n * solved.output_sets) (sym step.valuation_is)
        (letter_low n solved.output_sets (play_at e (met k)) step.outs (plays_set (met k) t_low)
        (let given = step.is_set in omega (arith, given, same)))

    name_is : (k : ℕ) → k ≤ length w.word → behind (automaton_of moves) 0 w.word k ≡ name (met k)
    name_is = named goes w along (automaton_of moves) (length e.plays) some goes_low name first_name goes_named

    parts : (k : ℕ) (here : k < length w.word) → AreParts n (letter w k) (play_at e (met k)) (along.goes_on k here).outs
    parts k here =
        letter_parts n (letter w k) (play_at e (met k)) (along.goes_on k here).outs
        (plays_set (met k) (at_low k (omega (arith, here))))
        (get_or_append_left w.word (get_or w.word w.loop_start 0 ∷ []) 0 k here ∙ (along.goes_on k here).valuation_is)

    abbrev the_vertex : ℕ → ℕ
    the_vertex = vertex g (automaton_of moves) n solved.output_sets (length moves) solved.neutral (length moves * n)
        (arena_is_board n solved.output_sets solved.neutral moves ks g solved.are_moves solved.arena) w

    -- the vertices of the play are those for which the states stand
    vertex_is : (k : ℕ) → k ≤ length w.word → the_vertex k ≡ place (met k)
    vertex_is zero here = sym (ap place (at_first goes w along) ∙ first_place ∙ solved.base_is)
    vertex_is (suc k) here =
        let inner : k < length w.word = omega (arith, here) in
        let one : k + 1 ≡ suc k = omega arith in
        let t_low = at_low k (omega (arith, here)) in
        let goes_here = along.goes_on k inner in
        ap (λ q. reply g n q (letter w k % n) (letter w k / n)) (name_is k (omega (arith, here)))
        ∙ ap (λ a. reply g n (name (met k)) a (letter w k / n)) (parts k inner).inputs
        ∙ ap (reply g n (name (met k)) (play_at e (met k))) (parts k inner).outputs
        ∙ sym (place_next (met k) goes_here.outs t_low goes_here.is_set)
        ∙ ap place (sym goes_here.next_is)
        ∙ ap (λ j. place (met j)) one

    -- the inputs along the word are those that are played
    known_inner : (k : ℕ) → k < length w.word
        → name (met k) * n + letter w k % n ≡ choice (place (met k))
    known_inner k here =
        let p = played (met k) (at_low k (omega (arith, here))) in
        ap (λ x. name (met k) * n + x) ((parts k here).inputs ∙ p.play_is) ∙ sym p.choice_is

    known_is : (k : ℕ) → k ≤ length w.word → name (met k) * n + letter w k % n ≡ choice (place (met k))
    known_is k here =
        ⊎_elim
        (λ (inner : k < length w.word). known_inner k inner)
        (λ (past : length w.word ≤ k).
        let last : k ≡ length w.word = omega (arith, here, past) in
        let state : met k ≡ met w.loop_start = ap met last ∙ at_end goes w along in
        let same : letter w k ≡ letter w w.loop_start =
        ap (letter w) last
        ∙ letter_end g (automaton_of moves) n solved.output_sets (length moves) solved.neutral (length moves * n)
        (arena_is_board n solved.output_sets solved.neutral moves ks g solved.are_moves solved.arena) w along.loops
        word_low in
        ap (λ t. name t * n + letter w k % n) state
        ∙ ap (λ l. name (met w.loop_start) * n + l % n) same
        ∙ known_inner w.loop_start along.loops
        ∙ ap (λ t. choice (place t)) (sym state))
        (cases_lt k (length w.word))

    follows_choice : plays.AreMoves g (automaton_of moves) n solved.output_sets (length moves) solved.neutral
        (length moves * n)
        (arena_is_board n solved.output_sets solved.neutral moves ks g solved.are_moves solved.arena) w Odd choice
    follows_choice = record {
      to_known = λ k here own.
          ap (λ q. q * n + letter w k % n) (name_is k here) ∙ known_is k here ∙ ap choice (sym (vertex_is k here));
      to_state = λ k here own.
          let even = (known_at n solved.output_sets solved.neutral moves ks g solved.are_moves solved.arena
          (behind (automaton_of moves) 0 w.word k) (letter w k % n)
          (subst (λ q. q < length moves) (sym (name_is k (omega (arith, here))))
          (name_low (met k) (at_low k (omega (arith, here)))))
          (mod-lt (letter w k) solved.are_moves.sets)).owner in
          let wrong : Even ≡ Odd = sym even ∙ own in
          absurd (cc);
    }

    environment_accepts : IsDetAcceptedFrom (automaton_of moves) 0 w
    environment_accepts =
        odd_accepts g (automaton_of moves) n solved.output_sets (length moves) solved.neutral (length moves * n)
        (arena_is_board n solved.output_sets solved.neutral moves ks g solved.are_moves solved.arena) w along.loops
        word_low
        (run_closed goes w along (automaton_of moves) (length e.plays) some goes_low name first_name goes_named)
        choice follows_choice (subst (WinsFrom g Odd choice) solved.base_is wins)

  pub is_defeat : WinsFrom g Odd choice base → IsDefeat i o solved.neutral moves e
  is_defeat wins = record {
    fits = environment_fits;
    defeats = λ w along. environment_accepts w along wins;
    stands = environment_stands;
    in_order = met_in_order base (size g) is.states e.next is.met.met (sym is.met.a_play_each ∙ is.all);
  }
