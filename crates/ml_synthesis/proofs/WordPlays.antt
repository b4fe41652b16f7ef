-- Words as plays of the game over an automaton.
--
-- A word lasso whose run is back behind one turn is a play: through a state of the automaton, its inputs, the next
-- state, and so on, and round for ever. Where the play follows a strategy that wins, it tells whether the automaton
-- accepts the word.
--
--   letter, state, inputs, vertex, known == the letters of a word, the states along it, and the vertices
--   AreMoves p s             == the play of the word follows the strategy s of p
--   even_refuses             == where s wins for Even, the word isn't accepted
--   odd_accepts              == where it wins for Odd, the word is
use Rattle.std.proofs.Common.{ℕ, zero, suc, ◌≡◌, ◌+◌, ◌-◌, ◌*◌, ◌/◌, ◌%◌, ◌<◌, ◌≤◌, ◌⊎◌, inl, inr, ⊎_elim, arith}
use Rattle.std.proofs.Common.{List, [], ◌∷◌, ◌++◌, length, take, get_or, refl, sym, ap, ◌∙◌, subst, length-drop, eqb}
use Rattle.std.proofs.Common.{eq-eqb}
use Rattle.std.proofs.Math.Nat.{mod-add-div, mod-lt, div-lt_iff_lt-mul}
use Rattle.std.proofs.Math.Seq.{take-length, take-add}
use Rattle.std.proofs.lemmas.Bool.{cases_eq, cases_lt, cond-true}
use Rattle.std.proofs.lemmas.List.{get_or-drop, get_or_append_left, get_or_push, take-append-drop}
use Rattle.ml_lists.specs.Member.{IsMember}
use Rattle.ml_lists.proofs.Member.{All-member, member-All}
use Rattle.ml_parity.specs.declared.players.Player.{Player}
use Rattle.ml_parity.specs.declared.players.Player.TheVariants.{Even, Odd}
use Rattle.ml_parity.specs.Game.{ParityGame, owner_of, priority_of}
use Rattle.ml_parity.specs.Player.{side}
use Rattle.ml_parity.specs.Winner.{WinsFrom}
use Rattle.ml_parity.proofs.FollowedWalks.{FollowedMove, FollowedWalk, won_behind}
use Rattle.ml_parity.proofs.FollowedWalks.{closed_walk_good, odd_is_not_even}
use Rattle.ml_trace.specs.WordAutomata.{WordLasso, stem, turn, DetAutomaton, state_behind, priorities}
use Rattle.ml_trace.specs.WordAutomata.{IsDetAcceptedFrom}
use Rattle.ml_synthesis.proofs.Runs.{IsOddRound, IsAtLetter, behind, behind_next, letter_priority, priority_letter}
use Rattle.ml_synthesis.proofs.Runs.{state_behind-append, at_loop, round_accepts, accepted_round}
use Rattle.ml_synthesis.proofs.Boards.{IsBoard, IsState, reply}
use Rattle.ml_synthesis.proofs.Rounds.{IsRound, round_from, won_at}

abbrev pub letter : WordLasso ℕ → ℕ → ℕ
letter w k = get_or (w.word ++ get_or w.word w.loop_start 0 ∷ []) k 0

module _ (g : ParityGame) (d : DetAutomaton ℕ ℕ) (n m states neutral base : ℕ)
    (board : IsBoard g d n m states neutral base)
    (w : WordLasso ℕ) where
  -- the state before letter k, and the inputs and outputs of the letter
  abbrev pub state : ℕ → ℕ
  state k = behind d 0 w.word k

  abbrev pub inputs : ℕ → ℕ
  inputs k = letter w k % n

  abbrev pub outputs : ℕ → ℕ
  outputs k = letter w k / n

  -- the vertices of the state, and of the state with its inputs
  abbrev pub vertex : ℕ → ℕ
  vertex zero = base
  vertex (suc k) = reply g n (state k) (inputs k) (outputs k)

  abbrev pub known : ℕ → ℕ
  known k = state k * n + inputs k

  abbrev pub priority : ℕ → ℕ
  priority k = d.priority (state k) (letter w k)

  -- the play of the word follows the strategy
  pub record AreMoves (p : Player) (s : ℕ → ℕ) : Type 0 where
    pub to_known : (k : ℕ) → k ≤ length w.word → owner_of g (vertex k) ≡ p → known k ≡ s (vertex k)
    pub to_state : (k : ℕ) → k < length w.word → owner_of g (known k) ≡ p → vertex (suc k) ≡ s (known k)

  module _ (loops : w.loop_start < length w.word)
      (low : (k : ℕ) → k < length w.word → get_or w.word k 0 < n * m) where
    len : ℕ
    len = length w.word

    pub letter_is : (k : ℕ) → k < length w.word → letter w k ≡ get_or w.word k 0
    letter_is k here = get_or_append_left w.word (get_or w.word w.loop_start 0 ∷ []) 0 k here

    pub letter_end : letter w (length w.word) ≡ letter w w.loop_start
    letter_end =
        get_or_push w.word (get_or w.word w.loop_start 0) 0 (length w.word) refl ∙ sym (letter_is w.loop_start loops)

    pub letter_low : (k : ℕ) → k ≤ length w.word → letter w k < n * m
    letter_low k here =
        ⊎_elim
        (λ (inner : k < length w.word). let is = letter_is k inner in let small = low k inner in
        omega (arith, is, small))
        (λ (past : length w.word ≤ k).
        let same : k ≡ length w.word = omega (arith, here, past) in
        let is = ap (letter w) same ∙ letter_end ∙ letter_is w.loop_start loops in
        let small = low w.loop_start loops in
        omega (arith, is, small))
        (cases_lt k (length w.word))

    inputs_low : (k : ℕ) → inputs k < n
    inputs_low k = mod-lt (letter w k) board.some

    outputs_low : (k : ℕ) → k ≤ length w.word → outputs k < m
    outputs_low k here =
        (div-lt_iff_lt-mul {k = n} {x = letter w k} {y = m} board.some).1
        (let small = letter_low k here in omega (arith, small))

    whole : (k : ℕ) → inputs k + n * outputs k ≡ letter w k
    whole k = mod-add-div (letter w k) n

    state_next : (k : ℕ) → k < length w.word → state (suc k) ≡ d.next (state k) (letter w k)
    state_next k here = behind_next d 0 w.word k 0 here ∙ ap (d.next (state k)) (sym (letter_is k here))

    pub state_low : (k : ℕ) → k ≤ length w.word → state k < states
    state_low zero here = board.starts
    state_low (suc k) here =
        let before_it = state_low k (omega (arith, here)) in
        subst (λ q. q < states) (sym (state_next k (omega (arith, here))))
        (board.stays (state k) (letter w k) before_it (letter_low k (omega (arith, here))))

    state_begins : state w.loop_start ≡ at_loop d 0 w
    state_begins = refl

    pub state_ends : state (length w.word) ≡ state_behind d (at_loop d 0 w) (turn w)
    state_ends =
        ap (state_behind d 0) (take-length w.word ∙ sym (take-append-drop w.loop_start w.word))
        ∙ state_behind-append d 0 (stem w) (turn w)

    abbrev arrival : ℕ → ℕ
    arrival zero = neutral
    arrival (suc k) = priority k

    pub is_state : (k : ℕ) → k ≤ length w.word → IsState g n (vertex k) (state k) (arrival k)
    is_state zero here = board.begins
    is_state (suc k) here =
        let inner : k < length w.word = omega (arith, here) in
        let reached = board.leads (state k) (inputs k) (outputs k) (state_low k (omega (arith, here))) (inputs_low k)
        (outputs_low k (omega (arith, here))) in
        subst (λ q. IsState g n (vertex (suc k)) q (priority k)) (sym (state_next k inner))
        (subst (λ l. IsState g n (vertex (suc k)) (d.next (state k) l) (d.priority (state k) l)) (whole k) reached)

    -- the priorities of one turn are those of the letters from the loop start on
    turn_state : (j : ℕ) → behind d (at_loop d 0 w) (turn w) j ≡ state (w.loop_start + j)
    turn_state j =
        sym (state_behind-append d 0 (stem w) (take j (turn w)))
        ∙ ap (state_behind d 0) (sym (take-add w.loop_start j w.word))

    turn_priority : (j : ℕ) → j < length (turn w)
        → d.priority (behind d (at_loop d 0 w) (turn w) j) (get_or (turn w) j 0) ≡ priority (w.loop_start + j)
    turn_priority j here =
        let inside : w.loop_start + j < length w.word = omega (arith, here, loops, length-drop w.loop_start w.word) in
        ap (λ q. d.priority q (get_or (turn w) j 0)) (turn_state j)
        ∙ ap (d.priority (state (w.loop_start + j)))
        (get_or-drop w.loop_start w.word j 0 ∙ sym (letter_is (w.loop_start + j) inside))

    abbrev of_turn : List ℕ
    of_turn = priorities d (at_loop d 0 w) (turn w)

    on_turn : (k : ℕ) → w.loop_start ≤ k → k < length w.word → IsMember (priority k) of_turn
    on_turn k later here =
        let j : ℕ = k - w.loop_start in
        let inside : k - w.loop_start < length (turn w) = omega (arith, later, here, length-drop w.loop_start w.word) in
        let same : w.loop_start + (k - w.loop_start) ≡ k = omega (arith, later) in
        subst (λ r. IsMember r of_turn) (turn_priority (k - w.loop_start) inside ∙ ap priority same)
        (letter_priority d (at_loop d 0 w) (turn w) (k - w.loop_start) 0 inside)

    pub record IsOnTurn (r : ℕ) : Type 0 where
      pub place : ℕ
      pub later : w.loop_start ≤ place
      pub inside : place < length w.word
      pub is : r ≡ priority place

    from_turn : (r : ℕ) → IsMember r of_turn → IsOnTurn r
    from_turn r inside =
        let a : IsAtLetter d (at_loop d 0 w) (turn w) 0 r = priority_letter d (at_loop d 0 w) (turn w) 0 r inside in
        record {
          place = w.loop_start + a.place;
          later = omega arith;
          inside = omega (arith, a.low, loops, length-drop w.loop_start w.word);
          is = a.is ∙ turn_priority a.place a.low;
        }

    module _ (closed : state_behind d (at_loop d 0 w) (turn w) ≡ at_loop d 0 w) (p : Player) (s : ℕ → ℕ)
        (moves : AreMoves p s) (wins : WinsFrom g p s base) where
      known_back : known (length w.word) ≡ known w.loop_start
      known_back =
          ap (λ q. q * n + inputs (length w.word)) (state_ends ∙ closed)
          ∙ ap (λ l. state w.loop_start * n + l % n) letter_end

      to_known : (k : ℕ) → k ≤ length w.word → FollowedMove g p s (vertex k) (known k)
      to_known k here = record {
        move = (is_state k here).sets (inputs k) (inputs_low k);
        chosen = moves.to_known k here;
      }

      to_state : (k : ℕ) → k < length w.word → FollowedMove g p s (known k) (vertex (suc k))
      to_state k here = record {
        move = board.replies (state k) (inputs k) (outputs k) (state_low k (omega (arith, here))) (inputs_low k)
            (outputs_low k (omega (arith, here)));
        chosen = moves.to_state k here;
      }

      known_priority : (k : ℕ) → k < length w.word → priority_of g (known k) ≡ neutral
      known_priority k here = board.priority (state k) (inputs k) (state_low k (omega (arith, here))) (inputs_low k)

      state_priority : (k : ℕ) → k < length w.word → priority_of g (vertex (suc k)) ≡ priority k
      state_priority k here = (is_state (suc k) (omega (arith, here))).priority

      the_round : IsRound g p s known priority neutral w.loop_start (length w.word)
      the_round =
          let e : w.loop_start + suc (length w.word - suc w.loop_start) ≡ length w.word = omega (arith, loops) in
          subst (IsRound g p s known priority neutral w.loop_start) e
          (round_from g p s vertex known priority neutral (length w.word) to_known to_state known_priority
          state_priority w.loop_start (length w.word - suc w.loop_start) (omega (arith, loops)))

      good : side the_round.lowest ≡ p
      good =
          closed_walk_good g p s (known w.loop_start) the_round.lowest
          (subst (FollowedWalk g p s (known w.loop_start) the_round.lowest) known_back the_round.walk)
          (won_behind g p s (vertex w.loop_start) (known w.loop_start) (to_known w.loop_start (omega (arith, loops)))
          (won_at g p s vertex known priority neutral (length w.word) to_known to_state known_priority state_priority
          wins w.loop_start (omega (arith, loops))))

    module _ (closed : state_behind d (at_loop d 0 w) (turn w) ≡ at_loop d 0 w) (s : ℕ → ℕ) where
      pub even_refuses : AreMoves Even s → WinsFrom g Even s base → IsDetAcceptedFrom d 0 w → ⊥
      even_refuses moves wins a = odd_is_not_even r.lowest is_odd (good closed Even s moves wins)
        where
          r : IsRound g Even s known priority neutral w.loop_start (length w.word)
          r = the_round closed Even s moves wins

          odd : IsOddRound of_turn
          odd = accepted_round d 0 w closed a

          met : IsOnTurn odd.lowest
          met = from_turn odd.lowest odd.is_lowest.is_one

          least : (k : ℕ) → w.loop_start ≤ k → k < length w.word → odd.lowest ≤ priority k
          least k later here = All-member (λ q. odd.lowest ≤ q) of_turn odd.is_lowest.is_low (priority k)
              (on_turn k later here)

          above : odd.lowest ≤ r.lowest
          above = by_kind r.is_one
            where
              by_kind : (r.lowest ≡ neutral) ⊎
                  ((k : ℕ) × (w.loop_start ≤ k) × (k < length w.word) × (r.lowest ≡ priority k))
                  → odd.lowest ≤ r.lowest
              by_kind (inl is) =
                  let bound = board.low (state met.place) (letter w met.place)
                  (state_low met.place (omega (arith, met.inside)))
                  (letter_low met.place (omega (arith, met.inside))) in
                  let value = met.is in
                  omega (arith, is, bound, value)
              by_kind (inr at) = let bound = least at.0 at.1 at.2 in let value = at.3 in omega (arith, bound, value)

          is_odd : r.lowest % 2 ≡ 1
          is_odd =
              let under = r.below met.place met.later met.inside in
              let value = met.is in
              let same : r.lowest ≡ odd.lowest = omega (arith, under, value, above) in
              ap (λ k. k % 2) same ∙ odd.is_odd

      pub odd_accepts : AreMoves Odd s → WinsFrom g Odd s base → IsDetAcceptedFrom d 0 w
      odd_accepts moves wins = round_accepts d 0 w closed (by_kind r.is_one)
        where
          r : IsRound g Odd s known priority neutral w.loop_start (length w.word)
          r = the_round closed Odd s moves wins

          is_odd : r.lowest % 2 ≡ 1
          is_odd =
              ⊎_elim
              (λ (even : r.lowest % 2 ≡ 0).
              let other : side r.lowest ≡ Even =
              cond-true (eqb (r.lowest % 2) 0) Even Odd (eq-eqb (r.lowest % 2) 0 even) in
              let wrong : Even ≡ Odd = sym other ∙ good closed Odd s moves wins in
              absurd (cc))
              (λ (other : r.lowest % 2 ≡ 0 → ⊥). omega (arith, other))
              (cases_eq (r.lowest % 2) 0)

          by_kind : (r.lowest ≡ neutral) ⊎
              ((k : ℕ) × (w.loop_start ≤ k) × (k < length w.word) × (r.lowest ≡ priority k))
              → IsOddRound of_turn
          by_kind (inl is) = let value = board.even in absurd (omega (arith, is, value, is_odd))
          by_kind (inr at) = record {
            lowest = r.lowest;
            is_lowest = record {
              is_one = subst (λ k. IsMember k of_turn) (sym at.3) (on_turn at.0 at.1 at.2);
              is_low = member-All (λ q. r.lowest ≤ q) of_turn (λ q inside.
                  let met = from_turn q inside in
                  let value = met.is in
                  let under = r.below met.place met.later met.inside in
                  omega (arith, value, under));
            };
            is_odd = is_odd;
          }
