-- The theorem: the graph holds at the start of the model.
--
-- Suppose that a strategy of Odd's wins from the start. Then from a state that the play entered, at a node, it comes
-- to a next one, for ever; there are finitely many pairs of a state and a node, so one comes again. Between the two
-- times the play of the checking game has an odd lowest priority d, since Odd wins it. The guess d has a stack in the
-- history of the state where the loop begins, since it was entered by a step; it is kept on the whole loop, and where
-- d is met its transition accepts. By the second cycle law the lowest mark of the steps on the loop is odd. But they
-- are the priorities of a play of the decision game that follows Even's moves, which win.
--
--   onward, reach    == the next state that is entered, and the one behind so many steps
--   word             == the letters on the way
--   history_after, marks_are == histories and marks on the way are those of the positions
--   odd_walk         == the piece of the play of the checking game, with its lowest priority
--   accepts          == the guess of this priority has an accepting run
--   even_walk, tally == the piece of the play of the decision game, with the lowest of the marks
--   no_loop          == there is no loop
--   models_hold      == the theorem
use Rattle.std.proofs.Common.{ℕ, zero, suc, ◌≡◌, ◌+◌, ◌*◌, ◌-◌, ◌<◌, ◌≤◌, ◌%◌, ◌==◌, ◌⊎◌, inl, inr, min, Bool, true, List, [], ◌∷◌, map, slice_get, Some, refl, sym, ap, ◌∙◌, subst, arith}
use Rattle.std.specs.List.{filter}
use Rattle.std.proofs.lemmas.Bool.{cases_lt}
use Rattle.std.proofs.lemmas.Bool.Decides.{Decides-eqb}
use Rattle.std.proofs.lemmas.Nat.{mul-add-lt, same_from_place}
use Rattle.ml_base.specs.Structure.{IsStructure}
use Rattle.ml_lists.specs.Lowest.{lowest}
use Rattle.ml_lists.specs.Member.{IsMember}
use Rattle.ml_lists.specs.Pigeons.{Twice}
use Rattle.ml_lists.specs.Repeated.{repeated}
use Rattle.ml_lists.proofs.Ascending.{member-ascending}
use Rattle.ml_lists.proofs.Member.{member-filter}
use Rattle.ml_lists.proofs.Pigeons.{pigeons}
use Rattle.ml_lists.proofs.Repeated.{repeated-one}
use Rattle.ml_graph.specs.Graph.{size, odd_priorities}
use Rattle.ml_graph.specs.CheckingGame.{Pair, checking_game, Holds}
use Rattle.ml_graph.proofs.CheckingGame.{is_game}
use Rattle.ml_graph.proofs.OneStep.{vertex_low}
use Rattle.ml_graph.proofs.References.{root_in_range}
use Rattle.ml_parity.specs.declared.players.Player.TheVariants.{Even, Odd}
use Rattle.ml_parity.specs.Game.{priority_of}
use Rattle.ml_parity.specs.Winner.{Wins}
use Rattle.ml_parity.proofs.FollowedWalks.{walks_joined, closed_walk_good, odd_is_not_even}
use Rattle.ml_parity.proofs.Winners.{won_by_either}
use Rattle.ml_trace.specs.declared.letters.Transition.{Transition}
use Rattle.ml_trace.specs.declared.marks.Mark.{Mark}
use Rattle.ml_trace.specs.Marks.{priority}
use Rattle.ml_trace.specs.MarkOrder.{FitsBelow}
use Rattle.ml_trace.specs.Run.{Run, AcceptingRun, in_letter}
use Rattle.ml_trace.specs.Stack.{Item}
use Rattle.ml_trace.proofs.Priorities.{priorities_agree}
use Rattle.ml_history.specs.CycleLaws.{ReturnsTo, AcceptingCycle, HasState}
use Rattle.ml_history.specs.HistoryStep.{stepped, step_mark}
use Rattle.ml_history.specs.HistoryRuns.{after, marks_along}
use Rattle.ml_history.proofs.cycle_laws.SecondLaw.{run_has_odd_mark}
use Rattle.ml_product.specs.Position.{Position, start_of, neutral}
use Rattle.ml_product.specs.Arena.{game_of}
use Rattle.ml_product.proofs.ArenaGame as arena
use Rattle.ml_product.proofs.NeutralPriority.{mark_fits, sequent_low}
use Rattle.ml_product.proofs.Reached.{numbered}
use Rattle.ml_extract.specs.Model.{PositionAt, State}
use Rattle.ml_extract.specs.Extraction.{Extracted, ModelsHold}
use Rattle.ml_extract.proofs.Board.{won_at_first}
use Rattle.ml_extract.proofs.Setting.{Setting, board, even_moves, WonByMoves, EvenWalk}
use Rattle.ml_extract.proofs.Numbering.{FirstState, first_state, state_low, is_structure, reached_from_start, has_diamond}
use Rattle.ml_extract.proofs.OnlyEdge.{only_edge}
use Rattle.ml_extract.proofs.AtNodes.{Rival, pair, OddWalk, OddWins, AtState}
use Rattle.ml_extract.proofs.LeavingStates.{odd_side}
use Rattle.ml_extract.proofs.CrossedEdges.{facts_at, Entered, Step, step}

member_of_both : (xs : List ℕ) (j k : ℕ) → IsMember j xs → IsMember k xs → IsMember (min j k) xs
member_of_both xs j k at_j at_k = by_case (cases_lt j k)
  where
    by_case : (j < k) ⊎ (k ≤ j) → IsMember (min j k) xs
    by_case (inl less) = let e : j ≡ min j k = omega arith in subst (λ i. IsMember i xs) e at_j
    by_case (inr more) = let e : k ≡ min j k = omega arith in subst (λ i. IsMember i xs) e at_k

module _ (S : Setting) (R : Rival S) where
  go : (p : Entered S R) → Step S R p.place p.node
  go p = step S R p.place p.node p.member p.wins

  -- the next state that is entered
  abbrev onward : Entered S R → Entered S R
  onward p = (go p).next

  -- the one behind so many steps
  abbrev reach : ℕ → Entered S R → Entered S R
  reach zero p = p
  reach (suc n) p = reach n (onward p)

  reach-add : (i n : ℕ) (p : Entered S R) → reach (i + n) p ≡ reach n (reach i p)
  reach-add zero n p = let e : zero + n ≡ n = omega arith in ap (λ k. reach k p) e
  reach-add (suc i) n p =
      let e : suc i + n ≡ suc (i + n) = omega arith in ap (λ k. reach k p) e ∙ reach-add i n (onward p)

  -- the letters on the way
  abbrev word : ℕ → Entered S R → List (List Transition)
  word zero p = []
  word (suc n) p = (go p).letter ∷ word n (onward p)

  abbrev history_of : Entered S R → List (Item ℕ)
  history_of p = p.place.position.history

  abbrev priority_at : Entered S R → ℕ
  priority_at p = p.place.position.priority

  -- histories on the way are those of the positions
  history_after : (n : ℕ) (p : Entered S R) → after (history_of p) (word n p) ≡ history_of (reach n p)
  history_after zero p = refl
  history_after (suc n) p = ap (λ h. after h (word n (onward p))) (sym (go p).history) ∙ history_after n (onward p)

  -- ---- marks

  abbrev top : ℕ
  top = neutral S.g

  abbrev priorities : ℕ → Entered S R → List ℕ
  priorities zero p = []
  priorities (suc n) p = priority_at (onward p) ∷ priorities n (onward p)

  marks_are : (n : ℕ) (p : Entered S R) → map (priority top) (marks_along (history_of p) (word n p)) ≡ priorities n p
  marks_are zero p = refl
  marks_are (suc n) p =
      let rest : List (List Transition) = word n (onward p) in
      ap (λ k. k ∷ map (priority top) (marks_along (stepped (history_of p) (go p).letter) rest)) (sym (go p).marked)
      ∙ ap (λ h. priority_at (onward p) ∷ map (priority top) (marks_along h rest)) (sym (go p).history)
      ∙ ap (λ ks. priority_at (onward p) ∷ ks) (marks_are n (onward p))

  fits_first : (p : Entered S R) (letter : List Transition) → FitsBelow top (step_mark (history_of p) letter)
  fits_first p letter =
      let turn = (S.arena.played p.place.state.first p.place.position p.place.stands).turn in
      mark_fits S.g p.place.position (facts_at S p.place) turn.spread turn.is_spread letter

  fits : (n : ℕ) (p : Entered S R) (k : Mark) → IsMember k (marks_along (history_of p) (word n p)) → FitsBelow top k
  fits zero p k h = absurd h
  fits (suc n) p k (inl same) = subst (FitsBelow top) (sym same) (fits_first p (go p).letter)
  fits (suc n) p k (inr h) =
      fits n (onward p) k (subst (λ x. IsMember k (marks_along x (word n (onward p)))) (sym (go p).history) h)

  -- the lowest priority of the positions behind one step and n more
  abbrev lowest_behind : ℕ → Entered S R → ℕ
  lowest_behind n p = lowest (priority_at (onward p)) (priorities n (onward p))

  lowest_mark_is : (n : ℕ) (p : Entered S R)
      → lowest (priority top (step_mark (history_of p) (go p).letter))
      (map (priority top) (marks_along (stepped (history_of p) (go p).letter) (word n (onward p))))
      ≡ lowest_behind n p
  lowest_mark_is n p =
      let rest : List (List Transition) = word n (onward p) in
      ap (λ k. lowest k (map (priority top) (marks_along (stepped (history_of p) (go p).letter) rest)))
      (sym (go p).marked)
      ∙ ap (λ h. lowest (priority_at (onward p)) (map (priority top) (marks_along h rest))) (sym (go p).history)
      ∙ ap (lowest (priority_at (onward p))) (marks_are n (onward p))

  -- ---- the play of the checking game

  abbrev vertex : Entered S R → ℕ
  vertex p = pair S p.place.number p.node

  -- its lowest priority on one step and n more
  abbrev low : ℕ → Entered S R → ℕ
  low zero p = (go p).lowest
  low (suc n) p = min (go p).lowest (low n (onward p))

  odd_walk : (n : ℕ) (p : Entered S R) → OddWalk S R (vertex p) (low n p) (vertex (reach (suc n) p))
  odd_walk zero p = (go p).walk
  odd_walk (suc n) p =
      walks_joined (checking_game S.g S.m) Odd R.moves (vertex p) (go p).lowest (vertex (onward p)) (low n (onward p))
      (vertex (reach (suc (suc n)) p))
      (go p).walk (odd_walk n (onward p))

  low_occurs : (n : ℕ) (p : Entered S R) → IsMember (low n p) S.g.priorities
  low_occurs zero p = (go p).occurs
  low_occurs (suc n) p =
      member_of_both S.g.priorities (go p).lowest (low n (onward p)) (go p).occurs (low_occurs n (onward p))

  -- ---- the run of a guess

  module _ (d : ℕ) (occurs : IsMember d (odd_priorities S.g)) where
    abbrev guess : Entered S R → ℕ
    guess p = numbered S.g p.node (Some d)

    takes : (p : Entered S R) (accepting : Bool) → d ≤ (go p).lowest → accepting ≡ (d == (go p).lowest)
        → in_letter (go p).letter (guess p) (guess (onward p)) accepting
    takes p accepting high is =
        (go p).traced (record { from = guess p; to = guess (onward p); accepting = accepting }) (record {
          before = Some d;
          behind = Some d;
          leads = (refl, occurs, high, is);
          from_is = refl;
          to_is = refl;
        })

    runs : (n : ℕ) (p : Entered S R) → d ≤ low n p → Run in_letter (word (suc n) p) (guess p) (guess (reach (suc n) p))
    runs zero p high = (guess (onward p), d == (go p).lowest, takes p (d == (go p).lowest) high refl, refl)
    runs (suc n) p high = (
      guess (onward p),
      d == (go p).lowest,
      takes p (d == (go p).lowest) (omega arith) refl,
      runs n (onward p)
          (omega arith),
    )

    meets : (p : Entered S R) → d ≡ (go p).lowest → in_letter (go p).letter (guess p) (guess (onward p)) true
    meets p exact = takes p true (omega arith) (sym ((Decides-eqb d (go p).lowest).1 exact))

    -- it accepts where it is the lowest priority
    accepts : (n : ℕ) (p : Entered S R)
        → d ≡ low n p
        → AcceptingRun in_letter (word (suc n) p) (guess p) (guess (reach (suc n) p))
    accepts zero p exact = inl (guess (onward p), meets p exact, refl)
    accepts (suc n) p exact = by_case (cases_lt (low n (onward p)) (go p).lowest) (λ e. accepts n (onward p) e)
      where
        by_case : (low n (onward p) < (go p).lowest) ⊎ ((go p).lowest ≤ low n (onward p))
            → (d ≡ low n (onward p) → AcceptingRun in_letter (word (suc n) (onward p)) (guess (onward p))
            (guess (reach (suc (suc n)) p)))
            → AcceptingRun in_letter (word (suc (suc n)) p) (guess p) (guess (reach (suc (suc n)) p))
        by_case (inl later) rest =
            inr (
              guess (onward p),
              d == (go p).lowest,
              takes p (d == (go p).lowest) (omega arith) refl,
              rest
                  (omega arith),
            )
        by_case (inr first) rest = inl (guess (onward p), meets p (omega arith), runs n (onward p) (omega arith))

  -- ---- the play of the decision game

  abbrev place_of : Entered S R → ℕ
  place_of p = p.place.state.first

  abbrev even_low : ℕ → Entered S R → ℕ
  even_low zero p = priority_of (game_of S.a) (place_of p)
  even_low (suc n) p = min (priority_of (game_of S.a) (place_of p)) (even_low n (onward p))

  even_walk : (n : ℕ) (p : Entered S R) → EvenWalk S (place_of p) (even_low n p) (place_of (reach (suc n) p))
  even_walk zero p = (go p).play
  even_walk (suc n) p =
      walks_joined (game_of S.a) Even (even_moves S) (place_of p) (priority_of (game_of S.a) (place_of p))
      (place_of (onward p)) (even_low n (onward p)) (place_of (reach (suc (suc n)) p))
      (go p).play (even_walk n (onward p))

  priority_is : (p : Entered S R) → priority_of (game_of S.a) (place_of p) ≡ priority_at p
  priority_is p = arena.priority_at S.g S.a S.arena (place_of p) p.place.position p.place.stands

  -- with the last position it has the lowest of the first one and of the marks
  tally : (n : ℕ) (p : Entered S R)
      → min (even_low n p) (priority_at (reach (suc n) p)) ≡ min (priority_at p) (lowest_behind n p)
  tally zero p = let e = priority_is p in ap (λ k. min k (priority_at (onward p))) e
  tally (suc n) p =
      let e = priority_is p in
      let rest = tally n (onward p) in
      omega arith

  starts_with : (n : ℕ) (p : Entered S R) → even_low n p ≤ priority_at p
  starts_with zero p = let e = priority_is p in omega arith
  starts_with (suc n) p = let e = priority_is p in omega arith

  ends_with : (n : ℕ) (p : Entered S R) → lowest_behind n p ≤ priority_at (reach (suc n) p)
  ends_with zero p = omega arith
  ends_with (suc n) p = let rest = ends_with n (onward p) in omega arith

  -- ---- the loop

  module _ (n : ℕ) (p : Entered S R) (same_number : (reach (suc n) p).place.number ≡ p.place.number)
      (same_node : (reach (suc n) p).node ≡ p.node) where
    state_is : (reach (suc n) p).place.state ≡ p.place.state
    state_is =
        arena.same_entry S.model.states p.place.number (reach (suc n) p).place.state p.place.state
        (subst (λ k. slice_get S.model.states k ≡ Some (reach (suc n) p).place.state) same_number
        (reach (suc n) p).place.is_state) p.place.is_state

    position_is : (reach (suc n) p).place.position ≡ p.place.position
    position_is =
        arena.same_entry S.a.positions p.place.state.first (reach (suc n) p).place.position p.place.position
        (subst (λ (x : State). PositionAt S.a x.first (reach (suc n) p).place.position) state_is
        (reach (suc n) p).place.stands) p.place.stands

    -- Odd wins the play of the checking game
    low_is_odd : low n p % 2 ≡ 1
    low_is_odd =
        let back : vertex (reach (suc n) p) ≡ vertex p =
        ap (λ k. pair S k (reach (suc n) p).node) same_number ∙ ap (pair S p.place.number) same_node in
        let round = subst (OddWalk S R (vertex p) (low n p)) back (odd_walk n p) in
        odd_side (low n p) (closed_walk_good (checking_game S.g S.m) Odd R.moves (vertex p) (low n p) round p.wins)

    occurs : IsMember (low n p) (odd_priorities S.g)
    occurs =
        let test : (low n p % 2 == 1) ≡ true = (Decides-eqb (low n p % 2) 1).1 low_is_odd in
        member-ascending (low n p) (filter (λ d. d % 2 == 1) S.g.priorities)
        (member-filter (λ d. d % 2 == 1) (low n p) S.g.priorities (low_occurs n p) test)

    -- so its guess has an accepting run to itself
    cycle : AcceptingCycle (history_of p) (word (suc n) p)
    cycle =
        let stack : HasState (history_of p) (numbered S.g p.node (Some (low n p))) =
        p.guesses.guessed p.node (low n p) p.member occurs in
        let back : numbered S.g (reach (suc n) p).node (Some (low n p)) ≡ numbered S.g p.node (Some (low n p)) =
        ap (λ k. numbered S.g k (Some (low n p))) same_node in
        let run =
        subst (AcceptingRun in_letter (word (suc n) p) (numbered S.g p.node (Some (low n p)))) back
        (accepts (low n p) occurs n p refl) in
        let once =
        subst (λ w. AcceptingRun in_letter w (numbered S.g p.node (Some (low n p)))
        (numbered S.g p.node (Some (low n p)))) (sym (repeated-one (word (suc n) p))) run in
        record {
          item = stack.item;
          member = stack.member;
          times = 1;
          once = omega arith;
          run = subst (λ q. AcceptingRun in_letter (repeated 1 (word (suc n) p)) q q) (sym stack.state_is) once;
        }

    returns : ReturnsTo (history_of p) (word (suc n) p)
    returns = record {
      history = (facts_at S p.place).is_history;
      not_empty = λ e. cc;
      returns = history_after (suc n) p ∙ ap (λ (q : Position). q.history) position_is;
    }

    -- so the lowest mark is odd
    mark_is_odd : lowest_behind n p % 2 ≡ 1
    mark_is_odd =
        let odd = run_has_odd_mark (history_of p) (word (suc n) p) returns cycle in
        let even_top : top % 2 ≡ 0 = omega arith in
        ap (λ k. k % 2) (sym (lowest_mark_is n p))
        ∙ (priorities_agree top (step_mark (history_of p) (go p).letter)
        (marks_along (stepped (history_of p) (go p).letter) (word n (onward p))) even_top (fits (suc n) p)).1 odd

    -- but Even wins the play of the decision game
    no_loop : ⊥
    no_loop =
        let whole = tally n p in
        let first = starts_with n p in
        let end = ends_with n p in
        let back : priority_at (reach (suc n) p) ≡ priority_at p = ap (λ (q : Position). q.priority) position_is in
        let same : even_low n p ≡ lowest_behind n p = omega arith in
        let round =
        subst (EvenWalk S (place_of p) (even_low n p)) (ap (λ (x : State). x.first) state_is) (even_walk n p) in
        let good = closed_walk_good (game_of S.a) Even (even_moves S) (place_of p) (even_low n p) round p.place.won in
        odd_is_not_even (even_low n p) (ap (λ k. k % 2) same ∙ mark_is_odd) good

  abbrev code : Entered S R → ℕ
  code p = p.place.number * size S.g + p.node

  number_low : (p : Entered S R) → p.place.number < S.m.states
  number_low p = state_low S p.place.number p.place.state p.place.is_state

  node_low : (p : Entered S R) → p.node < size S.g
  node_low p =
      let turn = (S.arena.played p.place.state.first p.place.position p.place.stands).turn in
      sequent_low S.g p.place.position turn.spread turn.is_spread p.node p.member

  -- so no state is entered
  pub never_entered : Entered S R → ⊥
  never_entered p =
      from (pigeons (size S.g * S.m.states) (λ k. code (reach k p))
      (λ k few. mul-add-lt (reach k p).place.number (size S.g) (reach k p).node S.m.states (number_low (reach k p))
      (node_low (reach k p))))
    where
      from : Twice (λ k. code (reach k p)) (size S.g * S.m.states) → ⊥
      from twice =
          let parts =
          same_from_place (reach twice.first p).place.number (reach twice.first p).node
          (reach twice.second p).place.number (reach twice.second p).node (size S.g)
          (node_low (reach twice.first p)) (node_low (reach twice.second p)) twice.same in
          let n : ℕ = twice.second - suc twice.first in
          let far : twice.second ≡ twice.first + suc n = omega (arith, twice.apart) in
          let back : reach twice.second p ≡ reach (suc n) (reach twice.first p) =
          ap (λ k. reach k p) far ∙ reach-add twice.first (suc n) p in
          no_loop n (reach twice.first p) (ap (λ (x : Entered S R). x.place.number) (sym back) ∙ sym parts.0)
          (ap (λ (x : Entered S R). x.node) (sym back) ∙ sym parts.1)

-- ---- the theorem

module _ (S : Setting) where
  -- the start of the model
  start_state : FirstState S.model.states → AtState S
  start_state x = record {
    number = 0;
    state = x.state;
    is_state = x.stands;
    position = start_of S.g;
    stands = subst (λ v. PositionAt S.a v (start_of S.g)) (sym x.first_is) S.arena.starts;
    won = subst (WonByMoves S) (sym x.first_is) (won_at_first (board S));
  }

  no_rival : (R : Rival S) → OddWins S R 0 S.g.root → ⊥
  unfolding start_state
  no_rival R wins = never_entered S R (step S R (start_state (first_state S)) S.g.root (inl refl) wins).next

  -- the graph holds at the start
  holds_at_start : Holds S.g S.m 0
  holds_at_start =
      from (won_by_either (checking_game S.g S.m) (is_game S.g S.m S.g_ok m_ok) Even (pair S 0 S.g.root)
      (vertex_low S.g S.m S.g_ok m_ok (Pair 0 S.g.root) (m_ok.has_state, root_in_range S.g S.g_ok)))
    where
      m_ok : IsStructure S.m
      m_ok = is_structure S

      from : Wins (checking_game S.g S.m) Even (pair S 0 S.g.root) ⊎ Wins (checking_game S.g S.m) Odd
          (pair S 0 S.g.root)
          → Holds S.g S.m 0
      from (inl even) = even
      from (inr odd) = absurd (no_rival (record { moves = odd.strategy; is_strategy = odd.is_strategy }) odd.wins)

  extracted : Extracted S.g S.m S.start
  extracted = record {
    is_structure = is_structure S;
    is_state = subst (λ k. k < S.m.states) (sym S.model.starts) (is_structure S).has_state;
    holds = subst (Holds S.g S.m) (sym S.model.starts) holds_at_start;
    reached = reached_from_start S;
    along_diamonds = has_diamond S;
    only_edge = only_edge S.g S.a S.s S.m S.start S.model;
  }

-- where Even wins the decision game, the model of Even's moves is a structure at whose start the graph holds
pub models_hold : ModelsHold
models_hold g a s m start even model = extracted (record {
  g = g;
  a = a;
  s = s;
  m = m;
  start = start;
  g_ok = even.is_graph;
  arena = even.is_arena;
  solved = even.is_solution;
  even_wins = even.wins;
  model = model;
})
