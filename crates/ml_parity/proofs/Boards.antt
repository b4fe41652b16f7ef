-- Boards of games: from the definition of the winner to the sequences in which the induction goes, and back.
--
-- The loop of a play is a sequence; where it is good for a player as a sequence, that player is the winner of the
-- play. So whoever solves the game on its board, each vertex live, wins each vertex by the definition.
--
--   move_to         == each entry of a list of successors is a move
--   decides         == of each vertex it is decided: some move leads to where p wins, or every move does not
--   winner_is       == the winner of a play is the player for whom its loop is good
--   winner_of_sequence == the winner of a loop made of a sequence is the side of its lowest priority
--   first_move      == the first successor of a vertex is a move
--   AgreesWith      == a choice that is that of the solution where the owner wins
--   solution_wins   == a choice that agrees with a solution of the board wins each vertex for its winner
use Rattle.std.proofs.Common.{ℕ, ◌≡◌, ◌+◌, ◌-◌, ◌<◌, ◌≤◌, Bool, ◌⊎◌, inl, inr, arith, subst, subst₂, sym, ap, ◌∙◌, length, get_or, ltb, lt-ltb}
use Rattle.std.proofs.lemmas.List.{get_or_default}
use Rattle.ml_lists.specs.Found.{Found}
use Rattle.ml_lists.specs.Lasso.{Lasso, entry, round, lowest_on_loop}
use Rattle.ml_lists.proofs.Search.{search}
use Rattle.ml_lists.proofs.Lasso.{round-entry, on_loop-entry, on_loop, loop_length, loop_closed, lasso_keeps, lowest_on_loop_is, lasso_of, lasso_of-length, lasso_of-entry}
use Rattle.ml_parity.specs.declared.players.Player.{Player}
use Rattle.ml_parity.specs.Player.{opponent, side}
use Rattle.ml_parity.specs.Game.{ParityGame, IsGame, HasMove, owner_of, priority_of, moves_of, size}
use Rattle.ml_parity.specs.Winner.{IsPlay, winner, Follows, WinsFrom}
use Rattle.ml_parity.specs.private.Sinks.{SomeMove, EveryMove, Holds, Loop, Step, GoodFor, Solves}
use Rattle.ml_parity.specs.private.SinkGame.{board_of}
use Rattle.ml_parity.proofs.Opponents.{cases_player}
use Rattle.ml_parity.proofs.LeastLost.{held_step}
use Rattle.ml_parity.proofs.Sinks.{Decides}

-- each entry of the list of successors is a move
pub move_to : (g : ParityGame) (v k : ℕ) → k < length (moves_of g v) → HasMove g v (get_or (moves_of g v) k 0)
move_to g v k low = (k, low, get_or_default (moves_of g v) k (get_or (moves_of g v) k 0) 0 low)

-- what holds at each entry of the list of successors holds after each move
pub each_move : (g : ParityGame) (P : ℕ → Type 0) (v : ℕ)
    → ((k : ℕ) → k < length (moves_of g v) → P (get_or (moves_of g v) k 0)) → (x : ℕ) → HasMove g v x → P x
each_move g P v each x move =
    let here : get_or (moves_of g v) move.0 0 ≡ x = get_or_default (moves_of g v) move.0 0 x move.1 ∙ move.2 in
    subst P here (each move.0 move.1)

-- of each vertex it is decided: some move leads to where p wins, or every move to where the opponent does
pub decides : (g : ParityGame) → Decides (board_of g)
decides g win p v = from (search (λ k. win (get_or (moves_of g v) k 0) ≡ p)
    (λ k. win (get_or (moves_of g v) k 0) ≡ opponent p) (λ k. cases_player (win (get_or (moves_of g v) k 0)) p)
    (length (moves_of g v)))
  where
    from :
        Found (λ k. win (get_or (moves_of g v) k 0) ≡ p) (length (moves_of g v))
        ⊎ ((k : ℕ) → k < length (moves_of g v) → win (get_or (moves_of g v) k 0) ≡ opponent p)
        → SomeMove (board_of g) win p v ⊎ EveryMove (board_of g) win (opponent p) v
    from (inl f) = inl
        (record { to = get_or (moves_of g v) f.place 0; move = move_to g v f.place f.below; wins = f.holds })
    from (inr every) = inr (each_move g (λ x. win x ≡ opponent p) v every)

-- the winner of a play is the player for whom its loop, as a sequence, is good
pub winner_is : (g : ParityGame) (l : Lasso) (p : Player) → l.start < length l.entries
    → GoodFor (board_of g) p (on_loop l) (loop_length l) → winner g l ≡ p
winner_is g l p starts good = ap side lowest ∙ here ∙ good.right
  where
    at : (k : ℕ) → k < loop_length l → on_loop l k ≡ entry l (l.start + k)
    at k low = round-entry l (l.start + k) (omega arith)

    least : (j : ℕ) → l.start ≤ j → j < length l.entries
        → priority_of g (entry l (l.start + good.place)) ≤ priority_of g (entry l j)
    least j later low = subst₂ (λ x y. priority_of g x ≤ priority_of g y) (at good.place good.below)
        (on_loop-entry l j later low) (good.least (j - l.start) (omega arith))

    lowest : lowest_on_loop (priority_of g) l ≡ priority_of g (entry l (l.start + good.place))
    lowest = lowest_on_loop_is (priority_of g) l (l.start + good.place) (omega arith) (omega (arith, good.below)) least

    here : side (priority_of g (entry l (l.start + good.place))) ≡ side (priority_of g (on_loop l good.place))
    here = ap (λ x. side (priority_of g x)) (sym (at good.place good.below))

-- a loop made of a sequence, which takes one value at i and j, has the side of its lowest priority as its winner
pub winner_of_sequence : (g : ParityGame) (c : ℕ → ℕ) (i j k : ℕ) (p : Player) → i ≤ k → k < j
    → ((l : ℕ) → i ≤ l → l < j → priority_of g (c k) ≤ priority_of g (c l)) → side (priority_of g (c k)) ≡ p
    → winner g (lasso_of c i j) ≡ p
winner_of_sequence g c i j k p later low least right = ap side lowest
    ∙ ap (λ v. side (priority_of g v)) (lasso_of-entry c i j k low) ∙ right
  where
    lowest : lowest_on_loop (priority_of g) (lasso_of c i j) ≡ priority_of g (entry (lasso_of c i j) k)
    lowest = lowest_on_loop_is (priority_of g) (lasso_of c i j) k later (omega (arith, lasso_of-length c i j))
        (λ l from below. subst₂ (λ x y. priority_of g x ≤ priority_of g y) (sym (lasso_of-entry c i j k low))
        (sym (lasso_of-entry c i j l (omega (arith, lasso_of-length c i j))))
        (least l from (omega (arith, lasso_of-length c i j))))

-- the first successor of a vertex is a move
pub first_move : (g : ParityGame) → IsGame g → (v : ℕ) → v < size g → HasMove g v (get_or (moves_of g v) 0 0)
first_move g ok v low = move_to g v 0 (ok.goes_on v low)

-- each vertex of the game is live
abbrev pub all_live : ParityGame → ℕ → Bool
all_live g v = ltb v (size g)

-- a choice that is that of the solution where the owner wins
abbrev pub AgreesWith : ParityGame → (ℕ → Player) → (ℕ → ℕ) → (ℕ → ℕ) → Type 0
AgreesWith g win s choice = (v : ℕ) → v < size g → owner_of g v ≡ win v → choice v ≡ s v

-- a choice that agrees with a solution of the board wins each vertex for its winner
module _ (g : ParityGame) (ok : IsGame g) (over win : ℕ → Player) (s choice : ℕ → ℕ)
    (solves : Solves (board_of g) (all_live g) over win s) (agrees : AgreesWith g win s choice) where
  -- at a vertex of the game its winner holds the choice of the solution
  held : (v : ℕ) → v < size g → Holds (board_of g) win (win v) (s v) v
  held v low = solves.keeps v (lt-ltb v (size g) low)

  -- along a play of a winner who follows the choice, all vertices belong to that player
  kept : (p : Player) (l : Lasso) → IsPlay g l → Follows g p choice l → entry l 0 < size g → win (entry l 0) ≡ p
      → (k : ℕ) → k ≤ length l.entries → (get_or (round l) k 0 < size g) × (win (get_or (round l) k 0) ≡ p)
  kept p l play follows low wins =
      lasso_keeps l (λ x. (x < size g) × (win x ≡ p)) next
      (subst (λ x. (x < size g) × (win x ≡ p)) (sym (round-entry l 0 (omega (arith, play.starts)))) (low, wins))
    where
      next : (k : ℕ) → k < length l.entries → (get_or (round l) k 0 < size g) × (win (get_or (round l) k 0) ≡ p)
          → (get_or (round l) (k + 1) 0 < size g) × (win (get_or (round l) (k + 1) 0) ≡ p)
      next k below here =
          let v : ℕ = get_or (round l) k 0 in
          let by_p : Holds (board_of g) win p (s v) v =
          subst (λ q. Holds (board_of g) win q (s v) v) here.1 (held v here.0) in (
            ok.in_range v (get_or (round l) (k + 1) 0) (play.joined k below),
            held_step (board_of g) win p (s v) v (get_or (round l) (k + 1) 0) by_p (play.joined k below)
                (λ own. follows k below own ∙ agrees v here.0 (own ∙ sym here.1)),
          )

  -- so the loop of the play is a loop of that player's
  loop : (p : Player) (l : Lasso) → IsPlay g l → Follows g p choice l → entry l 0 < size g → win (entry l 0) ≡ p
      → Loop (board_of g) (all_live g) win s p (on_loop l) (loop_length l)
  loop p l play follows low wins = record {
    long = omega (arith, play.starts);
    closed = loop_closed l play.starts;
    steps = λ k below. step (l.start + k) (omega arith) (l.start + (k + 1)) (omega arith);
  }
    where
      step : (k : ℕ) → k < length l.entries → (j : ℕ) → k + 1 ≡ j
          → Step (board_of g) (all_live g) win s p (get_or (round l) k 0) (get_or (round l) j 0)
      step k below j e =
          let here = kept p l play follows low wins k (omega arith) in
          let v : ℕ = get_or (round l) k 0 in
          subst (λ i. Step (board_of g) (all_live g) win s p (get_or (round l) k 0) (get_or (round l) i 0)) e (record {
            alive = lt-ltb v (size g) here.0;
            mine = here.1;
            move = play.joined k below;
            chosen = λ own. follows k below own ∙ agrees v here.0 (own ∙ sym here.1);
          })

  pub solution_wins : (v : ℕ) → v < size g → WinsFrom g (win v) choice v
  solution_wins v low l play begins follows =
      let first_low : entry l 0 < size g = subst (λ x. x < size g) (sym begins) low in
      let wins : win (entry l 0) ≡ win v = ap win begins in
      winner_is g l (win v) play.starts (solves.loops (win v) (on_loop l) (loop_length l)
      (loop (win v) l play follows first_low wins))
