-- Vertices with one move, and vertices that are forced to one.
--
-- A vertex with one move is won by whom its successor is won by. A sink, which leads to itself alone, is won by the
-- player of its priority. To force a vertex is to give it one move, whatever moves it had: so verdicts can be written into
-- a game, by moves to sinks.
--
--   single_move      == a vertex with one move is won exactly by whom its successor is
--   sink_won         == a sink is won exactly by the player of its priority
--   forced g to      == the game g, with each vertex v forced to w where `to v` is Some w
--   forced_is_game   == it is a game, if vertices are forced to vertices
--   forced-free, forced-at == the moves of a vertex that isn't forced, and of one that is
use Rattle.std.proofs.Common.{ℕ, ◌≡◌, ◌+◌, ◌<◌, ◌≤◌, ◌⊎◌, inl, inr, ⊎_elim, ◌↔◌, List, [], ◌∷◌, length, get_or, map, Option, Some, None, Contains, arith, subst, sym, ap, ◌∙◌, refl}
use Rattle.std.specs.List.{range_with_len}
use Rattle.std.proofs.lemmas.Bool.{cases_lt}
use Rattle.std.proofs.lemmas.List.{get_or_past}
use Rattle.std.proofs.lemmas.List.FromFn.{length-map-range_with_len, get_or-map-range_with_len}
use Rattle.ml_lists.specs.Lasso.{Lasso, entry, round}
use Rattle.ml_lists.specs.Member.{IsMember}
use Rattle.ml_lists.proofs.Lasso.{lasso_keeps, round-entry, lowest_on_loop_is}
use Rattle.ml_lists.proofs.Members.{member_of_contains, contains_head, contains_none}
use Rattle.ml_parity.specs.declared.players.Player.{Player}
use Rattle.ml_parity.specs.Player.{opponent, side}
use Rattle.ml_parity.specs.Game.{ParityGame, IsGame, HasMove, owner_of, priority_of, moves_of, size}
use Rattle.ml_parity.specs.Winner.{IsPlay, winner, Wins}
use Rattle.ml_parity.proofs.Boards.{first_move}
use Rattle.ml_parity.proofs.Opponents.{cases_player}
use Rattle.ml_parity.proofs.OneStep.{own_vertex_won, other_vertex_won}
use Rattle.ml_parity.proofs.Winners.{clash}

-- where a vertex has one move, each move is that
only_move : (g : ParityGame) (v w x : ℕ) → moves_of g v ≡ w ∷ [] → HasMove g v x → x ≡ w
only_move g v w x one move = from (member_of_contains x (w ∷ []) (subst (λ (xs : List ℕ). Contains xs x) one move))
  where
    from : IsMember x (w ∷ []) → x ≡ w
    from (inl e) = e
    from (inr e) = absurd e

-- a vertex with one move is won by whom its successor is won by
pub single_move : (g : ParityGame) → IsGame g → (p : Player) (v w : ℕ) → v < size g → moves_of g v ≡ w ∷ []
    → Wins g p v ↔ Wins g p w
single_move g ok p v w low one = ⊎_elim own other (cases_player (owner_of g v) p)
  where
    move : HasMove g v w
    move = subst (λ (xs : List ℕ). Contains xs w) (sym one) (contains_head w [])

    own : owner_of g v ≡ p → Wins g p v ↔ Wins g p w
    own o =
        let step = own_vertex_won g ok p v low o in (
          (λ a. let m = step.0 a in subst (Wins g p) (only_move g v w m.to one m.move) m.wins),
          (λ a. step.1 (record { to = w; move = move; wins = a })),
        )

    other : owner_of g v ≡ opponent p → Wins g p v ↔ Wins g p w
    other o =
        let step = other_vertex_won g ok p v low o in (
          (λ a. step.0 a w move),
          (λ a. step.1 (λ x m. subst (Wins g p) (sym (only_move g v w x one m)) a)),
        )

-- a play from a sink has the sink's priority as its lowest
sink_lowest : (g : ParityGame) (v : ℕ) → moves_of g v ≡ v ∷ [] → (l : Lasso) → IsPlay g l → entry l 0 ≡ v
    → winner g l ≡ side (priority_of g v)
sink_lowest g v one l play begins =
    ap side (lowest_on_loop_is (priority_of g) l l.start (omega arith) play.starts
    (λ j later low. omega (arith, ap (priority_of g) (there l.start play.starts), ap (priority_of g) (there j low)))
    ∙ ap (priority_of g) (there l.start play.starts))
  where
    stays : (k : ℕ) → k ≤ length l.entries → get_or (round l) k 0 ≡ v
    stays = lasso_keeps l (λ x. x ≡ v)
        (λ k low here. only_move g v v (get_or (round l) (k + 1) 0) one
        (subst (λ x. HasMove g x (get_or (round l) (k + 1) 0)) here (play.joined k low)))
        (round-entry l 0 (omega (arith, play.starts)) ∙ begins)

    there : (k : ℕ) → k < length l.entries → entry l k ≡ v
    there k low = sym (round-entry l k low) ∙ stays k (omega arith)

-- a sink is won by the player of its priority
sink_winner : (g : ParityGame)
    → IsGame g
    → (v : ℕ)
    → v < size g
    → moves_of g v ≡ v ∷ []
    → Wins g (side (priority_of g v)) v
sink_winner g ok v low one = record {
  strategy = λ x. get_or (moves_of g x) 0 0;
  is_strategy = λ x below own. first_move g ok x below;
  wins = λ l play begins follows. sink_lowest g v one l play begins;
}

-- and by nobody else
pub sink_won : (g : ParityGame) → IsGame g → (p : Player) (v : ℕ) → v < size g → moves_of g v ≡ v ∷ []
    → Wins g p v ↔ (p ≡ side (priority_of g v))
sink_won g ok p v low one = (there, λ e. subst (λ q. Wins g q v) (sym e) (sink_winner g ok v low one))
  where
    there : Wins g p v → p ≡ side (priority_of g v)
    there a = ⊎_elim
        (λ (same : p ≡ side (priority_of g v)). same)
        (λ (other : p ≡ opponent (side (priority_of g v))).
        absurd (clash g ok (side (priority_of g v)) v low (sink_winner g ok v low one)
        (subst (λ q. Wins g q v) other a)))
        (cases_player p (side (priority_of g v)))

-- ---- forcing

-- one move where a vertex is forced, and its own moves where it isn't
abbrev pub forced_moves : Option ℕ → List ℕ → List ℕ
forced_moves None xs = xs
forced_moves (Some w) xs = w ∷ []

-- the game with each vertex v forced to w where `to v` is Some w
abbrev pub forced : ParityGame → (ℕ → Option ℕ) → ParityGame
forced g to = record g { successors = map (λ v. forced_moves (to v) (moves_of g v)) (range_with_len 0 (size g)) }

module _ (g : ParityGame) (to : ℕ → Option ℕ) where
  forced-moves : (v : ℕ) → v < size g → moves_of (forced g to) v ≡ forced_moves (to v) (moves_of g v)
  forced-moves v low = get_or-map-range_with_len (λ x. forced_moves (to x) (moves_of g x)) 0 (size g) v v [] low
      (omega arith)

  -- a vertex that isn't forced has the moves that it had
  pub forced-free : (v : ℕ) → v < size g → to v ≡ None → moves_of (forced g to) v ≡ moves_of g v
  forced-free v low free = forced-moves v low ∙ ap (λ o. forced_moves o (moves_of g v)) free

  -- a vertex that is forced has one
  pub forced-at : (v w : ℕ) → v < size g → to v ≡ Some w → moves_of (forced g to) v ≡ w ∷ []
  forced-at v w low is = forced-moves v low ∙ ap (λ o. forced_moves o (moves_of g v)) is

  -- it is a game, if vertices are forced to vertices
  pub forced_is_game : IsGame g → ((v w : ℕ) → to v ≡ Some w → w < size g) → IsGame (forced g to)
  forced_is_game ok low = record {
    priorities = ok.priorities;
    lists = length-map-range_with_len (λ x. forced_moves (to x) (moves_of g x)) 0 (size g);
    goes_on = λ v v_low. subst (λ (xs : List ℕ). 0 < length xs) (sym (forced-moves v v_low))
        (some (to v) (moves_of g v) (ok.goes_on v v_low));
    in_range = λ v w move. at_vertex v w move (cases_lt v (size g));
  }
    where
      some : (o : Option ℕ) (xs : List ℕ) → 0 < length xs → 0 < length (forced_moves o xs)
      some None xs h = h
      some (Some w) xs h = omega arith

      of_moves : (v w : ℕ) (o : Option ℕ) → to v ≡ o → Contains (forced_moves o (moves_of g v)) w → w < size g
      of_moves v w None e move = ok.in_range v w move
      of_moves v w (Some x) e move = from (member_of_contains w (x ∷ []) move)
        where
          from : IsMember w (x ∷ []) → w < size g
          from (inl same) = subst (λ k. k < size g) (sym same) (low v x e)
          from (inr none) = absurd none

      at_vertex : (v w : ℕ) → HasMove (forced g to) v w → (v < size g) ⊎ (size g ≤ v) → w < size g
      at_vertex v w move (inl v_low) =
          of_moves v w (to v) refl (subst (λ (xs : List ℕ). Contains xs w) (forced-moves v v_low) move)
      at_vertex v w move (inr high) =
          let none = get_or_past (forced g to).successors v []
          (omega (arith, length-map-range_with_len (λ x. forced_moves (to x) (moves_of g x)) 0 (size g))) in
          absurd (contains_none w (subst (λ (xs : List ℕ). Contains xs w) none move))
