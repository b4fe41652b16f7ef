-- The induction of the determinacy law, the second case: what the opponent won is frozen.
--
-- Let t be a live vertex of least priority, i the player for whom that priority is good, and j the opponent of i. In
-- the first game t is a sink of player i. If j holds a move from t by a solution of that game, then all vertices that
-- j won there, and t, become sinks of player j in the second game. What j won the first time j still wins, by the same
-- moves; every other loop is a loop of the second game. To freeze what j won is what spares a proof that the two
-- solutions agree on who wins.
--
--   live_frozen, over_frozen == the live vertices and the sinks of the second game
--   joined                   == w at t, the first choices where j won, the second choices elsewhere
--   held_step                == a step that respects the choice, from where p holds it, leads to where p wins
--   least_lost               == where j holds a move from t, both solutions together serve with t live
use Rattle.std.proofs.Common.{ℕ, ◌≡◌, ◌+◌, ◌<◌, ◌≤◌, Bool, true, false, cond, ◌⊎◌, inl, inr, ⊎_elim, arith, subst, sym, ap, ◌∙◌, refl}
use Rattle.std.proofs.lemmas.Bool.{cases_eq, cond-true, cond-false, cond_both}
use Rattle.ml_lists.specs.Found.{Found}
use Rattle.ml_lists.specs.Update.{update}
use Rattle.ml_lists.proofs.Search.{search}
use Rattle.ml_lists.proofs.Update.{update-same, update-other}
use Rattle.ml_lists.proofs.Loops.{around}
use Rattle.ml_parity.specs.declared.players.Player.{Player}
use Rattle.ml_parity.specs.Player.{opponent, side}
use Rattle.ml_parity.specs.private.Sinks.{Board, Holds, Step, Loop, GoodFor, Solves}
use Rattle.ml_parity.proofs.Opponents.{cases_player, not_both, same_player, same_player-true, same_player-false, is_or_not}
use Rattle.ml_parity.proofs.LeastKept.{live_without, over_with}

-- the vertices that j won, and t, are live no more
abbrev pub live_frozen : (ℕ → Bool) → ℕ → (ℕ → Player) → Player → ℕ → Bool
live_frozen live t win j v = cond (same_player (win v) j) false (live_without live t v)

-- what j won goes on belonging to j, and so does t
abbrev pub over_frozen : ℕ → (ℕ → Player) → Player → ℕ → Player
over_frozen t win j = update win t j

-- the choices: w at t, those of the first solution where j won, those of the second elsewhere
abbrev pub joined : ℕ → ℕ → (ℕ → Player) → Player → (ℕ → ℕ) → (ℕ → ℕ) → ℕ → ℕ
joined t w win j s s2 = update (λ v. cond (same_player (win v) j) (s v) (s2 v)) t w

-- the choice where j won, away from t
joined-won : (t w : ℕ) (win : ℕ → Player) (j : Player) (s s2 : ℕ → ℕ) (v : ℕ) → (v ≡ t → ⊥) → win v ≡ j
    → joined t w win j s s2 v ≡ s v
joined-won t w win j s s2 v other won =
    update-other (λ u. cond (same_player (win u) j) (s u) (s2 u)) t w v other
    ∙ cond-true (same_player (win v) j) (s v) (s2 v) (same_player-true (win v) j won)

-- the choice where j did not win, away from t
joined-lost : (t w : ℕ) (win : ℕ → Player) (j : Player) (s s2 : ℕ → ℕ) (v : ℕ) → (v ≡ t → ⊥) → (win v ≡ j → ⊥)
    → joined t w win j s s2 v ≡ s2 v
joined-lost t w win j s s2 v other lost =
    update-other (λ u. cond (same_player (win u) j) (s u) (s2 u)) t w v other
    ∙ cond-false (same_player (win v) j) (s v) (s2 v) (same_player-false (win v) j lost)

-- the choice at t
joined-least : (t w : ℕ) (win : ℕ → Player) (j : Player) (s s2 : ℕ → ℕ) → joined t w win j s s2 t ≡ w
joined-least t w win j s s2 = update-same (λ u. cond (same_player (win u) j) (s u) (s2 u)) t w t refl

-- a vertex that j won is frozen
pub live_frozen-won : (live : ℕ → Bool) (t : ℕ) (win : ℕ → Player) (j : Player) (v : ℕ) → win v ≡ j
    → live_frozen live t win j v ≡ false
live_frozen-won live t win j v won =
    cond-true (same_player (win v) j) false (live_without live t v) (same_player-true (win v) j won)

-- any other is as live as in the first game
pub live_frozen-lost : (live : ℕ → Bool) (t : ℕ) (win : ℕ → Player) (j : Player) (v : ℕ) → (win v ≡ j → ⊥)
    → live_frozen live t win j v ≡ live_without live t v
live_frozen-lost live t win j v lost =
    cond-false (same_player (win v) j) false (live_without live t v) (same_player-false (win v) j lost)

-- a vertex that is not live in the first game is not live in the second
pub live_frozen-dead : (live : ℕ → Bool) (t : ℕ) (win : ℕ → Player) (j : Player) (v : ℕ)
    → live_without live t v ≡ false → live_frozen live t win j v ≡ false
live_frozen-dead live t win j v dead =
    cond_both (same_player (win v) j) false (live_without live t v) (λ x. x ≡ false) (λ e. refl) (λ e. dead)

-- what is held by one map is held by another that gives the player no less
holds_more : (b : Board) (win win2 : ℕ → Player) (p : Player) (w v : ℕ) → ((x : ℕ) → win x ≡ p → win2 x ≡ p)
    → Holds b win p w v → Holds b win2 p w v
holds_more b win win2 p w v more held = record {
  own = λ o. record { move = (held.own o).move; wins = more w (held.own o).wins };
  other = λ o x move. more x (held.other o x move);
}

-- a step of p that respects the choice from where p holds it leads to where p wins
pub held_step : (b : Board) (win : ℕ → Player) (p : Player) (w v x : ℕ) → Holds b win p w v → b.Move v x
    → (b.owner v ≡ p → x ≡ w) → win x ≡ p
held_step b win p w v x held move chosen = by_case (cases_player (b.owner v) p)
  where
    by_case : (b.owner v ≡ p) ⊎ (b.owner v ≡ opponent p) → win x ≡ p
    by_case (inl own) = ap win (chosen own) ∙ (held.own own).wins
    by_case (inr other) = held.other other x move

-- where j, the opponent of i, holds a move from t, both solutions together serve with t live
module _ (b : Board) (live : ℕ → Bool) (over : ℕ → Player) (t : ℕ) (win : ℕ → Player) (s : ℕ → ℕ) (w : ℕ)
    (win2 : ℕ → Player) (s2 : ℕ → ℕ)
    (t_live : live t ≡ true)
    (first : Solves b (live_without live t) (over_with over t (side (b.priority t))) win s)
    (held : Holds b win (opponent (side (b.priority t))) w t)
    (second : Solves b (live_frozen live t win (opponent (side (b.priority t))))
    (over_frozen t win (opponent (side (b.priority t)))) win2 s2) where
  -- for whom the priority of t is good, and the opponent
  abbrev i : Player
  i = side (b.priority t)

  abbrev j : Player
  j = opponent (side (b.priority t))

  abbrev choice : ℕ → ℕ
  choice = joined t w win j s s2

  -- i won t as a sink
  won_t : win t ≡ i
  won_t = first.ends t (update-same live t false t refl) ∙ update-same over t i t refl

  -- what j won is not t
  not_t : (v : ℕ) → win v ≡ j → v ≡ t → ⊥
  not_t v won same = not_both (win v) i (ap win same ∙ won_t) won

  -- j wins t now
  decided_t : win2 t ≡ j
  decided_t = second.ends t (live_frozen-dead live t win j t (update-same live t false t refl))
      ∙ update-same win t j t refl

  -- what j won, j still wins
  decided : (v : ℕ) → win v ≡ j → win2 v ≡ j
  decided v won = second.ends v (live_frozen-won live t win j v won) ∙ update-other win t j v (not_t v won) ∙ won

  -- from t, and from each live vertex that j won, j holds the joined choice by the first solution
  firm : (v : ℕ) → live v ≡ true → (v ≡ t) ⊎ (win v ≡ j) → Holds b win j (choice v) v
  firm v alive (inl same) =
      let at_t : Holds b win j (choice t) t = subst (λ x. Holds b win j x t) (sym (joined-least t w win j s s2)) held in
      subst (λ u. Holds b win j (choice u) u) (sym same) at_t
  firm v alive (inr won) =
      let by_first : Holds b win (win v) (s v) v = first.keeps v (update-other live t false v (not_t v won) ∙ alive) in
      let for_j : Holds b win j (s v) v = subst (λ p. Holds b win p (s v) v) won by_first in
      subst (λ x. Holds b win j x v) (sym (joined-won t w win j s s2 v (not_t v won) won)) for_j

  -- a vertex is firm, or neither t nor won by j
  firm_or_not : (v : ℕ) → ((v ≡ t) ⊎ (win v ≡ j)) ⊎ ((v ≡ t → ⊥) × (win v ≡ j → ⊥))
  firm_or_not v = by_case (cases_eq v t) (is_or_not (win v) j)
    where
      by_case : (v ≡ t) ⊎ (v ≡ t → ⊥) → (win v ≡ j) ⊎ (win v ≡ j → ⊥)
          → ((v ≡ t) ⊎ (win v ≡ j)) ⊎ ((v ≡ t → ⊥) × (win v ≡ j → ⊥))
      by_case (inl same) q = inl (inl same)
      by_case (inr other) (inl won) = inl (inr won)
      by_case (inr other) (inr lost) = inr (other, lost)

  -- j wins each firm vertex now
  decided_firm : (v : ℕ) → (v ≡ t) ⊎ (win v ≡ j) → win2 v ≡ j
  decided_firm v (inl same) = ap win2 same ∙ decided_t
  decided_firm v (inr won) = decided v won

  ends : (v : ℕ) → live v ≡ false → win2 v ≡ over v
  ends v dead =
      let other : v ≡ t → ⊥ = λ same. let e : live v ≡ live t = ap live same in absurd (cc) in
      let dead_first : live_without live t v ≡ false = update-other live t false v other ∙ dead in
      second.ends v (live_frozen-dead live t win j v dead_first)
      ∙ update-other win t j v other
      ∙ first.ends v dead_first
      ∙ update-other over t i v other

  keeps : (v : ℕ) → live v ≡ true → ((v ≡ t) ⊎ (win v ≡ j)) ⊎ ((v ≡ t → ⊥) × (win v ≡ j → ⊥))
      → Holds b win2 (win2 v) (choice v) v
  keeps v alive (inl is_firm) =
      let for_j : Holds b win2 j (choice v) v = holds_more b win win2 j (choice v) v decided (firm v alive is_firm) in
      subst (λ p. Holds b win2 p (choice v) v) (sym (decided_firm v is_firm)) for_j
  keeps v alive (inr out) =
      let alive2 : live_frozen live t win j v ≡ true = live_frozen-lost live t win j v out.1
      ∙ update-other live t false v out.0 ∙ alive in
      subst (λ x. Holds b win2 (win2 v) x v) (sym (joined-lost t w win j s s2 v out.0 out.1)) (second.keeps v alive2)

  -- a step of j's from a firm vertex leads to what j won
  down : (p : Player) (v x : ℕ) → Step b live win2 choice p v x → (v ≡ t) ⊎ (win v ≡ j) → (p ≡ j) × (win x ≡ j)
  down p v x step is_firm =
      let same : p ≡ j = sym step.mine ∙ decided_firm v is_firm in (
        same,
        held_step b win j (choice v) v x (firm v step.alive is_firm) step.move
            (λ own. step.chosen (own ∙ sym same)),
      )

  -- a loop with a firm vertex lies where j won, and is a loop of the first solution
  firm_loop : (p : Player) (c : ℕ → ℕ) (m : ℕ) → Loop b live win2 choice p c m
      → Found (λ k. (c k ≡ t) ⊎ (win (c k) ≡ j)) m → GoodFor b p c m
  firm_loop p c m loop f =
      let here = down p (c f.place) (c (f.place + 1)) (loop.steps f.place f.below) f.holds in
      let won : (k : ℕ) → k ≤ m → win (c k) ≡ j =
      around c (λ v. win v ≡ j) m loop.closed (λ k low h. (down p (c k) (c (k + 1)) (loop.steps k low) (inr h)).1)
      (f.place + 1) (omega (arith, f.below)) here.1 in
      first.loops p c m (record {
        long = loop.long;
        closed = loop.closed;
        steps = λ k low. record {
          alive = update-other live t false (c k) (not_t (c k) (won k (omega arith))) ∙ (loop.steps k low).alive;
          mine = won k (omega arith) ∙ sym here.0;
          move = (loop.steps k low).move;
          chosen = λ own. (loop.steps k low).chosen own
              ∙ joined-won t w win j s s2 (c k) (not_t (c k) (won k (omega arith))) (won k (omega arith));
        };
      })

  -- any other loop is a loop of the second solution
  other_loop : (p : Player) (c : ℕ → ℕ) (m : ℕ) → Loop b live win2 choice p c m
      → ((k : ℕ) → k < m → (c k ≡ t → ⊥) × (win (c k) ≡ j → ⊥)) → GoodFor b p c m
  other_loop p c m loop out = second.loops p c m (record {
    long = loop.long;
    closed = loop.closed;
    steps = λ k low. record {
      alive = live_frozen-lost live t win j (c k) (out k low).1 ∙ update-other live t false (c k) (out k low).0
          ∙ (loop.steps k low).alive;
      mine = (loop.steps k low).mine;
      move = (loop.steps k low).move;
      chosen = λ own. (loop.steps k low).chosen own ∙ joined-lost t w win j s s2 (c k) (out k low).0 (out k low).1;
    };
  })

  pub least_lost : Solves b live over win2 choice
  least_lost = record {
    ends = ends;
    keeps = λ v alive. keeps v alive (firm_or_not v);
    loops = λ p c m loop. ⊎_elim (firm_loop p c m loop) (other_loop p c m loop)
        (search (λ k. (c k ≡ t) ⊎ (win (c k) ≡ j)) (λ k. (c k ≡ t → ⊥) × (win (c k) ≡ j → ⊥)) (λ k. firm_or_not (c k))
        m);
  }
