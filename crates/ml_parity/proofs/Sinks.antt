-- Every game with finitely many live vertices has a solution: the induction of the determinacy law.
--
-- After Haddad's short proof, by induction on the number of live vertices; one text treats both players. Each step
-- turns a live vertex t of least priority into a sink of the player for whom that priority is good. One of the
-- players then holds a move from t, and the two cases are those of LeastKept and LeastLost.
--
--   Decides       == of each vertex: some move leads to where p wins, or every move to where the opponent does
--   either_holds  == one of two opponents holds a move from t
--   nobody_lives  == without live vertices the sinks solve the game
--   fewer_without, fewer_frozen == the two games have fewer live vertices
--   solution      == every game with finitely many live vertices has a solution
use Rattle.std.proofs.Common.{ℕ, zero, suc, ◌≡◌, ◌<◌, ◌≤◌, Bool, true, false, ◌⊎◌, inl, inr, ⊎_elim, arith, subst, sym, ◌∙◌, refl}
use Rattle.std.proofs.lemmas.Bool.{cond_both}
use Rattle.ml_lists.specs.Found.{Least}
use Rattle.ml_lists.specs.Update.{update}
use Rattle.ml_lists.specs.Counting.{count}
use Rattle.ml_lists.proofs.Search.{search_least}
use Rattle.ml_lists.proofs.Update.{update-same}
use Rattle.ml_lists.proofs.Counting.{count_strict, count_zero, count_mono}
use Rattle.ml_parity.specs.declared.players.Player.{Player}
use Rattle.ml_parity.specs.Player.{opponent, side}
use Rattle.ml_parity.specs.private.Sinks.{Board, SomeMove, EveryMove, Holds, Solves, Solution}
use Rattle.ml_parity.proofs.Opponents.{cases_player, opponent-opponent, not_both, same_player}
use Rattle.ml_parity.proofs.LeastKept.{live_without, over_with, live_without-true, least_kept}
use Rattle.ml_parity.proofs.LeastLost.{live_frozen, over_frozen, joined, least_lost}

-- of each vertex and player it is decided: some move leads to where the player wins, or every move to where the
-- opponent does
abbrev pub Decides : Board → Type 0
Decides b = (win : ℕ → Player) (p : Player) (v : ℕ) → SomeMove b win p v ⊎ EveryMove b win (opponent p) v

-- p holds a move from t
pub record HeldMove (b : Board) (win : ℕ → Player) (p : Player) (t : ℕ) : Type 0 where
  pub to : ℕ
  pub held : Holds b win p to t

-- the owner of t holds a move to where that player wins
pub held_by_owner : (b : Board) (win : ℕ → Player) (p : Player) (t w : ℕ) → b.owner t ≡ p → b.Move t w → win w ≡ p
    → Holds b win p w t
held_by_owner b win p t w own move wins = record {
  own = λ o. record { move = move; wins = wins };
  other = λ o. absurd (not_both (b.owner t) p own o);
}

-- the other player holds t, if every move leads to where that player wins
pub held_by_other : (b : Board) (win : ℕ → Player) (p : Player) (t w : ℕ) → b.owner t ≡ opponent p
    → EveryMove b win p t → Holds b win p w t
held_by_other b win p t w own every = record {
  own = λ o. absurd (not_both (b.owner t) p o own);
  other = λ o. every;
}

-- one of two opponents holds a move from t
pub either_holds : (b : Board) → Decides b → (win : ℕ → Player) (i : Player) (t : ℕ)
    → HeldMove b win i t ⊎ HeldMove b win (opponent i) t
either_holds b decides win i t = by_owner (cases_player (b.owner t) i)
  where
    by_owner : (b.owner t ≡ i) ⊎ (b.owner t ≡ opponent i) → HeldMove b win i t ⊎ HeldMove b win (opponent i) t
    by_owner (inl own) = ⊎_elim
        (λ (m : SomeMove b win i t). inl (record { to = m.to; held = held_by_owner b win i t m.to own m.move m.wins }))
        (λ (every : EveryMove b win (opponent i) t). inr
        (record { to = t; held = held_by_other b win (opponent i) t t (own ∙ sym (opponent-opponent i)) every }))
        (decides win i t)
    by_owner (inr own) = ⊎_elim
        (λ (m : SomeMove b win (opponent i) t).
        inr (record { to = m.to; held = held_by_owner b win (opponent i) t m.to own m.move m.wins }))
        (λ (every : EveryMove b win (opponent (opponent i)) t). inl
        (record {
          to = t;
          held = held_by_other b win i t t own
              (subst (λ p. EveryMove b win p t) (opponent-opponent i) every);
        }))
        (decides win (opponent i) t)

-- without live vertices the sinks solve the game
pub nobody_lives : (b : Board) (live : ℕ → Bool) (over : ℕ → Player) (s : ℕ → ℕ) → ((v : ℕ) → live v ≡ true → ⊥)
    → Solves b live over over s
nobody_lives b live over s none = record {
  ends = λ v dead. refl;
  keeps = λ v alive. absurd (none v alive);
  loops = λ p c m loop. absurd (none (c 0) (loop.steps 0 loop.long).alive);
}

-- the first game has fewer live vertices
pub fewer_without : (live : ℕ → Bool) (t n : ℕ) → t < n → live t ≡ true → count (live_without live t) n < count live n
fewer_without live t n low alive =
    count_strict (live_without live t) live n (λ v below h. (live_without-true live t v h).1) t low
    (update-same live t false t refl) alive

-- a live vertex of the second game is live in the first
pub frozen_without : (live : ℕ → Bool) (t : ℕ) (win : ℕ → Player) (j : Player) (v : ℕ)
    → live_frozen live t win j v ≡ true → live_without live t v ≡ true
frozen_without live t win j v =
    cond_both (same_player (win v) j) false (live_without live t v) (λ x. x ≡ true → live_without live t v ≡ true)
    (λ e h. absurd (cc)) (λ e h. h)

-- the second game has no more live vertices than the first
pub fewer_frozen : (live : ℕ → Bool) (t n : ℕ) (win : ℕ → Player) (j : Player)
    → count (live_frozen live t win j) n ≤ count (live_without live t) n
fewer_frozen live t n win j = count_mono (live_frozen live t win j) (live_without live t) n
    (λ v below h. frozen_without live t win j v h)

-- the claim for at most so many live vertices below n
Solvable : Board → ℕ → ℕ → Type 0
Solvable b n fuel = (live : ℕ → Bool) (over : ℕ → Player) → count live n ≤ fuel → ((v : ℕ) → live v ≡ true → v < n)
    → Solution b live over

-- one more live vertex
step : (b : Board) → Decides b → (n fuel : ℕ) → Solvable b n fuel → (live : ℕ → Bool) (over : ℕ → Player)
    → count live n ≤ suc fuel → ((v : ℕ) → live v ≡ true → v < n) → Least (λ v. live v ≡ true) b.priority n
    → Solution b live over
unfolding Solvable
step b decides n fuel smaller live over few bounded m =
    by_first (smaller (live_without live t) (over_with over t i) (omega (arith, fewer))
    (λ v h. bounded v (live_without-true live t v h).1))
  where
    t : ℕ
    t = m.place

    i : Player
    i = side (b.priority t)

    fewer : count (live_without live t) n < count live n
    fewer = fewer_without live t n m.below m.holds

    least : (v : ℕ) → live v ≡ true → b.priority t ≤ b.priority v
    least v alive = m.least v (bounded v alive) alive

    kept : (f : Solution b (live_without live t) (over_with over t i)) → HeldMove b f.win i t → Solution b live over
    kept f h = record {
      win = f.win;
      choice = update f.choice t h.to;
      solves = least_kept b live over t f.win f.choice h.to m.holds least f.solves h.held;
    }

    lost : (f : Solution b (live_without live t) (over_with over t i)) → HeldMove b f.win (opponent i) t
        → Solution b (live_frozen live t f.win (opponent i)) (over_frozen t f.win (opponent i)) → Solution b live over
    lost f h r = record {
      win = r.win;
      choice = joined t h.to f.win (opponent i) f.choice r.choice;
      solves = least_lost b live over t f.win f.choice h.to r.win r.choice m.holds f.solves h.held r.solves;
    }

    again : (f : Solution b (live_without live t) (over_with over t i))
        → Solution b (live_frozen live t f.win (opponent i)) (over_frozen t f.win (opponent i))
    again f = smaller (live_frozen live t f.win (opponent i)) (over_frozen t f.win (opponent i))
        (omega (arith, fewer, fewer_frozen live t n f.win (opponent i)))
        (λ v h. bounded v (live_without-true live t v (frozen_without live t f.win (opponent i) v h)).1)

    by_first : Solution b (live_without live t) (over_with over t i) → Solution b live over
    by_first f = ⊎_elim (λ (h : HeldMove b f.win i t). kept f h)
        (λ (h : HeldMove b f.win (opponent i) t). lost f h (again f)) (either_holds b decides f.win i t)

-- every game with finitely many live vertices has a solution
pub solution : (b : Board) → Decides b → (n fuel : ℕ) (live : ℕ → Bool) (over : ℕ → Player) → count live n ≤ fuel
    → ((v : ℕ) → live v ≡ true → v < n) → Solution b live over
unfolding Solvable
solution b decides n zero live over few bounded = record {
  win = over;
  choice = λ v. v;
  solves = nobody_lives b live over (λ v. v) (λ v alive. count_zero live n (omega arith) v (bounded v alive) alive);
}
solution b decides n (suc fuel) live over few bounded =
    by_least (solution b decides n fuel) (search_least (λ v. live v ≡ true) b.priority (λ v. alive_or_not (live v)) n)
  where
    alive_or_not : (x : Bool) → (x ≡ true) ⊎ (x ≡ true → ⊥)
    alive_or_not true = inl refl
    alive_or_not false = inr (λ h. cc)

    by_least : Solvable b n fuel → Least (λ v. live v ≡ true) b.priority n ⊎ ((v : ℕ) → v < n → live v ≡ true → ⊥)
        → Solution b live over
    by_least smaller (inl m) = step b decides n fuel smaller live over few bounded m
    by_least smaller (inr none) = record {
      win = over;
      choice = λ v. v;
      solves = nobody_lives b live over (λ v. v) (λ v alive. none v (bounded v alive) alive);
    }
