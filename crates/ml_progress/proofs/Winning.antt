-- From a progress measure to a winning strategy.
--
-- Along a play that follows moves which progress, the lists, cut at the lowest priority of the loop, never rise, and they
-- fall at a vertex of that priority if it is bad. So it isn't, since the loop comes back to where it began.
--
--   goes_down     == along a move that progresses the cut list doesn't rise, and falls where the priority is bad
--   stays_listed  == and it leads to a vertex with a list
--   progress_wins == a strategy whose moves progress wins where the measure has a list
use Rattle.std.proofs.Common.{ℕ, ◌≡◌, ◌≢◌, ◌+◌, ◌-◌, ◌<◌, ◌≤◌, ⊎_elim, arith, Bool, true, false, List, length, get_or, take, Option, Some, None, refl, sym, ap, ◌∙◌, subst}
use Rattle.std.proofs.lemmas.Bool.{cases_Bool}
use Rattle.ml_lists.specs.Lasso.{Lasso, entry, round, lowest_on_loop}
use Rattle.ml_lists.proofs.Lasso.{round-entry, on_loop, loop_length, loop_closed, lasso_keeps, LowestOnLoop, lowest_on_loop_le, lowest_on_loop_place}
use Rattle.ml_lists.proofs.Loops.{loop_is_flat}
use Rattle.ml_parity.specs.declared.players.Player.{Player}
use Rattle.ml_parity.specs.Player.{opponent, side}
use Rattle.ml_parity.specs.Game.{ParityGame, IsGame, HasMove, owner_of, priority_of, size}
use Rattle.ml_parity.specs.Winner.{IsPlay, Follows, WinsFrom, winner}
use Rattle.ml_parity.proofs.Opponents.{cases_player}
use Rattle.ml_progress.specs.Measure.{Measure, IsProgressMeasure, Progresses, is_bad, measure_at}
use Rattle.ml_progress.specs.Measure.{HasList}
use Rattle.ml_progress.specs.private.Codes.{FitsIn, cut_level, step_of, Steps}
use Rattle.ml_progress.specs.private.Bounds.{bounds_of, cut_length, StepsAlong}
use Rattle.ml_progress.proofs.Codes.{code_low, fits_take}
use Rattle.ml_progress.proofs.Progress.{measure_fits, progress_steps}
use Rattle.ml_progress.proofs.Cuts.{shorter, cut_up, good_side}

module _ (c : ℕ) (bs : List ℕ) (t : Bool) where
  goes_down : (a b : Option (List ℕ)) → a ≢ None → Steps c bs t a b → cut_level c bs b + step_of t ≤ cut_level c bs a
  goes_down None b has steps = absurd (has refl)
  goes_down (Some xs) b has steps = steps

  stays_listed : (a b : Option (List ℕ)) → FitsIn bs a → a ≢ None → Steps c bs t a b → b ≢ None
  stays_listed None b f has steps = absurd (has refl)
  stays_listed (Some xs) None f has steps = absurd (omega (arith, code_low (take c bs) (take c xs) (fits_take c bs xs f)))
  stays_listed (Some xs) (Some ys) f has steps = λ e. cc

module _ (g : ParityGame) (ok : IsGame g) (p : Player) (m : Measure) (progress : IsProgressMeasure g p m) (s : ℕ → ℕ)
    (chosen : (v : ℕ) → v < size g → owner_of g v ≡ p → HasList m v → Progresses g p m v (s v)) where
  fits : (v : ℕ) → v < size g → FitsIn (bounds_of g p) (measure_at m v)
  fits = measure_fits g p m progress.measure

  -- a vertex with a list
  record Listed (v : ℕ) : Type 0 where
    pub low : v < size g
    pub has : HasList m v

  -- a move that follows the strategy from a vertex with a list progresses
  goes : (v w : ℕ) → Listed v → HasMove g v w → (owner_of g v ≡ p → w ≡ s v) → StepsAlong g p m v w
  goes v w l move follows = progress_steps g p v (measure_at m v) (measure_at m w) (fits v l.low)
      (fits w (ok.in_range v w move))
      (⊎_elim
      (λ (own : owner_of g v ≡ p). subst (Progresses g p m v) (sym (follows own)) (chosen v l.low own l.has))
      (λ (own : owner_of g v ≡ opponent p). progress.other v w l.low own move)
      (cases_player (owner_of g v) p))

  stays : (v w : ℕ) → Listed v → HasMove g v w → (owner_of g v ≡ p → w ≡ s v) → Listed w
  stays v w l move follows = record {
    low = ok.in_range v w move;
    has = stays_listed (cut_length g p v) (bounds_of g p) (is_bad p (priority_of g v)) (measure_at m v) (measure_at m w)
        (fits v l.low) l.has (goes v w l move follows);
  }

  -- the level of a vertex, cut at c
  abbrev cut_at : ℕ → ℕ → ℕ
  cut_at c v = cut_level c (bounds_of g p) (measure_at m v)

  module _ (l : Lasso) (play : IsPlay g l) (follows : Follows g p s l) (begins : Listed (entry l 0)) where
    along : (k : ℕ) → k ≤ length l.entries → Listed (get_or (round l) k 0)
    along = lasso_keeps l Listed
        (λ k low here. stays (get_or (round l) k 0) (get_or (round l) (k + 1) 0) here (play.joined k low) (follows k low))
        (subst Listed (sym (round-entry l 0 (omega (arith, play.starts)))) begins)

    steps : (k : ℕ) → k < length l.entries → StepsAlong g p m (get_or (round l) k 0) (get_or (round l) (k + 1) 0)
    steps k low =
        goes (get_or (round l) k 0) (get_or (round l) (k + 1) 0) (along k (omega arith)) (play.joined k low) (follows k low)

    falls : (k : ℕ) → k < length l.entries
        → cut_at (cut_length g p (get_or (round l) k 0)) (get_or (round l) (k + 1) 0)
        + step_of (is_bad p (priority_of g (get_or (round l) k 0)))
        ≤ cut_at (cut_length g p (get_or (round l) k 0)) (get_or (round l) k 0)
    falls k low =
        goes_down (cut_length g p (get_or (round l) k 0)) (bounds_of g p)
        (is_bad p (priority_of g (get_or (round l) k 0))) (measure_at m (get_or (round l) k 0))
        (measure_at m (get_or (round l) (k + 1) 0)) (along k (omega arith)).has (steps k low)

    -- at a vertex of no lower priority than u, the lists cut at u's priority don't rise
    never : (u k : ℕ) → k < length l.entries → priority_of g u ≤ priority_of g (get_or (round l) k 0)
        → cut_at (cut_length g p u) (get_or (round l) (k + 1) 0) ≤ cut_at (cut_length g p u) (get_or (round l) k 0)
    never u k low high =
        shorter (cut_length g p u) (cut_length g p (get_or (round l) k 0)) (bounds_of g p)
        (cut_up g p u (get_or (round l) k 0) high) (measure_at m (get_or (round l) (k + 1) 0))
        (measure_at m (get_or (round l) k 0)) (fits (get_or (round l) (k + 1) 0) (along (k + 1) (omega arith)).low)
        (fits (get_or (round l) k 0) (along k (omega arith)).low) (omega (arith, falls k low))

    module _ (q : LowestOnLoop (priority_of g) l) where
      abbrev u : ℕ
      u = get_or (round l) q.place 0

      abbrev height : ℕ → ℕ
      height k = cut_at (cut_length g p u) (on_loop l k)

      lowest_is : priority_of g u ≡ lowest_on_loop (priority_of g) l
      lowest_is = ap (priority_of g) (round-entry l q.place q.below) ∙ q.holds

      high : (k : ℕ) → l.start ≤ k → k < length l.entries → priority_of g u ≤ priority_of g (get_or (round l) k 0)
      high k later low =
          let e = ap (priority_of g) (round-entry l k low) in
          omega (arith, lowest_is, lowest_on_loop_le (priority_of g) l k later low)

      no_rise : (k j : ℕ) → k < loop_length l → j ≡ l.start + k
          → cut_at (cut_length g p u) (get_or (round l) (j + 1) 0) ≤ cut_at (cut_length g p u) (get_or (round l) j 0)
      no_rise k j low at = never u j (omega arith) (high j (omega arith) (omega arith))

      flat : (k : ℕ) → k < loop_length l → height (k + 1) ≤ height k
      flat k low =
          let e : l.start + k + 1 ≡ l.start + (k + 1) = omega arith in
          subst (λ i. cut_at (cut_length g p u) (get_or (round l) i 0) ≤ height k) e (no_rise k (l.start + k) low refl)

      not_bad : is_bad p (priority_of g u) ≡ true → ⊥
      not_bad bad =
          let at : l.start + (q.place - l.start) ≡ q.place = omega (arith, q.later) in
          let next : l.start + (q.place - l.start + 1) ≡ q.place + 1 = omega (arith, q.later) in
          let here : height (q.place - l.start) ≡ cut_at (cut_length g p u) u =
          ap (λ i. cut_at (cut_length g p u) (get_or (round l) i 0)) at in
          let there : height (q.place - l.start + 1) ≡ cut_at (cut_length g p u) (get_or (round l) (q.place + 1) 0) =
          ap (λ i. cut_at (cut_length g p u) (get_or (round l) i 0)) next in
          let one : step_of (is_bad p (priority_of g u)) ≡ 1 = ap step_of bad in
          loop_is_flat height (loop_length l) (ap (cut_at (cut_length g p u)) (loop_closed l play.starts)) flat
          (q.place - l.start) (omega (arith, q.later, q.below)) (omega (arith, falls q.place q.below))

      good : winner g l ≡ p
      good = ⊎_elim
          (λ (bad : is_bad p (priority_of g u) ≡ true). absurd (not_bad bad))
          (λ (fine : is_bad p (priority_of g u) ≡ false). sym (ap side lowest_is) ∙ good_side p (priority_of g u) fine)
          (cases_Bool (is_bad p (priority_of g u)))

  -- a strategy whose moves progress wins where the measure has a list
  pub progress_wins : (v : ℕ) → v < size g → HasList m v → WinsFrom g p s v
  progress_wins v low has l play begins follows =
      good l play follows (subst Listed (sym begins) (record { low = low; has = has }))
      (lowest_on_loop_place (priority_of g) l play.starts)
