-- The least progress measure of a player has a list exactly where the player wins.
--
--   progress_strategy == a strategy whose moves progress, and that it is one
--   listed_won        == a progress measure has lists only where the player wins
--   won_listed        == and the least one has a list wherever the player wins
--   law               == the law of measures
use Rattle.std.proofs.Common.{ℕ, ◌≡◌, ◌≢◌, ◌<◌, ◌≤◌, ◌⊎◌, inl, inr, arith, List, Option, Some, None, refl, sym, subst}
use Rattle.std.proofs.lemmas.Bool.{cases_lt}
use Rattle.ml_parity.specs.declared.players.Player.{Player}
use Rattle.ml_parity.specs.Game.{ParityGame, IsGame, HasMove, owner_of, size}
use Rattle.ml_parity.specs.Winner.{Wins}
use Rattle.ml_parity.proofs.Opponents.{is_or_not}
use Rattle.ml_parity.proofs.Winners.{Winners, winners}
use Rattle.ml_progress.specs.Measure.{HasList, Measure, IsBelow, Progresses, IsProgressMeasure, IsLeastMeasure, measure_at}
use Rattle.ml_progress.specs.Law.{MeasureLaw}
use Rattle.ml_progress.proofs.Winning.{progress_wins}
use Rattle.ml_progress.proofs.RegionMeasure.{region_measure, region_listed, region_progresses}

module _ (g : ParityGame) (ok : IsGame g) (p : Player) (m : Measure) where
  module _ (progress : IsProgressMeasure g p m) where
    abbrev move_from : (v : ℕ) → (v < size g) ⊎ (size g ≤ v) → (owner_of g v ≡ p) ⊎ (owner_of g v ≡ p → ⊥) → ℕ
    move_from v (inl low) (inl own) = (progress.own v low own).to
    move_from v (inl low) (inr other) = 0
    move_from v (inr high) own = 0

    -- a strategy whose moves progress
    abbrev progress_strategy : ℕ → ℕ
    progress_strategy v = move_from v (cases_lt v (size g)) (is_or_not (owner_of g v) p)

    is_move : (v : ℕ) (c : (v < size g) ⊎ (size g ≤ v)) (o : (owner_of g v ≡ p) ⊎ (owner_of g v ≡ p → ⊥))
        → v < size g → owner_of g v ≡ p → HasMove g v (move_from v c o) × Progresses g p m v (move_from v c o)
    is_move v (inl low) (inl own) below mine = ((progress.own v low own).move, (progress.own v low own).progresses)
    is_move v (inl low) (inr other) below mine = absurd (other mine)
    is_move v (inr high) own below mine = absurd (omega arith)

    moves : (v : ℕ) → v < size g → owner_of g v ≡ p
        → HasMove g v (progress_strategy v) × Progresses g p m v (progress_strategy v)
    moves v = is_move v (cases_lt v (size g)) (is_or_not (owner_of g v) p)

    -- a progress measure has lists only where the player wins
    pub listed_won : (v : ℕ) → v < size g → HasList m v → Wins g p v
    listed_won v low has = record {
      strategy = progress_strategy;
      is_strategy = λ x below own. (moves x below own).0;
      wins = progress_wins g ok p m progress progress_strategy (λ x below own listed. (moves x below own).1) v low has;
    }

  below_top : (a : Option (List ℕ)) → a ≢ None → IsBelow a None
  below_top None has = absurd (has refl)
  below_top (Some xs) has = tt

  -- the least one has a list wherever the player wins
  pub won_listed : IsLeastMeasure g p m → (v : ℕ) → v < size g → Wins g p v → HasList m v
  won_listed least v low wins top =
      let w : Winners g = winners g ok in
      least.least (region_measure g ok p w) (region_progresses g ok p w) v low
      (subst (IsBelow (measure_at (region_measure g ok p w) v)) (sym top)
      (below_top (measure_at (region_measure g ok p w) v) (region_listed g ok p w v low (w.only v p low wins))))

-- the law of measures
pub law : MeasureLaw
law g ok p m least v low = (listed_won g ok p m least.progress v low, won_listed g ok p m least v low)
