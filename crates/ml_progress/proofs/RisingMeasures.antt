-- A measure that rises, while vertices wait.
--
--   Rising          == the measure is low, and each vertex is settled or waits
--   rising_begins   == so it begins, where the measure is low and all vertices wait
--   rising_stays    == a vertex was taken, and did not rise
--   rising_rises    == a vertex was taken and rose, and those with a move to it wait
--   less_to_rise    == there is less to be done then
--   rising_ends     == where no vertex waits it is the least progress measure
use Rattle.std.proofs.Common.{ℕ, ◌≡◌, ◌+◌, ◌*◌, ◌<◌, ◌≤◌, ◌⊎◌, inl, inr, arith, Bool, true, false, List, [], ◌∷◌, length, get_or, set, None, sym, ap, ◌∙◌, subst}
use Rattle.std.proofs.Math.Nat.{mul-le-mul_right, add-mul}
use Rattle.std.proofs.lemmas.Bool.{cases_eq}
use Rattle.std.proofs.lemmas.List.{get_or-set_other}
use Rattle.ml_lists.specs.Member.{IsMember}
use Rattle.ml_lists.proofs.Decided.{Decided, decided_same, decided_number}
use Rattle.ml_lists.proofs.Deciding.{decided_member}
use Rattle.ml_lists.proofs.Members.{member_of_contains, contains_of_member}
use Rattle.ml_parity.specs.declared.players.Player.{Player}
use Rattle.ml_parity.specs.Game.{ParityGame, IsGame, HasMove, moves_of, size}
use Rattle.ml_progress.specs.Measure.{Measure, IsLeastMeasure, measure_at}
use Rattle.ml_progress.specs.declared.predecessors.Arrow.{Arrow}
use Rattle.ml_progress.specs.private.Lifting.{IsLow, IsSettled, IsLifted, SettledOrFlagged, room}
use Rattle.ml_progress.specs.private.Waits.{InChain, ChainsUpTo, IsWaiting, Woken}
use Rattle.ml_progress.proofs.LiftedMeasures.{lift_keeps, lift_settles, stays_settled, top_settled, room_falls, settled_least}

-- the measure is low, and each vertex is settled or waits
pub record Rising (g : ParityGame) (p : Player) (m : Measure) (flags : List Bool) (queue : List ℕ) : Type 0 where
  pub low : IsLow g p m
  pub waiting : IsWaiting flags queue
  pub long : length flags ≡ size g
  pub settled : SettledOrFlagged g p m flags

module _ (g : ParityGame) (ok : IsGame g) (p : Player) where
  -- so it begins, where the measure is low and all vertices wait
  pub rising_begins : (n : ℕ) (m : Measure) (flags : List Bool) (queue : List ℕ)
      → n ≡ size g
      → IsLow g p m
      → IsWaiting flags queue
      → length flags ≡ n
      → ((v : ℕ) → v < n → get_or flags v false ≡ true)
      → Rising g p m flags queue
  rising_begins n m flags queue count low waiting long all = record {
    low = low;
    waiting = waiting;
    long = long ∙ count;
    settled = λ v below. inl (all v (omega arith));
  }

  module _ (m n : Measure) (flags : List Bool) (queue rest : List ℕ) (v : ℕ) (rising : Rising g p m flags queue)
      (below : v < length flags) where
    in_game : v < size g
    in_game = omega (arith, rising.long)

    still : (u : ℕ) → (u ≡ v → ⊥) → get_or flags u false ≡ true → get_or (set flags v false) u false ≡ true
    still u differs flag = get_or-set_other flags v u false false differs ∙ flag

    -- a vertex was taken, and did not rise
    pub rising_stays : (flags2 : List Bool)
        → flags2 ≡ set flags v false
        → IsWaiting flags2 rest
        → length flags2 ≡ length flags
        → IsLifted g p m n v false
        → Rising g p n flags2 rest
    rising_stays flags2 is waiting long lifted = record {
      low = lift_keeps g ok p m n v rising.low in_game false lifted;
      waiting = waiting;
      long = long ∙ rising.long;
      settled = subst (λ k. SettledOrFlagged g p k flags2) (sym lifted.raised.1) (λ u low. at u low (cases_eq u v));
    }
      where
        from : (u : ℕ) → (u ≡ v → ⊥) → (get_or flags u false ≡ true) ⊎ IsSettled g p m u
            → (get_or flags2 u false ≡ true) ⊎ IsSettled g p m u
        from u differs (inl flag) = inl (ap (λ bs. get_or bs u false) is ∙ still u differs flag)
        from u differs (inr settled) = inr settled

        at : (u : ℕ) → u < size g → (u ≡ v) ⊎ (u ≡ v → ⊥) → (get_or flags2 u false ≡ true) ⊎ IsSettled g p m u
        at u low (inl same) =
            inr (subst (IsSettled g p m) (sym same) (lift_settles g ok p m n v rising.low in_game lifted))
        at u low (inr differs) = from u differs (rising.settled u low)

    module _ (lifted : IsLifted g p m n v true) where
      decided_move : (u : ℕ) → Decided (HasMove g u v)
      decided_move u = decided_same (contains_of_member v (moves_of g u)) (member_of_contains v (moves_of g u))
          (decided_member decided_number v (moves_of g u))

      -- a vertex was taken and rose, and those with a move to it wait
      pub rising_rises : (last : List ℕ) (arrows : List Arrow) (flags2 flags3 : List Bool) (queue3 : List ℕ)
          → flags2 ≡ set flags v false
          → length flags2 ≡ length flags
          → ChainsUpTo g (size g) last arrows
          → IsWaiting flags3 queue3
          → Woken n flags2 flags3 (λ u. InChain arrows u (get_or last v 0))
          → Rising g p n flags3 queue3
      rising_rises last arrows flags2 flags3 queue3 is long chains waiting woken = record {
        low = lift_keeps g ok p m n v rising.low in_game true lifted;
        waiting = waiting;
        long = woken.long ∙ long ∙ rising.long;
        settled = λ u low. at u low (decided_move u);
      }
        where
          told : (u : ℕ) → u < size g → (get_or flags3 u false ≡ true) ⊎ (measure_at n u ≡ None)
              → (get_or flags3 u false ≡ true) ⊎ IsSettled g p n u
          told u low (inl flag) = inl flag
          told u low (inr top) = inr (top_settled g ok p n u low top)

          without : (u : ℕ) → u < size g → (HasMove g u v → ⊥) → (u ≡ v) ⊎ (u ≡ v → ⊥)
              → (get_or flags u false ≡ true) ⊎ IsSettled g p m u
              → (get_or flags3 u false ≡ true) ⊎ IsSettled g p n u
          without u low none (inl same) old =
              inr (stays_settled g ok p m n v rising.low in_game lifted u low none (λ differs. absurd (differs same)))
          without u low none (inr differs) (inl flag) =
              inl (woken.kept u (ap (λ bs. get_or bs u false) is ∙ still u differs flag))
          without u low none (inr differs) (inr settled) =
              inr (stays_settled g ok p m n v rising.low in_game lifted u low none (λ d. settled))

          at : (u : ℕ) → u < size g → Decided (HasMove g u v) → (get_or flags3 u false ≡ true) ⊎ IsSettled g p n u
          at u low (inl move) = told u low (woken.woken u (chains.all u v low move))
          at u low (inr none) = without u low none (cases_eq u v) (rising.settled u low)

      -- there is less to be done then
      pub less_to_rise : (a : ℕ) (queue3 : List ℕ) → queue ≡ v ∷ rest → length queue3 ≤ length rest + a
          → room g p n * (a + 1) + length queue3 < room g p m * (a + 1) + length queue
      less_to_rise a queue3 is few =
          let falls = room_falls g p m n v rising.low in_game lifted in
          let whole : (room g p n + 1) * (a + 1) ≤ room g p m * (a + 1) = mul-le-mul_right (a + 1) (omega arith) in
          omega (arith, ap length is, add-mul (room g p n) 1 (a + 1))

  -- where no vertex waits it is the least progress measure
  pub rising_ends : (m : Measure) (flags : List Bool) (queue : List ℕ) → Rising g p m flags queue → queue ≡ []
      → IsLeastMeasure g p m
  rising_ends m flags queue rising none = settled_least g ok p m rising.low (λ v low. at v (rising.settled v low))
    where
      at : (v : ℕ) → (get_or flags v false ≡ true) ⊎ IsSettled g p m v → IsSettled g p m v
      at v (inl flag) = absurd (subst (IsMember v) none (rising.waiting.stands v flag))
      at v (inr settled) = settled
