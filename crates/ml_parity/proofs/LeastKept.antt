-- The induction of the determinacy law, the first case: the least vertex as a sink.
--
-- Let t be a live vertex of least priority, and i the player for whom that priority is good. In the first game t is a
-- sink of player i. If i holds some move from t by a solution of that game, then the solution serves with t live as
-- well: a loop through t is a loop of i's, and t has the least priority on it.
--
--   live_without, over_with == the live vertices without t; the sinks, with t for a player
--   least_kept              == where i holds a move from t, the solution of the first game serves with t live
use Rattle.std.proofs.Common.{ℕ, ◌≡◌, ◌<◌, ◌≤◌, Bool, true, false, ◌⊎◌, inl, inr, subst, sym, ap, ◌∙◌, refl}
use Rattle.std.proofs.lemmas.Bool.{cases_eq}
use Rattle.ml_lists.specs.Found.{Found}
use Rattle.ml_lists.specs.Update.{update}
use Rattle.ml_lists.proofs.Search.{search}
use Rattle.ml_lists.proofs.Update.{update-same, update-other}
use Rattle.ml_parity.specs.declared.players.Player.{Player}
use Rattle.ml_parity.specs.Player.{side}
use Rattle.ml_parity.specs.private.Sinks.{Board, Holds, Loop, GoodFor, Solves}

-- the live vertices without t
abbrev pub live_without : (ℕ → Bool) → ℕ → ℕ → Bool
live_without live t = update live t false

-- the sinks, with t for the player i
abbrev pub over_with : (ℕ → Player) → ℕ → Player → ℕ → Player
over_with over t i = update over t i

-- a vertex that is not live was none before, or is t
pub live_without-true : (live : ℕ → Bool) (t v : ℕ) → live_without live t v ≡ true → (v ≡ t → ⊥) × (live v ≡ true)
live_without-true live t v alive = by_case (cases_eq v t)
  where
    by_case : (v ≡ t) ⊎ (v ≡ t → ⊥) → (v ≡ t → ⊥) × (live v ≡ true)
    by_case (inl same) = let dead = update-same live t false v same in absurd (cc)
    by_case (inr other) = (other, sym (update-other live t false v other) ∙ alive)

-- a loop that goes through t, which has the least priority of all live vertices, is good for whom that priority is
through : (b : Board) (live : ℕ → Bool) (win : ℕ → Player) (s : ℕ → ℕ) (p : Player) (c : ℕ → ℕ) (m t k : ℕ)
    → Loop b live win s p c m → ((v : ℕ) → live v ≡ true → b.priority t ≤ b.priority v) → k < m → c k ≡ t
    → side (b.priority t) ≡ p → GoodFor b p c m
through b live win s p c m t k loop least low here right = record {
  place = k;
  below = low;
  least = λ j below. subst (λ v. b.priority v ≤ b.priority (c j)) (sym here) (least (c j) (loop.steps j below).alive);
  right = ap (λ v. side (b.priority v)) here ∙ right;
}

-- where i holds a move from t, the solution with t as a sink of i serves with t live, the move added
pub least_kept : (b : Board) (live : ℕ → Bool) (over : ℕ → Player) (t : ℕ) (win : ℕ → Player) (s : ℕ → ℕ) (w : ℕ)
    → live t ≡ true → ((v : ℕ) → live v ≡ true → b.priority t ≤ b.priority v)
    → Solves b (live_without live t) (over_with over t (side (b.priority t))) win s
    → Holds b win (side (b.priority t)) w t → Solves b live over win (update s t w)
least_kept b live over t win s w t_live least first held =
    record { ends = ends; keeps = λ v alive. keeps v alive (cases_eq v t); loops = loops }
  where
    won_t : win t ≡ side (b.priority t)
    won_t = first.ends t (update-same live t false t refl) ∙ update-same over t (side (b.priority t)) t refl

    ends : (v : ℕ) → live v ≡ false → win v ≡ over v
    ends v dead =
        let other : v ≡ t → ⊥ = λ same. let e : live v ≡ live t = ap live same in absurd (cc) in
        first.ends v (update-other live t false v other ∙ dead) ∙ update-other over t (side (b.priority t)) v other

    keeps : (v : ℕ) → live v ≡ true → (v ≡ t) ⊎ (v ≡ t → ⊥) → Holds b win (win v) (update s t w v) v
    keeps v alive (inl same) =
        let at_t : Holds b win (win t) (update s t w t) t =
        subst (λ x. Holds b win (win t) x t) (sym (update-same s t w t refl))
        (subst (λ p. Holds b win p w t) (sym won_t) held) in
        subst (λ u. Holds b win (win u) (update s t w u) u) (sym same) at_t
    keeps v alive (inr other) =
        subst (λ x. Holds b win (win v) x v) (sym (update-other s t w v other))
        (first.keeps v (update-other live t false v other ∙ alive))

    loops : (p : Player) (c : ℕ → ℕ) (m : ℕ) → Loop b live win (update s t w) p c m → GoodFor b p c m
    loops p c m loop = by_case (search (λ k. c k ≡ t) (λ k. c k ≡ t → ⊥) (λ k. cases_eq (c k) t) m)
      where
        by_case : Found (λ k. c k ≡ t) m ⊎ ((k : ℕ) → k < m → c k ≡ t → ⊥) → GoodFor b p c m
        by_case (inl f) =
            let mine : win t ≡ p = subst (λ v. win v ≡ p) f.holds (loop.steps f.place f.below).mine in
            through b live win (update s t w) p c m t f.place loop least f.below f.holds (sym won_t ∙ mine)
        by_case (inr avoids) = first.loops p c m (record {
          long = loop.long;
          closed = loop.closed;
          steps = λ k low. record {
            alive = update-other live t false (c k) (avoids k low) ∙ (loop.steps k low).alive;
            mine = (loop.steps k low).mine;
            move = (loop.steps k low).move;
            chosen = λ own. (loop.steps k low).chosen own ∙ update-other s t w (c k) (avoids k low);
          };
        })
