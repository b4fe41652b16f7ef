-- Where the vertices are sorted, no cycle is bad.
--
-- Of a priority q, count the seams of q or lower before the place of a vertex. Along a way from a vertex of a priority of q or
-- higher the count doesn't grow, and where the priority is q and bad it falls. So no cycle has q as its lowest priority.
--
--   before              == how many seams of q or lower are before the place of a vertex
--   keeps, falls        == along a way this doesn't grow; where q is the priority and bad for the player, it falls
--   never_back          == a sequence that doesn't grow, and falls once, doesn't end as it began
--   sorted_no_bad_cycle == the theorem
use Rattle.std.proofs.Common.{ℕ, zero, suc, ◌≡◌, ◌+◌, ◌<◌, ◌≤◌, ◌⊎◌, true, false, length, get_or, inl, inr, arith, refl, sym, ap, ◌∙◌, subst}
use Rattle.std.proofs.Math.Dec.{leb}
use Rattle.std.proofs.lemmas.Bool.{cases_Bool, cases_lt, le-leb, leb-true}
use Rattle.ml_lists.specs.Counting.{count}
use Rattle.ml_lists.specs.Lasso.{Lasso, lowest_on_loop, round}
use Rattle.ml_lists.proofs.Counting.{count-false}
use Rattle.ml_lists.proofs.Lasso.{lowest_on_loop_le, round-end, round-entry}
use Rattle.ml_lists.proofs.Ranks.{count_passes, count_upto}
use Rattle.ml_parity.specs.declared.players.Player.{Player}
use Rattle.ml_parity.specs.Game.{ParityGame, priority_of}
use Rattle.ml_parity.specs.Player.{opponent, side}
use Rattle.ml_parity.proofs.Opponents.{no_own_opponent}
use Rattle.ml_game_check.specs.RightClaims.{BreaksFour, Claims, IsWay}
use Rattle.ml_game_check.specs.private.Seams.{IsBound, IsOpen, IsSorted}

module _ (seam : ℕ → ℕ) where
  -- how many seams of q or lower are before a place
  abbrev before : ℕ → ℕ → ℕ
  before q i = count (λ x. leb (seam x) q) i

  -- no more before j than before i, where none is from i up to j
  open_same : (q i j : ℕ) → IsOpen seam q i j → before q j ≤ before q i
  open_same q i zero none = omega arith
  open_same q i (suc j) none =
      by_place (cases_lt j i) (cases_Bool (leb (seam j) q)) (open_same q i j (λ x late low. none x late (omega arith)))
    where
      by_place : (j < i) ⊎ (i ≤ j) → (leb (seam j) q ≡ true) ⊎ (leb (seam j) q ≡ false) → before q j ≤ before q i
          → before q (suc j) ≤ before q i
      by_place (inl low) t old = count_upto (λ x. leb (seam x) q) (suc j) i (omega arith)
      by_place (inr high) (inl t) old = absurd (omega (arith, leb-true (seam j) q t, none j high (omega arith)))
      by_place (inr high) (inr f) old = omega (arith, count-false (λ x. leb (seam x) q) j f, old)

  module _ (p : Player) (q i b : ℕ) (is : IsBound seam q p i b) (j : ℕ) (by : j ≤ b) where
    -- of seams of r or lower, where r is q or lower
    keeps : (r : ℕ) → r ≤ q → before r j ≤ before r i
    keeps r low = of is
      where
        of : IsBound seam q p i b → before r j ≤ before r i
        of (inl (good, none)) =
            open_same r i j (λ x late below. let high = none x late (omega (arith, by)) in omega arith)
        of (inr (earlier, cut)) = count_upto (λ x. leb (seam x) r) j i (omega (arith, by, earlier))

    falls : side q ≡ opponent p → before q j < before q i
    falls bad = of is
      where
        of : IsBound seam q p i b → before q j < before q i
        of (inl (good, none)) = absurd (no_own_opponent p (sym good ∙ bad))
        of (inr (earlier, cut)) =
            omega (
              arith,
              count_upto (λ x. leb (seam x) q) j b by,
              count_passes (λ x. leb (seam x) q) b i earlier (le-leb (seam b) q cut),
            )

-- a sequence that doesn't grow from b to i
not_up : (f : ℕ → ℕ) (b i : ℕ) → ((k : ℕ) → b ≤ k → k < i → f (k + 1) ≤ f k) → b ≤ i → f i ≤ f b
not_up f b zero keeps later = let e : b ≡ 0 = omega arith in subst (λ x. f 0 ≤ f x) (sym e) (omega arith)
not_up f b (suc i) keeps later = by_place (cases_lt i b) (not_up f b i (λ k late low. keeps k late (omega arith)))
  where
    by_place : (i < b) ⊎ (b ≤ i) → (b ≤ i → f i ≤ f b) → f (suc i) ≤ f b
    by_place (inl low) old = let e : b ≡ suc i = omega arith in subst (λ x. f (suc i) ≤ f x) (sym e) (omega arith)
    by_place (inr high) old =
        let e : i + 1 ≡ suc i = omega arith in
        let one : f (suc i) ≤ f i = subst (λ x. f x ≤ f i) e (keeps i high (omega arith)) in
        omega (arith, one, old high)

-- a sequence that doesn't grow from a to n, and falls at k, ends lower
never_back : (f : ℕ → ℕ) (a k n : ℕ) → a ≤ k → k < n
    → ((i : ℕ) → a ≤ i → i < n → f (i + 1) ≤ f i)
    → f (k + 1) < f k
    → f n < f a
never_back f a k n late early keeps down =
    omega (
      arith,
      down,
      not_up f a k (λ i above below. keeps i above (omega arith)) late,
      not_up f (k + 1) n (λ i above below. keeps i (omega arith) below) (omega arith),
    )

module _ (g : ParityGame) (cs : Claims) (place seam : ℕ → ℕ) (sorted : IsSorted g cs place seam) where
  pub sorted_no_bad_cycle : (p : Player) (v : ℕ) → BreaksFour g cs p v → ⊥
  sorted_no_bad_cycle p v (claimed, c) =
      omega (arith, never_back f l.start c.place (length l.entries) c.on_loop c.in_list goes_on drops, ends)
    where
      l : Lasso
      l = c.cycle

      q : ℕ
      q = priority_of g v

      at : ℕ → ℕ
      at k = get_or (round l) k 0

      f : ℕ → ℕ
      f k = before seam q (place (at k))

      way : (k : ℕ) → k < length l.entries → IsWay g cs p (at k) (at (k + 1))
      way k low = c.ways.joined k low

      ends : f (length l.entries) ≡ f l.start
      ends =
          ap (λ x. before seam q (place x))
          (round-end l (length l.entries) refl ∙ sym (round-entry l l.start c.ways.starts))

      goes_on : (k : ℕ) → l.start ≤ k → k < length l.entries → f (k + 1) ≤ f k
      goes_on k later low =
          let s = sorted p (at k) (way k low).0 in
          let lowest : lowest_on_loop (priority_of g) l ≤ priority_of g (at k) =
          subst (λ x. lowest_on_loop (priority_of g) l ≤ priority_of g x) (sym (round-entry l k low))
          (lowest_on_loop_le (priority_of g) l k later low)
          in
          keeps seam p (priority_of g (at k)) (place (at k)) s.0 s.1 (place (at (k + 1)))
          (s.2 (at (k + 1)) (way k low)) q (omega (arith, lowest, c.lowest))

      here : at c.place ≡ v
      here = round-entry l c.place c.in_list ∙ c.here

      drops : f (c.place + 1) < f c.place
      drops =
          let s = sorted p v claimed in
          let to : IsWay g cs p v (at (c.place + 1)) = subst (λ x. IsWay g cs p x (at (c.place + 1))) here (way c.place c.in_list) in
          subst (λ x. before seam q (place (at (c.place + 1))) < before seam q (place x)) (sym here)
          (falls seam p q (place v) s.0 s.1 (place (at (c.place + 1))) (s.2 (at (c.place + 1)) to) c.bad)
