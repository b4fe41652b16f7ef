-- Moves that progress, as the program tests them.
--
--   cut_taken     == the first numbers of a row, as they are sliced
--   not_tested    == what a test tells is told the other way round by its negation
--   flat_move     == a move from a priority that isn't bad
--   first_found   == the first move that progresses
use Rattle.std.proofs.Common.{ℕ, ◌≡◌, ◌<◌, ◌≤◌, ◌↔◌, arith, Bool, true, false, not, IsTrue, List, length, length-take, get_or, take, Option, Some, refl, sym, ap, ◌∙◌, subst, subst₂}
use Rattle.ml_parity.specs.declared.players.Player.{Player}
use Rattle.ml_parity.specs.Game.{ParityGame, moves_of, priority_of}
use Rattle.ml_progress.specs.Measure.{Measure, ComesBefore, Falls, ProgressesFrom, Progresses, is_bad}
use Rattle.ml_progress.specs.Measured.{IsFirstProgress}
use Rattle.ml_progress.specs.private.Bounds.{cut_length}

-- the first numbers of a row, as they are sliced
pub cut_taken : (cut : ℕ) (row : List ℕ) → cut ≤ length row → cut ≡ length (take cut row)
cut_taken cut row low = omega (arith, length-take cut row)

-- what a test tells is told the other way round by its negation
pub not_tested : (P : Type 0) (r : Bool) → IsTrue r ↔ P → IsTrue (not r) ↔ (P → ⊥)
not_tested P true told = (λ e. absurd (cc), λ none. absurd (none (told.0 refl)))
not_tested P false told = (λ e p. let wrong = told.1 p in absurd (cc), λ none. refl)

-- a move from a priority that isn't bad
pub flat_move : (g : ParityGame) (p : Player) (v : ℕ) (a b : Option (List ℕ)) (xs ys : List ℕ) (cut : ℕ) (t r : Bool)
    → a ≡ Some xs
    → b ≡ Some ys
    → cut ≡ cut_length g p v
    → t ≡ is_bad p (priority_of g v)
    → t ≡ false
    → IsTrue r ↔ ComesBefore (take cut xs) (take cut ys)
    → IsTrue (not r) ↔ ProgressesFrom g p v a b
flat_move g p v a b xs ys cut t r is_a is_b at is good told =
    subst₂ (λ x y. IsTrue (not r) ↔ ProgressesFrom g p v x y) (sym is_a) (sym is_b)
    (subst (λ s. IsTrue (not r) ↔ Falls s (take (cut_length g p v) xs) (take (cut_length g p v) ys)) (sym good ∙ is)
    (subst (λ k. IsTrue (not r) ↔ Falls false (take k xs) (take k ys)) at
    (not_tested (ComesBefore (take cut xs) (take cut ys)) r told)))

-- the first move that progresses
pub first_found : (g : ParityGame) (p : Player) (m : Measure) (v k : ℕ) (moves : List ℕ)
    → moves ≡ moves_of g v
    → k < length moves
    → ((j : ℕ) → j < k → Progresses g p m v (get_or moves j 0) → ⊥)
    → Progresses g p m v (get_or moves k 0)
    → IsFirstProgress g p m v (get_or moves k 0)
first_found g p m v k moves are low before goes = record {
  place = k;
  first = record {
    below = omega (arith, ap length are);
    holds = subst (λ xs. Progresses g p m v (get_or xs k 0)) are goes;
    before = λ j less at. before j less (subst (λ xs. Progresses g p m v (get_or xs j 0)) (sym are) at);
  };
  there = ap (λ xs. get_or xs k 0) are;
}
