-- The next eventuality in focus, by remainders.
--
--   next_turn == the remainder may be taken before
--   turned    == so it is the focus behind an edge
use Rattle.std.proofs.Common.{ℕ, ◌≡◌, ◌+◌, ◌*◌, ◌/◌, ◌%◌, List, [], ◌∷◌, length, refl, sym, ap, ◌∙◌, arith, false}
use Rattle.std.proofs.Math.Nat.{mod-add-div, add-mul-mod_self_left}
use Rattle.ml_blocks.specs.private.Forms.{focus_in}

pub next_turn : (k n : ℕ) → (k % n + 1) % n ≡ (k + 1) % n
next_turn k n =
    sym (add-mul-mod_self_left (k % n + 1) n (k / n))
    ∙ ap (λ m. m % n) (behind (k % n) (n * (k / n)) ∙ ap (λ m. m + 1) (mod-add-div k n))
  where
    behind : (a b : ℕ) → (a + 1) + b ≡ (a + b) + 1
    behind a b = omega arith

pub turned : (ms : List ℕ) (k : ℕ) → (length ms ≡ 0 → ⊥) → (k % length ms + 1) % length ms ≡ focus_in ms k false
turned [] k some = absurd (some refl)
turned (e ∷ es) k some = next_turn k (length (e ∷ es))
