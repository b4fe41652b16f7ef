-- The line of the acceptance, put together from its parts.
--
--   condition_line == its two words, and the condition behind them
use Rattle.std.proofs.Common.{ℕ, ◌≡◌, List, [], ◌∷◌, ◌++◌, codes, sym, ap, append_assoc}
use Rattle.ml_lines.specs.Lines.{line_text, next, number}

pub condition_line : (top : ℕ) (condition : List ℕ)
    → codes "Acceptance:" ++ (next (number top) ++ (next condition ++ 10 ∷ []))
    ≡ line_text (codes "Acceptance:" ∷ number top ∷ condition ∷ [])
condition_line top condition =
    ap (λ rest. codes "Acceptance: " ++ rest) (sym (append_assoc (number top) (next condition) (10 ∷ [])))
