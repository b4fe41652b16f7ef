use Rattle.std.proofs.Common.{List, [], ap, arith, get_or, length, refl, suc, ℕ, ◌-◌, ◌<◌, ◌∙◌, ◌∷◌, ◌≡◌}
use Rattle.ml_history.proofs.names.last_name.Goals as goal
use Rattle.ml_history.specs.HistoryStep.{last_name}

-- the last entry of a stack is its last name
last_at : (s : List ℕ) → 0 < length s → get_or s (length s - 1) 0 ≡ last_name s
last_at [] some = absurd (omega arith)
last_at (x ∷ []) some = refl
last_at (x ∷ (y ∷ ys)) some =
    let e : length (x ∷ (y ∷ ys)) - 1 ≡ suc (length (y ∷ ys) - 1) = omega arith in
    ap (λ k. get_or (x ∷ (y ∷ ys)) k 0) e ∙ last_at (y ∷ ys) (omega arith)

pub returns-in-len1-up : goal.returns-in-len1-up
returns-in-len1-up c = last_at c.args.stack.now (omega arith)
