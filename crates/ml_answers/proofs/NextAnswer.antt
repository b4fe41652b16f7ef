-- The next answer, where answers are judged one after the other.
--
--   all_at == what is true of all that is stated is true of the next answer
use Rattle.std.proofs.Common.{◌≡◌, ℕ, zero, suc, List, [], ◌∷◌, drop, subst}
use Rattle.std.specs.List.{AllByRecursion}
use Rattle.ml_answers.specs.declared.stated.Stated.{Stated}

pub all_at : (P : Stated → Type 0) (stated : List Stated) (n : ℕ) (a : Stated) (rest : List Stated)
    → drop n stated ≡ a ∷ rest
    → AllByRecursion P stated
    → P a
all_at P stated n a rest is_next all = (subst (AllByRecursion P) is_next (from n stated all)).0
  where
    from : (n : ℕ) (stated : List Stated) → AllByRecursion P stated → AllByRecursion P (drop n stated)
    from zero stated all = all
    from (suc n) [] all = tt
    from (suc n) (b ∷ stated) all = from n stated all.1
