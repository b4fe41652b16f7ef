-- Lines that lead from one place of a format to another.
--
--   run_on             == lines that lead to a place, and further ones from there
--   one_end            == behind the same lines stands one place
--   run_readable       == where the place behind them may be the end, the lines are readable
--   runs_readable      == where the rest is readable, all is
--   runs_bad           == the first bad line of the rest is the first bad one of all
use Rattle.std.proofs.Common.{◌≡◌, ℕ, ◌+◌, List, [], ◌∷◌, ◌++◌, length, inr, sym, subst, ◌∙◌, arith}
use Rattle.ml_lists.specs.Documents.{Format, IsFirstBad, IsGood}
use Rattle.ml_lists.specs.Readings.{IsReadable, Runs}

module _ {Line Place : Type 0} (F : Format Line Place) where
  pub run_on : (p q r : Place) (first second : List Line)
      → Runs F p first q
      → Runs F q second r
      → Runs F p (first ++ second) r
  run_on p q r [] second is run = subst (λ place. Runs F place second r) (sym is) run
  run_on p q r (line ∷ first) second run others = (run.0, run_on (F.after p line) q r first second run.1 others)

  pub one_end : (p q r : Place) (lines : List Line) → Runs F p lines q → Runs F p lines r → q ≡ r
  one_end p q r [] first second = sym first ∙ second
  one_end p q r (line ∷ lines) first second = one_end (F.after p line) q r lines first.1 second.1

  pub run_readable : (p q : Place) (lines : List Line) → Runs F p lines q → IsGood F q F.missing → IsReadable F p lines
  run_readable p q [] is good = subst (λ place. IsGood F place F.missing) (sym is) good
  run_readable p q (line ∷ lines) run good = (run.0, run_readable (F.after p line) q lines run.1 good)

  pub runs_readable : (p q : Place) (ls rest : List Line) → Runs F p ls q → IsReadable F q rest → IsReadable F p (ls ++ rest)
  runs_readable p q [] rest runs readable = subst (λ x. IsReadable F x rest) (sym runs) readable
  runs_readable p q (l ∷ ls) rest runs readable = (runs.0, runs_readable (F.after p l) q ls rest runs.1 readable)

  pub runs_bad : (k j : ℕ) (p q : Place) (ls rest : List Line) (bad r : ℕ)
      → Runs F p ls q
      → j ≡ k + length ls
      → IsFirstBad F j q rest bad r
      → IsFirstBad F k p (ls ++ rest) bad r
  runs_bad k j p q [] rest bad r runs at found =
      let same : j ≡ k = omega (arith, at) in
      subst (λ n. IsFirstBad F n p rest bad r) same (subst (λ x. IsFirstBad F j x rest bad r) (sym runs) found)
  runs_bad k j p q (l ∷ ls) rest bad r runs at found =
      inr (runs.0, runs_bad (k + 1) j (F.after p l) q ls rest bad r runs.1 (omega (arith, at)) found)
