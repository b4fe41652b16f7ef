-- Guards behind some `!`.
use Rattle.std.proofs.Common.{◌≡◌, ℕ, suc, ◌+◌, ◌-◌, ◌<◌, ◌≤◌, ap, arith}
use Rattle.ml_hoa.specs.Automaton.{Guard, Not}
use Rattle.ml_hoa.specs.private.Machine.{negated}

-- a negation more, of as many as are left
pub negated_step : (n i : ℕ) (g : Guard) → i < n → negated (n - i) g ≡ negated (n - (i + 1)) (Not g)
negated_step n i g low = let e : n - i ≡ suc (n - (i + 1)) = omega arith in ap (λ k. negated k g) e

pub negated_done : (n i : ℕ) (g : Guard) → n ≤ i → negated (n - i) g ≡ g
negated_done n i g done = let e : n - i ≡ 0 = omega arith in ap (λ k. negated k g) e
