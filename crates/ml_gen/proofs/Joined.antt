-- Parts that are joined from the first on.
--
--   onto both part k a f == the k parts from number a on, each joined to what stands before it, f first
--   onto_joined          == onto the first part these give what is joined
--   joined_counts        == where each part counts w and each joining one, n parts count so much
use Rattle.std.proofs.Common.{◌≡◌, ℕ, zero, suc, ◌+◌, ◌*◌, refl, ap, ◌∙◌, arith}
use Rattle.ml_gen.specs.Formulas.{joined}

module _ {F : Type 0} (both : F → F → F) (part : ℕ → F) where
  abbrev pub onto : ℕ → ℕ → F → F
  onto zero a f = f
  onto (suc k) a f = onto k (a + 1) (both f (part a))

  onto_last : (k a j : ℕ) (f : F) → a + k ≡ j → onto (suc k) a f ≡ both (onto k a f) (part j)
  onto_last zero a j f e = let same : a ≡ j = omega arith in ap (λ i. both f (part i)) same
  onto_last (suc k) a j f e = onto_last k (a + 1) j (both f (part a)) (omega arith)

  pub onto_joined : (k : ℕ) → onto k 2 (part 1) ≡ joined both part (suc k)
  onto_joined zero = refl
  onto_joined (suc k) =
      onto_last k 2 (suc (suc k)) (part 1) (omega arith) ∙ ap (λ f. both f (part (suc (suc k)))) (onto_joined k)

  pub joined_counts : (count : F → ℕ) (w k : ℕ)
      → ((f g : F) → count (both f g) ≡ 1 + count f + count g)
      → ((i : ℕ) → count (part i) ≡ w)
      → count (joined both part (suc k)) + 1 ≡ (w + 1) * (k + 1)
  joined_counts count w zero sums each = omega (arith, each 1)
  joined_counts count w (suc k) sums each =
      let before = joined_counts count w k sums each in
      let more = sums (joined both part (suc k)) (part (suc (suc k))) in
      let last = each (suc (suc k)) in
      let product : (w + 1) * (suc k + 1) ≡ (w + 1) * (k + 1) + (w + 1) = step (w + 1) k in
      omega (arith, before, more, last, product)
    where
      step : (m n : ℕ) → m * (suc n + 1) ≡ m * (n + 1) + m
      step m n = omega arith
