-- Walks among finitely many places.
--
--   walk-shift   == a walk that begins one step later
--   Early        == one of the first n steps leads where the step j leads, and is not behind it
--   early        == among n places each step of a walk has an early one
use Rattle.std.proofs.Common.{ℕ, zero, suc, ◌≡◌, ◌+◌, ◌-◌, ◌<◌, ◌≤◌, ◌⊎◌, inl, inr, arith, refl, sym, ap, ◌∙◌}
use Rattle.std.proofs.lemmas.Bool.{cases_lt}
use Rattle.ml_lists.specs.Walk.{walk}
use Rattle.ml_lists.specs.Pigeons.{Twice}
use Rattle.ml_lists.proofs.Pigeons.{pigeons}
use Rattle.ml_lists.proofs.Walks.{walk-sum, walk_keeps}

pub walk-shift : (next : ℕ → ℕ) (x k : ℕ) → walk next (next x) k ≡ walk next x (suc k)
walk-shift next x zero = refl
walk-shift next x (suc k) = ap next (walk-shift next x k)

-- what is reached twice is left twice in the same way
same_onward : (next : ℕ → ℕ) (x a b k : ℕ) → walk next x a ≡ walk next x b → walk next x (a + k) ≡ walk next x (b + k)
same_onward next x a b k same = sym (walk-sum next x a k) ∙ ap (λ y. walk next y k) same ∙ walk-sum next x b k

pub record Early (next : ℕ → ℕ) (n x j : ℕ) : Type 0 where
  pub place : ℕ
  pub low : place < n
  pub before : place ≤ j
  pub same : walk next x place ≡ walk next x j

module _ (next : ℕ → ℕ) (n : ℕ) (closed : (y : ℕ) → y < n → next y < n) (x : ℕ) (low : x < n) where
  one_more : (j : ℕ) → Early next n x j → Early next n x (suc j)
  one_more j e = by_room (cases_lt (suc e.place) n)
    where
      shortened : n ≡ suc e.place → Twice (λ k. walk next x k) n → Early next n x (suc j)
      shortened last t =
          let whole : t.second + (n - t.second) ≡ suc e.place = omega (arith, t.within, last) in
          record {
            place = t.first + (n - t.second);
            low = omega (arith, t.apart, t.within);
            before = omega (arith, t.apart, t.within, e.before, last);
            same = same_onward next x t.first t.second (n - t.second) t.same ∙ ap (walk next x) whole ∙ ap next e.same;
          }

      by_room : (suc e.place < n) ⊎ (n ≤ suc e.place) → Early next n x (suc j)
      by_room (inl room) = record { place = suc e.place; low = room; before = omega (arith, e.before); same = ap next e.same }
      by_room (inr full) =
          shortened (omega (arith, full, e.low))
          (pigeons n (λ k. walk next x k) (λ k within. walk_keeps next (λ y. y < n) closed x low k))

  pub early : (j : ℕ) → Early next n x j
  early zero = record { place = 0; low = omega (arith, low); before = omega arith; same = refl }
  early (suc j) = one_more j (early j)
