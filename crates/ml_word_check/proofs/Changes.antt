-- Values that are changed one after the other, from the first one on or from the last one back.
--
--   one_changed         == one more, from the first one on
--   none_back, one_back == none yet, and one more, from the last one back
--   written             == what a list holds whose items were all changed
use Rattle.std.proofs.Common.{ℕ, ◌≡◌, ◌+◌, ◌<◌, ◌≤◌, ◌⊎◌, inl, inr, Bool, false, List, ◌++◌, length, set, take, refl, sym, ap, ◌∙◌, arith}
use Rattle.std.proofs.Math.Seq.{take-append_seam}
use Rattle.std.proofs.lemmas.Bool.{cases_eq}
use Rattle.std.proofs.lemmas.List.{get_or-set_other, get_or-set_same, length-set}
use Rattle.ml_word_check.specs.private.Truths.{ChangedBack, ChangedTo, at}

module _ (h : ℕ → Bool) (old : List Bool) where
  pub one_changed : (new : List Bool) (k : ℕ) (b : Bool)
      → ChangedTo h old new k
      → k < length old
      → b ≡ h k
      → ChangedTo h old (set new k b) (k + 1)
  one_changed new k b c low is = record {
    long = length-set new k b ∙ c.long;
    done = λ i less. done_at i less (cases_eq i k);
    rest = λ i past.
        get_or-set_other new k i b false (λ same. omega (arith, same, past)) ∙ c.rest i (omega (arith, past));
  }
    where
      done_at : (i : ℕ) → i < k + 1 → (i ≡ k) ⊎ (i ≡ k → ⊥) → at (set new k b) i ≡ h i
      done_at i less (inl same) =
          ap (at (set new k b)) same ∙ get_or-set_same new k b false (omega (arith, low, c.long)) ∙ is ∙ ap h (sym same)
      done_at i less (inr other) = get_or-set_other new k i b false other ∙ c.done i (omega (arith, less, other))

  pub none_back : ChangedBack h old old 0
  none_back = record { long = refl; done = λ i low past. absurd (omega (arith, low, past)); rest = λ i low. refl }

  pub one_back : (new : List Bool) (k p : ℕ) (b : Bool)
      → ChangedBack h old new k
      → p + k + 1 ≡ length old
      → b ≡ h p
      → ChangedBack h old (set new p b) (k + 1)
  one_back new k p b c place is = record {
    long = length-set new p b ∙ c.long;
    done = λ i low past. done_at i low past (cases_eq i p);
    rest = λ i less.
        get_or-set_other new p i b false (λ same. omega (arith, same, less, place)) ∙ c.rest i (omega (arith, less));
  }
    where
      done_at : (i : ℕ) → i < length old → length old ≤ i + (k + 1) → (i ≡ p) ⊎ (i ≡ p → ⊥) → at (set new p b) i ≡ h i
      done_at i low past (inl same) =
          ap (at (set new p b)) same ∙ get_or-set_same new p b false (omega (arith, place, c.long)) ∙ is ∙ ap h (sym same)
      done_at i low past (inr other) =
          get_or-set_other new p i b false other ∙ c.done i low (omega (arith, past, place, other))

-- a list's items that were all changed
pub written : (n : ℕ) (new rest : List Bool) → n ≡ length new → take n (new ++ rest) ≡ new
written n new rest is = ap (λ k. take k (new ++ rest)) is ∙ take-append_seam new rest
