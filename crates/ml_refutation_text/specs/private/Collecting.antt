-- What is known of a table while the lists of a refutation are met one by one. Private contracts and proofs cite this.
--
--   shown ks               == the lists that are lent
--   Collected              == all lists of the refutation, and those that were met, each once
--   IsPlace ks x k         == x stands in ks, first at the place k
--   ArePlaces all ks known == what is known of the places of `all` is where in ks their lists stand
use Rattle.std.specs.Prelude.{ℕ, ◌≡◌, ◌<◌, List, [], Option, None, Some, map, length, slice_index_or}
use Rattle.std.specs.Borrow.{Bor}
use Rattle.ml_refutation_text.specs.WrittenText.{place_in}

abbrev pub shown : List (Bor (List ℕ)) → List (List ℕ)
shown keys = map (λ k. k.now) keys

pub record Collected : Type 0 where
  pub all : List (List ℕ)
  pub met : List (List ℕ)

pub record IsPlace (lists : List (List ℕ)) (x : List ℕ) (k : ℕ) : Type 0 where
  pub is : k ≡ place_in lists x
  pub inside : k < length lists

abbrev pub ArePlaces : (all lists : List (List ℕ)) → List (Option ℕ) → Type 0
ArePlaces all lists known =
    (i k : ℕ) → slice_index_or known i None ≡ Some k → IsPlace lists (slice_index_or all i []) k
