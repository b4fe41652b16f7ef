-- The highest priority, and the least even number from it on.
--
--   highest-more   == with one row more
--   highest-small  == the highest is no greater than what no priority is greater than
--   least_even     == the highest, made even, is the least even number that is no smaller than any priority
use Rattle.std.proofs.Common.{◌≡◌, ℕ, ◌+◌, ◌*◌, ◌/◌, ◌%◌, ◌<◌, ◌≤◌, List, [], ◌∷◌, length, map, drop, get_or, max, All, refl, ap, arith, inl, inr, ◌⊎◌, ⊎_elim}
use Rattle.std.proofs.lemmas.Bool.{cases_lt}
use Rattle.std.proofs.lemmas.List.{drop_more}
use Rattle.ml_lists.specs.Member.{IsMember}
use Rattle.ml_lists.proofs.Member.{member-map_from, All-member}
use Rattle.ml_pgsolver.specs.GameText.{IsLeastEvenFrom}
use Rattle.ml_pgsolver.specs.declared.reader.Row.{Row}
use Rattle.ml_pgsolver.specs.private.Assembled.{highest_of}
use Rattle.ml_pgsolver.specs.private.Rows.{rows_view}

pub highest-more : (n : ℕ) (rows : List Row) (i : ℕ) (d : Row) → i < length rows
    → highest_of n (rows_view (drop i rows)) ≡ highest_of (max n (get_or rows i d).priority) (rows_view (drop (i + 1) rows))
highest-more n rows i d within = ap (λ rs. highest_of n (rows_view rs)) (drop_more rows i d within)

-- no smaller than any of these numbers, and one of them or the number from which it was sought
record IsHighest (n : ℕ) (ps : List ℕ) (m : ℕ) : Type 0 where
  above_start : n ≤ m
  above : (p : ℕ) → IsMember p ps → p ≤ m
  is_one : (n ≡ m) ⊎ IsMember m ps

highest-is : (n : ℕ) (rows : List Row) → IsHighest n (map (λ r. r.priority) rows) (highest_of n (rows_view rows))
highest-is n [] = record { above_start = omega arith; above = λ p m. absurd m; is_one = inl refl }
highest-is n (r ∷ rows) =
    let rest = highest-is (max n r.priority) rows in
    record {
      above_start = omega (arith, rest.above_start);
      above = by_place rest;
      is_one = by_one rest.is_one;
    }
  where
    by_place : IsHighest (max n r.priority) (map (λ r. r.priority) rows) (highest_of (max n r.priority) (rows_view rows))
        → (p : ℕ) → IsMember p (map (λ r. r.priority) (r ∷ rows)) → p ≤ highest_of n (rows_view (r ∷ rows))
    by_place rest p (inl e) = omega (arith, rest.above_start)
    by_place rest p (inr m) = rest.above p m

    by_one : (max n r.priority ≡ highest_of n (rows_view (r ∷ rows)))
        ⊎ IsMember (highest_of n (rows_view (r ∷ rows))) (map (λ r. r.priority) rows)
        → (n ≡ highest_of n (rows_view (r ∷ rows)))
        ⊎ IsMember (highest_of n (rows_view (r ∷ rows))) (map (λ r. r.priority) (r ∷ rows))
    by_one (inr m) = inr (inr m)
    by_one (inl e) = ⊎_elim (λ (low : n < r.priority). inr (inl (omega arith))) (λ (high : r.priority ≤ n). inl (omega arith))
        (cases_lt n r.priority)

pub highest-small : (rows : List Row) (m : ℕ) → All (λ r. r.priority ≤ m) rows → highest_of 0 (rows_view rows) ≤ m
highest-small rows m all = by (highest-is 0 rows).is_one
  where
    by : (0 ≡ highest_of 0 (rows_view rows)) ⊎ IsMember (highest_of 0 (rows_view rows)) (map (λ r. r.priority) rows)
        → highest_of 0 (rows_view rows) ≤ m
    by (inl none) = omega arith
    by (inr member) =
        let from = member-map_from (λ (r : Row). r.priority) (highest_of 0 (rows_view rows)) rows member in
        let low = All-member (λ (r : Row). r.priority ≤ m) rows all from.from from.member in
        let is = from.holds in omega arith

pub least_even : (rows : List Row) (m : ℕ) → m ≡ highest_of 0 (rows_view rows)
    → IsLeastEvenFrom (map (λ r. r.priority) rows) (m + m % 2)
least_even rows m is =
    let top = highest-is 0 rows in
    record {
      half = (m + m % 2) / 2;
      even = omega arith;
      above = λ p member. let low = top.above p member in omega arith;
      least = λ k bound. by k bound top.is_one;
    }
  where
    by : (k : ℕ) → ((p : ℕ) → IsMember p (map (λ r. r.priority) rows) → p ≤ 2 * k)
        → (0 ≡ highest_of 0 (rows_view rows)) ⊎ IsMember (highest_of 0 (rows_view rows)) (map (λ r. r.priority) rows)
        → m + m % 2 ≤ 2 * k
    by k bound (inl none) = omega arith
    by k bound (inr member) = let low = bound (highest_of 0 (rows_view rows)) member in omega arith
