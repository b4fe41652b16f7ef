-- Rows of numbers that come in turn: where each number behind the first one stands in an earlier row, the numbers are a
-- breadth-first list.
--
--   AreFromEarlier rows n == each number below n, but the first one, stands in the row of an earlier one
--   earlier_more          == so it is with one row more, whose new numbers are the next ones
--   turns_more            == and all rows, one behind the other, run on
--   turns_in_order        == then the numbers from 0 on are the breadth-first list with these rows
use Rattle.std.proofs.Common.{ℕ, zero, suc, ◌≡◌, ◌<◌, ◌≤◌, List, [], ◌∷◌, ◌++◌, length, get_or, sym, ap, ◌∙◌, subst, ⊎_elim, arith}
use Rattle.std.specs.List.{flat_map, range_with_len}
use Rattle.std.proofs.Math.Seq.{get_or-append_seam}
use Rattle.std.proofs.lemmas.Bool.{cases_lt}
use Rattle.std.proofs.lemmas.List.{get_or_append_left, append-nil}
use Rattle.std.proofs.lemmas.List.Concat.{flat_map-append}
use Rattle.std.proofs.lemmas.List.FromFn.{get_or-range_with_len, length-range_with_len}
use Rattle.ml_lists.specs.BreadthFirst.{IsBreadthFirst}
use Rattle.ml_lists.specs.InTurn.{RunsOn}
use Rattle.ml_lists.specs.Member.{IsMember}
use Rattle.ml_lists.proofs.InTurn.{in_turn, runs_append, runs_has}

abbrev pub InEarlierRow : List (List ℕ) → ℕ → Type 0
InEarlierRow rows k = (j : ℕ) × (j < k) × IsMember k (get_or rows j [])

abbrev pub AreFromEarlier : List (List ℕ) → ℕ → Type 0
AreFromEarlier rows n = (k : ℕ) → 0 < k → k < n → InEarlierRow rows k

abbrev flat : List (List ℕ) → List ℕ
flat = flat_map (λ (r : List ℕ). r)

nothing : (rows : List (List ℕ)) (j k : ℕ) → length rows ≤ j → IsMember k (get_or rows j []) → ⊥
nothing [] j k out none = none
nothing (r ∷ rows) zero k out m = omega (arith, out)
nothing (r ∷ rows) (suc j) k out m = nothing rows j k (omega (arith, out)) m

module _ (rows : List (List ℕ)) (row : List ℕ) (n m : ℕ) (runs : RunsOn n row m) where
  pub earlier_more : length rows < n → AreFromEarlier rows n → AreFromEarlier (rows ++ row ∷ []) m
  earlier_more within earlier k some low =
      ⊎_elim (λ (old : k < n). before (earlier k some old))
      (λ (new : n ≤ k). (
        length rows,
        omega (arith, within, new),
        subst (IsMember k) (sym (get_or-append_seam rows row [] [])) (runs_has n m row runs k new low),
      ))
      (cases_lt k n)
    where
      before : InEarlierRow rows k → InEarlierRow (rows ++ row ∷ []) k
      before (j, j_low, inside) =
          ⊎_elim
          (λ (here : j < length rows).
          (j, j_low, subst (IsMember k) (sym (get_or_append_left rows (row ∷ []) [] j here)) inside))
          (λ (past : length rows ≤ j). absurd (nothing rows j k past inside))
          (cases_lt j (length rows))

  pub turns_more : RunsOn 0 (0 ∷ flat rows) n → RunsOn 0 (0 ∷ flat (rows ++ row ∷ [])) m
  turns_more so_far =
      subst (λ r. RunsOn 0 (0 ∷ r) m)
      (sym (flat_map-append (λ (r : List ℕ). r) rows (row ∷ []) ∙ ap (λ r. flat rows ++ r) (append-nil row)))
      (runs_append 0 n m (0 ∷ flat rows) row so_far runs)

pub turns_in_order : (rows : List (List ℕ)) (n : ℕ)
    → length rows ≡ n
    → RunsOn 0 (0 ∷ flat rows) n
    → AreFromEarlier rows n
    → IsBreadthFirst 0 rows (range_with_len 0 n)
turns_in_order rows n long runs earlier = record {
  a_row_each = long ∙ sym (length-range_with_len 0 n);
  in_order = sym (in_turn n (0 ∷ flat rows) runs);
  from_earlier = λ k some low.
      let within : k < n = omega (arith, low, length-range_with_len 0 n) in
      let is : get_or (range_with_len 0 n) k 0 ≡ k = omega (arith, get_or-range_with_len 0 n k 0 within) in
      let e = earlier k some within in
      (e.0, e.1, subst (λ i. IsMember i (get_or rows e.0 [])) (sym is) e.2);
}
