-- Rows with marks that are kept, in their order.
--
--   kept_none, kept_more, kept_less == row after row
--   kept_all                        == all rows
--   rank_true, rank_false           == the rank of the next number
use Rattle.std.proofs.Common.{ℕ, ◌≡◌, ◌+◌, ◌<◌, ◌≤◌, ◌⊎◌, inl, inr, ⊎_elim, arith, Bool, true, false, List, length, take, get_or, refl, sym, ap, ◌∙◌, subst, add-one}
use Rattle.std.specs.List.{SwappedAt}
use Rattle.std.proofs.lemmas.Bool.{cases_eq, true≢false}
use Rattle.std.proofs.lemmas.List.{get_or-take, length-take-le}
use Rattle.ml_lists.proofs.Counting.{count-false, count-true, count_le}
use Rattle.ml_lists.proofs.Ranks.{count_passes}
use Rattle.ml_labelled.specs.private.Reaching.{IsKept, IsKeptTo, mark, rank}

module _ {X : Type 0} (marks : List Bool) (old : List X) where
  pub kept_none : IsKeptTo 0 0 marks old old
  kept_none = record {
    at_is = refl;
    as_long = refl;
    kept = λ n d low m. absurd (omega arith);
    ahead = λ n d low. refl;
  }

  pub kept_more : (p at : ℕ) (rows more : List X)
      → mark marks p ≡ true
      → IsKeptTo p at marks old rows
      → length more ≡ length rows
      → SwappedAt rows more at p
      → IsKeptTo (p + 1) (at + 1) marks old more
  kept_more p at rows more m k long swapped =
      let is = k.at_is in
      let low : at ≤ p = let c = count_le (mark marks) p in omega arith in
      record {
        at_is = let c = count-true (mark marks) p m in subst (λ q. at + 1 ≡ rank marks q) (sym (add-one p)) (omega arith);
        as_long = long ∙ k.as_long;
        kept = λ n d below marked. kept n d below marked (cases_eq n p);
        ahead = λ n d high.
            swapped.2 n d (λ e. let f : n ≡ at = e in absurd (omega arith)) (λ e. let f : n ≡ p = e in absurd (omega arith))
            ∙ k.ahead n d (omega arith);
      }
    where
      kept : (n : ℕ) (d : X) → n < p + 1 → mark marks n ≡ true → (n ≡ p) ⊎ (n ≡ p → ⊥)
          → get_or more (rank marks n) d ≡ get_or old n d
      kept n d below marked (inl same) =
          let at_here : rank marks n ≡ at = ap (rank marks) same ∙ sym k.at_is in
          ap (λ i. get_or more i d) at_here ∙ swapped.0 d ∙ k.ahead p d (omega arith) ∙ ap (λ i. get_or old i d) (sym same)
      kept n d below marked (inr other) =
          let lower : n < p = omega arith in
          let less = count_passes (mark marks) n p lower marked in
          let c = count_le (mark marks) p in
          let is = k.at_is in
          swapped.2 (rank marks n) d
          (λ e. let f : rank marks n ≡ at = e in absurd (omega arith))
          (λ e. let f : rank marks n ≡ p = e in absurd (omega arith))
          ∙ k.kept n d lower marked

  pub kept_less : (p at : ℕ) (rows : List X)
      → mark marks p ≡ false
      → IsKeptTo p at marks old rows
      → IsKeptTo (p + 1) at marks old rows
  kept_less p at rows m k = record {
    at_is =
        let is = k.at_is in
        let c = count-false (mark marks) p m in subst (λ q. at ≡ rank marks q) (sym (add-one p)) (omega arith);
    as_long = k.as_long;
    kept = λ n d below marked.
        k.kept n d (⊎_elim (λ (same : n ≡ p). absurd (true≢false (sym marked ∙ ap (mark marks) same ∙ m)))
        (λ (other : n ≡ p → ⊥). let lower : n < p = omega arith in lower) (cases_eq n p)) marked;
    ahead = λ n d high. k.ahead n d (omega arith);
  }

  pub kept_all : (p at : ℕ) (rows kept : List X)
      → p ≡ length marks
      → length old ≡ length marks
      → IsKeptTo p at marks old rows
      → kept ≡ take at rows
      → IsKept marks old kept
  kept_all p at rows kept all long k cut =
      let is = k.at_is in
      let c = count_le (mark marks) (length marks) in
      let rows_long = k.as_long in
      let at_all : at ≡ rank marks (length marks) = is ∙ ap (rank marks) all in
      record {
        as_many = ap length cut ∙ length-take-le at rows (omega arith) ∙ at_all;
        at_rank = λ n d low m.
            let less = count_passes (mark marks) n (length marks) low m in
            ap (λ xs. get_or xs (rank marks n) d) cut
            ∙ get_or-take at rows (rank marks n) d (omega arith)
            ∙ k.kept n d (omega arith) m;
      }

-- ---- numbers

pub rank_true : (marks : List Bool) (n at : ℕ) → at ≡ rank marks n → mark marks n ≡ true → at + 1 ≡ rank marks (n + 1)
rank_true marks n at is m =
    let c = count-true (mark marks) n m in subst (λ q. at + 1 ≡ rank marks q) (sym (add-one n)) (omega arith)

pub rank_false : (marks : List Bool) (n at : ℕ) → at ≡ rank marks n → mark marks n ≡ false → at ≡ rank marks (n + 1)
rank_false marks n at is m =
    let c = count-false (mark marks) n m in subst (λ q. at ≡ rank marks q) (sym (add-one n)) (omega arith)
