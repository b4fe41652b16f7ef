-- Lassos along a map.
--
--   mapped f l     == the lasso of the images of the entries
--   mapped-entry, mapped-round == its entries, and those of its round, are the images
--   mapped_is      == it is a lasso of each relation that has the images of the steps
--   mapped-lowest  == if e of an image is d of the entry and k more, the lowest e on its loop is the lowest d and k more
use Rattle.std.proofs.Common.{ℕ, ◌≡◌, ◌+◌, ◌<◌, ◌≤◌, ◌⊎◌, inl, inr, arith, length, get_or, map, subst₂, sym, ap, ◌∙◌}
use Rattle.std.proofs.lemmas.List.{get_or-map, length-map}
use Rattle.std.proofs.lemmas.Bool.{cases_eq}
use Rattle.ml_lists.specs.Lasso.{Lasso, entry, round, IsLassoOf, lowest_on_loop}
use Rattle.ml_lists.proofs.Lasso.{round-entry, round-end, LowestOnLoop, lowest_on_loop_place, lowest_on_loop_is, lowest_on_loop_le}

-- the lasso of the images of the entries
abbrev pub mapped : (ℕ → ℕ) → Lasso → Lasso
mapped f l = record { entries = map f l.entries; start = l.start }

module _ (f : ℕ → ℕ) (l : Lasso) (starts : l.start < length l.entries) where
  -- its entries are the images
  pub mapped-entry : (k : ℕ) → k < length l.entries → entry (mapped f l) k ≡ f (entry l k)
  mapped-entry k low = get_or-map f l.entries k 0 0 low

  -- the entries of its round are the images
  pub mapped-round : (k : ℕ) → k ≤ length l.entries → get_or (round (mapped f l)) k 0 ≡ f (get_or (round l) k 0)
  mapped-round k low = by_case (cases_eq k (length l.entries))
    where
      by_case : (k ≡ length l.entries) ⊎ (k ≡ length l.entries → ⊥)
          → get_or (round (mapped f l)) k 0 ≡ f (get_or (round l) k 0)
      by_case (inl last) =
          round-end (mapped f l) k (last ∙ sym (length-map l.entries f)) ∙ mapped-entry l.start starts ∙ ap f (sym (round-end l k last))
      by_case (inr other) =
          round-entry (mapped f l) k (omega (arith, length-map l.entries f))
          ∙ mapped-entry k (omega arith)
          ∙ ap f (sym (round-entry l k (omega arith)))

  -- it is a lasso of each relation that has the images of the steps
  pub mapped_is : (S : ℕ → ℕ → Type 0)
      → ((k : ℕ) → k < length l.entries → S (f (get_or (round l) k 0)) (f (get_or (round l) (k + 1) 0))) → IsLassoOf S (mapped f l)
  mapped_is S steps = record {
    starts = omega (arith, length-map l.entries f);
    joined = λ k low.
        let below : k < length l.entries = omega (arith, length-map l.entries f) in
        subst₂ S (sym (mapped-round k (omega arith))) (sym (mapped-round (k + 1) (omega arith))) (steps k below);
  }

  -- the lowest on its loop, where images have so much more
  pub mapped-lowest : (d e : ℕ → ℕ) (k : ℕ) → ((j : ℕ) → j < length l.entries → e (f (entry l j)) ≡ d (entry l j) + k)
      → lowest_on_loop e (mapped f l) ≡ lowest_on_loop d l + k
  mapped-lowest d e k more = from (lowest_on_loop_place d l starts)
    where
      value : (j : ℕ) → j < length l.entries → e (entry (mapped f l) j) ≡ d (entry l j) + k
      value j low = ap e (mapped-entry j low) ∙ more j low

      from : LowestOnLoop d l → lowest_on_loop e (mapped f l) ≡ lowest_on_loop d l + k
      from p =
          lowest_on_loop_is e (mapped f l) p.place p.later (omega (arith, length-map l.entries f, p.below))
          (λ j later low. let below : j < length l.entries = omega (arith, length-map l.entries f) in
          omega (arith, value p.place p.below, value j below, p.holds, lowest_on_loop_le d l j later below))
          ∙ value p.place p.below
          ∙ ap (λ n. n + k) p.holds
