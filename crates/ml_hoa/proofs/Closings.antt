-- What closes a string or a comment, a byte further on.
--
--   quote_ends, quote_more, quote_none == at the `"` that closes, at another byte, at the end
--   comment_ends, comment_closes, comment_opens, comment_more, comment_none == at `*/`, at `/*`, at other bytes,
--                                                  at the end
use Rattle.std.proofs.Common.{◌≡◌, ℕ, ◌+◌, ◌-◌, ◌<◌, ◌≤◌, Bool, true, false, ◌&&◌, not, List, [], ◌∷◌, length, get_or, drop, Some, None, refl, sym, ◌∙◌, ap, arith, ◌==◌, length-drop}
use Rattle.std.proofs.lemmas.Bool.{cond-true, cond-false}
use Rattle.std.proofs.lemmas.Bool.Decides.{nat_tests}
use Rattle.std.proofs.lemmas.List.{drop_more, drop_all}
use Rattle.ml_hoa.specs.Tokens.{closing_quote, closing_comment}

pub quote_ends : (text : List ℕ) (taken : Bool) (i : ℕ) → i < length text
    → (not taken && (get_or text i 0 == 34)) ≡ true
    → closing_quote taken i (drop i text) ≡ Some i
quote_ends text taken i within is = ap (closing_quote taken i) (drop_more text i 0 within) ∙ cond-true _ _ _ is

pub quote_more : (text : List ℕ) (taken : Bool) (i : ℕ) → i < length text
    → (not taken && (get_or text i 0 == 34)) ≡ false
    → closing_quote taken i (drop i text)
    ≡ closing_quote (not taken && (get_or text i 0 == 92)) (i + 1) (drop (i + 1) text)
quote_more text taken i within other = ap (closing_quote taken i) (drop_more text i 0 within) ∙ cond-false _ _ _ other

pub quote_none : (text : List ℕ) (taken : Bool) (i : ℕ) → i ≡ length text → closing_quote taken i (drop i text) ≡ None
quote_none text taken i end = ap (closing_quote taken i) (drop_all i text (omega arith))

-- ---- comments

two_more : (text : List ℕ) (i : ℕ) → i + 1 < length text
    → drop i text ≡ get_or text i 0 ∷ (get_or text (i + 1) 0 ∷ drop (i + 2) text)
two_more text i within =
    let next : i + 1 + 1 ≡ i + 2 = omega arith in
    drop_more text i 0 (omega arith)
    ∙ ap (λ xs. get_or text i 0 ∷ xs) (drop_more text (i + 1) 0 within
    ∙ ap (λ k. get_or text (i + 1) 0 ∷ drop k text) next)

module _ (text : List ℕ) (i n : ℕ) (within : i + 1 < length text) where
  abbrev b : ℕ
  b = get_or text i 0

  abbrev c : ℕ
  c = get_or text (i + 1) 0

  start : closing_comment n i (drop i text) ≡ closing_comment n i (b ∷ (c ∷ drop (i + 2) text))
  start = ap (closing_comment n i) (two_more text i within)

  pub comment_ends : ((b == 42) && (c == 47)) ≡ true → n ≡ 0 → closing_comment n i (drop i text) ≡ Some (i + 2)
  comment_ends is none =
      start ∙ cond-true _ _ _ is ∙ cond-true _ _ _ (let e : (n == 0) ≡ true = grind (arith, nat_tests) in e)

  pub comment_closes : ((b == 42) && (c == 47)) ≡ true → (n ≡ 0 → ⊥)
      → closing_comment n i (drop i text) ≡ closing_comment (n - 1) (i + 2) (drop (i + 2) text)
  comment_closes is some =
      start ∙ cond-true _ _ _ is ∙ cond-false _ _ _ (let e : (n == 0) ≡ false = grind (arith, nat_tests) in e)

  pub comment_opens : ((b == 42) && (c == 47)) ≡ false → ((b == 47) && (c == 42)) ≡ true
      → closing_comment n i (drop i text) ≡ closing_comment (n + 1) (i + 2) (drop (i + 2) text)
  comment_opens other is = start ∙ cond-false _ _ _ other ∙ cond-true _ _ _ is

  pub comment_more : ((b == 42) && (c == 47)) ≡ false → ((b == 47) && (c == 42)) ≡ false
      → closing_comment n i (drop i text) ≡ closing_comment n (i + 1) (drop (i + 1) text)
  comment_more other another =
      let next : i + 1 + 1 ≡ i + 2 = omega arith in
      start ∙ cond-false _ _ _ other ∙ cond-false _ _ _ another
      ∙ ap (closing_comment n (i + 1)) (sym (drop_more text (i + 1) 0 within ∙ ap (λ k. c ∷ drop k text) next))

short : (n k : ℕ) (xs : List ℕ) → length xs ≤ 1 → closing_comment n k xs ≡ None
short n k [] few = refl
short n k (b ∷ []) few = refl
short n k (b ∷ c ∷ xs) few = absurd (omega arith)

pub comment_none : (text : List ℕ) (n i : ℕ) → length text ≤ i + 1 → closing_comment n i (drop i text) ≡ None
comment_none text n i end = short n i (drop i text) (omega (arith, length-drop i text))
