-- The word that is sought byte by byte is the first one among the tokens.
--
--   token_over     == where the word doesn't stand at a token's first byte, it isn't sought within the token
--   word_in-sought == both give the same place
--   word_fits      == where the word stands, its nine bytes do
use Rattle.std.proofs.Common.{◌≡◌, ℕ, zero, suc, ◌+◌, ◌-◌, ◌≤◌, Bool, true, false, List, [], ◌∷◌, length, drop, take, Option, Some, inl, inr, refl, sym, ◌∙◌, ap, subst, arith, ◌==◌, nat_eq, codes, drop-drop}
use Rattle.std.specs.List.{find, starts_with, take_while}
use Rattle.std.specs.Option.{option_map}
use Rattle.std.proofs.lemmas.Bool.{cond-true, cond-false, cond_both}
use Rattle.std.proofs.lemmas.List.Sums.{take_while-cons}
use Rattle.ml_lists.specs.Member.{IsMember}
use Rattle.ml_text.specs.Bytes.{is_blank, is_digit}
use Rattle.ml_text.proofs.Signs.{starts_with-fits, starts_with-front}
use Rattle.ml_pgsolver.specs.CheckedText.{is_word, word_in}
use Rattle.ml_pgsolver.specs.Tokens.{Placed, Token, front_token, spelling, tokens, tokens_at}
use Rattle.ml_pgsolver.specs.private.WordSearch.{inside_name, word_from, word_sought}
use Rattle.ml_pgsolver.proofs.FirstTokens.{tokens_at-blank, tokens_at-token}
use Rattle.ml_pgsolver.proofs.WordPlaces.{here_byte, one_byte, sought_fits, stands}
use Rattle.ml_pgsolver.proofs.WordsBehind.{IsCalm, calm_arity, calm_blank, calm_byte, calm_digit}

-- ---- within a token

calm_run : (n i : ℕ) (xs : List ℕ) → n ≤ length xs → ((b : ℕ) → IsMember b (take n xs) → IsCalm b)
    → word_from 0 i xs ≡ word_from n i xs
unfolding word_from
calm_run zero i xs fits calm = refl
calm_run (suc n) i [] fits calm = absurd (omega arith)
calm_run (suc n) i (x ∷ xs) fits calm =
    calm_byte i x xs (calm x (inl refl)) ∙ calm_run n (i + 1) xs (omega arith) (λ b m. calm b (inr m))

digits_over : (i : ℕ) (xs : List ℕ) → word_from 0 i xs ≡ word_from (length (take_while is_digit xs)) i xs
unfolding word_from
digits_over i [] = refl
digits_over i (x ∷ xs) =
    cond_both (is_digit x) (x ∷ take_while is_digit xs) [] (λ ds. word_from 0 i (x ∷ xs) ≡ word_from (length ds) i (x ∷ xs))
    (λ digit. calm_byte i x xs (calm_digit x digit) ∙ digits_over (i + 1) xs)
    (λ other. refl)
    ∙ ap (λ ds. word_from (length ds) i (x ∷ xs)) (sym (take_while-cons is_digit x xs))

parity_over : (i b : ℕ) (rest : List ℕ) → starts_with nat_eq (b ∷ rest) (codes "parity") ≡ true
    → word_from 0 (i + 1) rest ≡ word_from 5 (i + 1) rest
parity_over i b rest is =
    let front : codes "arity" ≡ take 5 rest = ap (drop 1) (starts_with-front (b ∷ rest) (codes "parity") is) in
    let long = starts_with-fits (b ∷ rest) (codes "parity") is in
    calm_run 5 (i + 1) rest (omega arith) (λ c m. calm_arity c (subst (IsMember c) (sym front) m))

pub token_over : (i b : ℕ) (rest : List ℕ) → stands (b ∷ rest) ≡ false
    → word_from 0 i (b ∷ rest) ≡ word_from (length (spelling (front_token b rest)) - 1) (i + 1) rest
token_over i b rest absent =
    let IsOver : Token → Type 0 =
    λ t. word_from 0 i (b ∷ rest) ≡ word_from (length (spelling t) - 1) (i + 1) rest in
    let behind : word_from 0 i (b ∷ rest) ≡ word_from (inside_name b rest) (i + 1) rest = one_byte i b rest absent in
    let one : (b == 34) ≡ false → word_from 0 i (b ∷ rest) ≡ word_from 0 (i + 1) rest =
    λ other. behind ∙ ap (λ k. word_from k (i + 1) rest) (cond-false (b == 34) _ _ other) in
    let digits = take_while is_digit rest in
    let behind_first : length digits ≡ length (b ∷ digits) - 1 = omega arith in
    cond_both (is_digit b) _ _ IsOver
    (λ digit.
    calm_byte i b rest (calm_digit b digit) ∙ digits_over (i + 1) rest ∙ ap (λ k. word_from k (i + 1) rest) behind_first)
    (λ no_digit. cond_both (b == 34) _ _ IsOver
    (λ quote. behind ∙ ap (λ k. word_from k (i + 1) rest) (cond-true (b == 34) _ _ quote))
    (λ other. cond_both (b == 44) _ _ IsOver (λ comma. one other)
    (λ no_comma. cond_both (b == 59) _ _ IsOver (λ semicolon. one other)
    (λ no_semicolon. cond_both (starts_with nat_eq (b ∷ rest) (codes "parity")) _ _ IsOver
    (λ parity. one other ∙ parity_over i b rest parity)
    (λ stray. one other)))))

-- ---- from token to token

module _ (text : List ℕ) where
  abbrev first_in : List Placed → Option ℕ
  first_in ps = option_map (λ p. p.at) (find (is_word text) ps)

  tail_along : (i b : ℕ) (rest : List ℕ) → b ∷ rest ≡ drop i text → rest ≡ drop (i + 1) text
  tail_along i b rest along = ap (drop 1) along ∙ drop-drop 1 i text ∙ ap (λ k. drop k text) (let e : i + 1 ≡ i + 1 = refl in e)

  first_from : (k i : ℕ) (xs : List ℕ) → xs ≡ drop i text → first_in (tokens_at k i xs) ≡ word_from k i xs
  unfolding tokens_at word_from
  first_from k i [] along = refl
  first_from (suc k) i (b ∷ rest) along = first_from k (i + 1) rest (tail_along i b rest along)
  first_from zero i (b ∷ rest) along =
      by_blank (is_blank b) refl (first_from 0 (i + 1) rest next) (first_from (size - 1) (i + 1) rest next)
    where
      size : ℕ
      size = length (spelling (front_token b rest))

      next : rest ≡ drop (i + 1) text
      next = tail_along i b rest along

      by_token : (t : Bool) → stands (b ∷ rest) ≡ t
          → first_in (tokens_at (size - 1) (i + 1) rest) ≡ word_from (size - 1) (i + 1) rest
          → first_in (record { token = front_token b rest; at = i } ∷ tokens_at (size - 1) (i + 1) rest)
          ≡ word_from 0 i (b ∷ rest)
      by_token true is more =
          ap (option_map (λ p. p.at)) (cond-true _ _ _ (ap stands (sym along) ∙ is)) ∙ sym (here_byte i b rest is)
      by_token false is more =
          ap (option_map (λ p. p.at)) (cond-false _ _ _ (ap stands (sym along) ∙ is)) ∙ more ∙ sym (token_over i b rest is)

      by_blank : (t : Bool) → is_blank b ≡ t
          → first_in (tokens_at 0 (i + 1) rest) ≡ word_from 0 (i + 1) rest
          → first_in (tokens_at (size - 1) (i + 1) rest) ≡ word_from (size - 1) (i + 1) rest
          → first_in (tokens_at 0 i (b ∷ rest)) ≡ word_from 0 i (b ∷ rest)
      by_blank true is more behind =
          ap first_in (tokens_at-blank i b rest is) ∙ more ∙ sym (calm_byte i b rest (calm_blank b is))
      by_blank false is more behind = ap first_in (tokens_at-token i b rest is) ∙ by_token (stands (b ∷ rest)) refl behind

pub word_in-sought : (text : List ℕ) → word_in text ≡ word_sought text
unfolding tokens
word_in-sought text = first_from text 0 0 text refl

pub word_fits : (text : List ℕ) (i : ℕ) → word_in text ≡ Some i → i + 9 ≤ length text
word_fits text i is = sought_fits text i (sym (word_in-sought text) ∙ is)
