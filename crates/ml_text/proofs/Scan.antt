-- The token at the front of a text, and the tokens from a byte on: one step over a blank, one step over a token,
-- and the end. Every later fact about the tokens of a text rests on these steps.
--
--   front_at w text i  == the token that begins at the byte i of the text, and its length
--   placed w text i    == the same token with its place
use Rattle.std.proofs.Common.{◌≡◌, ℕ, zero, suc, ◌+◌, ◌-◌, ◌<◌, ◌≤◌, Bool, true, false, List, [], ◌∷◌, length, drop, get_or, Option, Some, None, unwrap_or}
use Rattle.std.proofs.Common.{nat_lt, Contains, sym, refl, ap, ◌∙◌, subst, ⊎_elim, arith, ltb-true, length-drop, drop-drop, get_or-drop, add-zero}
use Rattle.std.specs.List.{take_while, prefix_len}
use Rattle.std.proofs.lemmas.Bool.{cases_Bool, cond-true, cond-false}
use Rattle.std.proofs.lemmas.List.{drop_more, drop_all}
use Rattle.std.proofs.lemmas.List.Sums.{AllPass-from_list_all, prefix_len-le-length, prefix_len_passes, prefix_len_stops}
use Rattle.std.proofs.lemmas.List.Folds.{length-prefix_len}
use Rattle.std.proofs.lemmas.List.Elements.{All-contains}
use Rattle.ml_text.specs.Bytes.{is_blank, is_word_byte}
use Rattle.ml_text.specs.Tokens.{begins_word, signs, longest_sign, front_token, tokens_at, tokens_from}
use Rattle.ml_text.specs.declared.token.Placed.{Placed}
use Rattle.ml_text.specs.declared.token.Token.{Token}
use Rattle.ml_text.specs.declared.token.Token.TheVariants as token
use Rattle.ml_text.specs.declared.token.WordStart.{WordStart}
use Rattle.ml_text.proofs.Signs.{longest_sign-found, starts_with-fits}

-- the token at the front: a word, a sign, or one byte
pub front_token-word : (w : WordStart) (b : ℕ) (rest : List ℕ)
    → begins_word w b ≡ true
    → front_token w b rest ≡ (token.Word, 1 + length (take_while is_word_byte rest))
unfolding front_token
front_token-word w b rest word = cond-true _ _ _ word

pub front_token-no_word : (w : WordStart) (b : ℕ) (rest : List ℕ)
    → begins_word w b ≡ false
    → front_token w b rest ≡ unwrap_or (longest_sign signs (b ∷ rest)) (token.Byte b, 1)
unfolding front_token
front_token-no_word w b rest word = cond-false _ _ _ word

pub front_token-sign : (w : WordStart) (b : ℕ) (rest : List ℕ) (best : Token × ℕ)
    → begins_word w b ≡ false
    → longest_sign signs (b ∷ rest) ≡ Some best
    → front_token w b rest ≡ best
front_token-sign w b rest best word sign = front_token-no_word w b rest word
    ∙ ap (λ o. unwrap_or o (token.Byte b, 1)) sign

pub front_token-byte : (w : WordStart) (b : ℕ) (rest : List ℕ)
    → begins_word w b ≡ false
    → longest_sign signs (b ∷ rest) ≡ None
    → front_token w b rest ≡ (token.Byte b, 1)
front_token-byte w b rest word sign = front_token-no_word w b rest word ∙ ap (λ o. unwrap_or o (token.Byte b, 1)) sign

-- what holds of a word, of a sign and of a single byte holds of the token at the front
module _ (w : WordStart) (b : ℕ) (rest : List ℕ) (P : Token × ℕ → Type 0) where
  by_sign : begins_word w b ≡ false
      → ((best : Token × ℕ) → longest_sign signs (b ∷ rest) ≡ Some best → P best)
      → (longest_sign signs (b ∷ rest) ≡ None → P (token.Byte b, 1))
      → (o : Option (Token × ℕ))
      → longest_sign signs (b ∷ rest) ≡ o
      → P (front_token w b rest)
  by_sign word sign byte None is = subst P (sym (front_token-byte w b rest word is)) (byte is)
  by_sign word sign byte (Some best) is = subst P (sym (front_token-sign w b rest best word is)) (sign best is)

  pub front_by : (begins_word w b ≡ true → P (token.Word, 1 + length (take_while is_word_byte rest)))
      → ((best : Token × ℕ) → begins_word w b ≡ false → longest_sign signs (b ∷ rest) ≡ Some best → P best)
      → (begins_word w b ≡ false → longest_sign signs (b ∷ rest) ≡ None → P (token.Byte b, 1))
      → P (front_token w b rest)
  front_by word sign byte =
      ⊎_elim
      (λ (is : begins_word w b ≡ true). subst P (sym (front_token-word w b rest is)) (word is))
      (λ (is : begins_word w b ≡ false).
      by_sign is (λ best found. sign best is found) (byte is) (longest_sign signs (b ∷ rest)) refl)
      (cases_Bool (begins_word w b))

-- no sign has an empty spelling
has_bytes : List ℕ × Token → Bool
has_bytes e = nat_lt 0 (length e.0)

signs_have_bytes : (e : List ℕ × Token) → Contains signs e → 0 < length e.0
unfolding signs has_bytes
signs_have_bytes e listed = ltb-true 0 (length e.0)
    (All-contains (λ d. has_bytes d ≡ true) signs e (AllPass-from_list_all has_bytes signs refl) listed)

-- a token has at least one byte, and stands within the text
pub record IsWithin (n size : ℕ) : Type 0 where
  pub some : 0 < n
  pub fits : n ≤ size

pub front_token-within : (w : WordStart) (b : ℕ) (rest : List ℕ) → IsWithin (front_token w b rest).1 (length (b ∷ rest))
front_token-within w b rest =
    front_by w b rest (λ front. IsWithin front.1 (length (b ∷ rest)))
    (λ word. let short = prefix_len-le-length is_word_byte rest in let long = length-prefix_len is_word_byte rest in
    record { some = omega arith; fits = omega arith })
    (λ best word is.
    let found = longest_sign-found signs (b ∷ rest) best is in
    let some = signs_have_bytes (found.spelling, best.0) found.listed in
    let fits = starts_with-fits (b ∷ rest) found.spelling found.starts in
    record { some = omega (arith, found.long); fits = omega (arith, found.long) })
    (λ word is. record { some = omega arith; fits = omega arith })

-- the token that begins at this place
abbrev pub placed_at : WordStart → ℕ → ℕ → List ℕ → Placed
placed_at w i b rest = record { token = (front_token w b rest).0; start = i; end = i + (front_token w b rest).1 }

-- one step of the list of tokens
pub tokens_at-blank : (n : ℕ) (w : WordStart) (i b : ℕ) (rest : List ℕ)
    → is_blank b ≡ true
    → tokens_at (suc n) w i (b ∷ rest) ≡ tokens_at n w (i + 1) rest
unfolding tokens_at
tokens_at-blank n w i b rest blank = cond-true _ _ _ blank

pub tokens_at-token : (n : ℕ) (w : WordStart) (i b : ℕ) (rest : List ℕ)
    → is_blank b ≡ false
    → tokens_at (suc n) w i (b ∷ rest)
    ≡ placed_at w i b rest ∷ tokens_at n w (i + (front_token w b rest).1) (drop (front_token w b rest).1 (b ∷ rest))
unfolding tokens_at
tokens_at-token n w i b rest blank = cond-false _ _ _ blank

pub tokens_at-end : (n : ℕ) (w : WordStart) (i : ℕ) → tokens_at n w i [] ≡ []
unfolding tokens_at
tokens_at-end zero w i = refl
tokens_at-end (suc n) w i = refl

-- any bound that is large enough gives the same tokens
pub tokens_at-enough : (n m : ℕ) (w : WordStart) (i : ℕ) (text : List ℕ)
    → length text ≤ n
    → length text ≤ m
    → tokens_at n w i text ≡ tokens_at m w i text
tokens_at-enough n m w i [] small small' = tokens_at-end n w i ∙ sym (tokens_at-end m w i)
tokens_at-enough zero m w i (b ∷ rest) small small' = absurd (omega arith)
tokens_at-enough (suc n) zero w i (b ∷ rest) small small' = absurd (omega arith)
tokens_at-enough (suc n) (suc m) w i (b ∷ rest) small small' =
    ⊎_elim
    (λ (blank : is_blank b ≡ true). tokens_at-blank n w i b rest blank
    ∙ tokens_at-enough n m w (i + 1) rest (omega arith) (omega arith) ∙ sym (tokens_at-blank m w i b rest blank))
    (λ (blank : is_blank b ≡ false).
    let front = front_token-within w b rest in
    let left = length-drop (front_token w b rest).1 (b ∷ rest) in
    tokens_at-token n w i b rest blank
    ∙ ap (λ more. placed_at w i b rest ∷ more)
    (tokens_at-enough n m w (i + (front_token w b rest).1) (drop (front_token w b rest).1 (b ∷ rest)) (omega arith)
    (omega arith))
    ∙ sym (tokens_at-token m w i b rest blank))
    (cases_Bool (is_blank b))

-- the tokens from a byte on: none are left at the end of the text
pub tokens_from-end : (w : WordStart) (text : List ℕ) (i : ℕ) → length text ≤ i → tokens_from w text i ≡ []
unfolding tokens_from
tokens_from-end w text i past = ap (tokens_at (length text) w i) (drop_all i text past)
    ∙ tokens_at-end (length text) w i

-- a bound and the bytes that are left
tokens_from-at : (w : WordStart) (text : List ℕ) (i n : ℕ) (rest : List ℕ)
    → drop i text ≡ rest
    → length rest ≤ n
    → tokens_at n w i rest ≡ tokens_from w text i
unfolding tokens_from
tokens_from-at w text i n rest is small =
    let size = length-drop i text in
    let same = ap length is in
    tokens_at-enough n (length text) w i rest small (omega arith) ∙ ap (tokens_at (length text) w i) (sym is)

-- the token that begins at this byte of the text
unfoldable pub front_at : WordStart → List ℕ → ℕ → Token × ℕ
front_at w text i = front_token w (get_or text i 0) (drop (i + 1) text)

abbrev pub placed : WordStart → List ℕ → ℕ → Placed
placed w text i = record { token = (front_at w text i).0; start = i; end = i + (front_at w text i).1 }

-- a blank is passed over
pub tokens_from-blank : (w : WordStart) (text : List ℕ) (i : ℕ)
    → i < length text
    → is_blank (get_or text i 0) ≡ true
    → tokens_from w text i ≡ tokens_from w text (i + 1)
tokens_from-blank w text i within blank =
    let b = get_or text i 0 in
    let rest = drop (i + 1) text in
    sym (tokens_from-at w text i (suc (length rest)) (b ∷ rest) (drop_more text i 0 within) (omega arith))
    ∙ tokens_at-blank (length rest) w i b rest blank
    ∙ tokens_from-at w text (i + 1) (length rest) rest refl (omega arith)

-- any other byte begins a token
pub tokens_from-token : (w : WordStart) (text : List ℕ) (i : ℕ)
    → i < length text
    → is_blank (get_or text i 0) ≡ false
    → tokens_from w text i ≡ placed w text i ∷ tokens_from w text (i + (front_at w text i).1)
unfolding front_at
tokens_from-token w text i within blank =
    let b = get_or text i 0 in
    let rest = drop (i + 1) text in
    let size = (front_token w b rest).1 in
    let front = front_token-within w b rest in
    let left = length-drop size (b ∷ rest) in
    sym (tokens_from-at w text i (suc (length rest)) (b ∷ rest) (drop_more text i 0 within) (omega arith))
    ∙ tokens_at-token (length rest) w i b rest blank
    ∙ ap (λ more. placed_at w i b rest ∷ more)
    (tokens_from-at w text (i + size) (length rest) (drop size (b ∷ rest))
    (sym (drop-drop size i text) ∙ ap (drop size) (drop_more text i 0 within)) (omega arith))

-- a token that begins at a byte of the text ends within the text
pub front_at-within : (w : WordStart) (text : List ℕ) (i : ℕ)
    → i < length text
    → IsWithin (front_at w text i).1 (length text - i)
unfolding front_at
front_at-within w text i within =
    let b = get_or text i 0 in
    let rest = drop (i + 1) text in
    let front = front_token-within w b rest in
    let left = length-drop (i + 1) text in
    record { some = front.some; fits = omega arith }

-- blanks are passed over, however many
pub tokens_from-blanks : (n : ℕ) (w : WordStart) (text : List ℕ) (i : ℕ)
    → i + n ≤ length text
    → ((k : ℕ) → k < n → is_blank (get_or text (i + k) 0) ≡ true)
    → tokens_from w text i ≡ tokens_from w text (i + n)
tokens_from-blanks zero w text i within blank = ap (tokens_from w text) (sym (add-zero i))
tokens_from-blanks (suc n) w text i within blank =
    let last : i + n + 1 ≡ i + suc n = omega arith in
    tokens_from-blanks n w text i (omega arith) (λ k below. blank k (omega arith))
    ∙ tokens_from-blank w text (i + n) (omega arith) (blank n (omega arith))
    ∙ ap (tokens_from w text) last

-- what is known behind n blanks, as many as stand at the byte i of the text
pub record Skipped (w : WordStart) (text : List ℕ) (i n : ℕ) : Type 0 where
  pub fits : i + n ≤ length text
  pub same : tokens_from w text i ≡ tokens_from w text (i + n)
  pub stops : i + n < length text → is_blank (get_or text (i + n) 0) ≡ false

pub skipped : (w : WordStart) (text : List ℕ) (i n : ℕ)
    → i ≤ length text
    → n ≡ length (take_while is_blank (drop i text))
    → Skipped w text i n
skipped w text i n within long =
    let rest = drop i text in
    let left = length-drop i text in
    let is : n ≡ prefix_len is_blank rest = long ∙ length-prefix_len is_blank rest in
    let short = prefix_len-le-length is_blank rest in
    record {
      fits = omega arith;
      same = tokens_from-blanks n w text i (omega arith)
          (λ k below. sym (ap is_blank (get_or-drop i text k 0)) ∙ prefix_len_passes is_blank rest k 0 (omega arith));
      stops = λ more. sym (ap is_blank (get_or-drop i text n 0)) ∙ ap (λ k. is_blank (get_or rest k 0)) is
          ∙ prefix_len_stops is_blank rest 0 (omega arith);
    }

-- n blanks up to the end of the text, and the tokens behind them
pub no_token_left : (w : WordStart) (text : List ℕ) (i n : ℕ)
    → i ≤ length text
    → n ≡ length (take_while is_blank (drop i text))
    → i + n ≡ length text
    → tokens_from w text i ≡ []
no_token_left w text i n within long all =
    (skipped w text i n within long).same ∙ tokens_from-end w text (i + n) (omega arith)

-- n blanks and a token behind them
pub record FirstToken (w : WordStart) (text : List ℕ) (i n : ℕ) (front : Token × ℕ) : Type 0 where
  pub tokens : tokens_from w text i
      ≡ (record { token = front.0; start = i + n; end = i + n + front.1 }) ∷ tokens_from w text (i + n + front.1)
  pub some : 0 < front.1
  pub fits : i + n + front.1 ≤ length text

pub first_token : (w : WordStart) (text : List ℕ) (i n : ℕ) (front : Token × ℕ)
    → i ≤ length text
    → n ≡ length (take_while is_blank (drop i text))
    → (i + n ≡ length text → ⊥)
    → front ≡ front_token w (get_or text (i + n) 0) (drop (i + n + 1) text)
    → FirstToken w text i n front
unfolding front_at
first_token w text i n front within long more is =
    let skip = skipped w text i n within long in
    let inside : i + n < length text = omega (arith, skip.fits) in
    let bounds = front_at-within w text (i + n) inside in
    let size = ap (λ f. f.1) is in
    record {
      tokens =
          skip.same
          ∙ tokens_from-token w text (i + n) inside (skip.stops inside)
          ∙ ap (λ (f : Token × ℕ). (record { token = f.0; start = i + n; end = i + n + f.1 }) ∷ tokens_from w text
          (i + n + f.1)) (sym is);
      some = omega (arith, bounds.some);
      fits = omega (arith, bounds.fits);
    }
