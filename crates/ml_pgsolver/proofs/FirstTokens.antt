-- The tokens of a text from a byte on: one step over blanks, and one over a token.
--
--   front_token-within == the token at the front has a byte, and stands within the text
--   no_sign_left       == where only blanks are left there is no token
--   FirstSign          == the first token behind some blanks, and the others
use Rattle.std.proofs.Common.{◌≡◌, ℕ, zero, suc, ◌+◌, ◌-◌, ◌<◌, ◌≤◌, Bool, true, false, List, [], ◌∷◌, length, drop, get_or, refl, sym, ◌∙◌, ap, arith, ◌==◌, nat_eq, length-drop, length-append, drop-drop, get_or-drop, codes}
use Rattle.std.proofs.lemmas.Bool.{cond-true, cond-false, cond_both}
use Rattle.std.proofs.lemmas.List.{drop_more, drop_all}
use Rattle.std.proofs.lemmas.List.Sums.{prefix_len-le-length, prefix_len_stops}
use Rattle.std.proofs.lemmas.List.Folds.{length-prefix_len}
use Rattle.std.specs.List.{take_while, prefix_len, starts_with}
use Rattle.ml_text.specs.Bytes.{is_blank, is_digit}
use Rattle.ml_text.proofs.Signs.{starts_with-fits}
use Rattle.ml_pgsolver.proofs.Capped.{digit_more}
use Rattle.ml_pgsolver.specs.Tokens as token
use Rattle.ml_pgsolver.specs.Tokens.{Token, Placed, spelling, is_inner, quoted, front_token, tokens_at, tokens}
use Rattle.ml_pgsolver.specs.declared.scan.Sign.{Sign}
use Rattle.ml_pgsolver.specs.private.Signs.{sign_of, signs_in, signs_from, token_at}

-- a token has at least one byte, and stands within the text
pub record IsWithin (n size : ℕ) : Type 0 where
  pub some : 0 < n
  pub fits : n ≤ size

pub quoted-within : (rest : List ℕ) → IsWithin (length (spelling (quoted rest))) (suc (length rest))
quoted-within rest =
    let inner = take_while is_inner rest in
    cond_both (starts_with nat_eq (drop (length inner) rest) (34 ∷ [])) (token.Name inner) (token.Stray 34)
    (λ t. IsWithin (length (spelling t)) (suc (length rest)))
    (λ closes.
    let fits = starts_with-fits (drop (length inner) rest) (34 ∷ []) closes in
    record { some = omega arith; fits = omega (arith, length-drop (length inner) rest, length-append inner (34 ∷ [])) })
    (λ not_closed. record { some = omega arith; fits = omega arith })

pub front_token-within : (b : ℕ) (rest : List ℕ) → IsWithin (length (spelling (front_token b rest))) (suc (length rest))
front_token-within b rest =
    let P : Token → Type 0 = λ t. IsWithin (length (spelling t)) (suc (length rest)) in
    let one : (t : Token) → length (spelling t) ≡ 1 → P t = λ t is. record { some = omega arith; fits = omega arith } in
    cond_both (is_digit b) _ _ P
    (λ digit. record {
      some = omega arith;
      fits = omega (arith, prefix_len-le-length is_digit rest, length-prefix_len is_digit rest);
    })
    (λ other. cond_both (b == 34) _ _ P (λ quote. quoted-within rest)
    (λ other. cond_both (b == 44) _ _ P (λ comma. one token.Comma refl)
    (λ other. cond_both (b == 59) _ _ P (λ semicolon. one token.Semicolon refl)
    (λ other. cond_both (starts_with nat_eq (b ∷ rest) (codes "parity")) _ _ P
    (λ parity. record { some = omega arith; fits = starts_with-fits (b ∷ rest) (codes "parity") parity })
    (λ other. one (token.Stray b) refl)))))

-- the bytes of a token are passed over
pub skipped : (k i : ℕ) (xs : List ℕ) → k ≤ length xs → tokens_at k i xs ≡ tokens_at 0 (i + k) (drop k xs)
unfolding tokens_at
skipped zero i xs fits = let e : i ≡ i + 0 = omega arith in ap (λ j. tokens_at 0 j xs) e
skipped (suc k) i [] fits = absurd (omega arith)
skipped (suc k) i (b ∷ rest) fits =
    let e : i + 1 + k ≡ i + suc k = omega arith in
    skipped k (i + 1) rest (omega arith) ∙ ap (λ j. tokens_at 0 j (drop k rest)) e

pub tokens_at-blank : (i b : ℕ) (rest : List ℕ) → is_blank b ≡ true → tokens_at 0 i (b ∷ rest) ≡ tokens_at 0 (i + 1) rest
unfolding tokens_at
tokens_at-blank i b rest blank = cond-true _ _ _ blank

pub tokens_at-token : (i b : ℕ) (rest : List ℕ) → is_blank b ≡ false
    → tokens_at 0 i (b ∷ rest)
    ≡ record { token = front_token b rest; at = i }
    ∷ tokens_at (length (spelling (front_token b rest)) - 1) (i + 1) rest
unfolding tokens_at
tokens_at-token i b rest other = cond-false _ _ _ other

pub tokens_at-end : (i : ℕ) → tokens_at 0 i [] ≡ []
unfolding tokens_at
tokens_at-end i = refl

blanks : (i : ℕ) (xs : List ℕ)
    → tokens_at 0 i xs ≡ tokens_at 0 (i + prefix_len is_blank xs) (drop (prefix_len is_blank xs) xs)
blanks i [] = let e : i ≡ i + 0 = omega arith in ap (λ j. tokens_at 0 j []) e
blanks i (b ∷ rest) = by_blank (is_blank b) refl (blanks (i + 1) rest)
  where
    by_blank : (test : Bool) → is_blank b ≡ test
        → tokens_at 0 (i + 1) rest ≡ tokens_at 0 (i + 1 + prefix_len is_blank rest) (drop (prefix_len is_blank rest) rest)
        → tokens_at 0 i (b ∷ rest)
        ≡ tokens_at 0 (i + prefix_len is_blank (b ∷ rest)) (drop (prefix_len is_blank (b ∷ rest)) (b ∷ rest))
    by_blank true is more =
        let n = prefix_len is_blank rest in
        let long : prefix_len is_blank (b ∷ rest) ≡ suc n = cond-true _ _ _ is ∙ omega arith in
        let e : i + 1 + n ≡ i + suc n = omega arith in
        tokens_at-blank i b rest is ∙ more ∙ ap (λ j. tokens_at 0 j (drop n rest)) e
        ∙ ap (λ k. tokens_at 0 (i + k) (drop k (b ∷ rest))) (sym long)
    by_blank false is more =
        let none : prefix_len is_blank (b ∷ rest) ≡ 0 = cond-false _ _ _ is in
        let e : i ≡ i + 0 = omega arith in
        ap (λ j. tokens_at 0 j (b ∷ rest)) e ∙ ap (λ k. tokens_at 0 (i + k) (drop k (b ∷ rest))) (sym none)

-- n blanks at the byte i of a text, as many as stand there
record Skipped (text : List ℕ) (i n : ℕ) : Type 0 where
  pub fits : i + n ≤ length text
  pub same : signs_from text i ≡ signs_from text (i + n)
  pub stops : i + n < length text → is_blank (get_or text (i + n) 0) ≡ false

over_blanks : (text : List ℕ) (i n : ℕ) → i ≤ length text → n ≡ length (take_while is_blank (drop i text))
    → Skipped text i n
unfolding signs_from
over_blanks text i n within long =
    let rest = drop i text in
    let left = length-drop i text in
    let is : n ≡ prefix_len is_blank rest = long ∙ length-prefix_len is_blank rest in
    let short = prefix_len-le-length is_blank rest in
    record {
      fits = omega arith;
      same = ap signs_in (blanks i rest ∙ ap (λ k. tokens_at 0 (i + k) (drop k rest)) (sym is)
          ∙ ap (tokens_at 0 (i + n)) (drop-drop n i text));
      stops = λ more. sym (ap is_blank (get_or-drop i text n 0)) ∙ ap (λ k. is_blank (get_or rest k 0)) is
          ∙ prefix_len_stops is_blank rest 0 (omega arith);
    }

pub no_sign_left : (text : List ℕ) (i n : ℕ) → i ≤ length text → n ≡ length (take_while is_blank (drop i text))
    → i + n ≡ length text
    → signs_from text i ≡ []
unfolding signs_from
no_sign_left text i n within long all =
    (over_blanks text i n within long).same
    ∙ ap (λ xs. signs_in (tokens_at 0 (i + n) xs)) (drop_all (i + n) text (omega arith))
    ∙ ap signs_in (tokens_at-end (i + n))

-- n blanks, and behind them a sign and its length
pub record FirstSign (text : List ℕ) (i n : ℕ) (sign : Sign) (size : ℕ) : Type 0 where
  pub signs : signs_from text i ≡ (sign, i + n) ∷ signs_from text (i + n + size)
  pub some : 0 < size
  pub fits : i + n + size ≤ length text

token_there : (text : List ℕ) (i : ℕ) → i < length text → is_blank (get_or text i 0) ≡ false
    → signs_from text i
    ≡ (sign_of (token_at text i), i) ∷ signs_from text (i + length (spelling (token_at text i)))
unfolding signs_from
token_there text i within other =
    let b = get_or text i 0 in
    let rest = drop (i + 1) text in
    let size = length (spelling (token_at text i)) in
    let bounds = front_token-within b rest in
    let next : i + 1 + (size - 1) ≡ i + size = omega (arith, bounds.some) in
    let left : size - 1 + (i + 1) ≡ size + i = omega (arith, bounds.some) in
    ap (λ xs. signs_in (tokens_at 0 i xs)) (drop_more text i 0 within)
    ∙ ap signs_in (tokens_at-token i b rest other)
    ∙ ap (λ ps. (sign_of (token_at text i), i) ∷ signs_in ps)
    (skipped (size - 1) (i + 1) rest (omega (arith, bounds.fits))
    ∙ ap (λ j. tokens_at 0 j (drop (size - 1) rest)) next
    ∙ ap (tokens_at 0 (i + size)) (drop-drop (size - 1) (i + 1) text
    ∙ ap (λ k. drop k text) (let e : i + 1 + (size - 1) ≡ i + size = next in e)))

pub first_sign : (text : List ℕ) (i n : ℕ) (sign : Sign) (size : ℕ)
    → i ≤ length text
    → n ≡ length (take_while is_blank (drop i text))
    → (i + n ≡ length text → ⊥)
    → sign ≡ sign_of (token_at text (i + n))
    → size ≡ length (spelling (token_at text (i + n)))
    → FirstSign text i n sign size
first_sign text i n sign size within long more is_sign is_size =
    let skip = over_blanks text i n within long in
    let inside : i + n < length text = omega (arith, skip.fits) in
    let bounds = front_token-within (get_or text (i + n) 0) (drop (i + n + 1) text) in
    let left = length-drop (i + n + 1) text in
    record {
      signs = skip.same ∙ token_there text (i + n) inside (skip.stops inside)
          ∙ ap (λ s. (s, i + n) ∷ signs_from text (i + n + length (spelling (token_at text (i + n))))) (sym is_sign)
          ∙ ap (λ k. (sign, i + n) ∷ signs_from text (i + n + k)) (sym is_size);
      some = omega (arith, bounds.some);
      fits = omega (arith, bounds.fits);
    }

-- where a digit stands, its number does
pub digit_there : (text : List ℕ) (i : ℕ) (sign : Sign)
    → i < length text
    → true ≡ is_digit (get_or (drop i text) 0 0)
    → sign ≡ sign_of (token.Number (take_while is_digit (drop i text)))
    → sign ≡ sign_of (token_at text i)
digit_there text i sign within digit_first is =
    let b = get_or text i 0 in
    let rest = drop (i + 1) text in
    let digit : is_digit b ≡ true =
    sym (digit_first ∙ ap (λ xs. is_digit (get_or xs 0 0)) (drop_more text i 0 within)) in
    let there : token_at text i ≡ token.Number (b ∷ take_while is_digit rest) = cond-true _ _ _ digit in
    is ∙ ap (λ ds. sign_of (token.Number ds)) (digit_more text i within digit) ∙ ap sign_of (sym there)
