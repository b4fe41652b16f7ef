-- The pieces of a text, one behind the other.
--
--   NoneCloses text i  == no `"` from the byte i on is closed
--   later_unclosed     == where a `"` is not closed, no later one is
--   piece_within       == a piece has a byte, and stands within the text
--   tokens_step        == the tokens from a piece on: its own, and those behind it
use Rattle.std.proofs.Common.{◌≡◌, ℕ, zero, suc, ◌+◌, ◌-◌, ◌<◌, ◌≤◌, ◌==◌, ◌||◌, ◌&&◌, ◌⊎◌, inl, inr, not, if◌then◌else◌, Bool, true, false, nat_eq, List, []}
use Rattle.std.proofs.Common.{◌∷◌, ◌++◌, length, drop, get_or, Option, Some, None, refl, sym, ◌∙◌, ap, subst, arith, codes, length-drop, drop-drop}
use Rattle.std.proofs.lemmas.Bool.{cond-true, cond-false, cond_both, cases_lt}
use Rattle.std.proofs.lemmas.Bool.Decides.{nat_tests}
use Rattle.std.proofs.lemmas.List.{drop_more, drop_all}
use Rattle.std.proofs.lemmas.List.Sums.{prefix_len-le-length}
use Rattle.std.proofs.lemmas.List.Folds.{length-prefix_len}
use Rattle.std.specs.List.{take_while, prefix_len, starts_with}
use Rattle.ml_text.specs.Bytes.{is_blank, is_digit, is_letter}
use Rattle.ml_text.proofs.Signs.{starts_with-fits}
use Rattle.ml_hoa.specs.Tokens.{Plain, Piece, piece, placed, is_word_part, closing_quote, closing_comment, worded, quoted, commented, marked, front_piece, tokens_at, tokens, name_mark, word_mark}
use Rattle.ml_hoa.specs.private.Views.{piece_at, tokens_from}
use Rattle.ml_hoa.proofs.Closings.{quote_ends, quote_more}

abbrev pub NoneCloses : List ℕ → ℕ → Type 0
NoneCloses text i = (j : ℕ) → i ≤ j → get_or text j 0 ≡ 34 → closing_quote false 0 (drop (j + 1) text) ≡ None

-- ---- quotes that are not closed

-- from another count
counted_by : (taken : Bool) (k m b : ℕ) (xs : List ℕ) (test : Bool) → (not taken && (b == 34)) ≡ test
    → closing_quote taken k (b ∷ xs) ≡ None
    → (closing_quote (not taken && (b == 92)) (k + 1) xs ≡ None → closing_quote (not taken && (b == 92)) (m + 1) xs ≡ None)
    → closing_quote taken m (b ∷ xs) ≡ None
counted_by taken k m b xs true is none more =
    let e : Some k ≡ None = sym (cond-true _ _ _ is) ∙ none in absurd (cc)
counted_by taken k m b xs false is none more = cond-false _ _ _ is ∙ more (sym (cond-false _ _ _ is) ∙ none)

counted : (taken : Bool) (k m : ℕ) (xs : List ℕ) → closing_quote taken k xs ≡ None → closing_quote taken m xs ≡ None
counted taken k m [] none = refl
counted taken k m (b ∷ xs) none =
    counted_by taken k m b xs (not taken && (b == 34)) refl none (λ e. counted (not taken && (b == 92)) (k + 1) (m + 1) xs e)

not_both : (taken : Bool) (b : ℕ) → b ≡ 34 → (not taken && (b == 92)) ≡ false
not_both true b is = refl
not_both false b is = let e : (b == 92) ≡ false = grind (arith, nat_tests) in e

quote_seen : (b : ℕ) → b ≡ 34 → (not false && (b == 34)) ≡ true
quote_seen b is = let e : (b == 34) ≡ true = grind (arith, nat_tests) in e

-- a byte further on, where nothing closes
further : (text : List ℕ) (taken : Bool) (i : ℕ) → i < length text
    → closing_quote taken 0 (drop i text) ≡ None
    → closing_quote (not taken && (get_or text i 0 == 92)) 0 (drop (i + 1) text) ≡ None
further text taken i within none = by (not taken && (get_or text i 0 == 34)) refl
  where
    shifted : closing_quote taken i (drop i text) ≡ None
    shifted = counted taken 0 i (drop i text) none

    by : (test : Bool) → (not taken && (get_or text i 0 == 34)) ≡ test
        → closing_quote (not taken && (get_or text i 0 == 92)) 0 (drop (i + 1) text) ≡ None
    by true is = let e : Some i ≡ None = sym (quote_ends text taken i within is) ∙ shifted in absurd (cc)
    by false is =
        counted (not taken && (get_or text i 0 == 92)) (i + 1) 0 (drop (i + 1) text)
        (sym (quote_more text taken i within is) ∙ shifted)

-- at a `"` of what is left, it is taken; so what follows it is read anew
at_quote : (text : List ℕ) (taken : Bool) (i : ℕ) → i < length text → get_or text i 0 ≡ 34
    → closing_quote taken 0 (drop i text) ≡ None
    → closing_quote false 0 (drop (i + 1) text) ≡ None
at_quote text taken i within is none =
    subst (λ t. closing_quote t 0 (drop (i + 1) text) ≡ None) (not_both taken (get_or text i 0) is) (further text taken i within none)

steps : (text : List ℕ) (taken : Bool) (i n : ℕ) → i + n < length text
    → get_or text (i + n) 0 ≡ 34
    → closing_quote taken 0 (drop i text) ≡ None
    → closing_quote false 0 (drop (i + n + 1) text) ≡ None
steps text taken i zero within is none =
    let e : i + 0 ≡ i = omega arith in
    let here : get_or text i 0 ≡ 34 = sym (ap (λ k. get_or text k 0) e) ∙ is in
    ap (λ k. closing_quote false 0 (drop (k + 1) text)) e ∙ at_quote text taken i (omega arith) here none
steps text taken i (suc n) within is none =
    let e : i + 1 + n ≡ i + suc n = omega arith in
    ap (λ k. closing_quote false 0 (drop (k + 1) text)) (sym e)
    ∙ steps text (not taken && (get_or text i 0 == 92)) (i + 1) n (omega arith) (ap (λ k. get_or text k 0) e ∙ is)
    (further text taken i (omega arith) none)

beyond : (text : List ℕ) (j : ℕ) → length text ≤ j → closing_quote false 0 (drop (j + 1) text) ≡ None
beyond text j past = ap (closing_quote false 0) (drop_all (j + 1) text (omega arith))

pub later_unclosed : (text : List ℕ) (i : ℕ) → closing_quote false 0 (drop (i + 1) text) ≡ None → NoneCloses text (i + 1)
later_unclosed text i none = λ j low is. by j low is (cases_lt j (length text))
  where
    by : (j : ℕ) → i + 1 ≤ j → get_or text j 0 ≡ 34 → (j < length text) ⊎ (length text ≤ j) → closing_quote false 0 (drop (j + 1) text) ≡ None
    by j low is (inl within) =
        let e : i + 1 + (j - (i + 1)) ≡ j = omega arith in
        ap (λ k. closing_quote false 0 (drop (k + 1) text)) (sym e)
        ∙ steps text false (i + 1) (j - (i + 1)) (omega arith) (ap (λ k. get_or text k 0) e ∙ is) none
    by j low is (inr past) = beyond text j past

-- ---- where pieces end

pub record IsWithin (n size : ℕ) : Type 0 where
  pub some : 0 < n
  pub fits : n ≤ size

quote_in_by : (taken : Bool) (k b : ℕ) (xs : List ℕ) (n : ℕ) (test : Bool) → (not taken && (b == 34)) ≡ test
    → closing_quote taken k (b ∷ xs) ≡ Some n
    → (closing_quote (not taken && (b == 92)) (k + 1) xs ≡ Some n → n < k + 1 + length xs)
    → n < k + suc (length xs)
quote_in_by taken k b xs n true so is more =
    let e : Some k ≡ Some n = sym (cond-true _ _ _ so) ∙ is in
    let same : k ≡ n = cc in
    omega arith
quote_in_by taken k b xs n false so is more = let low = more (sym (cond-false _ _ _ so) ∙ is) in omega arith

quote_in : (taken : Bool) (k : ℕ) (xs : List ℕ) (n : ℕ) → closing_quote taken k xs ≡ Some n → n < k + length xs
quote_in taken k [] n is = absurd (cc)
quote_in taken k (b ∷ xs) n is =
    quote_in_by taken k b xs n (not taken && (b == 34)) refl is (λ e. quote_in (not taken && (b == 92)) (k + 1) xs n e)

closed_in : (n k : ℕ) (xs : List ℕ) (m : ℕ) (z : Bool)
    → (if z then Some (k + 2) else closing_comment (n - 1) (k + 2) xs) ≡ Some m
    → (closing_comment (n - 1) (k + 2) xs ≡ Some m → m ≤ k + 2 + length xs)
    → m ≤ k + suc (suc (length xs))
closed_in n k xs m true is more = let same : k + 2 ≡ m = cc in omega arith
closed_in n k xs m false is more = let low = more is in omega arith

comment_in_by : (n k b c : ℕ) (xs : List ℕ) (m : ℕ) (p q : Bool)
    → ((b == 42) && (c == 47)) ≡ p
    → ((b == 47) && (c == 42)) ≡ q
    → closing_comment n k (b ∷ c ∷ xs) ≡ Some m
    → (closing_comment (n - 1) (k + 2) xs ≡ Some m → m ≤ k + 2 + length xs)
    → (closing_comment (n + 1) (k + 2) xs ≡ Some m → m ≤ k + 2 + length xs)
    → (closing_comment n (k + 1) (c ∷ xs) ≡ Some m → m ≤ k + 1 + suc (length xs))
    → m ≤ k + suc (suc (length xs))
comment_in_by n k b c xs m true q x y is closes opens more =
    closed_in n k xs m (n == 0) (sym (cond-true _ _ _ x) ∙ is) closes
comment_in_by n k b c xs m false true x y is closes opens more =
    let low = opens (sym (cond-true _ _ _ y) ∙ sym (cond-false _ _ _ x) ∙ is) in omega arith
comment_in_by n k b c xs m false false x y is closes opens more =
    let low = more (sym (cond-false _ _ _ y) ∙ sym (cond-false _ _ _ x) ∙ is) in omega arith

comment_in : (n k : ℕ) (xs : List ℕ) (m : ℕ) → closing_comment n k xs ≡ Some m → m ≤ k + length xs
comment_in n k [] m is = absurd (cc)
comment_in n k (b ∷ []) m is = absurd (cc)
comment_in n k (b ∷ c ∷ xs) m is =
    comment_in_by n k b c xs m ((b == 42) && (c == 47)) ((b == 47) && (c == 42)) refl refl is
    (λ e. comment_in (n - 1) (k + 2) xs m e) (λ e. comment_in (n + 1) (k + 2) xs m e) (λ e. comment_in n (k + 1) (c ∷ xs) m e)

quoted_within : (xs : List ℕ) (o : Option ℕ) → closing_quote false 0 xs ≡ o → IsWithin (quoted xs o).size (suc (length xs))
quoted_within xs None is = record { some = omega arith; fits = omega arith }
quoted_within xs (Some n) is = let low = quote_in false 0 xs n is in record { some = omega arith; fits = omega arith }

commented_within : (text : List ℕ) (o : Option ℕ) → 2 ≤ length text → closing_comment 0 0 (drop 2 text) ≡ o
    → IsWithin (commented (length text) o).size (length text)
commented_within text None long is = record { some = omega arith; fits = omega arith }
commented_within text (Some n) long is =
    let low = comment_in 0 0 (drop 2 text) n is in
    record { some = omega arith; fits = omega (arith, length-drop 2 text) }

prefix_some : (p : ℕ → Bool) (b : ℕ) (rest : List ℕ) → p b ≡ true → IsWithin (length (take_while p (b ∷ rest))) (suc (length rest))
prefix_some p b rest is =
    let long : prefix_len p (b ∷ rest) ≡ 1 + prefix_len p rest = cond-true _ _ _ is in
    record {
      some = omega (arith, length-prefix_len p (b ∷ rest));
      fits = omega (arith, length-prefix_len p (b ∷ rest), prefix_len-le-length p rest);
    }

letter_part : (b : ℕ) → is_letter b ≡ true → is_word_part b ≡ true
letter_part b is = by (is_letter b) (is_digit b) (b == 95) (b == 45) is
  where
    by : (l d u h : Bool) → l ≡ true → (((l || d) || u) || h) ≡ true
    by true d u h is = refl
    by false d u h is = absurd (cc)

worded_within : (b : ℕ) (rest : List ℕ) → is_letter b ≡ true → IsWithin (worded (b ∷ rest)).size (suc (length rest))
worded_within b rest is =
    let text = b ∷ rest in
    let word = take_while is_word_part text in
    let n = length word in
    let w = prefix_some is_word_part b rest (letter_part b is) in
    cond_both (starts_with nat_eq (drop n text) (codes ":")) (piece (Plain (name_mark word)) (n + 1)) (piece (Plain (word_mark word)) n)
    (λ (p : Piece). IsWithin p.size (suc (length rest)))
    (λ colon.
    let fits = starts_with-fits (drop n text) (codes ":") colon in
    record { some = omega arith; fits = omega (arith, w.fits, length-drop n text) })
    (λ other. w)

marked_within : (b : ℕ) (rest : List ℕ) → IsWithin (marked b (b ∷ rest)).size (suc (length rest))
marked_within b rest =
    let P : Piece → Type 0 = λ p. IsWithin p.size (suc (length rest)) in
    cond_both (starts_with nat_eq (b ∷ rest) (codes "--BODY--")) _ _ P
    (λ body. record { some = omega arith; fits = starts_with-fits (b ∷ rest) (codes "--BODY--") body })
    (λ other. cond_both (starts_with nat_eq (b ∷ rest) (codes "--END--")) _ _ P
    (λ end. record { some = omega arith; fits = starts_with-fits (b ∷ rest) (codes "--END--") end })
    (λ other. record { some = omega arith; fits = omega arith }))

front_within : (i b : ℕ) (rest : List ℕ) → IsWithin (front_piece i b (b ∷ rest)).size (suc (length rest))
front_within i b rest =
    let P : Piece → Type 0 = λ p. IsWithin p.size (suc (length rest)) in
    cond_both (is_blank b) _ _ P (λ blank. record { some = omega arith; fits = omega arith })
    (λ other. cond_both (is_digit b) _ _ P (λ digit. prefix_some is_digit b rest digit)
    (λ other. cond_both (is_letter b) _ _ P (λ letter. worded_within b rest letter)
    (λ other. cond_both (b == 34) _ _ P (λ quote. quoted_within rest (closing_quote false 0 rest) refl)
    (λ other. cond_both (starts_with nat_eq (b ∷ rest) (codes "/*")) _ _ P
    (λ comment. commented_within (b ∷ rest) (closing_comment 0 0 (drop 2 (b ∷ rest))) (starts_with-fits (b ∷ rest) (codes "/*") comment) refl)
    (λ other. marked_within b rest)))))

pub piece_within : (text : List ℕ) (i : ℕ) → i < length text → IsWithin (piece_at text i).size (length text - i)
piece_within text i within =
    let b = get_or text i 0 in
    let rest = drop (i + 1) text in
    let is = drop_more text i 0 within in
    let w = subst (λ xs. IsWithin (front_piece i b xs).size (suc (length rest))) (sym is) (front_within i b rest) in
    record { some = w.some; fits = omega (arith, w.fits, length-drop (i + 1) text) }

-- the bytes of a piece are passed over
skipped : (k i : ℕ) (xs : List ℕ) → k ≤ length xs → tokens_at k i xs ≡ tokens_at 0 (i + k) (drop k xs)
unfolding tokens_at
skipped zero i xs fits = let e : i ≡ i + 0 = omega arith in ap (λ j. tokens_at 0 j xs) e
skipped (suc k) i [] fits = absurd (omega arith)
skipped (suc k) i (b ∷ rest) fits =
    let e : i + 1 + k ≡ i + suc k = omega arith in
    skipped k (i + 1) rest (omega arith) ∙ ap (λ j. tokens_at 0 j (drop k rest)) e

tokens_at-piece : (i b : ℕ) (rest : List ℕ)
    → tokens_at 0 i (b ∷ rest)
    ≡ placed (front_piece i b (b ∷ rest)).token i ++ tokens_at ((front_piece i b (b ∷ rest)).size - 1) (i + 1) rest
unfolding tokens_at
tokens_at-piece i b rest = refl

pub tokens_step : (text : List ℕ) (i : ℕ) → i < length text
    → tokens_from text i ≡ placed (piece_at text i).token i ++ tokens_from text (i + (piece_at text i).size)
unfolding tokens_from
tokens_step text i within =
    let b = get_or text i 0 in
    let rest = drop (i + 1) text in
    let is = drop_more text i 0 within in
    let p = front_piece i b (b ∷ rest) in
    let w = front_within i b rest in
    let next : i + 1 + (p.size - 1) ≡ i + p.size = omega (arith, w.some) in
    ap (tokens_at 0 i) is
    ∙ tokens_at-piece i b rest
    ∙ ap (λ ts. placed p.token i ++ ts)
    (skipped (p.size - 1) (i + 1) rest (omega (arith, w.fits))
    ∙ ap (tokens_at 0 (i + 1 + (p.size - 1))) (drop-drop (p.size - 1) (i + 1) text)
    ∙ ap (λ k. tokens_at 0 k (drop k text)) next)
    ∙ ap (λ (q : Piece). placed q.token i ++ tokens_at 0 (i + q.size) (drop (i + q.size) text)) (ap (front_piece i b) (sym is))

pub tokens_start : (text : List ℕ) → tokens text ≡ tokens_from text 0
unfolding tokens tokens_from
tokens_start text = refl

pub tokens_end : (text : List ℕ) (i : ℕ) → length text ≤ i → tokens_from text i ≡ []
unfolding tokens_from tokens_at
tokens_end text i past = ap (tokens_at 0 i) (drop_all i text past)
