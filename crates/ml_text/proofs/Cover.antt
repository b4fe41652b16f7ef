-- The tokens of a text are its longest tokens one behind the other, with nothing but blanks beside them; no other
-- list is that; and each byte lies in one token or is a blank.
use Rattle.std.proofs.Common.{◌≡◌, ℕ, zero, suc, ◌+◌, ◌-◌, ◌<◌, ◌≤◌, true, false, cond, nat_le, nat_lt, List, [], ◌∷◌, length, take, drop, get_or, sym, refl, ap}
use Rattle.std.proofs.Common.{◌∙◌, subst, ⊎_elim, arith, length-take-le, length-drop, get_or-take, get_or-drop, zero-add, lt-ltb, le-ltb, le-leb}
use Rattle.std.proofs.lemmas.Bool.{cases_Bool, cases_lt, and_from, and_left, and_right, cond-true, cond-false, lt-leb}
use Rattle.std.proofs.lemmas.List.{drop_more}
use Rattle.std.proofs.lemmas.List.Sums.{sum_by-cons}
use Rattle.ml_text.specs.Bytes.{is_blank}
use Rattle.ml_text.specs.Tokens.{tokens_from}
use Rattle.ml_text.specs.Spelling.{IsLongestToken, AllBlank, IsNextToken, AreTokens, lies_in, tokens_over}
use Rattle.ml_text.specs.declared.token.WordStart.{WordStart}
use Rattle.ml_text.specs.declared.token.Placed.{Placed}
use Rattle.ml_text.proofs.Scan.{front_at, placed, front_at-within, tokens_from-end, tokens_from-blank, tokens_from-blanks, tokens_from-token}
use Rattle.ml_text.proofs.Spelling.{spells-no_blank}
use Rattle.ml_text.proofs.Longest.{front_token-longest, longest-one}

-- the token that begins at a byte that is no blank is the longest there
pub front_at-longest : (w : WordStart) (text : List ℕ) (i : ℕ)
    → i < length text
    → is_blank (get_or text i 0) ≡ false
    → IsLongestToken w (drop i text) (front_at w text i).0 (front_at w text i).1
unfolding front_at
front_at-longest w text i within no_blank =
    subst (λ t. IsLongestToken w t (front_at w text i).0 (front_at w text i).1) (sym (drop_more text i 0 within))
    (front_token-longest w (get_or text i 0) (drop (i + 1) text) no_blank)

placed-next : (w : WordStart) (text : List ℕ) (i : ℕ)
    → i < length text
    → is_blank (get_or text i 0) ≡ false
    → IsNextToken w text i (placed w text i)
placed-next w text i within no_blank =
    let bounds = front_at-within w text i within in
    let size : (front_at w text i).1 ≡ i + (front_at w text i).1 - i = omega arith in
    record {
      behind = omega arith;
      blanks = λ k from below. absurd (omega arith);
      some = omega (arith, bounds.some);
      fits = omega (arith, bounds.fits);
      longest = subst (IsLongestToken w (drop i text) (front_at w text i).0) size
          (front_at-longest w text i within no_blank);
    }

all_blank-more : (text : List ℕ) (i j : ℕ)
    → is_blank (get_or text i 0) ≡ true
    → AllBlank text (i + 1) j
    → AllBlank text i j
all_blank-more text i j blank rest k from below =
    ⊎_elim
    (λ (later : i < k). rest k (omega arith) below)
    (λ (here : k ≤ i). let same : i ≡ k = omega arith in subst (λ x. is_blank (get_or text x 0) ≡ true) same blank)
    (cases_lt i k)

-- behind the end of a text there are none
past_end : (w : WordStart) (text : List ℕ) (i : ℕ) → length text ≤ i → AreTokens w text i (tokens_from w text i)
past_end w text i past = subst (AreTokens w text i) (sym (tokens_from-end w text i past))
    (λ k from below. absurd (omega arith))

-- a blank in front of tokens
are_tokens-blank : (w : WordStart) (text : List ℕ) (i : ℕ) (ps : List Placed)
    → is_blank (get_or text i 0) ≡ true
    → AreTokens w text (i + 1) ps
    → AreTokens w text i ps
are_tokens-blank w text i [] blank rest = all_blank-more text i (length text) blank rest
are_tokens-blank w text i (p ∷ ps) blank rest = (
  record {
    behind = omega (arith, rest.0.behind);
    blanks = all_blank-more text i p.start blank rest.0.blanks;
    some = rest.0.some;
    fits = rest.0.fits;
    longest = rest.0.longest;
  },
  rest.1,
)

-- the tokens from a byte on are tokens
are_tokens-by : (n : ℕ) (w : WordStart) (text : List ℕ) (i : ℕ)
    → length text ≤ i + n
    → AreTokens w text i (tokens_from w text i)
are_tokens-by zero w text i enough = past_end w text i (omega arith)
are_tokens-by (suc n) w text i enough =
    ⊎_elim
    (λ (within : i < length text).
    ⊎_elim
    (λ (blank : is_blank (get_or text i 0) ≡ true). are_tokens-blank w text i (tokens_from w text i) blank
    (subst (AreTokens w text (i + 1)) (sym (tokens_from-blank w text i within blank))
    (are_tokens-by n w text (i + 1) (omega arith))))
    (λ (no_blank : is_blank (get_or text i 0) ≡ false).
    let bounds = front_at-within w text i within in
    subst (AreTokens w text i) (sym (tokens_from-token w text i within no_blank)) (
      placed-next w text i within no_blank,
      are_tokens-by n w text (i + (front_at w text i).1) (omega (arith, bounds.some)),
    ))
    (cases_Bool (is_blank (get_or text i 0))))
    (λ (past : length text ≤ i). past_end w text i past)
    (cases_lt i (length text))

pub are_tokens : (w : WordStart) (text : List ℕ) (i : ℕ) → AreTokens w text i (tokens_from w text i)
are_tokens w text i = are_tokens-by (length text) w text i (omega arith)

-- the first byte of a token is no blank
next-no_blank : (w : WordStart) (text : List ℕ) (i : ℕ) (p : Placed)
    → IsNextToken w text i p
    → (k : ℕ)
    → p.start ≤ k
    → k < p.end
    → is_blank (get_or text k 0) ≡ false
next-no_blank w text i p next k from below =
    let n = p.end - p.start in
    let left = length-drop p.start text in
    let size = length-take-le n (drop p.start text) next.longest.fits in
    let at : p.start + (k - p.start) ≡ k = omega arith in
    let inside : k - p.start < n = omega arith in
    let byte = spells-no_blank w (take n (drop p.start text)) p.token next.longest.spells (k - p.start) 0
    (omega arith) in
    sym (ap is_blank (get_or-take n (drop p.start text) (k - p.start) 0 inside
    ∙ get_or-drop p.start text (k - p.start) 0 ∙ ap (λ j. get_or text j 0) at)) ∙ byte

-- what stands in front of the next token are blanks
tokens_from-next : (w : WordStart) (text : List ℕ) (i : ℕ) (p : Placed)
    → IsNextToken w text i p
    → tokens_from w text i ≡ tokens_from w text p.start
tokens_from-next w text i p next =
    let at : i + (p.start - i) ≡ p.start = omega (arith, next.behind) in
    tokens_from-blanks (p.start - i) w text i (omega (arith, next.some, next.fits))
    (λ k below. next.blanks (i + k) (omega arith) (omega arith)) ∙ ap (tokens_from w text) at

-- the next token is the one that the scanner finds at its place
next-placed : (w : WordStart) (text : List ℕ) (i : ℕ) (p : Placed) → IsNextToken w text i p → p ≡ placed w text p.start
next-placed w text i p next =
    let within : p.start < length text = omega (arith, next.some, next.fits) in
    let no_blank = next-no_blank w text i p next p.start (omega arith) next.some in
    let same = longest-one w (drop p.start text) p.token (front_at w text p.start).0 (p.end - p.start)
    (front_at w text p.start).1 next.longest (front_at-longest w text p.start within no_blank) in
    let end : p.end ≡ p.start + (front_at w text p.start).1 = omega (arith, next.some, same.0) in
    λ k. record { token = same.1 k; start = p.start; end = end k }

-- no other list is the list of tokens
pub are_tokens-only : (w : WordStart) (text : List ℕ) (i : ℕ) (ps : List Placed)
    → AreTokens w text i ps
    → ps ≡ tokens_from w text i
are_tokens-only w text i [] all =
    ⊎_elim
    (λ (within : i < length text).
    let at : i + (length text - i) ≡ length text = omega arith in
    sym (tokens_from-blanks (length text - i) w text i (omega arith)
    (λ k below. all (i + k) (omega arith) (omega arith))
    ∙ tokens_from-end w text (i + (length text - i)) (omega arith)))
    (λ (past : length text ≤ i). sym (tokens_from-end w text i past))
    (cases_lt i (length text))
are_tokens-only w text i (p ∷ ps) all =
    let next = all.0 in
    let is = next-placed w text i p next in
    let within : p.start < length text = omega (arith, next.some, next.fits) in
    let no_blank = next-no_blank w text i p next p.start (omega arith) next.some in
    (λ k. is k ∷ are_tokens-only w text p.end ps all.1 k)
    ∙ ap (λ (q : Placed). placed w text p.start ∷ tokens_from w text q.end) is
    ∙ sym (tokens_from-token w text p.start within no_blank)
    ∙ sym (tokens_from-next w text i p next)

-- one token more
tokens_over-in : (p : Placed) (ps : List Placed) (k : ℕ)
    → p.start ≤ k
    → k < p.end
    → tokens_over (p ∷ ps) k ≡ 1 + tokens_over ps k
tokens_over-in p ps k from below =
    sum_by-cons (λ q. cond (lies_in k q) 1 0) p ps
    ∙ ap (λ n. n + tokens_over ps k)
    (cond-true (lies_in k p) 1 0 (and_from (nat_le p.start k) (nat_lt k p.end) (le-leb p.start k from)
    (lt-ltb k p.end below)))

tokens_over-out : (p : Placed) (ps : List Placed) (k : ℕ)
    → lies_in k p ≡ false
    → tokens_over (p ∷ ps) k ≡ tokens_over ps k
tokens_over-out p ps k out =
    sum_by-cons (λ q. cond (lies_in k q) 1 0) p ps ∙ ap (λ n. n + tokens_over ps k) (cond-false (lies_in k p) 1 0 out)
    ∙ zero-add (tokens_over ps k)

lies_in-before : (p : Placed) (k : ℕ) → k < p.start → lies_in k p ≡ false
lies_in-before p k below = and_left (nat_le p.start k) (nat_lt k p.end) (lt-leb p.start k below)

lies_in-behind : (p : Placed) (k : ℕ) → p.end ≤ k → lies_in k p ≡ false
lies_in-behind p k past = and_right (nat_le p.start k) (nat_lt k p.end) (le-ltb k p.end past)

-- a byte in front of all tokens lies in none
tokens_over-none : (w : WordStart) (text : List ℕ) (i : ℕ) (ps : List Placed)
    → AreTokens w text i ps
    → (k : ℕ)
    → k < i
    → tokens_over ps k ≡ 0
tokens_over-none w text i [] all k below = refl
tokens_over-none w text i (p ∷ ps) all k below =
    let next = all.0 in
    tokens_over-out p ps k (lies_in-before p k (omega (arith, next.behind)))
    ∙ tokens_over-none w text p.end ps all.1 k (omega (arith, next.behind, next.some))

-- any other byte lies in one exactly if it is no blank
pub tokens_over-each : (w : WordStart) (text : List ℕ) (i : ℕ) (ps : List Placed)
    → AreTokens w text i ps
    → (k : ℕ)
    → i ≤ k
    → k < length text
    → tokens_over ps k ≡ cond (is_blank (get_or text k 0)) 0 1
tokens_over-each w text i [] all k from below = sym (cond-true (is_blank (get_or text k 0)) 0 1 (all k from below))
tokens_over-each w text i (p ∷ ps) all k from below =
    let next = all.0 in
    ⊎_elim
    (λ (before : k < p.start).
    tokens_over-out p ps k (lies_in-before p k before)
    ∙ tokens_over-none w text p.end ps all.1 k (omega (arith, next.some))
    ∙ sym (cond-true (is_blank (get_or text k 0)) 0 1 (next.blanks k from before)))
    (λ (start : p.start ≤ k).
    ⊎_elim
    (λ (inside : k < p.end).
    tokens_over-in p ps k start inside
    ∙ ap (λ n. 1 + n) (tokens_over-none w text p.end ps all.1 k inside)
    ∙ sym (cond-false (is_blank (get_or text k 0)) 0 1 (next-no_blank w text i p next k start inside)))
    (λ (past : p.end ≤ k).
    tokens_over-out p ps k (lies_in-behind p k past) ∙ tokens_over-each w text p.end ps all.1 k past below)
    (cases_lt k p.end))
    (cases_lt k p.start)
