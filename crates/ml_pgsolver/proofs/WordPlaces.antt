-- The word `paritysol`, sought from the front of a text.
--
--   word_here, word_later, word_none == it stands here; it is sought further on; no byte is left
--   no_word_at                       == where another byte stands, the word doesn't
--   sought_fits                      == where it stands, its nine bytes do
use Rattle.std.proofs.Common.{◌≡◌, ℕ, zero, suc, ◌+◌, ◌-◌, ◌<◌, ◌≤◌, Bool, true, false, List, [], ◌∷◌, length, drop, take, get_or, Option, Some, None, refl, sym, ◌∙◌, ap, arith, ◌==◌, nat_eq, length-drop, drop-drop, codes}
use Rattle.std.specs.List.{starts_with}
use Rattle.std.proofs.lemmas.Bool.{cond-true, cond-false, cond_both}
use Rattle.std.proofs.lemmas.List.{drop_more, drop_all}
use Rattle.ml_lists.proofs.Entries.{same_head}
use Rattle.ml_text.proofs.Signs.{starts_with-fits, starts_with-front}
use Rattle.ml_pgsolver.specs.Tokens.{quoted, spelling}
use Rattle.ml_pgsolver.specs.private.Claiming.{IsBehindName}
use Rattle.ml_pgsolver.specs.private.WordSearch.{inside_name, word_from, word_sought}
use Rattle.ml_pgsolver.proofs.FirstTokens.{quoted-within}

abbrev pub word : List ℕ
word = codes "paritysol"

abbrev pub stands : List ℕ → Bool
stands xs = starts_with nat_eq xs word

-- the bytes of a name are passed over
pub passed : (k i : ℕ) (xs : List ℕ) → k ≤ length xs → word_from k i xs ≡ word_from 0 (i + k) (drop k xs)
unfolding word_from
passed zero i xs fits = let e : i ≡ i + 0 = omega arith in ap (λ j. word_from 0 j xs) e
passed (suc k) i [] fits = absurd (omega arith)
passed (suc k) i (b ∷ rest) fits =
    let e : i + 1 + k ≡ i + suc k = omega arith in
    passed k (i + 1) rest (omega arith) ∙ ap (λ j. word_from 0 j (drop k rest)) e

pub one_byte : (i b : ℕ) (rest : List ℕ) → stands (b ∷ rest) ≡ false
    → word_from 0 i (b ∷ rest) ≡ word_from (inside_name b rest) (i + 1) rest
unfolding word_from
one_byte i b rest other = cond-false _ _ _ other

pub here_byte : (i b : ℕ) (rest : List ℕ) → stands (b ∷ rest) ≡ true → word_from 0 i (b ∷ rest) ≡ Some i
unfolding word_from
here_byte i b rest is = cond-true _ _ _ is

name-within : (b : ℕ) (rest : List ℕ) → inside_name b rest ≤ length rest
name-within b rest =
    cond_both (b == 34) (length (spelling (quoted rest)) - 1) 0 (λ n. n ≤ length rest)
    (λ quote. let q = quoted-within rest in omega (arith, q.fits, q.some))
    (λ other. omega arith)

pub word_here : (text : List ℕ) (i : ℕ) → i < length text → stands (drop i text) ≡ true
    → word_from 0 i (drop i text) ≡ Some i
word_here text i low is =
    let split = drop_more text i 0 low in
    ap (word_from 0 i) split ∙ here_byte i (get_or text i 0) (drop (i + 1) text) (ap stands (sym split) ∙ is)

pub record Later (text : List ℕ) (i j : ℕ) : Type 0 where
  pub fits : j ≤ length text
  pub further : i < j
  pub same : word_from 0 i (drop i text) ≡ word_from 0 j (drop j text)

pub word_later : (text : List ℕ) (i j : ℕ) → i < length text → stands (drop i text) ≡ false → IsBehindName text i j
    → Later text i j
word_later text i j low other is =
    let b = get_or text i 0 in
    let rest = drop (i + 1) text in
    let k = inside_name b rest in
    let split = drop_more text i 0 low in
    let within = name-within b rest in
    let left = length-drop (i + 1) text in
    record {
      fits = omega arith;
      further = omega arith;
      same = ap (word_from 0 i) split
          ∙ one_byte i b rest (ap stands (sym split) ∙ other)
          ∙ passed k (i + 1) rest within
          ∙ ap (word_from 0 (i + 1 + k)) (drop-drop k (i + 1) text)
          ∙ ap (λ m. word_from 0 m (drop m text)) (sym is);
    }

pub word_none : (text : List ℕ) (i : ℕ) → length text ≤ i → word_from 0 i (drop i text) ≡ None
unfolding word_from
word_none text i past = ap (word_from 0 i) (drop_all i text past)

pub no_word_at : (text : List ℕ) (i : ℕ) → i < length text → (get_or text i 0 ≡ 112 → ⊥) → stands (drop i text) ≡ false
no_word_at text i low other = by (stands (drop i text)) refl
  where
    by : (b : Bool) → stands (drop i text) ≡ b → b ≡ false
    by false is = refl
    by true is =
        let front = starts_with-front (drop i text) word is in
        let split = drop_more text i 0 low in
        let heads = front ∙ ap (take 9) split in
        absurd (other (sym (same_head 112 (get_or text i 0) (codes "aritysol") (take 8 (drop (i + 1) text)) heads)))

-- the word stands where it is found, so its bytes do
record FitsAt (i : ℕ) (size : ℕ) (o : Option ℕ) : Type 0 where
  fits : (j : ℕ) → o ≡ Some j → j + 9 ≤ i + size

fits_from : (k i : ℕ) (xs : List ℕ) → FitsAt i (length xs) (word_from k i xs)
unfolding word_from
fits_from k i [] = record { fits = λ j is. absurd (cc) }
fits_from (suc k) i (b ∷ rest) =
    let f = fits_from k (i + 1) rest in record { fits = λ j is. let g = f.fits j is in omega arith }
fits_from zero i (b ∷ rest) =
    let f = fits_from (inside_name b rest) (i + 1) rest in
    cond_both (stands (b ∷ rest)) (Some i) (word_from (inside_name b rest) (i + 1) rest) (FitsAt i (suc (length rest)))
    (λ is. let long = starts_with-fits (b ∷ rest) word is in
    record { fits = λ j same. let e : i ≡ j = cc in omega arith })
    (λ other. record { fits = λ j is. let g = f.fits j is in omega arith })

pub sought_fits : (text : List ℕ) (i : ℕ) → word_sought text ≡ Some i → i + 9 ≤ length text
sought_fits text i is = let f = (fits_from 0 0 text).fits i is in omega arith
