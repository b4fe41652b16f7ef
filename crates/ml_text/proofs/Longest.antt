-- The token at the front of a text that begins with no blank is its longest token, and no other token is.
use Rattle.std.proofs.Common.{◌≡◌, ℕ, zero, suc, ◌+◌, ◌<◌, ◌≤◌, Bool, true, false, List, ◌∷◌, length, take, get_or, Some, None, sym, refl, ap, ◌∙◌, subst, ⊎_elim, arith, length-take-le, get_or-take}
use Rattle.std.specs.List.{AllPass, take_while, prefix_len}
use Rattle.std.proofs.lemmas.Bool.{cases_lt, both_ways}
use Rattle.std.proofs.lemmas.List.Elements.{All-from_get_or}
use Rattle.std.proofs.lemmas.List.Folds.{length-prefix_len}
use Rattle.std.proofs.lemmas.List.Sums.{prefix_len-le-length, prefix_len_passes, prefix_len_stops}
use Rattle.ml_text.specs.Bytes.{is_blank, is_word_byte}
use Rattle.ml_text.specs.Words.{IsWordOf}
use Rattle.ml_text.specs.Tokens.{begins_word, signs, longest_sign, front_token}
use Rattle.ml_text.specs.Spelling.{IsSign, Spells, IsLongestToken}
use Rattle.ml_text.specs.declared.token.Token.{Token}
use Rattle.ml_text.specs.declared.token.Token.TheVariants as token
use Rattle.ml_text.specs.declared.token.WordStart.{WordStart}
use Rattle.ml_text.proofs.Signs.{AtLeast, longest_sign-found, longest_sign-longest, starts_with-front, starts_with-fits, front-starts_with}
use Rattle.ml_text.proofs.Scan.{front_by}
use Rattle.ml_text.proofs.Spelling.{IsByte, spells_by, spells-one, spells-some, sign-no_word, sign-spells}

-- a front whose elements all pass is no longer than the longest such front
passes-within : {X : Type 0} (p : X → Bool) (xs : List X) (d : X) (k : ℕ)
    → k ≤ length xs
    → AllPass p (take k xs)
    → k ≤ prefix_len p xs
passes-within p xs d k within all =
    ⊎_elim
    (λ (less : prefix_len p xs < k). let size = length-take-le k xs within in
    absurd (both_ways (p (get_or xs (prefix_len p xs) d)) (prefix_len_stops p xs d (omega arith))
    (sym (ap p (get_or-take k xs (prefix_len p xs) d less)) ∙ all (prefix_len p xs) d (omega arith))))
    (λ (enough : k ≤ prefix_len p xs). enough)
    (cases_lt (prefix_len p xs) k)

-- the longest front of word bytes is one
passes-front : {X : Type 0} (p : X → Bool) (xs : List X) (d : X) → AllPass p (take_while p xs)
passes-front p xs d =
    All-from_get_or (λ x. p x ≡ true) (take_while p xs) d
    (λ i below. let long = length-prefix_len p xs in let inside : i < prefix_len p xs = omega arith in
    ap p (get_or-take (prefix_len p xs) xs i d inside) ∙ prefix_len_passes p xs i d inside)

module _ (w : WordStart) (b : ℕ) (rest : List ℕ) where
  -- a front of the text that is a single byte
  byte_front : (m c : ℕ) → m ≤ length (b ∷ rest) → IsByte w (take m (b ∷ rest)) c → m ≡ 1
  byte_front m c within byte = let one = ap length byte.alone in let size = length-take-le m (b ∷ rest) within in
      omega arith

  -- a front of the text that is a word
  word_front : (m : ℕ) → begins_word w b ≡ false → IsWordOf w (take m (b ∷ rest)) → ⊥
  word_front zero no_word word = word
  word_front (suc k) no_word word = both_ways (begins_word w b) no_word word.0

  -- a front of the text that is a sign
  sign_front : (m : ℕ) (t : Token)
      → m ≤ length (b ∷ rest)
      → IsSign (take m (b ∷ rest)) t
      → AtLeast m (longest_sign signs (b ∷ rest))
  sign_front m t within sign =
      let size = length-take-le m (b ∷ rest) within in
      let starts = front-starts_with (b ∷ rest) (take m (b ∷ rest)) (ap (λ k. take k (b ∷ rest)) (sym size)) in
      subst (λ k. AtLeast k (longest_sign signs (b ∷ rest))) size
      (longest_sign-longest signs (b ∷ rest) (take m (b ∷ rest), t) sign starts)

  -- where a word begins
  word_longest : begins_word w b ≡ true
      → IsLongestToken w (b ∷ rest) token.Word (1 + length (take_while is_word_byte rest))
  word_longest begins =
      let size = length-prefix_len is_word_byte rest in
      let short = prefix_len-le-length is_word_byte rest in
      let next : 1 + length (take_while is_word_byte rest) ≡ suc (prefix_len is_word_byte rest) = omega arith in
      record {
        fits = omega arith;
        spells = subst (λ k. IsWordOf w (take k (b ∷ rest))) (sym next) (begins, passes-front is_word_byte rest 0);
        longest = λ m u within spells. longer m u within spells (omega (arith));
      }
    where
      longer : (m : ℕ) (u : Token)
          → m ≤ length (b ∷ rest)
          → Spells w (take m (b ∷ rest)) u
          → 1 + prefix_len is_word_byte rest ≡ 1 + length (take_while is_word_byte rest)
          → m ≤ 1 + length (take_while is_word_byte rest)
      longer zero u within spells size = omega arith
      longer (suc k) u within spells size =
          spells_by w (b ∷ take k rest) (λ _. suc k ≤ 1 + length (take_while is_word_byte rest))
          (λ word. let enough = passes-within is_word_byte rest 0 k (omega arith) word.1 in omega arith)
          (λ t sign. absurd (sign-no_word w b (take k rest) t sign begins))
          (λ c byte. let one = byte_front (suc k) c within byte in omega arith)
          u spells

  -- where a sign stands
  sign_longest : (best : Token × ℕ)
      → begins_word w b ≡ false
      → longest_sign signs (b ∷ rest) ≡ Some best
      → IsLongestToken w (b ∷ rest) best.0 best.1
  sign_longest best no_word is =
      let found = longest_sign-found signs (b ∷ rest) best is in
      let fits = starts_with-fits (b ∷ rest) found.spelling found.starts in
      let some = spells-some w found.spelling best.0 (sign-spells w found.spelling best.0 found.listed) in
      let front = starts_with-front (b ∷ rest) found.spelling found.starts ∙ ap (λ k. take k (b ∷ rest)) found.long in
      record {
        fits = omega (arith, found.long);
        spells = sign-spells w (take best.1 (b ∷ rest)) best.0 (subst (λ s. IsSign s best.0) front found.listed);
        longest = λ m u within spells.
            spells_by w (take m (b ∷ rest)) (λ _. m ≤ best.1)
            (λ word. absurd (word_front m no_word word))
            (λ t sign. let a = sign_front m t within sign in let same : a.best ≡ best = cc (a.is, is) in
            omega (arith, a.long, ap (λ x. x.1) same))
            (λ c byte. let one = byte_front m c within byte in omega (arith, found.long))
            u spells;
      }

  -- where neither a word nor a sign stands
  byte_longest : is_blank b ≡ false
      → begins_word w b ≡ false
      → longest_sign signs (b ∷ rest) ≡ None
      → IsLongestToken w (b ∷ rest) (token.Byte b) 1
  byte_longest no_blank no_word is = record {
    fits = omega arith;
    spells = (refl, no_blank, no_word, λ t sign. no_sign 1 t (omega arith) sign);
    longest = λ m u within spells.
        spells_by w (take m (b ∷ rest)) (λ _. m ≤ 1)
        (λ word. absurd (word_front m no_word word))
        (λ t sign. absurd (no_sign m t within sign))
        (λ c byte. let one = byte_front m c within byte in omega arith)
        u spells;
  }
    where
      no_sign : (m : ℕ) (t : Token) → m ≤ length (b ∷ rest) → IsSign (take m (b ∷ rest)) t → ⊥
      no_sign m t within sign = let a = sign_front m t within sign in let clash : Some a.best ≡ None = sym a.is
          ∙ is in cc

  -- the token at the front is the longest
  pub front_token-longest : is_blank b ≡ false
      → IsLongestToken w (b ∷ rest) (front_token w b rest).0 (front_token w b rest).1
  front_token-longest no_blank =
      front_by w b rest (λ front. IsLongestToken w (b ∷ rest) front.0 front.1) word_longest
      sign_longest
      (byte_longest no_blank)

-- two tokens that are longest at one place are the same
pub longest-one : (w : WordStart) (text : List ℕ) (t u : Token) (n m : ℕ)
    → IsLongestToken w text t n
    → IsLongestToken w text u m
    → (n ≡ m) × (t ≡ u)
longest-one w text t u n m first second =
    let below : n ≤ m = second.longest n t first.fits first.spells in
    let above : m ≤ n = first.longest m u second.fits second.spells in
    let same : m ≡ n = omega arith in
    (sym same, spells-one w (take n text) t u first.spells (subst (λ k. Spells w (take k text) u) same second.spells))
