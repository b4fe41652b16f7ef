-- The tokens of a text that is put together from pieces: blanks, and pieces that are tokens where they stand.
--
--   Spelt                == a token with its bytes
--   Scans w text ss      == the text is made of blanks and of the tokens ss, each the longest where it stands
--   scans_tokens         == then these are its tokens
use Rattle.std.proofs.Common.{◌≡◌, ℕ, zero, suc, ◌+◌, ◌-◌, ◌≤◌, true, false, List, [], ◌∷◌, ◌++◌, length, map, take, drop, refl, sym, ◌∙◌, ap, arith, length-append, drop-drop}
use Rattle.std.proofs.lemmas.Bool.{cond-false}
use Rattle.std.proofs.Math.Seq.{take-append_seam, drop-append_seam}
use Rattle.ml_text.specs.Bytes.{is_blank}
use Rattle.ml_text.specs.Tokens.{front_token, tokens_at, tokens_from, tokens}
use Rattle.ml_text.specs.declared.token.Token.{Token}
use Rattle.ml_text.specs.declared.token.WordStart.{WordStart}
use Rattle.ml_text.specs.declared.token.Placed.{Placed}
use Rattle.ml_text.proofs.Scan.{tokens_at-end, tokens_at-blank}

abbrev pub Spelt : Type 0
Spelt = Token × List ℕ

abbrev pub spelt_at : List ℕ → Placed → Spelt
spelt_at text p = (p.token, take (p.end - p.start) (drop p.start text))

pub data Scans (w : WordStart) : List ℕ → List Spelt → Type 0 where
  ends : Scans w [] []
  blank : {rest : List ℕ} {ss : List Spelt} (b : ℕ) → is_blank b ≡ true → Scans w rest ss → Scans w (b ∷ rest) ss
  piece : {rest : List ℕ} {ss : List Spelt} (t : Token) (b : ℕ) (bs : List ℕ)
      → is_blank b ≡ false
      → front_token w b (bs ++ rest) ≡ (t, suc (length bs))
      → Scans w rest ss
      → Scans w (b ∷ (bs ++ rest)) ((t, b ∷ bs) ∷ ss)

-- the token that stands at a place, and the others
at_piece : (n : ℕ) (w : WordStart) (i b : ℕ) (rest : List ℕ) (t : Token) (size : ℕ) → is_blank b ≡ false
    → front_token w b rest ≡ (t, size) → tokens_at (suc n) w i (b ∷ rest)
    ≡ (record { token = t; start = i; end = i + size }) ∷ tokens_at n w (i + size) (drop size (b ∷ rest))
unfolding tokens_at
at_piece n w i b rest t size other front =
    cond-false _ _ _ other
    ∙ ap (λ (f : Token × ℕ). (record { token = f.0; start = i; end = i + f.1 }) ∷ tokens_at n w (i + f.1)
    (drop f.1 (b ∷ rest))) front

spelt_piece : (text0 : List ℕ) (i : ℕ) (t : Token) (b : ℕ) (bs rest : List ℕ) → drop i text0 ≡ b ∷ (bs ++ rest)
    → spelt_at text0 (record { token = t; start = i; end = i + suc (length bs) }) ≡ (t, b ∷ bs)
spelt_piece text0 i t b bs rest there =
    let size : i + suc (length bs) - i ≡ suc (length bs) = omega arith in
    ap (λ n. (t, take n (drop i text0))) size ∙ ap (λ xs. (t, take (suc (length bs)) xs)) there
    ∙ ap (λ xs. (t, xs)) (take-append_seam (b ∷ bs) rest)

pub scans_at : (w : WordStart) {text : List ℕ} {ss : List Spelt}
    → Scans w text ss
    → (n i : ℕ)
    → length text ≤ n
    → (text0 : List ℕ)
    → drop i text0 ≡ text
    → map (spelt_at text0) (tokens_at n w i text) ≡ ss
scans_at w ends n i fits text0 there = ap (map (spelt_at text0)) (tokens_at-end n w i)
scans_at w (blank b is r) zero i fits text0 there = absurd (omega arith)
scans_at w (blank {rest = rest} b is r) (suc n) i fits text0 there =
    ap (map (spelt_at text0)) (tokens_at-blank n w i b rest is)
    ∙ scans_at w r n (i + 1) (omega arith) text0 (sym (drop-drop 1 i text0) ∙ ap (drop 1) there)
scans_at w (piece t b bs is front r) zero i fits text0 there = absurd (omega arith)
scans_at w (piece {rest = rest} t b bs is front r) (suc n) i fits text0 there =
    let next : drop (suc (length bs)) (b ∷ (bs ++ rest)) ≡ rest = drop-append_seam bs rest in
    ap (map (spelt_at text0)) (at_piece n w i b (bs ++ rest) t (suc (length bs)) is front)
    ∙ ap (λ s. s ∷ map (spelt_at text0) (tokens_at n w (i + suc (length bs))
    (drop (suc (length bs)) (b ∷ (bs ++ rest))))) (spelt_piece text0 i t b bs rest there)
    ∙ ap (λ xs. (t, b ∷ bs) ∷ map (spelt_at text0) (tokens_at n w (i + suc (length bs)) xs)) next
    ∙ ap (λ ss. (t, b ∷ bs) ∷ ss) (scans_at w r n (i + suc (length bs)) (omega (arith, length-append bs rest)) text0
    (sym (drop-drop (suc (length bs)) i text0) ∙ ap (drop (suc (length bs))) there ∙ next))

pub scans_tokens : (w : WordStart) (text : List ℕ) (ss : List Spelt)
    → Scans w text ss
    → map (spelt_at text) (tokens w text) ≡ ss
unfolding tokens tokens_from
scans_tokens w text ss r = scans_at w r (length text) 0 (omega arith) text refl
