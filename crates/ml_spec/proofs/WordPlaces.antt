-- The words of a text, taken one after the other, and where they stand.
--
--   is_filled bs     == bs begins with no blank
--   word_here        == where bs begins with no blank, its first word is the first of its words, and the others are those behind it
--   no_words         == where a text begins with a blank or not at all, its words are those behind its blanks
--   InOrder k end ws == the words ws stand at places from k on and before `end`, in their order
--   words_in_order   == so do those of a text
--   some_words       == a text that begins with no blank has a word, if it has a byte
use Rattle.std.proofs.Common.{◌≡◌, ℕ, suc, ◌+◌, ◌-◌, ◌<◌, ◌≤◌, Bool, true, false, not, cond, List, [], ◌∷◌, length, drop, refl, sym, ◌∙◌, ap, subst, arith, length-drop}
use Rattle.std.specs.Prelude.{⊤}
use Rattle.std.proofs.lemmas.Bool.{cond-true, cond-false}
use Rattle.std.proofs.lemmas.List.Sums.{prefix_len-le-length}
use Rattle.std.specs.List.{position_or_len, prefix_len}
use Rattle.ml_text.specs.Bytes.{is_blank}
use Rattle.ml_spec.specs.Items.{behind_word, first_word, without_blanks}
use Rattle.ml_spec.specs.Words.{placed_words, words_from}

-- ---- one byte

blank_more : (s : Bool) (at b : ℕ) (bs : List ℕ) → is_blank b ≡ true → words_from s at (b ∷ bs) ≡ words_from false (at + 1) bs
blank_more s at b bs e = cond-true _ _ _ e

inside_more : (at b : ℕ) (bs : List ℕ) → is_blank b ≡ false → words_from true at (b ∷ bs) ≡ words_from true (at + 1) bs
inside_more at b bs e = cond-false _ _ _ e

begins_word : (at b : ℕ) (bs : List ℕ)
    → is_blank b ≡ false
    → words_from false at (b ∷ bs) ≡ (at, first_word (b ∷ bs)) ∷ words_from true (at + 1) bs
begins_word at b bs e = cond-false _ _ _ e

-- ---- blanks and words passed

behind_word_inside : (at : ℕ) (bs : List ℕ)
    → words_from true at bs ≡ words_from false (at + position_or_len is_blank bs) (drop (position_or_len is_blank bs) bs)
behind_word_inside at [] = refl
behind_word_inside at (b ∷ bs) = by (is_blank b) refl (behind_word_inside (at + 1) bs)
  where
    by : (t : Bool)
        → is_blank b ≡ t
        → words_from true (at + 1) bs
        ≡ words_from false (at + 1 + position_or_len is_blank bs) (drop (position_or_len is_blank bs) bs)
        → words_from true at (b ∷ bs)
        ≡ words_from false (at + position_or_len is_blank (b ∷ bs)) (drop (position_or_len is_blank (b ∷ bs)) (b ∷ bs))
    by true e rest =
        let here : position_or_len is_blank (b ∷ bs) ≡ 0 = ap (λ t. cond (not t) (1 + position_or_len is_blank bs) 0) e in
        let same : at ≡ at + 0 = omega arith in
        subst (λ n. words_from true at (b ∷ bs) ≡ words_from false (at + n) (drop n (b ∷ bs))) (sym here)
        (blank_more true at b bs e ∙ sym (blank_more false at b bs e) ∙ ap (λ k. words_from false k (b ∷ bs)) same)
    by false e rest =
        let n = position_or_len is_blank bs in
        let one_more : position_or_len is_blank (b ∷ bs) ≡ 1 + n = ap (λ t. cond (not t) (1 + n) 0) e in
        let here : position_or_len is_blank (b ∷ bs) ≡ suc n = omega (arith, one_more) in
        let same : at + 1 + n ≡ at + suc n = omega arith in
        subst (λ n. words_from true at (b ∷ bs) ≡ words_from false (at + n) (drop n (b ∷ bs))) (sym here)
        (inside_more at b bs e ∙ rest ∙ ap (λ k. words_from false k (drop n bs)) same)

behind_blanks : (at : ℕ) (bs : List ℕ)
    → words_from false at bs ≡ words_from false (at + prefix_len is_blank bs) (drop (prefix_len is_blank bs) bs)
behind_blanks at [] = refl
behind_blanks at (b ∷ bs) = by (is_blank b) refl (behind_blanks (at + 1) bs)
  where
    by : (t : Bool)
        → is_blank b ≡ t
        → words_from false (at + 1) bs
        ≡ words_from false (at + 1 + prefix_len is_blank bs) (drop (prefix_len is_blank bs) bs)
        → words_from false at (b ∷ bs)
        ≡ words_from false (at + prefix_len is_blank (b ∷ bs)) (drop (prefix_len is_blank (b ∷ bs)) (b ∷ bs))
    by true e rest =
        let n = prefix_len is_blank bs in
        let one_more : prefix_len is_blank (b ∷ bs) ≡ 1 + n = ap (λ t. cond t (1 + n) 0) e in
        let here : prefix_len is_blank (b ∷ bs) ≡ suc n = omega (arith, one_more) in
        let same : at + 1 + n ≡ at + suc n = omega arith in
        subst (λ n. words_from false at (b ∷ bs) ≡ words_from false (at + n) (drop n (b ∷ bs))) (sym here)
        (blank_more false at b bs e ∙ rest ∙ ap (λ k. words_from false k (drop n bs)) same)
    by false e rest =
        let here : prefix_len is_blank (b ∷ bs) ≡ 0 = ap (λ t. cond t (1 + prefix_len is_blank bs) 0) e in
        let same : at ≡ at + 0 = omega arith in
        subst (λ n. words_from false at (b ∷ bs) ≡ words_from false (at + n) (drop n (b ∷ bs))) (sym here)
        (ap (λ k. words_from false k (b ∷ bs)) same)

-- ---- the next word

abbrev pub is_filled : List ℕ → Type 0
is_filled bs = without_blanks bs ≡ bs

pub blanks_filled : (bs : List ℕ) → is_filled (without_blanks bs)
blanks_filled [] = refl
blanks_filled (b ∷ bs) = by (is_blank b) refl (blanks_filled bs)
  where
    by : (t : Bool) → is_blank b ≡ t → is_filled (without_blanks bs) → is_filled (without_blanks (b ∷ bs))
    by true e rest =
        let n = prefix_len is_blank bs in
        let one_more : prefix_len is_blank (b ∷ bs) ≡ 1 + n = ap (λ t. cond t (1 + n) 0) e in
        let here : prefix_len is_blank (b ∷ bs) ≡ suc n = omega (arith, one_more) in
        subst (λ k. is_filled (drop k (b ∷ bs))) (sym here) rest
    by false e rest =
        let here : prefix_len is_blank (b ∷ bs) ≡ 0 = ap (λ t. cond t (1 + prefix_len is_blank bs) 0) e in
        subst (λ k. is_filled (drop k (b ∷ bs))) (sym here) (ap (λ k. drop k (b ∷ bs)) here)

filled_head : (b : ℕ) (bs : List ℕ) → is_filled (b ∷ bs) → is_blank b ≡ false
filled_head b bs filled = by (is_blank b) refl
  where
    by : (t : Bool) → is_blank b ≡ t → is_blank b ≡ false
    by false e = e
    by true e =
        let n = prefix_len is_blank bs in
        let one_more : prefix_len is_blank (b ∷ bs) ≡ 1 + n = ap (λ t. cond t (1 + n) 0) e in
        let short : length (drop (prefix_len is_blank (b ∷ bs)) (b ∷ bs)) ≡ length (b ∷ bs) = ap length filled in
        absurd (omega (arith, one_more, short, length-drop (prefix_len is_blank (b ∷ bs)) (b ∷ bs)))

pub behind_fits : (bs : List ℕ) → length (behind_word bs) ≤ length bs
behind_fits bs =
    let n = position_or_len is_blank bs in
    omega (arith, length-drop (prefix_len is_blank (drop n bs)) (drop n bs), length-drop n bs)

pub behind_filled : (bs : List ℕ) → is_filled (behind_word bs)
behind_filled bs = blanks_filled (drop (position_or_len is_blank bs) bs)

pub behind_less : (b : ℕ) (bs : List ℕ) → is_filled (b ∷ bs) → length (behind_word (b ∷ bs)) < length (b ∷ bs)
behind_less b bs filled =
    let n = position_or_len is_blank bs in
    let one_more : position_or_len is_blank (b ∷ bs) ≡ 1 + n = ap (λ t. cond (not t) (1 + n) 0) (filled_head b bs filled) in
    let k = position_or_len is_blank (b ∷ bs) in
    omega (
      arith,
      one_more,
      length-drop (prefix_len is_blank (drop k (b ∷ bs))) (drop k (b ∷ bs)),
      length-drop k (b ∷ bs),
    )

pub word_here : (at b : ℕ) (bs : List ℕ)
    → is_filled (b ∷ bs)
    → placed_words at (b ∷ bs)
    ≡ (at, first_word (b ∷ bs))
    ∷ placed_words (at + (length (b ∷ bs) - length (behind_word (b ∷ bs)))) (behind_word (b ∷ bs))
word_here at b bs filled =
    let head = filled_head b bs filled in
    let n = position_or_len is_blank bs in
    let m = prefix_len is_blank (drop n bs) in
    let k = position_or_len is_blank (b ∷ bs) in
    let one_more : k ≡ 1 + n = ap (λ t. cond (not t) (1 + n) 0) head in
    let next : k ≡ suc n = omega (arith, one_more) in
    let rest : behind_word (b ∷ bs) ≡ drop m (drop n bs) = ap (λ j. without_blanks (drop j (b ∷ bs))) next in
    let size = length-drop m (drop n bs) in
    let size_before = length-drop n bs in
    let within = prefix_len-le-length is_blank (drop n bs) in
    let within_before = prefix_len-le-length (λ x. not (is_blank x)) bs in
    let place : at + 1 + n + m ≡ at + (length (b ∷ bs) - length (drop m (drop n bs))) =
    omega (arith, size, size_before, within, within_before) in
    begins_word at b bs head
    ∙ ap (λ ws. (at, first_word (b ∷ bs)) ∷ ws)
    (behind_word_inside (at + 1) bs ∙ behind_blanks (at + 1 + n) (drop n bs)
    ∙ ap (λ j. words_from false j (drop m (drop n bs))) place
    ∙ ap (λ r. words_from false (at + (length (b ∷ bs) - length r)) r) (sym rest))

pub no_words : (at : ℕ) (bs : List ℕ)
    → placed_words at bs ≡ placed_words (at + (length bs - length (without_blanks bs))) (without_blanks bs)
no_words at bs =
    let n = prefix_len is_blank bs in
    let size = length-drop n bs in
    let within = prefix_len-le-length is_blank bs in
    let place : at + n ≡ at + (length bs - length (drop n bs)) = omega (arith, size, within) in
    behind_blanks at bs ∙ ap (λ j. words_from false j (drop n bs)) place

-- ---- places

abbrev pub InOrder : ℕ → ℕ → List (ℕ × List ℕ) → Type 0
InOrder k end [] = ⊤
InOrder k end (w ∷ ws) = (k ≤ w.0) × (w.0 < end) × InOrder (w.0 + 1) end ws

lower : (j k end : ℕ) (ws : List (ℕ × List ℕ)) → j ≤ k → InOrder k end ws → InOrder j end ws
lower j k end [] le order = tt
lower j k end (w ∷ ws) le order = (omega (arith, le, order.0), order.1, order.2)

words_ordered : (s : Bool) (at end : ℕ) (bs : List ℕ) → at + length bs ≤ end → InOrder at end (words_from s at bs)
words_ordered s at end [] le = tt
words_ordered s at end (b ∷ bs) le =
    by (is_blank b) refl s (words_ordered false (at + 1) end bs (omega (arith, le)))
    (words_ordered true (at + 1) end bs (omega (arith, le)))
  where
    up : (ws : List (ℕ × List ℕ)) → InOrder (at + 1) end ws → InOrder at end ws
    up ws order = lower at (at + 1) end ws (omega arith) order

    by : (t : Bool)
        → is_blank b ≡ t
        → (s : Bool)
        → InOrder (at + 1) end (words_from false (at + 1) bs)
        → InOrder (at + 1) end (words_from true (at + 1) bs)
        → InOrder at end (words_from s at (b ∷ bs))
    by true e s outer inner =
        subst (InOrder at end) (sym (blank_more s at b bs e)) (up (words_from false (at + 1) bs) outer)
    by false e true outer inner =
        subst (InOrder at end) (sym (inside_more at b bs e)) (up (words_from true (at + 1) bs) inner)
    by false e false outer inner =
        let here : at ≤ at = omega arith in
        let below : at < end = omega (arith, le) in
        subst (InOrder at end) (sym (begins_word at b bs e)) (here, below, inner)

pub words_in_order : (at : ℕ) (bs : List ℕ) → InOrder at (at + length bs) (placed_words at bs)
words_in_order at bs = words_ordered false at (at + length bs) bs (omega arith)
