-- What is written word by word, and line by line.
--
--   line_written    == a line of a word and further ones
--   step_written    == the line of a step
--   answer_written  == the line of a next state
--   five_written    == five lines one after the other
--   rows_more       == of the lines of the entries of a list with their places: what is written and what is left are the whole
use Rattle.std.proofs.Common.{◌≡◌, ℕ, ◌+◌, ◌<◌, List, [], ◌∷◌, ◌++◌, length, drop, get_or, sym, ap, ◌∙◌, append_assoc}
use Rattle.std.specs.List.{flat_map, enumerate_from}
use Rattle.std.proofs.lemmas.Grind.{flat_map-append}
use Rattle.std.proofs.lemmas.List.{append-nil, drop_more}
use Rattle.ml_lines.specs.Lines.{Line, Word, line_text, next, text_of}
use Rattle.ml_lines.proofs.Words.{line_text-words}

-- further words, and the end of the line
abbrev rest_of : List Word → List ℕ
rest_of ws = flat_map next ws ++ 10 ∷ []

behind : (vs ws : List Word) → rest_of (vs ++ ws) ≡ flat_map next vs ++ rest_of ws
behind vs ws =
    ap (λ bytes. bytes ++ 10 ∷ []) (flat_map-append next vs ws)
    ∙ append_assoc (flat_map next vs) (flat_map next ws) (10 ∷ [])

-- what is written behind a word
word_line : (w : Word) (ws : List Word) → line_text (w ∷ ws) ≡ w ++ rest_of ws
word_line w ws = line_text-words w ws

pub line_written : (w : Word) (ws : List Word) (out first second whole : List ℕ)
    → first ≡ out ++ w
    → second ≡ first ++ flat_map next ws
    → whole ≡ second ++ 10 ∷ []
    → whole ≡ out ++ line_text (w ∷ ws)
line_written w ws out first second whole a b c =
    c
    ∙ ap (λ o. o ++ 10 ∷ []) (b ∙ ap (λ o. o ++ flat_map next ws) a)
    ∙ append_assoc (out ++ w) (flat_map next ws) (10 ∷ [])
    ∙ append_assoc out w (rest_of ws)
    ∙ ap (λ bytes. out ++ bytes) (sym (word_line w ws))

pub answer_written : (w : Word) (vs ws : List Word) (out first second whole : List ℕ)
    → first ≡ out ++ w
    → second ≡ first ++ flat_map next vs
    → whole ≡ second ++ rest_of ws
    → whole ≡ out ++ line_text (w ∷ (vs ++ ws))
answer_written w vs ws out first second whole a b c =
    c
    ∙ ap (λ o. o ++ rest_of ws) (b ∙ ap (λ o. o ++ flat_map next vs) a)
    ∙ append_assoc (out ++ w) (flat_map next vs) (rest_of ws)
    ∙ append_assoc out w (flat_map next vs ++ rest_of ws)
    ∙ ap (λ bytes. out ++ bytes) (ap (λ rest. w ++ rest) (sym (behind vs ws)) ∙ sym (word_line w (vs ++ ws)))

pub step_written : (w v : Word) (us bs ws : List Word) (out first second third fourth whole : List ℕ)
    → first ≡ out ++ w
    → second ≡ first ++ flat_map next us
    → third ≡ second ++ next v
    → fourth ≡ third ++ flat_map next bs
    → whole ≡ fourth ++ rest_of ws
    → whole ≡ out ++ line_text (w ∷ (us ++ v ∷ (bs ++ ws)))
step_written w v us bs ws out first second third fourth whole a b c d e =
    answer_written w us (v ∷ (bs ++ ws)) out first second whole a b
    (e
    ∙ ap (λ o. o ++ rest_of ws) (d ∙ ap (λ o. o ++ flat_map next bs) c)
    ∙ append_assoc (second ++ next v) (flat_map next bs) (rest_of ws)
    ∙ append_assoc second (next v) (flat_map next bs ++ rest_of ws)
    ∙ ap (λ rest. second ++ rest)
    (ap (λ rest. next v ++ rest) (sym (behind bs ws)) ∙ sym (append_assoc (next v) (flat_map next (bs ++ ws)) (10 ∷ []))))

-- ---- several lines

one_line : (l : Line) (ls : List Line) (out : List ℕ) → (out ++ line_text l) ++ text_of ls ≡ out ++ text_of (l ∷ ls)
one_line l ls out = append_assoc out (line_text l) (text_of ls)

pub five_written : (a b c d e : Line) (out o1 o2 o3 o4 o5 : List ℕ)
    → o1 ≡ out ++ line_text a
    → o2 ≡ o1 ++ line_text b
    → o3 ≡ o2 ++ line_text c
    → o4 ≡ o3 ++ line_text d
    → o5 ≡ o4 ++ line_text e
    → o5 ≡ out ++ text_of (a ∷ b ∷ c ∷ d ∷ e ∷ [])
five_written a b c d e out o1 o2 o3 o4 o5 wa wb wc wd we =
    we
    ∙ ap (λ o. o ++ line_text e) wd
    ∙ ap (λ rest. (o3 ++ line_text d) ++ rest) (sym (append-nil (line_text e)))
    ∙ one_line d (e ∷ []) o3
    ∙ ap (λ o. o ++ text_of (d ∷ e ∷ [])) wc
    ∙ one_line c (d ∷ e ∷ []) o2
    ∙ ap (λ o. o ++ text_of (c ∷ d ∷ e ∷ [])) wb
    ∙ one_line b (c ∷ d ∷ e ∷ []) o1
    ∙ ap (λ o. o ++ text_of (b ∷ c ∷ d ∷ e ∷ [])) wa
    ∙ one_line a (b ∷ c ∷ d ∷ e ∷ []) out

-- ---- lines with their places

pub rows_more : {X : Type 0} (f : ℕ × X → List Line) (xs : List X) (i : ℕ) (d : X) (written more all : List ℕ)
    → i < length xs
    → written ++ text_of (flat_map f (enumerate_from i (drop i xs))) ≡ all
    → more ≡ written ++ text_of (f (i, get_or xs i d))
    → more ++ text_of (flat_map f (enumerate_from (i + 1) (drop (i + 1) xs))) ≡ all
rows_more f xs i d written more all low so_far wrote =
    let rest = flat_map f (enumerate_from (i + 1) (drop (i + 1) xs)) in
    let one = f (i, get_or xs i d) in
    ap (λ o. o ++ text_of rest) wrote
    ∙ append_assoc written (text_of one) (text_of rest)
    ∙ ap (λ o. written ++ o) (sym (flat_map-append line_text one rest))
    ∙ ap (λ ys. written ++ text_of (flat_map f (enumerate_from i ys))) (sym (drop_more xs i d low))
    ∙ so_far
