-- The text of a structure, line by line.
--
--   state_written    == a state's line: the words so far, and the LF
--   states_text s rs  == the state lines of the rows rs, of which the first is the state s's
--   states_more      == what is written and what is left are the whole: so it stays by a further line
--   states_done      == and at the end the whole is written
use Rattle.std.proofs.Common.{◌≡◌, ℕ, ◌+◌, ◌<◌, ◌≤◌, List, [], ◌∷◌, ◌++◌, length, map, drop, get_or, codes, sym, ap, ◌∙◌, append_assoc}
use Rattle.std.specs.List.{flat_map, enumerate_from}
use Rattle.std.proofs.lemmas.List.{append-nil, drop_more, drop_all}
use Rattle.ml_lines.specs.Lines.{number, next, line_text, text_of}
use Rattle.ml_lines.proofs.Words.{line_text-words}
use Rattle.ml_kripke.specs.ModelText.{state_line}

pub state_written : (before words after : List ℕ) (s : ℕ) (labels : List (List ℕ))
    → words ≡ before ++ (codes "state" ++ (next (number s) ++ flat_map next labels)) → after ≡ words ++ 10 ∷ []
    → after ≡ before ++ line_text (state_line s labels)
state_written before words after s labels so_far ends =
    ends ∙ ap (λ written. written ++ 10 ∷ []) so_far
    ∙ append_assoc before (codes "state" ++ flat_map next (number s ∷ labels)) (10 ∷ [])
    ∙ ap (λ rest. before ++ rest) (append_assoc (codes "state") (flat_map next (number s ∷ labels)) (10 ∷ []))
    ∙ ap (λ line. before ++ line) (sym (line_text-words (codes "state") (number s ∷ labels)))

-- the state lines of a list of rows, of which the first is that of the state s
abbrev pub states_text : ℕ → List (List (List ℕ)) → List ℕ
states_text s rows = text_of (map (λ labelled. state_line labelled.0 labelled.1) (enumerate_from s rows))

pub states_more : (rows : List (List (List ℕ))) (s : ℕ) (row : List (List ℕ)) (written more all : List ℕ)
    → s < length rows → row ≡ get_or rows s row → written ++ states_text s (drop s rows) ≡ all
    → more ≡ written ++ line_text (state_line s row) → more ++ states_text (s + 1) (drop (s + 1) rows) ≡ all
states_more rows s row written more all here is so_far wrote =
    ap (λ front. front ++ states_text (s + 1) (drop (s + 1) rows)) wrote
    ∙ append_assoc written (line_text (state_line s row)) (states_text (s + 1) (drop (s + 1) rows))
    ∙ ap (λ first. written ++ (line_text (state_line s first) ++ states_text (s + 1) (drop (s + 1) rows))) is
    ∙ ap (λ rest. written ++ states_text s rest) (sym (drop_more rows s row here))
    ∙ so_far

pub states_done : (rows : List (List (List ℕ))) (s : ℕ) (written all : List ℕ) → length rows ≤ s
    → written ++ states_text s (drop s rows) ≡ all → written ≡ all
states_done rows s written all past so_far =
    sym (append-nil written) ∙ ap (λ rest. written ++ states_text s rest) (sym (drop_all s rows past)) ∙ so_far
