-- A line, word by word.
--
--   line_text-words  == a line of at least one word is that word, a blank and a word for each further one, and the LF
--   line_of          == so is a line of two words and more, from the bytes that a writer appends
use Rattle.std.proofs.Common.{◌≡◌, [], ◌∷◌, ◌++◌, sym, ap, ◌∙◌, append_assoc}
use Rattle.std.specs.List.{flat_map, join_with_byte}
use Rattle.std.proofs.lemmas.List.{append-nil}
use Rattle.ml_lines.specs.Lines.{Word, Line, next, line_text}

join-words : (word : Word) (words : Line) → join_with_byte 32 (word ∷ words) ≡ word ++ flat_map next words
join-words word [] = sym (append-nil word)
join-words word (second ∷ words) = ap (λ rest. word ++ 32 ∷ rest) (join-words second words)

pub line_text-words : (word : Word) (words : Line) → line_text (word ∷ words) ≡ word ++ (flat_map next words ++ 10 ∷ [])
line_text-words word words =
    ap (λ joined. joined ++ 10 ∷ []) (join-words word words) ∙ append_assoc word (flat_map next words) (10 ∷ [])

-- a line of two words and more, from the bytes that a writer appends
pub line_of : (word second : Word) (words : Line)
    → word ++ (next second ++ (flat_map next words ++ 10 ∷ [])) ≡ line_text (word ∷ second ∷ words)
line_of word second words =
    ap (λ rest. word ++ rest) (sym (append_assoc (next second) (flat_map next words) (10 ∷ [])))
    ∙ sym (line_text-words word (second ∷ words))
