-- What is asked of the words of a line is decided.
--
--   decided_line    == the equality of lines
--   decided_words   == that each word has a byte
--   decided_number  == that a word is a number
--   decided_behind  == that a line is a fixed word and one more
--   decided_front   == that a line begins with these words
use Rattle.std.proofs.Common.{◌≡◌, ◌^◌, ◌<◌, [], ◌∷◌, ◌++◌, inl, inr, refl, ap, ◌∙◌}
use Rattle.std.specs.List.{list_all}
use Rattle.ml_lines.specs.Lines.{Word, Line, number}
use Rattle.ml_lines.specs.Reading.{AreWords, IsNumber, IsWordBehind, is_word, value, word}
use Rattle.ml_lines.proofs.Numbers.{own_value}
use Rattle.ml_lists.proofs.Decided.{Decided, decided_both, decided_bytes, decided_less, decided_list, decided_same, decided_test}

pub decided_line : (l k : Line) → Decided (l ≡ k)
decided_line = decided_list decided_bytes

pub decided_words : (line : Line) → Decided (AreWords line)
decided_words line = decided_test (list_all is_word line)

-- a word is a number exactly where it is that of its value
pub decided_number : (w : Word) → Decided (IsNumber w)
decided_number w =
    decided_same (λ (h : (value w < 2 ^ 32) × (w ≡ number (value w))). (value w, h.0, h.1)) (own_value w)
    (decided_both (decided_less (value w) (2 ^ 32)) (decided_bytes w (number (value w))))

pub decided_behind : (fixed : Word) (line : Line) → Decided (IsWordBehind fixed line)
decided_behind fixed line = decided_both (decided_words line) (decided_line line (fixed ∷ word line 1 ∷ []))

pub decided_front : (ws line : Line) → Decided ((rest : Line) × (line ≡ ws ++ rest))
decided_front [] line = inl (line, refl)
decided_front (w ∷ ws) [] = inr (λ (rest, e). cc)
decided_front (w ∷ ws) (l ∷ line) = by (decided_bytes l w) (decided_front ws line)
  where
    by : Decided (l ≡ w)
        → Decided ((rest : Line) × (line ≡ ws ++ rest))
        → Decided ((rest : Line) × (l ∷ line ≡ w ∷ (ws ++ rest)))
    by (inr other) behind = inr (λ (rest, e). let same : l ≡ w = cc in other same)
    by (inl same) (inr none) = inr (λ (rest, e). let later : line ≡ ws ++ rest = cc in none (rest, later))
    by (inl same) (inl (rest, e)) = inl (rest, ap (λ v. v ∷ line) same ∙ ap (λ vs. w ∷ vs) e)
