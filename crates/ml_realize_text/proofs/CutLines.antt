-- The lines of a text are cut out of it.
--
--   IsCut line       == a line's words are those of its bytes, which have no LF
--   cut_lines        == each line of a text is so
--   text_of_three    == three such lines are those of some text of a task
--   no_empty_line    == no line of a text is the line of no words
use Rattle.std.proofs.Common.{◌≡◌, ℕ, List, [], ◌∷◌, ◌++◌, length, map, ap, ◌∙◌, arith}
use Rattle.std.specs.List.{AllByRecursion, join_with_byte, slice_split}
use Rattle.std.proofs.lemmas.List.Splits.{join_with_byte-slice_split}
use Rattle.ml_lines.specs.Lines.{Line}
use Rattle.ml_lines.specs.Reading.{fronts, is_blank, is_line_end, left_of, lines_of, words_of}
use Rattle.ml_lines.proofs.Cuts.{some_part}
use Rattle.ml_lines.proofs.LineFronts.{IsInLine, line_front, lines_plain}
use Rattle.ml_task.specs.TaskText.{last_line, task_lines}

abbrev pub bytes_of : Line → List ℕ
bytes_of line = join_with_byte 32 line

pub record IsCut (line : Line) : Type 0 where
  pub words : words_of (bytes_of line) ≡ line
  pub in_line : IsInLine (bytes_of line)

cut_parts : (parts : List (List ℕ))
    → AllByRecursion (λ line. IsInLine (bytes_of line)) (map words_of parts)
    → AllByRecursion IsCut (map words_of parts)
cut_parts [] all = tt
cut_parts (part ∷ parts) all = (
  record { words = ap words_of (join_with_byte-slice_split 32 part); in_line = all.0 },
  cut_parts parts all.1,
)

pub cut_lines : (text : List ℕ) → AllByRecursion IsCut (lines_of text)
cut_lines text = cut_parts (fronts (slice_split is_line_end text)) (lines_plain text)

pub text_of_three : (l m n : Line) → IsCut l → IsCut m → IsCut n → (text : List ℕ) × (task_lines text ≡ l ∷ m ∷ n ∷ [])
text_of_three l m n first second third =
    let last = bytes_of n ++ 10 ∷ [] in
    let more = bytes_of m ++ 10 ∷ last in
    let a = line_front (bytes_of l) more first.in_line in
    let b = line_front (bytes_of m) last second.in_line in
    let c = line_front (bytes_of n) [] third.in_line in
    let lines : lines_of (bytes_of l ++ 10 ∷ more) ≡ l ∷ m ∷ n ∷ [] =
    a.0 ∙ ap (λ ls. words_of (bytes_of l) ∷ ls) (b.0 ∙ ap (λ ls. words_of (bytes_of m) ∷ ls) c.0)
    ∙ (λ i. first.words i ∷ second.words i ∷ third.words i ∷ []) in
    let left : left_of (bytes_of l ++ 10 ∷ more) ≡ [] = a.1 ∙ b.1 ∙ c.1 in
    (bytes_of l ++ 10 ∷ more, λ i. lines i ++ last_line (left i))

pub no_empty_line : (line : Line) → IsCut line → line ≡ [] → ⊥
no_empty_line line cut none =
    omega (arith, ap length (cut.words ∙ none), some_part is_blank (bytes_of line))
