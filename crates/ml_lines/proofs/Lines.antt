-- Lines written one behind the other.
--
--   text_of-more  == a line, and then further lines, are all of them
--   text_of-last  == the last line
use Rattle.std.proofs.Common.{◌≡◌, ℕ, List, [], ◌∷◌, ◌++◌, sym, ap, ◌∙◌, append_assoc}
use Rattle.std.proofs.lemmas.List.{append-nil}
use Rattle.ml_lines.specs.Lines.{Line, line_text, text_of}

pub text_of-more : (before middle after : List ℕ) (line : Line) (lines : List Line)
    → middle ≡ before ++ line_text line → after ≡ middle ++ text_of lines → after ≡ before ++ text_of (line ∷ lines)
text_of-more before middle after line lines first others =
    others ∙ ap (λ text. text ++ text_of lines) first ∙ append_assoc before (line_text line) (text_of lines)

pub text_of-last : (before after : List ℕ) (line : Line) → after ≡ before ++ line_text line → after ≡ before ++ text_of (line ∷ [])
text_of-last before after line written = written ∙ ap (λ text. before ++ text) (sym (append-nil (line_text line)))
