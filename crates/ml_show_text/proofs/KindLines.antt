-- The lines of a text that tell its kind.
--
--   first_of, second_of == the first line of a text, and the second one, which is the first of what stands behind that
--   none_of             == a text without lines has no bytes of them
use Rattle.std.proofs.Common.{◌≡◌, ℕ, List, [], ◌∷◌, slice_index_or, ap, ◌∙◌}
use Rattle.std.specs.List.{join_with_byte}
use Rattle.std.proofs.lemmas.List.Splits.{join_with_byte-slice_split}
use Rattle.ml_lines.specs.Lines.{Line}
use Rattle.ml_lines.specs.Reading.{lines_of, words_of}
use Rattle.ml_show_text.specs.Kinds.{line_at}

abbrev bytes_at : ℕ → List Line → List ℕ
bytes_at i lines = join_with_byte 32 (slice_index_or lines i [])

pub first_of : (text line rest : List ℕ) → lines_of text ≡ words_of line ∷ lines_of rest → line_at text 0 ≡ line
first_of text line rest begins = ap (bytes_at 0) begins ∙ join_with_byte-slice_split 32 line

pub second_of : (text line rest : List ℕ) → lines_of text ≡ words_of line ∷ lines_of rest → line_at text 1 ≡ line_at rest 0
second_of text line rest begins = ap (bytes_at 1) begins

pub none_of : (text : List ℕ) (i : ℕ) → lines_of text ≡ [] → line_at text i ≡ []
none_of text i none = ap (bytes_at i) none
