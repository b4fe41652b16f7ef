-- Texts that begin with lines that were read.
--
--   goes_begin   == before anything is read, all of the text is left
--   goes_on      == the lines so far, and one more
--   one_line     == one line alone
--   HaveWords ls == each line has a word
--   have_words   == the lines of a text have
use Rattle.std.proofs.Common.{◌≡◌, ℕ, ◌+◌, ◌<◌, ◌≤◌, List, [], ◌∷◌, ◌++◌, length, map, refl, sym, ap, ◌∙◌, append_assoc, length-append, arith}
use Rattle.std.specs.List.{slice_split}
use Rattle.ml_lines.specs.Lines.{Line}
use Rattle.ml_lines.specs.Reading.{words_of, lines_of, left_of, fronts, is_blank, is_line_end}
use Rattle.ml_lines.specs.private.Fronts.{GoesOn}
use Rattle.ml_lines.proofs.Cuts.{some_part}

pub goes_begin : (text : List ℕ) → GoesOn text [] text
goes_begin text = record { lines_are = refl; left_is = refl; shorter = omega arith }

pub goes_on : (text : List ℕ) (lines : List Line) (rest : List ℕ) (line : Line) (behind : List ℕ)
    → GoesOn text lines rest
    → lines_of rest ≡ line ∷ lines_of behind → left_of rest ≡ left_of behind → length behind + 1 ≤ length rest
    → GoesOn text (lines ++ line ∷ []) behind
goes_on text lines rest line behind so_far begins left shorter = record {
  lines_are =
      so_far.lines_are ∙ ap (λ more. lines ++ more) begins ∙ sym (append_assoc lines (line ∷ []) (lines_of behind));
  left_is = so_far.left_is ∙ left;
  shorter = omega (arith, so_far.shorter, length-append lines (line ∷ []));
}

abbrev pub HaveWords : List Line → Type 0
HaveWords [] = Unit {0}
HaveWords (line ∷ lines) = (0 < length line) × HaveWords lines

parts_words : (parts : List (List ℕ)) → HaveWords (map words_of (fronts parts))
parts_words [] = tt
parts_words (part ∷ []) = tt
parts_words (part ∷ second ∷ parts) = (some_part is_blank part, parts_words (second ∷ parts))

pub have_words : (text : List ℕ) → HaveWords (lines_of text)
have_words text = parts_words (slice_split is_line_end text)
