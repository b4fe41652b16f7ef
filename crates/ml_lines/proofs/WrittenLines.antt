-- A written text has the lines that were written.
--
--   line_read   == the words of a plain line's bytes are its words
--   lines_read  == the lines of the text of plain lines are these lines, and nothing is left
--   text_read   == a text is that of its lines, and then what is left
use Rattle.std.proofs.Common.{◌≡◌, ◌==◌, ℕ, false, List, [], ◌∷◌, ◌++◌, map, All, refl, ap, ◌∙◌, append_assoc}
use Rattle.std.specs.List.{slice_split, join_with_byte}
use Rattle.std.proofs.lemmas.List.{append-nil}
use Rattle.std.proofs.lemmas.List.Elements.{All-nil, All-cons}
use Rattle.std.proofs.lemmas.List.Splits.{slice_split_none, slice_split_at, join_with_byte-slice_split}
use Rattle.std.proofs.lemmas.Bool.{or_parts}
use Rattle.ml_lines.specs.Lines.{Word, Line, line_text, text_of}
use Rattle.ml_lines.specs.Reading.{words_of, lines_of, left_of, fronts, last_part, is_blank, is_line_end}
use Rattle.ml_lines.proofs.Cuts.{some_part, fronts_more, last_more}
use Rattle.ml_lines.proofs.Unique.{has, avoids, ArePlain, body, no_end_in, text-cons}

no_place : (c : ℕ) (xs : List ℕ) → has c xs ≡ false → All (λ b. (b == c) ≡ false) xs
no_place c [] none = All-nil (λ (b : ℕ). (b == c) ≡ false)
no_place c (x ∷ xs) none =
    let parts = or_parts (x == c) (has c xs) none in
    All-cons (λ (b : ℕ). (b == c) ≡ false) x xs parts.0 (no_place c xs parts.1)

pub line_read : (word : Word) (words : Line) → avoids 32 (word ∷ words) → words_of (body word words) ≡ word ∷ words
line_read word [] ok = ap words_of (append-nil word) ∙ slice_split_none is_blank word (no_place 32 word ok.0)
line_read word (second ∷ words) ok =
    slice_split_at is_blank word 32 (body second words) (no_place 32 word ok.0) refl
    ∙ ap (λ rest. word ∷ rest) (line_read second words ok.1)

-- a line's bytes and an LF are its first part
cut_line : (bytes rest : List ℕ)
    → has 10 bytes ≡ false
    → slice_split is_line_end (bytes ++ 10 ∷ rest) ≡ bytes ∷ slice_split is_line_end rest
cut_line bytes rest none = slice_split_at is_line_end bytes 10 rest (no_place 10 bytes none) refl

pub lines_read : (lines : List Line)
    → ArePlain lines
    → (lines_of (text_of lines) ≡ lines) × (left_of (text_of lines) ≡ [])
lines_read [] ok = (refl, refl)
lines_read ([] ∷ lines) ok = absurd ok.0
lines_read ((word ∷ words) ∷ lines) ok =
    let rest = slice_split is_line_end (text_of lines) in
    let some = some_part is_line_end (text_of lines) in
    let cut = ap (slice_split is_line_end) (text-cons word words lines)
    ∙ cut_line (body word words) (text_of lines) (no_end_in word words ok.0.1) in
    let behind = lines_read lines ok.1 in (
      ap (λ parts. map words_of (fronts parts)) cut ∙ ap (map words_of) (fronts_more (body word words) rest some)
          ∙ ap (λ first. first ∷ lines_of (text_of lines)) (line_read word words ok.0.0)
          ∙ ap (λ more. (word ∷ words) ∷ more) behind.0,
      ap last_part cut ∙ last_more (body word words) rest some ∙ behind.1,
    )

line_back : (bytes : List ℕ) → line_text (words_of bytes) ≡ bytes ++ 10 ∷ []
line_back bytes = ap (λ line. line ++ 10 ∷ []) (join_with_byte-slice_split 32 bytes)

parts_back : (parts : List (List ℕ))
    → text_of (map words_of (fronts parts)) ++ last_part parts ≡ join_with_byte 10 parts
parts_back [] = refl
parts_back (part ∷ []) = refl
parts_back (part ∷ second ∷ parts) =
    append_assoc (line_text (words_of part)) (text_of (map words_of (fronts (second ∷ parts))))
    (last_part (second ∷ parts))
    ∙ ap (λ line. line ++ (text_of (map words_of (fronts (second ∷ parts))) ++ last_part (second ∷ parts)))
    (line_back part)
    ∙ append_assoc part (10 ∷ []) (text_of (map words_of (fronts (second ∷ parts))) ++ last_part (second ∷ parts))
    ∙ ap (λ more. part ++ 10 ∷ more) (parts_back (second ∷ parts))

pub text_read : (text : List ℕ) → text_of (lines_of text) ++ left_of text ≡ text
text_read text = parts_back (slice_split is_line_end text) ∙ join_with_byte-slice_split 10 text
