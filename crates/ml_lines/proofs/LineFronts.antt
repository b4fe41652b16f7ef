-- A text and its first line.
--
--   IsInLine bytes  == no byte is an LF
--   none_passes     == where not any byte passes a test, each fails it
--   onto_plain, parts_plain == no part of a text that is cut at its LFs has one
--   lines_plain     == no line of a text has an LF
--   line_front      == a line in front of a text is its first line
use Rattle.std.proofs.Common.{◌≡◌, ℕ, Bool, true, false, ◌||◌, List, [], ◌∷◌, ◌++◌, map, All, refl, sym, ap, subst, ◌∙◌}
use Rattle.std.specs.List.{slice_split, join_with_byte, AllByRecursion, list_any, onto_first}
use Rattle.std.proofs.lemmas.List.Elements.{All-nil, All-cons}
use Rattle.std.proofs.lemmas.List.Splits.{slice_split_at, slice_split-cons_yes, slice_split-cons_no, join_with_byte-slice_split}
use Rattle.std.proofs.lemmas.Bool.{or_parts}
use Rattle.ml_lines.specs.Reading.{words_of, lines_of, left_of, fronts, last_part, is_line_end}
use Rattle.ml_lines.proofs.Cuts.{some_part, fronts_more, last_more}

abbrev pub IsInLine : List ℕ → Type 0
IsInLine bytes = list_any is_line_end bytes ≡ false

-- ---- a line in front

pub none_passes : (p : ℕ → Bool) (bytes : List ℕ) → list_any p bytes ≡ false → All (λ b. p b ≡ false) bytes
none_passes p [] is = All-nil (λ (b : ℕ). p b ≡ false)
none_passes p (b ∷ bs) is =
    let parts = or_parts (p b) (list_any p bs) is in
    All-cons (λ (c : ℕ). p c ≡ false) b bs parts.0 (none_passes p bs parts.1)

pub line_front : (bytes rest : List ℕ) → IsInLine bytes
    → (lines_of (bytes ++ 10 ∷ rest) ≡ words_of bytes ∷ lines_of rest) × (left_of (bytes ++ 10 ∷ rest) ≡ left_of rest)
line_front bytes rest is =
    let cut = slice_split_at is_line_end bytes 10 rest (none_passes is_line_end bytes is) refl in
    let parts = slice_split is_line_end rest in
    let some = some_part is_line_end rest in (
      ap (λ ps. map words_of (fronts ps)) cut ∙ ap (map words_of) (fronts_more bytes parts some),
      ap last_part cut ∙ last_more bytes parts some,
    )

-- ---- the lines of a text

pub onto_plain : (x : ℕ) (parts : List (List ℕ))
    → is_line_end x ≡ false
    → AllByRecursion IsInLine parts
    → AllByRecursion IsInLine (onto_first x parts)
onto_plain x [] other all = (ap (λ b. b || false) other, tt)
onto_plain x (part ∷ parts) other all = (ap (λ b. b || list_any is_line_end part) other ∙ all.0, all.1)

pub parts_plain : (text : List ℕ) → AllByRecursion IsInLine (slice_split is_line_end text)
parts_plain [] = (refl, tt)
parts_plain (x ∷ xs) = go (is_line_end x) refl (parts_plain xs)
  where
    go : (b : Bool)
        → is_line_end x ≡ b
        → AllByRecursion IsInLine (slice_split is_line_end xs)
        → AllByRecursion IsInLine (slice_split is_line_end (x ∷ xs))
    go true is rest = subst (AllByRecursion IsInLine) (sym (slice_split-cons_yes is_line_end x xs is)) (refl, rest)
    go false is rest =
        subst (AllByRecursion IsInLine) (sym (slice_split-cons_no is_line_end x xs is))
        (onto_plain x (slice_split is_line_end xs) is rest)

lines_in : (parts : List (List ℕ)) → AllByRecursion IsInLine parts
    → AllByRecursion (λ line. IsInLine (join_with_byte 32 line)) (map words_of (fronts parts))
lines_in [] all = tt
lines_in (part ∷ []) all = tt
lines_in (part ∷ second ∷ parts) all =
    (subst IsInLine (sym (join_with_byte-slice_split 32 part)) all.0, lines_in (second ∷ parts) all.1)

pub lines_plain : (text : List ℕ) → AllByRecursion (λ line. IsInLine (join_with_byte 32 line)) (lines_of text)
lines_plain text = lines_in (slice_split is_line_end text) (parts_plain text)
