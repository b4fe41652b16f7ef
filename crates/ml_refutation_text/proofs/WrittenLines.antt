-- Lines that are written word by word, and texts that are written part by part.
--
--   line_written     == a first word, further words each behind a blank, and an LF are a line
--   four_parts, rows_written, two_parts, tables_written == what is written part by part
--   entries_more, entries_done == the texts of entries, one more of which was written
use Rattle.std.proofs.Common.{◌≡◌, ℕ, ◌+◌, ◌<◌, ◌≤◌, List, [], ◌∷◌, ◌++◌, length, map, get_or, drop, sym, ap, ◌∙◌, append_assoc}
use Rattle.std.specs.List.{flat_map}
use Rattle.std.proofs.lemmas.Grind.{flat_map-append}
use Rattle.std.proofs.lemmas.List.{append-nil, drop_more, drop_all}
use Rattle.ml_lines.specs.Lines.{Word, Line, number, next, line_text, text_of}
use Rattle.ml_lines.proofs.Words.{line_text-words}
use Rattle.ml_refutation.specs.Refutation.{Entry}
use Rattle.ml_refutation_text.specs.RefutationText.{sequents_line, stacks_line, sequent_line, stack_line}
use Rattle.ml_refutation_text.specs.WrittenText.{Writing, by_tables, entry_lines, entries_lines, table_lines, last_lines, lines_by_tables}
use Rattle.ml_refutation_text.specs.Canonical.{sequents_of, stacks_of}

pub line_written : (before words after : List ℕ) (first : Word) (others : List Word)
    → words ≡ before ++ (first ++ flat_map next others) → after ≡ words ++ 10 ∷ [] → after ≡ before ++ line_text (first ∷ others)
line_written before words after first others so_far ends =
    ends ∙ ap (λ written. written ++ 10 ∷ []) so_far
    ∙ append_assoc before (first ++ flat_map next others) (10 ∷ [])
    ∙ ap (λ rest. before ++ rest) (append_assoc first (flat_map next others) (10 ∷ []))
    ∙ ap (λ line. before ++ line) (sym (line_text-words first others))

pub entries_more : (W : Writing) (entries : List Entry) (i : ℕ) (e : Entry) (written more all : List ℕ)
    → i < length entries → e ≡ get_or entries i e → written ++ text_of (entries_lines W i (drop i entries)) ≡ all
    → more ≡ written ++ text_of (entry_lines W i e) → more ++ text_of (entries_lines W (i + 1) (drop (i + 1) entries)) ≡ all
entries_more W entries i e written more all here is so_far wrote =
    let others = entries_lines W (i + 1) (drop (i + 1) entries) in
    ap (λ front. front ++ text_of others) wrote
    ∙ append_assoc written (text_of (entry_lines W i e)) (text_of others)
    ∙ ap (λ text. written ++ text) (sym (flat_map-append line_text (entry_lines W i e) others))
    ∙ ap (λ first. written ++ text_of (entry_lines W i first ++ others)) is
    ∙ ap (λ rest. written ++ text_of (entries_lines W i rest)) (sym (drop_more entries i e here))
    ∙ so_far

pub entries_done : (W : Writing) (entries : List Entry) (i : ℕ) (written all : List ℕ) → length entries ≤ i
    → written ++ text_of (entries_lines W i (drop i entries)) ≡ all → written ≡ all
entries_done W entries i written all past so_far =
    sym (append-nil written) ∙ ap (λ rest. written ++ text_of (entries_lines W i rest)) (sym (drop_all i entries past)) ∙ so_far

-- four parts, written one behind the other
pub four_parts : (out first second third a b c d : List ℕ)
    → first ≡ out ++ a
    → second ≡ first ++ b
    → third ≡ second ++ c
    → third ++ d ≡ out ++ (a ++ (b ++ (c ++ d)))
four_parts out first second third a b c d is_first is_second is_third =
    ap (λ text. text ++ d) (is_third ∙ ap (λ text. text ++ c) (is_second ∙ ap (λ text. text ++ b) is_first))
    ∙ append_assoc ((out ++ a) ++ b) c d ∙ append_assoc (out ++ a) b (c ++ d) ∙ append_assoc out a (b ++ (c ++ d))

-- two tables, written one behind the other
pub rows_written : (qs ks : List (List ℕ)) (out first second : List ℕ)
    → first ≡ out ++ text_of (sequents_line (length qs) ∷ map sequent_line qs)
    → second ≡ first ++ text_of (stacks_line (number (length ks)) ∷ map stack_line ks)
    → second ≡ out ++ text_of (table_lines qs ks)
rows_written qs ks out first second is_first is_second =
    let a : List Line = sequents_line (length qs) ∷ map sequent_line qs in
    let b : List Line = stacks_line (number (length ks)) ∷ map stack_line ks in
    is_second ∙ ap (λ text. text ++ text_of b) is_first ∙ append_assoc out (text_of a) (text_of b)
    ∙ ap (λ text. out ++ text) (sym (flat_map-append line_text a b))

-- two parts, written one behind the other
pub two_parts : (a b : List Line) (out second third : List ℕ)
    → second ≡ out ++ text_of a
    → third ≡ second ++ text_of b
    → third ≡ out ++ text_of (a ++ b)
two_parts a b out second third is_second is_third =
    is_third ∙ ap (λ text. text ++ text_of b) is_second ∙ append_assoc out (text_of a) (text_of b)
    ∙ ap (λ text. out ++ text) (sym (flat_map-append line_text a b))

-- the tables and the entries, by their names
pub tables_written : (es others : List Entry) (qs ks : List (List ℕ)) (out written : List ℕ)
    → others ≡ es → qs ≡ sequents_of es → ks ≡ stacks_of es
    → written ≡ out ++ text_of (table_lines qs ks ++ last_lines (by_tables qs ks) others)
    → written ≡ out ++ text_of (lines_by_tables es)
tables_written es others qs ks out written is_es is_qs is_ks is =
    is ∙ (λ i. out ++ text_of (table_lines (is_qs i) (is_ks i) ++ last_lines (by_tables (is_qs i) (is_ks i)) (is_es i)))
