-- The text that is written of a refutation, in both versions, line by line. It is the only one of which `Canonical` speaks;
-- the documents of `ask files` cite it themselves.
--
--   place_in xs x          == the place of x in xs
--   Writing                == how the first lines of an entry and the words for a stack are written
--   in_full, by_tables qs ks == in full; by the places in these tables
--   entry_lines W i e      == the lines of the entry e, whose number is i
--   entries_lines W i es   == those of the entries es, numbered from i on
--   table_lines qs ks      == the lines of these tables, with their numbers
--   last_lines W es        == the entries es with their number, and the end
--   lines_by_tables es     == the tables of the entries es, and then these by their places there
--   written_lines v r      == the lines of the body of r
--   written_text v r       == these lines as bytes
--   IsCounted v r          == what is counted in the version v has a number of 64 bits
use Rattle.std.specs.Prelude.{ℕ, ◌+◌, ◌<◌, ◌^◌, ⊤, List, [], ◌∷◌, ◌++◌, map, length}
use Rattle.std.specs.List.{position_or_len}
use Rattle.std.specs.Str.{bytes_eq}
use Rattle.ml_base.specs.declared.version.Version.{Version}
use Rattle.ml_base.specs.declared.version.Version.TheVariants.{One, Two}
use Rattle.ml_lines.specs.Lines.{Word, Line, number, text_of}
use Rattle.ml_refutation.specs.Refutation.{Refutation, Entry}
use Rattle.ml_refutation_text.specs.Canonical.{sequents_of, stacks_of}
use Rattle.ml_refutation_text.specs.RefutationText.{numbers, names_line, entries_line, sequents_line, stacks_line, sequent_line, stack_line}
use Rattle.ml_refutation_text.specs.RefutationText.{numbered_line, entry_line, live_line, item_line, heights_line, decision_lines, end_line}

abbrev pub place_in : List (List ℕ) → List ℕ → ℕ
place_in known x = position_or_len (bytes_eq x) known

pub record Writing : Type 0 where
  pub head : ℕ → List ℕ → List Line
  pub words : List ℕ → List Word

abbrev pub in_full : Writing
in_full = record { head = λ i sequent. numbered_line i ∷ sequent_line sequent ∷ []; words = numbers }

abbrev pub by_tables : List (List ℕ) → List (List ℕ) → Writing
by_tables sequents stacks = record {
  head = λ i sequent. entry_line i (place_in sequents sequent) ∷ [];
  words = λ names. number (place_in stacks names) ∷ [];
}

abbrev pub entry_lines : Writing → ℕ → Entry → List Line
entry_lines W i e =
    W.head i e.sequent
    ++ live_line e.traces.live
    ∷ (map (λ a. item_line a.state (W.words a.stack)) e.traces.items ++ heights_line e.heights ∷ decision_lines e.decision)

abbrev pub entries_lines : Writing → ℕ → List Entry → List Line
entries_lines W i [] = []
entries_lines W i (e ∷ entries) = entry_lines W i e ++ entries_lines W (i + 1) entries

abbrev pub table_lines : List (List ℕ) → List (List ℕ) → List Line
table_lines sequents stacks =
    sequents_line (length sequents) ∷ (map sequent_line sequents ++ stacks_line (number (length stacks)) ∷ map stack_line stacks)

-- the entries with their number, and the end
abbrev pub last_lines : Writing → List Entry → List Line
last_lines W entries = entries_line (length entries) ∷ (entries_lines W 0 entries ++ end_line ∷ [])

-- the tables, and then the entries by their places there
abbrev pub lines_by_tables : List Entry → List Line
lines_by_tables entries =
    table_lines (sequents_of entries) (stacks_of entries)
    ++ last_lines (by_tables (sequents_of entries) (stacks_of entries)) entries

abbrev pub written_lines : Version → Refutation → List Line
written_lines One r = names_line r.names ∷ last_lines in_full r.entries
written_lines Two r = names_line r.names ∷ lines_by_tables r.entries

abbrev pub written_text : Version → Refutation → List ℕ
written_text v r = text_of (written_lines v r)

abbrev pub IsCounted : Version → Refutation → Type 0
IsCounted One r = ⊤
IsCounted Two r = length (stacks_of r.entries) < 2 ^ 64
