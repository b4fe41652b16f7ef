use Rattle.std.proofs.Common.{◌≡◌, ◌++◌, map, take, drop, vec_len}
use Rattle.ml_lines.specs.Lines.{text_of}
use Rattle.ml_refutation_text.specs.WrittenText.{entries_lines}
use Rattle.ml_refutation_text.specs.private.Filings.{writing_of, entry_in}
use Rattle.ml_refutation_text.proofs.writing.write_entries.Given as goal

abbrev pub invariant-loop-i : goal.invariant-loop-i
invariant-loop-i l =
    (l.out.items ++ text_of (entries_lines (writing_of l.filing) l.i (drop l.i (map (entry_in l.filing) l.entries)))
    ≡ l.fn.out.items ++ text_of (entries_lines (writing_of l.filing) 0 (map (entry_in l.filing) l.entries)))
    × (take (vec_len l.fn.out) l.out.items ≡ l.fn.out.items)
