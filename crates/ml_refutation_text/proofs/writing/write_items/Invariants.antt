use Rattle.std.proofs.Common.{◌≡◌, ◌++◌, map, take, vec_len}
use Rattle.ml_lines.specs.Lines.{text_of}
use Rattle.ml_refutation_text.specs.RefutationText.{item_line}
use Rattle.ml_refutation_text.specs.private.Filings.{writing_of, item_in}
use Rattle.ml_refutation_text.proofs.writing.write_items.Given as goal

abbrev pub invariant-loop-item : goal.invariant-loop-item
invariant-loop-item l =
    (l.out.items
    ≡ l.fn.out.items
    ++ text_of
    (map (λ a. item_line a.state ((writing_of l.filing).words a.stack))
    (map (item_in l.filing) (take l.item-index l.items))))
    × (take (vec_len l.fn.out) l.out.items ≡ l.fn.out.items)
