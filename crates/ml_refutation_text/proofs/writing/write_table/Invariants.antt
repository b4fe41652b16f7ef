use Rattle.std.proofs.Common.{◌≡◌, ◌++◌, ◌∷◌, map, take, vec_len}
use Rattle.ml_lines.specs.Lines.{text_of}
use Rattle.ml_refutation_text.specs.RefutationText.{numbers}
use Rattle.ml_refutation_text.specs.private.Collecting.{shown}
use Rattle.ml_refutation_text.proofs.writing.write_table.Given as goal

abbrev pub invariant-loop-list : goal.invariant-loop-list
invariant-loop-list l =
    (l.out.items
    ≡ l.initial.out.items ++ text_of (map (λ ns. l.one ∷ numbers ns) (shown (take l.list-index l.lists))))
    × (take (vec_len l.fn.out) l.out.items ≡ l.fn.out.items)
