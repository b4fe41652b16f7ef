use Rattle.std.proofs.Common.{arith, not}
use Rattle.std.proofs.lemmas.List.Sums.{prefix_len-le-length}
use Rattle.ml_text.specs.Bytes.{is_blank}
use Rattle.ml_spec.proofs.parts.split_word.Goals as goal

pub slice_bounds-without_blanks-count : goal.slice_bounds-without_blanks-count
slice_bounds-without_blanks-count c =
    omega (arith, c.word_length-end.ensures, prefix_len-le-length (λ b. not (is_blank b)) c.args.item.now)

pub slice_bounds-without_blanks-start : goal.slice_bounds-without_blanks-start
slice_bounds-without_blanks-start c =
    omega (arith, c.word_length-end.ensures, prefix_len-le-length (λ b. not (is_blank b)) c.args.item.now)
