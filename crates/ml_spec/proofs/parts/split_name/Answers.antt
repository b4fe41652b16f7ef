use Rattle.std.proofs.Common.{arith}
use Rattle.std.proofs.lemmas.List.Sums.{prefix_len-le-length}
use Rattle.ml_spec.specs.Items.{is_name_byte}
use Rattle.ml_spec.proofs.parts.split_name.Goals as goal

pub slice_bounds-without_blanks-count : goal.slice_bounds-without_blanks-count
slice_bounds-without_blanks-count c =
    omega (arith, c.name_length-end.ensures, prefix_len-le-length is_name_byte c.args.behind_word.now)

pub slice_bounds-without_blanks-start : goal.slice_bounds-without_blanks-start
slice_bounds-without_blanks-start c =
    omega (arith, c.name_length-end.ensures, prefix_len-le-length is_name_byte c.args.behind_word.now)
