use Rattle.std.proofs.Common.{rules}
use Rattle.std.proofs.lemmas.Iterator.Search.{all_from_yields_List}
use Rattle.std.proofs.lemmas.Iterator.Splits.{YieldsList-from_slice_split}
use Rattle.ml_lines.specs.Reading.{is_word, is_blank}
use Rattle.ml_lines.proofs.read.are_words.Goals as goal

pub returns : goal.returns
returns c =
    all_from_yields_List is_word _ _ _ c.all.ensures.ran
    (YieldsList-from_slice_split _ is_blank c.args.line.now c.split.ensures.rest c.split.ensures.done c.split.ensures.closure (search rules))
    (search rules)
