use Rattle.std.proofs.Common.{codes, ap}
use Rattle.std.specs.Option.{option_copied}
use Rattle.ml_lines.specs.Reading.{words_of}
use Rattle.ml_refutation_text.proofs.ReadWords.{other_word, words_are, first_word, some_word}
use Rattle.ml_refutation_text.proofs.BranchLines.{lacks_red, lacks_green, no_mark}
use Rattle.ml_refutation_text.proofs.branches.mark_of.Goals as goal

pub returns-in-Err-clause-refused : goal.returns-in-Err-clause-refused
returns-in-Err-clause-refused c =
    lacks_red _ _ c.in-Err.rule
    (first_word _ _ _ (codes "red") _ c.in-Some.rest.now c.split_word.ensures.words (ap option_copied c.in-Some.is)
    c.if-eq.ensures c.as_slice.ensures)
    c.in-Err.ensures.refused

pub returns-in-Err-one_number-clause-refused : goal.returns-in-Err-one_number-clause-refused
returns-in-Err-one_number-clause-refused c =
    lacks_green _ _ c.in-Err-one_number.rule
    (first_word _ _ _ (codes "green") _ c.in-Some.rest.now c.split_word.ensures.words (ap option_copied c.in-Some.is)
    c.if-eq-2.ensures c.as_slice-else-eq.ensures)
    c.in-Err-one_number.ensures.refused

pub returns-else-eq-2-clause-refused : goal.returns-else-eq-2-clause-refused
returns-else-eq-2-clause-refused c =
    let words = words_of c.args.words.now in
    let color = c.split_word.result.0.now in
    no_mark words (words_of c.in-Some.rest.now) color
    (words_are words color (option_copied c.split_word.result.1) c.in-Some.rest.now c.split_word.ensures.words (ap option_copied c.in-Some.is))
    (some_word c.in-Some.rest.now)
    (other_word color c.as_slice.result.now (codes "red") c.if-eq.ensures c.as_slice.ensures)
    (other_word color c.as_slice-else-eq.result.now (codes "green") c.if-eq-2.ensures c.as_slice-else-eq.ensures)
