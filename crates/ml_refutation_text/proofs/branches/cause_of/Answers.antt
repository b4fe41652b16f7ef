use Rattle.std.proofs.Common.{codes, ap}
use Rattle.std.specs.Option.{option_copied}
use Rattle.ml_refutation_text.proofs.ReadWords.{first_word}
use Rattle.ml_refutation_text.proofs.BranchLines.{lacks_false, lacks_pair, lacks_cycle}
use Rattle.ml_refutation_text.proofs.branches.cause_of.Goals as goal

pub returns-in-Err-clause-refused : goal.returns-in-Err-clause-refused
returns-in-Err-clause-refused c =
    lacks_false _ _ c.in-Err.rule
    (first_word _ _ _ (codes "false") _ c.in-Some.rest.now c.split_word.ensures.words (ap option_copied c.in-Some.is)
    c.if-eq.ensures c.as_slice.ensures)
    c.in-Err.ensures.refused

pub returns-in-Err-two_numbers-clause-refused : goal.returns-in-Err-two_numbers-clause-refused
returns-in-Err-two_numbers-clause-refused c =
    lacks_pair _ _ c.in-Err-two_numbers.rule
    (first_word _ _ _ (codes "pair") _ c.in-Some.rest.now c.split_word.ensures.words (ap option_copied c.in-Some.is)
    c.if-eq-2.ensures c.as_slice-else-eq.ensures)
    c.in-Err-two_numbers.ensures.refused

pub returns-in-Err-one_number-clause-refused : goal.returns-in-Err-one_number-clause-refused
returns-in-Err-one_number-clause-refused c =
    lacks_cycle _ _ c.in-Err-one_number.rule
    (first_word _ _ _ (codes "cycle") _ c.in-Some.rest.now c.split_word.ensures.words (ap option_copied c.in-Some.is)
    c.if-eq-3.ensures c.as_slice-else-eq-2.ensures)
    c.in-Err-one_number.ensures.refused
