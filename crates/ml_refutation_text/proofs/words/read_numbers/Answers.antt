use Rattle.std.proofs.Common.{ap, sym, subst}
use Rattle.std.specs.Option.{option_copied}
use Rattle.ml_lines.specs.Reading.{words_behind}
use Rattle.ml_refutation_text.proofs.NumberWords.{AreNumbersTo, number_read, not_number, numbers_done}
use Rattle.ml_refutation_text.proofs.words.read_numbers.Goals as goal

pub returns-in-None : goal.returns-in-None
returns-in-None c =
    let all = words_behind (option_copied c.args.behind) in
    let so_far = subst (AreNumbersTo all c.loop-left.ns.items) (ap option_copied c.in-Some.is) c.loop-left.invariant in
    not_number all c.loop-left.ns.items c.in-Some.text.now c.split_word.result.0.now (option_copied c.split_word.result.1) so_far
    c.split_word.ensures.words c.in-None.ensures

pub loop-left-preserved : goal.loop-left-preserved
loop-left-preserved c =
    let all = words_behind (option_copied c.args.behind) in
    let so_far = subst (AreNumbersTo all c.loop-left.ns.items) (ap option_copied c.in-Some.is) c.loop-left.invariant in
    let n = c.in-Some-read_number.n in
    let read =
    number_read all c.loop-left.ns.items c.in-Some.text.now c.split_word.result.0.now (option_copied c.split_word.result.1) so_far
    c.split_word.ensures.words n c.in-Some-read_number.ensures.0 c.in-Some-read_number.ensures.1 in
    subst (λ ns. AreNumbersTo all ns (option_copied c.split_word.result.1))
    (sym c.in_ok-push-in-Some-read_number.ensures.items) read

pub returns : goal.returns
returns c =
    let all = words_behind (option_copied c.args.behind) in
    numbers_done all c.loop-left.ns.items (subst (AreNumbersTo all c.loop-left.ns.items) (ap option_copied c.in_default.is) c.loop-left.invariant)
