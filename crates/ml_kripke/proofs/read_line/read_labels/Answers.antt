use Rattle.std.proofs.Common.{◌∷◌, ◌++◌, [], None, ap, sym, subst, ◌∙◌}
use Rattle.std.specs.Option.{option_copied}
use Rattle.std.specs.Ordering.{nat_cmp}
use Rattle.std.specs.Cmp.Lexicographic.{slice_cmp}
use Rattle.ml_lines.specs.Reading.{words_behind}
use Rattle.ml_lists.specs.Last.{last_of}
use Rattle.ml_lists.specs.Chains.{Above}
use Rattle.ml_kripke.proofs.LabelWords.{AreLabelsTo, label_read, not_above, labels_done}
use Rattle.ml_kripke.proofs.read_line.read_labels.Goals as goal

pub returns-then-not-is_above-clause-refused : goal.returns-then-not-is_above-clause-refused
returns-then-not-is_above-clause-refused c =
    let all = words_behind (option_copied c.args.behind) in
    let labels = c.loop-left.labels.items in
    let so_far = subst (AreLabelsTo all labels) (ap option_copied c.in-Some.is) c.loop-left.invariant in
    let above = subst (λ ls. ¬ (Above (slice_cmp nat_cmp) (last_of None ls) c.in_ok-label.label)) c.deref.ensures.value
    (c.is_above.ensures.otherwise c.if-not-is_above.true) in
    λ refused.
    not_above all labels c.in-Some.text.now c.split_word.result.0.now (option_copied c.split_word.result.1) so_far c.split_word.ensures.words
    (subst (λ w. ¬ (Above (slice_cmp nat_cmp) (last_of None labels) w)) c.in_ok-label.ensures.bytes above)

pub loop-left-preserved : goal.loop-left-preserved
loop-left-preserved c =
    let all = words_behind (option_copied c.args.behind) in
    let labels = c.loop-left.labels.items in
    let so_far = subst (AreLabelsTo all labels) (ap option_copied c.in-Some.is) c.loop-left.invariant in
    let w = c.split_word.result.0.now in
    let above = subst (λ ls. Above (slice_cmp nat_cmp) (last_of None ls) c.in_ok-label.label) c.deref.ensures.value
    (c.is_above.ensures.yes c.if-not-is_above.false) in
    let read =
    label_read all labels c.in-Some.text.now w (option_copied c.split_word.result.1) so_far c.split_word.ensures.words
    c.in_ok-label.ensures.is_name
    (subst (λ v. Above (slice_cmp nat_cmp) (last_of None labels) v) c.in_ok-label.ensures.bytes above) in
    subst (λ ls. AreLabelsTo all ls (option_copied c.split_word.result.1))
    (ap (λ v. labels ++ v ∷ []) (sym c.in_ok-label.ensures.bytes) ∙ sym c.in-Ok.ensures.items) read

pub returns-clause-read : goal.returns-clause-read
returns-clause-read c =
    labels_done (words_behind (option_copied c.args.behind)) c.loop-left.labels.items
    (subst (AreLabelsTo (words_behind (option_copied c.args.behind)) c.loop-left.labels.items) (ap option_copied c.in_default.is) c.loop-left.invariant)
