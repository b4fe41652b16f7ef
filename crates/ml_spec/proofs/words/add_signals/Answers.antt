use Rattle.std.proofs.Common.{◌≡◌, ◌≤◌, Some, bytes_eq, length, refl, sym, ap, subst, ◌∙◌, arith}
use Rattle.std.specs.Map.{lookup}
use Rattle.indexmap.specs.IndexMap.{insert_entry}
use Rattle.ml_spec.specs.Faults.{end_of}
use Rattle.ml_spec.specs.Known.{with_all}
use Rattle.ml_spec.specs.Scan.{item_text}
use Rattle.ml_spec.specs.Words.{words_of}
use Rattle.ml_spec.specs.declared.context.Declared.TheVariants.{Made, Signal}
use Rattle.ml_spec.specs.declared.rule.SpecRule.TheVariants.{NoName}
use Rattle.ml_spec.specs.private.Lists.{IsFirstInList, IsMadeBehind}
use Rattle.ml_spec.proofs.WordSteps.{no_word, none_left, some_first, some_word, with_all_more, words_at, words_begin, words_declared, words_listed, words_short, words_step, words_stop}
use Rattle.ml_spec.proofs.words.add_signals.Goals as goal
use Rattle.ml_written.specs.Propositions.{is_proposition}

pub loop-alloc-init : goal.loop-alloc-init
loop-alloc-init c =
    let text = c.args.behind_kind.now in
    let le : length text ≤ length text = omega arith in
    words_begin (is_proposition c.args.logic) (with_all c.args.declared.now.entries Signal)
    (λ es p. lookup (bytes_eq p) es ≡ Some Made) (item_text c.args.item.now) text c.args.declared.now.entries refl
    c.requires.within text (sym c.requires.front) le

pub loop-alloc-preserved : goal.loop-alloc-preserved
loop-alloc-preserved c =
    let ds = c.args.declared.now.entries in
    let read = c.loop-alloc.invariant in
    let rest = c.loop-alloc.rest.now in
    let w = c.split_word.result.0.now in
    let first = some_first rest (sym c.is_empty.ensures ∙ c.loop-alloc-test.true) in
    let free = rw c.in_default.is at c.in_ok-rule.ensures in
    words_step (is_proposition c.args.logic) (with_all ds Signal) (λ es p. lookup (bytes_eq p) es ≡ Some Made)
    (item_text c.args.item.now) c.args.behind_kind.now rest c.loop-alloc.declared.entries read first.head first.tail first.is
    c.split_word.result.1.now c.add_signal.new.declared.entries w c.split_word.ensures.word c.split_word.ensures.behind free.0
    (free.1
    ∙ ap (λ es. insert_entry bytes_eq es w Signal) read.declared
    ∙ sym (with_all_more ds Signal (words_of read.listed.done) w))

pub returns-in-Some-clause-refused : goal.returns-in-Some-clause-refused
returns-in-Some-clause-refused c =
    let ds = c.args.declared.now.entries in
    let i = item_text c.args.item.now in
    let rest = c.loop-alloc.rest.now in
    let first = some_first rest (sym c.is_empty.ensures ∙ c.loop-alloc-test.true) in
    subst (IsFirstInList (is_proposition c.args.logic) (IsMadeBehind ds) 1 (words_at i c.args.behind_kind.now) (end_of i) c.in-Some.rule)
    (sym c.place_of.ensures)
    (words_stop (is_proposition c.args.logic) (with_all ds Signal) (λ es p. lookup (bytes_eq p) es ≡ Some Made) i
    c.args.behind_kind.now rest c.loop-alloc.declared.entries c.loop-alloc.invariant first.head first.tail first.is 1
    c.in-Some.rule c.split_word.result.0.now c.split_word.ensures.word c.requires.within
    (rw c.in-Some.is at c.in_ok-rule.ensures))

pub returns-then-is_empty-clause-refused : goal.returns-then-is_empty-clause-refused
returns-then-is_empty-clause-refused c =
    let ds = c.args.declared.now.entries in
    let i = item_text c.args.item.now in
    let rest = c.loop-alloc.rest.now in
    let none = none_left rest (sym c.is_empty.ensures ∙ c.loop-alloc-test.false) in
    subst (IsFirstInList (is_proposition c.args.logic) (IsMadeBehind ds) 1 (words_at i c.args.behind_kind.now) (end_of i) NoName)
    (sym c.place_of-then-is_empty.ensures)
    (words_short (is_proposition c.args.logic) (with_all ds Signal) (λ es p. lookup (bytes_eq p) es ≡ Some Made) i
    c.args.behind_kind.now rest c.loop-alloc.declared.entries c.loop-alloc.invariant none 1
    (no_word i c.args.behind_kind.now (sym c.is_empty-2.ensures ∙ c.if-is_empty.true)))

pub returns-clause-listed : goal.returns-clause-listed
returns-clause-listed c =
    let i = item_text c.args.item.now in
    let rest = c.loop-alloc.rest.now in
    words_listed (is_proposition c.args.logic) (with_all c.args.declared.now.entries Signal)
    (λ es p. lookup (bytes_eq p) es ≡ Some Made) i c.args.behind_kind.now rest c.loop-alloc.declared.entries
    c.loop-alloc.invariant (none_left rest (sym c.is_empty.ensures ∙ c.loop-alloc-test.false)) 1
    (some_word i c.args.behind_kind.now c.requires.front (sym c.is_empty-2.ensures ∙ c.if-is_empty.false))

pub returns-clause-declared : goal.returns-clause-declared
returns-clause-declared c =
    let i = item_text c.args.item.now in
    let rest = c.loop-alloc.rest.now in
    words_declared (is_proposition c.args.logic) (with_all c.args.declared.now.entries Signal)
    (λ es p. lookup (bytes_eq p) es ≡ Some Made) i c.args.behind_kind.now rest c.loop-alloc.declared.entries
    c.loop-alloc.invariant (none_left rest (sym c.is_empty.ensures ∙ c.loop-alloc-test.false))
