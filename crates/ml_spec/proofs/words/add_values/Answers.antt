use Rattle.std.proofs.Common.{◌≤◌, ◌++◌, ◌∷◌, [], bytes_eq, length, refl, sym, ap, subst, ◌∙◌, arith, length-drop}
use Rattle.std.specs.List.{prefix_len}
use Rattle.indexmap.specs.IndexMap.{insert_entry}
use Rattle.ml_text.specs.Bytes.{is_blank}
use Rattle.ml_spec.specs.Faults.{end_of}
use Rattle.ml_spec.specs.Known.{with_all, IsDeclared}
use Rattle.ml_spec.specs.Scan.{item_text}
use Rattle.ml_spec.specs.Statements.{is_value, value_name, value_names}
use Rattle.ml_spec.specs.Words.{words_of}
use Rattle.ml_spec.specs.declared.context.Declared.TheVariants.{Made}
use Rattle.ml_spec.specs.declared.rule.SpecRule.TheVariants.{NoName}
use Rattle.ml_spec.specs.private.Lists.{IsFirstInList, IsValueBehind}
use Rattle.ml_spec.proofs.WordSteps.{all_words, none_left, some_first, value_names_more, values_count, with_all_more, words_at, words_begin, words_declared, words_listed, words_seen, words_short, words_stop}
use Rattle.ml_spec.proofs.words.add_values.Goals as goal

pub loop-alloc-init : goal.loop-alloc-init
loop-alloc-init c =
    let text = c.args.text.now in
    let m = c.args.enumeration.now in
    let rest = c.without_blanks-rest.result.now in
    let le : length rest ≤ length text =
    omega (arith, ap length c.without_blanks-rest.ensures, length-drop (prefix_len is_blank text) text) in
    record {
      seen = [];
      is_read = record {
        read =
            words_begin (is_value m) (λ words. with_all c.args.declared.now.entries Made (value_names m words))
            (λ es v. IsDeclared es (value_name m v)) (item_text c.args.item.now) text c.args.declared.now.entries refl
            c.requires.within rest c.without_blanks-rest.ensures le;
        are_seen = refl;
      };
      are_values = c.requires.none;
    }

pub loop-alloc-preserved : goal.loop-alloc-preserved
loop-alloc-preserved c =
    let ds = c.args.declared.now.entries in
    let m = c.args.enumeration.now in
    let so_far = c.loop-alloc.invariant in
    let read = so_far.is_read.read in
    let rest = c.loop-alloc.rest.now in
    let w = c.split_word.result.0.now in
    let first = some_first rest (sym c.is_empty.ensures ∙ c.loop-alloc-test.true) in
    let free = rw c.in_default.is at c.in_ok-rule.ensures in
    record {
      seen = so_far.seen ++ w ∷ [];
      is_read =
          words_seen (is_value m) (λ words. with_all ds Made (value_names m words)) (λ es v. IsDeclared es (value_name m v))
          (item_text c.args.item.now) c.args.text.now rest c.loop-alloc.declared.entries read first.head first.tail first.is
          c.split_word.result.1.now c.add_value.new.declared.entries w so_far.seen c.split_word.ensures.word
          c.split_word.ensures.behind free.0
          (free.1
          ∙ ap (λ es. insert_entry bytes_eq es (value_name m w) Made) read.declared
          ∙ sym (with_all_more ds Made (value_names m (words_of read.listed.done)) (value_name m w))
          ∙ ap (with_all ds Made) (sym (value_names_more m (words_of read.listed.done) w)))
          so_far.is_read.are_seen;
      are_values =
          free.2 ∙ ap (λ ns. ns ++ value_name m w ∷ []) so_far.are_values ∙ sym (value_names_more m so_far.seen w);
    }

pub returns-in-Some-clause-refused : goal.returns-in-Some-clause-refused
returns-in-Some-clause-refused c =
    let ds = c.args.declared.now.entries in
    let m = c.args.enumeration.now in
    let i = item_text c.args.item.now in
    let rest = c.loop-alloc.rest.now in
    let first = some_first rest (sym c.is_empty.ensures ∙ c.loop-alloc-test.true) in
    subst (IsFirstInList (is_value m) (IsValueBehind ds m) 2 (words_at i c.args.text.now) (end_of i) c.in-Some.rule)
    (sym c.place_of.ensures)
    (words_stop (is_value m) (λ words. with_all ds Made (value_names m words)) (λ es v. IsDeclared es (value_name m v)) i
    c.args.text.now rest c.loop-alloc.declared.entries c.loop-alloc.invariant.is_read.read first.head first.tail first.is 2
    c.in-Some.rule c.split_word.result.0.now c.split_word.ensures.word c.requires.within
    (rw c.in-Some.is at c.in_ok-rule.ensures))

pub returns-then-len-lt2-clause-refused : goal.returns-then-len-lt2-clause-refused
returns-then-len-lt2-clause-refused c =
    let ds = c.args.declared.now.entries in
    let m = c.args.enumeration.now in
    let i = item_text c.args.item.now in
    let rest = c.loop-alloc.rest.now in
    let so_far = c.loop-alloc.invariant in
    let none = none_left rest (sym c.is_empty.ensures ∙ c.loop-alloc-test.false) in
    let all =
    all_words (is_value m) (λ words. with_all ds Made (value_names m words)) (λ es v. IsDeclared es (value_name m v)) i
    c.args.text.now rest c.loop-alloc.declared.entries so_far.is_read.read none in
    let many = values_count m c.loop-alloc.values.items so_far.seen (words_at i c.args.text.now) so_far.are_values (so_far.is_read.are_seen ∙ all) in
    subst (IsFirstInList (is_value m) (IsValueBehind ds m) 2 (words_at i c.args.text.now) (end_of i) NoName)
    (sym c.place_of-then-len-lt2.ensures)
    (words_short (is_value m) (λ words. with_all ds Made (value_names m words)) (λ es v. IsDeclared es (value_name m v)) i
    c.args.text.now rest c.loop-alloc.declared.entries so_far.is_read.read none 2
    (omega (arith, many, c.len.ensures, c.if-len-lt2.true)))

pub returns-clause-listed : goal.returns-clause-listed
returns-clause-listed c =
    let ds = c.args.declared.now.entries in
    let m = c.args.enumeration.now in
    let i = item_text c.args.item.now in
    let rest = c.loop-alloc.rest.now in
    let so_far = c.loop-alloc.invariant in
    let none = none_left rest (sym c.is_empty.ensures ∙ c.loop-alloc-test.false) in
    let all =
    all_words (is_value m) (λ words. with_all ds Made (value_names m words)) (λ es v. IsDeclared es (value_name m v)) i
    c.args.text.now rest c.loop-alloc.declared.entries so_far.is_read.read none in
    let many = values_count m c.loop-alloc.values.items so_far.seen (words_at i c.args.text.now) so_far.are_values (so_far.is_read.are_seen ∙ all) in
    words_listed (is_value m) (λ words. with_all ds Made (value_names m words)) (λ es v. IsDeclared es (value_name m v)) i
    c.args.text.now rest c.loop-alloc.declared.entries so_far.is_read.read none 2
    (omega (arith, many, c.len.ensures, c.if-len-lt2.false))

pub returns-clause-values : goal.returns-clause-values
returns-clause-values c =
    let ds = c.args.declared.now.entries in
    let m = c.args.enumeration.now in
    let i = item_text c.args.item.now in
    let rest = c.loop-alloc.rest.now in
    let so_far = c.loop-alloc.invariant in
    let none = none_left rest (sym c.is_empty.ensures ∙ c.loop-alloc-test.false) in
    so_far.are_values
    ∙ ap (value_names m)
    (so_far.is_read.are_seen
    ∙ all_words (is_value m) (λ words. with_all ds Made (value_names m words)) (λ es v. IsDeclared es (value_name m v)) i
    c.args.text.now rest c.loop-alloc.declared.entries so_far.is_read.read none)

pub returns-clause-declared : goal.returns-clause-declared
returns-clause-declared c =
    let ds = c.args.declared.now.entries in
    let m = c.args.enumeration.now in
    let i = item_text c.args.item.now in
    let rest = c.loop-alloc.rest.now in
    words_declared (is_value m) (λ words. with_all ds Made (value_names m words)) (λ es v. IsDeclared es (value_name m v)) i
    c.args.text.now rest c.loop-alloc.declared.entries c.loop-alloc.invariant.is_read.read
    (none_left rest (sym c.is_empty.ensures ∙ c.loop-alloc-test.false))
