use Rattle.std.proofs.Common.{◌≡◌, ◌≢◌, ◌*◌, ◌+◌, ◌<◌, ◌^◌, ℕ, length, sym, ap, subst, ◌∙◌}
use Rattle.std.specs.Option.{option_copied}
use Rattle.ml_lines.specs.Reading.{words_behind}
use Rattle.ml_realize_text.proofs.FixedWords.{same_word}
use Rattle.ml_realize_text.proofs.SetReads.{below_odd, first_found, first_missing, none_without_names}
use Rattle.ml_realize_text.proofs.SetWords.{none_members, some_sets}
use Rattle.ml_task.specs.NameSets.{members}
use Rattle.ml_realize_text.proofs.sets.+set_of.Goals as goal

pub returns-in-Some-set_of : goal.returns-in-Some-set_of
returns-in-Some-set_of t c =
    let words = words_behind (option_copied c.args.behind) in
    let name = c.in-Some-split_first.name.now in
    let others = c.in-Some-split_first.others.now in
    let s = c.in-Some-set_of.set in
    let begins = ap (λ b. words_behind (option_copied b)) c.in-Some.is ∙ c.split_word.ensures.words in
    let same = same_word c.split_word.result.0.now c.bytes.result.now name c.if-eq.ensures c.bytes.ensures.value in
    subst (λ ns. (2 * s + 1 < 2 ^ length ns) × (words ≡ members ns (2 * s + 1))) (sym c.in-Some-split_first.ensures.cases.0) (
      below_odd name others s c.in-Some-set_of.ensures.0,
      first_found words name others c.split_word.result.0.now (words_behind (option_copied c.split_word.result.1)) begins s same
          c.in-Some-set_of.ensures.1,
    )

pub returns-in-None-set_of : goal.returns-in-None-set_of
returns-in-None-set_of t c =
    let words = words_behind (option_copied c.args.behind) in
    let name = c.in-Some-split_first.name.now in
    let others = c.in-Some-split_first.others.now in
    let begins = ap (λ b. words_behind (option_copied b)) c.in-Some.is ∙ c.split_word.ensures.words in
    let same = same_word c.split_word.result.0.now c.bytes.result.now name c.if-eq.ensures c.bytes.ensures.value in
    subst (λ ns. (s : ℕ) → words ≢ members ns s) (sym c.in-Some-split_first.ensures.cases.0)
    (first_missing words name others c.split_word.result.0.now (words_behind (option_copied c.split_word.result.1)) begins same
    c.in-None-set_of.ensures)

pub returns-in-None-split_first : goal.returns-in-None-split_first
returns-in-None-split_first t c =
    none_without_names c.args.names.now (words_behind (option_copied c.args.behind)) c.in-Some.text.now
    c.in-None-split_first.ensures.cases (ap (λ b. words_behind (option_copied b)) c.in-Some.is)

pub returns-in-None : goal.returns-in-None
returns-in-None t c =
    (some_sets c.args.names.now, ap (λ b. words_behind (option_copied b)) c.in-None.is ∙ sym (none_members c.args.names.now))
