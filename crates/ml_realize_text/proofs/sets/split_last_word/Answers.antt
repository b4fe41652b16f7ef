use Rattle.std.proofs.Common.{◌+◌, ◌∷◌, ◌++◌, [], take, ap, ◌∙◌}
use Rattle.ml_lines.specs.Reading.{words_of}
use Rattle.ml_lines.proofs.Cuts.{slice_end}
use Rattle.ml_realize_text.proofs.LastWords.{last_word_at, no_blank}
use Rattle.ml_realize_text.proofs.sets.split_last_word.Goals as goal

pub returns-in-Some : goal.returns-in-Some
returns-in-Some c =
    let text = c.args.text.now in
    let end = c.in-Some.end in
    last_word_at text end c.in-Some.ensures ∙ ap (λ last. words_of (take end text) ++ last ∷ []) (slice_end text (end + 1))

pub returns-in-None : goal.returns-in-None
returns-in-None c = no_blank c.args.text.now c.in-None.ensures
