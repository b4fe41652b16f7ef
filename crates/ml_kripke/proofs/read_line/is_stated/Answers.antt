use Rattle.std.proofs.Common.{◌∷◌, ◌∙◌, IsTrue, ap, sym, subst}
use Rattle.std.proofs.lemmas.Slice.Eq.{bytes_eq-Decides}
use Rattle.ml_lines.specs.Reading.{words_of}
use Rattle.ml_kripke.proofs.BrokenRules.{stated_is}
use Rattle.ml_kripke.proofs.read_line.is_stated.Goals as goal

pub returns-then-eq : goal.returns-then-eq
returns-then-eq c =
    let first = (bytes_eq-Decides c.in-Some.first.now c.as_slice.result.now).0 (sym c.if-eq.ensures) ∙ c.as_slice.ensures in
    let behind = c.in-Some.field-0-1.now in
    let begins = c.in-Some.ensures ∙ ap (λ w. w ∷ words_of behind) first in (
      λ yes. (subst IsTrue c.are_words.ensures yes, stated_is (words_of c.args.line.now) behind begins),
      λ stated. subst IsTrue (sym c.are_words.ensures) stated.0,
    )
