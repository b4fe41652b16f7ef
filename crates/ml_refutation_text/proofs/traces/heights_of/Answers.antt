use Rattle.std.proofs.Common.{◌∷◌, codes, ap, arith, ◌∙◌}
use Rattle.ml_lines.specs.Reading.{words_of}
use Rattle.ml_refutation_text.proofs.ItemLines.{heights_count}
use Rattle.ml_refutation_text.proofs.traces.heights_of.Goals as goal

pub returns-else-len-from-clause-refused : goal.returns-else-len-from-clause-refused
returns-else-len-from-clause-refused c =
    let read = rw c.in-Some.is at c.in_ok-heights.ensures in
    let hs = c.in-Some.heights.items in
    λ F live before wanted es q traces stand.
    heights_count c.args.names wanted es q traces F (words_of c.args.line.now) hs
    (c.requires.begins ∙ ap (λ ws. codes "heights" ∷ ws) read.0) read.1
    (λ count. c.if-len-from.false (omega (arith, count, c.len.ensures, c.from.ensures)))
