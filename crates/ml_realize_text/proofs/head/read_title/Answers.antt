use Rattle.std.proofs.Common.{codes}
use Rattle.ml_lines.specs.Reading.{words_of}
use Rattle.ml_realize_text.specs.RealizeRules.{AtTitle}
use Rattle.ml_realize_text.specs.declared.line_rule.LineRule.TheVariants.{OfHead}
use Rattle.ml_realize_text.proofs.FixedWords.{other_word}
use Rattle.ml_realize_text.proofs.HeadRead.{other_title}
use Rattle.ml_realize_text.proofs.Told.{line_refused}
use Rattle.ml_realize_text.proofs.head.read_title.Goals as goal

pub returns-else-eq-clause-refused : goal.returns-else-eq-clause-refused
returns-else-eq-clause-refused c =
    let line = c.in-Some.line.now in
    let other = other_word line c.as_slice.result.now (codes "mlsolver realize 1") c.if-eq.ensures c.as_slice.ensures in
    line_refused AtTitle c.args.at c.in-Some.rest (words_of line) OfHead c.fault.result c.in-Some.ensures (other_title line other)
    c.fault.ensures
