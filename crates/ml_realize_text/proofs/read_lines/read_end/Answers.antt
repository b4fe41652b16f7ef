use Rattle.std.proofs.Common.{codes}
use Rattle.std.proofs.lemmas.Result.{IfErr-weaker}
use Rattle.ml_lines.specs.Reading.{words_of}
use Rattle.ml_realize_text.specs.RealizeRules.{AtEnd, AtNothing}
use Rattle.ml_realize_text.specs.private.Reads.{TellsFault}
use Rattle.ml_realize_text.specs.declared.line_rule.LineRule.TheVariants.{OfKind}
use Rattle.ml_realize_text.proofs.Ends.{behind_end, other_end}
use Rattle.ml_realize_text.proofs.FixedWords.{other_word, same_word}
use Rattle.ml_realize_text.proofs.Told.{line_refused}
use Rattle.ml_realize_text.proofs.read_lines.read_end.Goals as goal

pub returns-then-eq-clause-refused : goal.returns-then-eq-clause-refused
returns-then-eq-clause-refused c =
    let line = c.in-Some.line.now in
    let is = same_word line c.as_slice.result.now (codes "end") c.if-eq.ensures c.as_slice.ensures in
    IfErr-weaker c.ended.result (TellsFault AtNothing c.in-Some.rest) (TellsFault AtEnd c.args.at)
    (λ e tells. behind_end c.args.at c.in-Some.rest line c.in-Some.ensures e is tells) c.ended.ensures.refused

pub returns-else-eq-clause-refused : goal.returns-else-eq-clause-refused
returns-else-eq-clause-refused c =
    let line = c.in-Some.line.now in
    let other = other_word line c.as_slice.result.now (codes "end") c.if-eq.ensures c.as_slice.ensures in
    line_refused AtEnd c.args.at c.in-Some.rest (words_of line) OfKind c.fault.result c.in-Some.ensures (other_end line other)
    c.fault.ensures
