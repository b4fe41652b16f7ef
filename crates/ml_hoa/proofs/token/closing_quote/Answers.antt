use Rattle.std.proofs.Common.{sym, ap, ◌∙◌, arith, drop, ◌+◌}
use Rattle.ml_hoa.specs.Tokens.{closing_quote}
use Rattle.ml_hoa.proofs.Closings.{quote_ends, quote_more, quote_none}
use Rattle.ml_hoa.proofs.token.closing_quote.Goals as goal

pub loop-at-preserved : goal.loop-at-preserved
loop-at-preserved c =
    let text = c.args.text.now in
    let at = c.loop-at.at in
    record {
      same = c.loop-at.invariant.same
          ∙ quote_more text c.loop-at.taken at c.loop-at-test.true (sym c.if-closes.ensures)
          ∙ ap (λ t. closing_quote t (at + 1) (drop (at + 1) text)) (sym c.takes-taken.ensures);
    }

pub returns-then-closes-clause-value : goal.returns-then-closes-clause-value
returns-then-closes-clause-value c =
    sym (c.loop-at.invariant.same
    ∙ quote_ends c.args.text.now c.loop-at.taken c.loop-at.at c.loop-at-test.true (sym c.if-closes.ensures))

pub returns-clause-value : goal.returns-clause-value
returns-clause-value c = sym (c.loop-at.invariant.same ∙ quote_none c.args.text.now c.loop-at.taken c.loop-at.at (omega arith))
