use Rattle.std.proofs.Common.{sym, eqb, get_or, arith, length}
use Rattle.std.proofs.lemmas.Bool.{ne_eqb, eq-eqb}
use Rattle.std.proofs.lemmas.List.Sums.{position_or_len_is}
use Rattle.ml_trace.proofs.numbering.index_of.Goals as goal

pub returns-then-e-d-clause-place : goal.returns-then-e-d-clause-place
returns-then-e-d-clause-place c =
    sym (position_or_len_is (λ e. eqb e c.args.d) c.args.odds.now c.loop-i.i 0 (omega arith)
    (λ k h. ne_eqb (get_or c.args.odds.now k 0) c.args.d (c.loop-i.invariant k h))
    (λ h. eq-eqb (get_or c.args.odds.now c.loop-i.i 0) c.args.d c.if-e-d.true))

pub returns-clause-place : goal.returns-clause-place
returns-clause-place c =
    sym (position_or_len_is (λ e. eqb e c.args.d) c.args.odds.now (length c.args.odds.now) 0 (omega arith)
    (λ k h. ne_eqb (get_or c.args.odds.now k 0) c.args.d (c.loop-i.invariant k (omega arith)))
    (λ h. absurd (omega arith)))
