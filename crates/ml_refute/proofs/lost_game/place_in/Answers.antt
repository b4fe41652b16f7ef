use Rattle.std.proofs.Common.{sym, eqb, get_or, arith, length}
use Rattle.std.proofs.lemmas.Bool.{ne_eqb, eq-eqb}
use Rattle.std.proofs.lemmas.List.Sums.{position_or_len_is}
use Rattle.ml_refute.proofs.lost_game.place_in.Goals as goal

pub returns-then-w-v : goal.returns-then-w-v
returns-then-w-v c =
    sym (position_or_len_is (λ w. eqb w c.args.v) c.args.vertices.now c.loop-i.i 0 (omega arith)
    (λ k h. ne_eqb (get_or c.args.vertices.now k 0) c.args.v (c.loop-i.invariant k h))
    (λ h. eq-eqb (get_or c.args.vertices.now c.loop-i.i 0) c.args.v c.if-w-v.true))

pub returns : goal.returns
returns c =
    sym (position_or_len_is (λ w. eqb w c.args.v) c.args.vertices.now (length c.args.vertices.now) 0 (omega arith)
    (λ k h. ne_eqb (get_or c.args.vertices.now k 0) c.args.v (c.loop-i.invariant k (omega arith)))
    (λ h. absurd (omega arith)))
