-- Formulas written out: what bounded operators stand for, as formulas of LTL.
--
-- `X[n] f` is f behind n times X. `F[m:n] f` is f at one of the places from m to n steps ahead: X, m times, on h(n - m), where
-- h(0) = f and h(k + 1) = (f | X h(k)). `G[m:n] f` is f at each of these places: the same with `&`.
--
--   nexts n f        == f behind n times X
--   connective r     == or for eventually, and for always
--   within r k f     == h(k), with the connective of r
--   meant b f        == what the bounded operator b with the operand f stands for
--   written_out f    == the formula f written out
use Rattle.std.specs.Prelude.{ℕ, zero, suc, ◌-◌}
use Rattle.ml_text.specs.declared.token.Operator.{Operator}
use Rattle.ml_text.specs.declared.token.Operator.TheVariants.{And, Or}
use Rattle.ml_ctl.specs.Formula as ltl
use Rattle.ml_ctl.specs.declared.term.Tense.TheVariants as tense
use Rattle.ml_bounded.specs.Formula.{Binary, Bounded, Const, Formula, Not, Paired, Prop, Temporal}
use Rattle.ml_bounded.specs.declared.term.Bound.{Bound}
use Rattle.ml_bounded.specs.declared.term.Bound.TheVariants.{Next, Within}
use Rattle.ml_bounded.specs.declared.term.Reach.{Reach}
use Rattle.ml_bounded.specs.declared.term.Reach.TheVariants.{Eventually, Always}

abbrev pub next : ltl.Formula → ltl.Formula
next f = ltl.Temporal tense.Next f

abbrev pub nexts : ℕ → ltl.Formula → ltl.Formula
nexts zero f = f
nexts (suc n) f = next (nexts n f)

abbrev pub connective : Reach → Operator
connective Eventually = Or
connective Always = And

abbrev pub within : Reach → ℕ → ltl.Formula → ltl.Formula
within r zero f = f
within r (suc k) f = ltl.Binary (connective r) f (next (within r k f))

abbrev pub meant : Bound → ltl.Formula → ltl.Formula
meant (Next n) f = nexts n f
meant (Within r m n) f = nexts m (within r (n - m) f)

abbrev pub written_out : Formula → ltl.Formula
written_out (Const b) = ltl.Const b
written_out (Prop p) = ltl.Prop p
written_out (Not f) = ltl.Not (written_out f)
written_out (Binary op f g) = ltl.Binary op (written_out f) (written_out g)
written_out (Temporal t f) = ltl.Temporal t (written_out f)
written_out (Paired p f g) = ltl.Paired p (written_out f) (written_out g)
written_out (Bounded b f) = meant b (written_out f)
