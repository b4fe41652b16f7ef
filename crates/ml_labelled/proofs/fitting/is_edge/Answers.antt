use Rattle.std.proofs.Common.{arith, map, subst, sym}
use Rattle.ml_lists.specs.Ascending.{IsAscending}
use Rattle.ml_lists.specs.Member.{IsMember}
use Rattle.ml_labelled.specs.private.Fitting.{prop_of}
use Rattle.ml_labelled.proofs.fitting.is_edge.Goals as goal

pub returns : goal.returns
returns c = λ is.
    record {
      is_cube = record {
        ascends = subst (λ ls. IsAscending (map prop_of ls)) c.deref-2.ensures.value (c.ascends.ensures is);
        below = λ l m. c.is_below.ensures c.if-not-is_below.false l (subst (IsMember l) (sym c.deref.ensures.value) m);
      };
      to_state = omega arith;
    }
