use Rattle.std.proofs.Common.{sym, subst}
use Rattle.ml_lists.specs.Member.{IsMember}
use Rattle.ml_labelled.proofs.trimming.covers.Goals as goal

pub returns : goal.returns
returns c = λ is.
    record {
      same_end = c.if-edge-other.false;
      accepts = c.accepts_as.ensures c.if-not-accepts_as.false;
      weaker = λ l m.
          subst (IsMember l) c.deref.ensures.value (c.has_all.ensures is l (subst (IsMember l) (sym c.deref-2.ensures.value) m));
    }
