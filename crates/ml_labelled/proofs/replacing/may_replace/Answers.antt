use Rattle.std.proofs.Common.{arith}
use Rattle.std.proofs.lemmas.List.{length-map}
use Rattle.ml_labelled.specs.private.Views.{edges_in}
use Rattle.ml_labelled.proofs.replacing.may_replace.Goals as goal

pub returns : goal.returns
returns c = λ is.
    let old = length-map c.args.old.now edges_in in
    let new = length-map c.args.new.now edges_in in
    record {
      are_edges = c.are_edges.ensures c.if-not-are_edges.false;
      no_more = omega (arith, old, new);
      first = c.has_start.ensures c.if-not-has_start.false;
      first_back = c.has_start-2.ensures c.if-not-has_start-2.false;
      follows = c.follows.ensures c.if-not-follows.false;
      follows_back = c.follows-2.ensures is;
    }
