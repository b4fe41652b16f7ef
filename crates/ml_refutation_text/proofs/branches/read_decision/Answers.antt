use Rattle.std.proofs.Common.{◌≡◌, ◌<◌, [], ◌∷◌, length, length-append, subst, sym, ap, arith}
use Rattle.ml_lines.specs.Reading.{words_of}
use Rattle.ml_refutation.specs.Views.{decision_of}
use Rattle.ml_refutation_text.specs.private.BranchReads.{IsBranch, BreaksBranch, IsClosed}
use Rattle.ml_refutation.specs.declared.refutation.TheConstants.{NESTING_LIMIT}
use Rattle.ml_refutation_text.specs.declared.branches.Around.TheVariants as around
use Rattle.ml_refutation_text.proofs.BranchesRead.{DecidesTo, decides_begin, decides_room, decides_missing, decides_broken, decides_split, decides_leaf, decides_whole}
use Rattle.ml_refutation_text.proofs.branches.read_decision.Goals as goal

pub loop-next-init : goal.loop-next-init
loop-next-init c = record {
  decides = subst (λ splits. DecidesTo c.args.names c.args.wanted c.args.at splits c.args.at) (sym c.new-around.ensures.items)
      (decides_begin c.args.names c.args.wanted c.args.at);
  inside = omega (arith, ap length c.new-around.ensures.items);
}

pub next_line-requires : goal.next_line-requires
next_line-requires c =
    decides_room c.args.names c.args.wanted c.args.at c.loop-next.around.items c.loop-next.rest c.loop-next.invariant.decides c.requires

pub returns-in-Err-clause-refused : goal.returns-in-Err-clause-refused
returns-in-Err-clause-refused c =
    decides_missing c.args.names c.args.wanted c.args.at c.loop-next.around.items c.loop-next.rest c.loop-next.invariant.decides
    c.in-Err.refusal c.in-Err.ensures.missing

pub returns-in-Some-clause-read : goal.returns-in-Some-clause-read
returns-in-Some-clause-read c =
    let splits = c.loop-next.around.items in
    let leaf = subst (IsBranch c.args.names c.args.wanted c.len.result (words_of c.in-Ok.next.0.now)) c.in-Leaf.is c.in-Ok-branch_of.ensures.read in
    let closed = subst (IsClosed splits (decision_of c.in-Leaf.leaf) c.close.new.around.items) c.in-Some.is c.in_ok-decision-in-Leaf.ensures in
    (decides_whole c.args.names c.args.wanted c.args.at splits c.loop-next.rest c.loop-next.invariant.decides
    (words_of c.in-Ok.next.0.now) c.in-Ok.next.1 c.in-Ok.ensures.read (decision_of c.in-Leaf.leaf) leaf c.ranges.names.fits
    c.ranges.wanted.fits c.loop-next.invariant.inside c.close.new.around.items c.in-Some.decision closed).0

pub returns-in-Some-clause-counted : goal.returns-in-Some-clause-counted
returns-in-Some-clause-counted c =
    let splits = c.loop-next.around.items in
    let leaf = subst (IsBranch c.args.names c.args.wanted c.len.result (words_of c.in-Ok.next.0.now)) c.in-Leaf.is c.in-Ok-branch_of.ensures.read in
    let closed = subst (IsClosed splits (decision_of c.in-Leaf.leaf) c.close.new.around.items) c.in-Some.is c.in_ok-decision-in-Leaf.ensures in
    (decides_whole c.args.names c.args.wanted c.args.at splits c.loop-next.rest c.loop-next.invariant.decides
    (words_of c.in-Ok.next.0.now) c.in-Ok.next.1 c.in-Ok.ensures.read (decision_of c.in-Leaf.leaf) leaf c.ranges.names.fits
    c.ranges.wanted.fits c.loop-next.invariant.inside c.close.new.around.items c.in-Some.decision closed).1

pub returns-in-Err-branch_of-clause-refused : goal.returns-in-Err-branch_of-clause-refused
returns-in-Err-branch_of-clause-refused c =
    let splits = c.loop-next.around.items in
    let words = words_of c.in-Ok.next.0.now in
    let depth : c.len.result ≡ length splits = omega (arith, c.len.ensures) in
    decides_broken c.args.names c.args.wanted c.args.at splits c.loop-next.rest c.loop-next.invariant.decides words c.in-Ok.next.1
    c.in-Ok.ensures.read c.in-Err-branch_of.rule c.fault.result c.fault.ensures
    (subst (λ n. BreaksBranch c.args.names c.args.wanted n words c.in-Err-branch_of.rule) depth c.in-Err-branch_of.ensures.refused)

pub loop-next-preserved-in_ok-push-in-Split : goal.loop-next-preserved-in_ok-push-in-Split
loop-next-preserved-in_ok-push-in-Split c =
    let splits = c.loop-next.around.items in
    let split = subst (IsBranch c.args.names c.args.wanted c.len.result (words_of c.in-Ok.next.0.now)) c.in-Split.is c.in-Ok-branch_of.ensures.read in
    let n = c.in-Split.node in
    let deep : length splits < NESTING_LIMIT = omega (arith, split.2, c.len.ensures) in
    let pushed = c.in_ok-push-in-Split.ensures.items in record {
      decides =
          decides_split c.args.names c.args.wanted c.args.at splits c.loop-next.rest c.loop-next.invariant.decides
          (words_of c.in-Ok.next.0.now) c.in-Ok.next.1 c.in-Ok.ensures.read n c.push.new.self.items split.0 split.1 deep pushed;
      inside = omega (arith, deep, ap length pushed, length-append splits (around.InLeft n ∷ []));
    }

pub loop-next-preserved : goal.loop-next-preserved
loop-next-preserved c =
    let splits = c.loop-next.around.items in
    let leaf = subst (IsBranch c.args.names c.args.wanted c.len.result (words_of c.in-Ok.next.0.now)) c.in-Leaf.is c.in-Ok-branch_of.ensures.read in
    let closed =
    subst (IsClosed splits (decision_of c.in-Leaf.leaf) c.close.new.around.items) c.in_default.is
    c.in_ok-decision-in-Leaf.ensures
    in
    record {
      decides =
          decides_leaf c.args.names c.args.wanted c.args.at splits c.loop-next.rest c.loop-next.invariant.decides
          (words_of c.in-Ok.next.0.now) c.in-Ok.next.1 c.in-Ok.ensures.read (decision_of c.in-Leaf.leaf) leaf c.ranges.names.fits
          c.ranges.wanted.fits c.loop-next.invariant.inside c.close.new.around.items closed;
      inside = omega (arith, closed.inside, c.loop-next.invariant.inside);
    }
