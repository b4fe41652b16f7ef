use Rattle.std.proofs.Common.{get_or, refl, sym}
use Rattle.std.proofs.lemmas.Bool.{true≢false}
use Rattle.std.proofs.lemmas.List.{get_or_default}
use Rattle.ml_trace.specs.declared.letters.Triple.{Triple}
use Rattle.ml_refute_check.specs.private.Sources.{SourceAmong}
use Rattle.ml_refute_check.proofs.FoundByNode.{among_at}
use Rattle.ml_refute_check.proofs.Sources.{none_at_all, none_more, entry_member}
use Rattle.ml_refute_check.proofs.names.has_source.Goals as goal

pub returns-then-comes_along : goal.returns-then-comes_along
returns-then-comes_along c =
    let zero : Triple = record { from = 0; lowest = 0; to = 0 } in
    let x : Triple = get_or c.args.traces.now c.loop-trace.trace-index zero in
    let is = get_or_default c.args.traces.now c.loop-trace.trace-index zero x c.loop-trace-test.true in (
      λ t. record {
        trace = x;
        member =
            entry_member (λ (trace : Triple). SourceAmong c.args.stacks.now c.args.odds.now trace c.args.name c.args.progress
            c.args.items.now c.args.behind.now)
            c.args.traces.now c.loop-trace.trace-index x c.loop-trace-test.true is;
        among =
            (among_at c.args.stacks.now c.args.odds.now x c.args.name c.args.progress c.args.items.now c.items_at.result.now
            c.args.behind.now
            c.comes_along.result c.items_at.ensures c.comes_along.ensures).0 c.if-comes_along.true;
      },
      λ h. refl,
    )

pub loop-trace-preserved : goal.loop-trace-preserved
loop-trace-preserved c =
    let zero : Triple = record { from = 0; lowest = 0; to = 0 } in
    let x : Triple = get_or c.args.traces.now c.loop-trace.trace-index zero in
    let is = get_or_default c.args.traces.now c.loop-trace.trace-index zero x c.loop-trace-test.true in
    none_more (λ (trace : Triple). SourceAmong c.args.stacks.now c.args.odds.now trace c.args.name c.args.progress c.args.items.now
    c.args.behind.now)
    c.args.traces.now c.loop-trace.trace-index x c.comes_along.result c.loop-trace-test.true is
    (among_at c.args.stacks.now c.args.odds.now x c.args.name c.args.progress c.args.items.now c.items_at.result.now c.args.behind.now
    c.comes_along.result c.items_at.ensures c.comes_along.ensures)
    c.if-comes_along.false c.loop-trace.invariant

pub returns : goal.returns
returns c = (
  λ f. absurd (true≢false (sym f)),
  λ s. absurd (none_at_all (λ (trace : Triple). SourceAmong c.args.stacks.now c.args.odds.now trace c.args.name c.args.progress c.args.items.now c.args.behind.now)
      c.args.traces.now c.loop-trace.trace-index c.loop-trace-test.false c.loop-trace.invariant s.trace
      s.member s.among),
)
