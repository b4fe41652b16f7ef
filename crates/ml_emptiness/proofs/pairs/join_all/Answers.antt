use Rattle.std.proofs.Common.{sym, subst, take}
use Rattle.ml_lists.proofs.Member.{place-member}
use Rattle.ml_emptiness.specs.Systems.{table_of}
use Rattle.ml_emptiness.specs.private.Pairs.{IsLeftAlong}
use Rattle.ml_emptiness.proofs.Joined.{along_more, joined_kept, joined_partly, kept_more}
use Rattle.ml_emptiness.proofs.Letters.{next_entry}
use Rattle.ml_emptiness.proofs.Tables.{entry_is, joins_of}
use Rattle.ml_emptiness.proofs.pairs.join_all.Goals as goal

pub loop-transition-preserved : goal.loop-transition-preserved
loop-transition-preserved c =
    let row = c.args._both.now.letters.now in
    let s = table_of c.args._both.now.system.now in
    let k = c.args.k in
    let m = c.args.step in
    let ts = c.args.transitions.now in
    let i = c.loop-transition.transition-index in
    let g = c.args.found.now in
    let f = c.loop-transition.found in
    let f' = c.join.new.found in
    let j = c.in_ok-join.ensures in
    let inv = c.loop-transition.invariant in
    let kept = inv.1.kept in (
      joined_partly row s k c.args._pair m _ f f' inv.0 (kept.keeps_pairs k c.args._pair c.requires.pair)
          (joins_of row s c.args._pair m ts _ c.requires.joint (place-member ts i _ c.loop-transition-test.true)) j,
      record {
        kept =
            kept_more g.pairs.keys g.arcs.items f.pairs.keys f.arcs.items f'.pairs.keys f'.arcs.items kept
            (joined_kept row s k m _ f f' j);
        along =
            subst (IsLeftAlong f'.pairs.keys f'.arcs.items k m)
            (sym (next_entry ts i _ c.loop-transition-test.true (entry_is ts i _ c.loop-transition-test.true)))
            (along_more k m _ (take i ts) f f' inv.1.along j);
      },
    )
