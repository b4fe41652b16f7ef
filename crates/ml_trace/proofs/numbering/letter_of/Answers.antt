use Rattle.std.proofs.Common.{ap, arith, length, ◌-◌}
use Rattle.ml_trace.proofs.LetterLemmas.{room-part, letter-rows, letter-small, letter-whole, letter-moved}
use Rattle.ml_trace.proofs.numbering.letter_of.Goals as goal

pub push_rows-requires : goal.push_rows-requires
push_rows-requires c =
    room-part c.args.odds.now c.args.traces c.by_target-triples.result.items c.deref-in-loop-done.result.now
    c.loop-done.done (c.end_of_target-end.result - c.loop-done.done) c.requires.room c.by_target-triples.ensures.moved
    c.deref-in-loop-done.ensures.value

pub loop-done-preserved : goal.loop-done-preserved
loop-done-preserved c = (
  omega (arith, ap length c.deref.ensures.value),
  letter-rows c.args.odds.now c.requires.ascending c.by_target-triples.result.items c.deref-in-loop-done.result.now
      c.loop-done.transitions.items c.push_rows.new.transitions.items c.loop-done.done c.end_of_target-end.result
      (omega arith) c.deref-in-loop-done.ensures.value c.in_ok-push_rows.ensures c.loop-done.invariant.1,
)

pub of-requires : goal.of-requires
of-requires c =
    letter-small c.args.odds.now c.args.traces c.loop-done.transitions.items c.requires.ascending c.requires.room
    (letter-whole c.args.odds.now c.args.traces c.by_target-triples.result.items c.loop-done.transitions.items
    c.loop-done.done (omega arith) c.by_target-triples.ensures.moved c.loop-done.invariant.1)

pub returns : goal.returns
returns c =
    letter-moved c.args.odds.now c.args.traces c.loop-done.transitions.items c.of.result c.of.ensures
    (letter-whole c.args.odds.now c.args.traces c.by_target-triples.result.items c.loop-done.transitions.items
    c.loop-done.done (omega arith) c.by_target-triples.ensures.moved c.loop-done.invariant.1)
