use Rattle.std.proofs.Common.{◌<◌, Some, length, set, arith}
use Rattle.std.proofs.lemmas.List.Elements.{All-get_or}
use Rattle.ml_word_check.specs.private.Walked.{nones}
use Rattle.ml_word_check.proofs.Walked.{comes_again, fewer_nones, none_read, one_more, some_read}
use Rattle.ml_word_check.proofs.word.word_from.Goals as goal

pub loop-states-smaller : goal.loop-states-smaller
loop-states-smaller c =
    let low : c.loop-states.at < length c.loop-states.places.items =
    omega (arith, c.loop-states.invariant.inside, c.loop-states.invariant.as_many) in
    let none =
    none_read c.loop-states.places.items c.loop-states.at c.index.result.now low c.index.ensures
    c.loop-states-test.ensures in
    let fewer = fewer_nones c.loop-states.places.items c.loop-states.at c.len.result low none in
    let less : nones (set c.loop-states.places.items c.loop-states.at (Some c.len.result)) < nones c.loop-states.places.items =
    omega (arith, fewer) in
    less

pub loop-states-preserved : goal.loop-states-preserved
loop-states-preserved c =
    let low : c.loop-states.at < length c.loop-states.places.items =
    omega (arith, c.loop-states.invariant.inside, c.loop-states.invariant.as_many) in
    one_more c.args.next.now c.args.state c.loop-states.states.items c.loop-states.at c.loop-states.places.items
    c.loop-states.invariant
    (λ t less. All-get_or (λ u. u < length c.args.next.now) c.args.next.now t 0 less c.requires.inside)
    (none_read c.loop-states.places.items c.loop-states.at c.index.result.now low c.index.ensures
    c.loop-states-test.ensures)
    c.push.new.self.items c.len.result c.in_ok-push.ensures.items
    (omega (arith, c.len.ensures, c.loop-states.states.ok.0))

pub returns : goal.returns
returns c =
    let low : c.loop-states.at < length c.loop-states.places.items =
    omega (arith, c.loop-states.invariant.inside, c.loop-states.invariant.as_many) in
    comes_again c.args.next.now c.args.state c.loop-states.states.items c.loop-states.at c.loop-states.places.items
    c.in-Some.start c.loop-states.invariant
    (some_read c.loop-states.places.items c.loop-states.at c.in-Some.start c.index-2.result.now low c.index-2.ensures
    c.in-Some.is)
