use Rattle.std.proofs.Common.{◌≤◌, [], length, get_or, refl, sym, ap, subst, take}
use Rattle.std.proofs.lemmas.List.{get_or_default, take_all}
use Rattle.ml_emptiness.specs.Systems.{moves_of, table_of}
use Rattle.ml_emptiness.proofs.Between.{between_more, joins_here, not_between, not_read}
use Rattle.ml_emptiness.proofs.Tables.{entry_is, move_member, moves_are, read_low, step_next}
use Rattle.ml_emptiness.proofs.lassos.letter_between.Goals as goal
use Rattle.ml_emptiness.proofs.lassos.letter_between.Goals.{else-step-to-via-then-step-to+else-reads, else-step-to-via-else-step-to}

pub bounds-both-step : goal.bounds-both-step
bounds-both-step c =
    let xs = c.deref-step-items.result.now in
    let i = c.loop-step.step-index in
    let system = c.args.both.now.system.now in
    let are = moves_are system c.args.from.state c.index-both-from.result xs c.requires.state c.deref-step-items.ensures.value in
    read_low (length c.args.both.now.letters.now) (table_of system) c.args.from.state xs c.requires.system are i _
    c.loop-step-test.true (entry_is xs i _ c.loop-step-test.true)

pub returns-then-reads : goal.returns-then-reads
returns-then-reads c =
    let xs = c.deref-step-items.result.now in
    let i = c.loop-step.step-index in
    let row = c.args.both.now.letters.now in
    let system = c.args.both.now.system.now in
    let are = moves_are system c.args.from.state c.index-both-from.result xs c.requires.state c.deref-step-items.ensures.value in
    let is = entry_is xs i _ c.loop-step-test.true in
    joins_here row (table_of system) c.args.from c.args.to c.args.accepting _ _
    (move_member (length row) (table_of system) c.args.from.state xs c.requires.system are i _ c.loop-step-test.true is)
    c.if-step-to.true
    (get_or_default row _ c.index-both-step.result []
    (read_low (length row) (table_of system) c.args.from.state xs c.requires.system are i _ c.loop-step-test.true is))
    (c.if-reads.ensures.0 refl)

pub loop-step-preserved : goal.loop-step-preserved
loop-step-preserved c =
    let xs = c.deref-step-items.result.now in
    let i = c.loop-step.step-index in
    let row = c.args.both.now.letters.now in
    let system = c.args.both.now.system.now in
    let are = moves_are system c.args.from.state c.index-both-from.result xs c.requires.state c.deref-step-items.ensures.value in
    let is = entry_is xs i _ c.loop-step-test.true in
    let letter_is = get_or_default row _ c.index-both-step.result []
    (read_low (length row) (table_of system) c.args.from.state xs c.requires.system are i _ c.loop-step-test.true is) in
    between_more row (table_of system) c.args.from c.args.to c.args.accepting _
    (take i (moves_of (table_of system) c.args.from.state)) _
    (step_next (length row) (table_of system) c.args.from.state xs c.requires.system are i _ c.loop-step-test.true is)
    c.loop-step.invariant
    (elim c.else-step-to.branch [
      | else-step-to-via-then-step-to+else-reads w ↦
          λ e. not_read row (table_of system) c.args.from c.args.to c.args.accepting
          (get_or xs i (record { letter = 0; to = 0 })) _ w.reads.result w.if-reads.false
          w.reads.ensures letter_is
      | else-step-to-via-else-step-to w ↦ λ e. absurd (w.if-step-to.false e)
    ])

pub returns : goal.returns
returns c =
    let xs = c.deref-step-items.result.now in
    let i = c.loop-step.step-index in
    let row = c.args.both.now.letters.now in
    let system = c.args.both.now.system.now in
    let are = moves_are system c.args.from.state c.index-both-from.result xs c.requires.state c.deref-step-items.ensures.value in
    let all = take_all i (moves_of (table_of system) c.args.from.state)
    (subst (λ n. n ≤ i) (ap length (sym are)) c.loop-step-test.false) in
    not_between row (table_of system) c.args.from c.args.to c.args.accepting
    (take i (moves_of (table_of system) c.args.from.state)) all c.loop-step.invariant
