use Rattle.std.proofs.Common.{◌≡◌, ◌+◌, ◌<◌, ◌^◌, [], ◌∷◌, ◌++◌, length, refl, sym, subst, length-append, arith}
use Rattle.ml_realize_text.specs.RealizeRules.{AtReply}
use Rattle.ml_realize_text.specs.RealizeText.{answer_line}
use Rattle.ml_realize_text.specs.private.Reads.{Goes, TellsFault, environment_of}
use Rattle.ml_realize_text.proofs.Going.{room_on}
use Rattle.ml_realize_text.proofs.EnvironmentRead.{RepliesTo, replies_begin, replies_more, replies_refused}
use Rattle.ml_realize_text.proofs.read_environment.read_replies.Goals as goal

pub loop-set-init : goal.loop-set-init
loop-set-init c =
    subst (λ xs. RepliesTo c.args.outputs.now c.args.states c.args.at xs c.args.at × (length xs ≡ 0)) (sym c.new-next.ensures.items)
    (replies_begin c.args.outputs.now c.args.states c.args.at, refl)

pub read_reply-requires-clause-room : goal.read_reply-requires-clause-room
read_reply-requires-clause-room c = room_on c.loop-set.invariant.0.goes c.requires.room

pub returns-in-Err-clause-refused : goal.returns-in-Err-clause-refused
returns-in-Err-clause-refused c = λ ins i.
    let outs = c.args.outputs.now in
    let xs = c.loop-set.next.items in
    let mid = c.loop-set.rest in
    let so_far = c.loop-set.invariant in
    let below : length xs < 2 ^ length outs = omega (arith, c.loop-set-test.true, c.sets-set-end.ensures.is, so_far.1) in
    replies_refused outs c.args.states c.requires.outputs c.ranges.states.fits c.args.at mid xs c.in-Err.refusal ins so_far.0 below
    (λ k.
    subst (λ s. TellsFault (AtReply (environment_of ins outs) c.args.states k s) mid c.in-Err.refusal) (sym so_far.1)
    (c.in-Err.ensures.refused ins k))
    i

pub loop-set-preserved : goal.loop-set-preserved
loop-set-preserved c =
    let outs = c.args.outputs.now in
    let xs = c.loop-set.next.items in
    let mid = c.loop-set.rest in
    let so_far = c.loop-set.invariant in
    let x = c.in-Ok.read.0 in
    let rest = c.in-Ok.read.1 in
    let below : length xs < 2 ^ length outs = omega (arith, c.loop-set-test.true, c.sets-set-end.ensures.is, so_far.1) in
    let goes = subst (λ s. Goes mid (answer_line outs (s, x) ∷ []) rest) (sym so_far.1) c.in-Ok.ensures.read in
    subst (λ ys. RepliesTo outs c.args.states c.args.at ys rest × (length ys ≡ c.loop-set.set + 1))
    (sym c.in_ok-push.ensures.items) (
      replies_more outs c.args.states c.args.at mid rest xs (xs ++ x ∷ []) x so_far.0 below goes c.in-Ok.ensures.leads refl,
      omega (arith, length-append xs (x ∷ []), so_far.1),
    )

pub returns-clause-read : goal.returns-clause-read
returns-clause-read c = c.loop-set.invariant.0.goes

pub returns-clause-lead : goal.returns-clause-lead
returns-clause-lead c = c.loop-set.invariant.0.lead

pub returns-clause-long : goal.returns-clause-long
returns-clause-long c =
    let so_far = c.loop-set.invariant in
    omega (arith, c.loop-set-test.false, c.sets-set-end.ensures.is, so_far.1, so_far.0.most)
