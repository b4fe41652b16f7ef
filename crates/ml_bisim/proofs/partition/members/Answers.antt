use Rattle.std.proofs.Common.{ℕ, ◌≡◌, ◌<◌, ◌∙◌, get_or, length, refl, subst, arith}
use Rattle.std.proofs.lemmas.List.{length-map, length-set}
use Rattle.std.specs.Global.{Vec}
use Rattle.ml_bisim.specs.private.Rounds.{HasMembers, rows}
use Rattle.ml_bisim.proofs.MemberLists.{added, row_pushed}
use Rattle.ml_bisim.proofs.partition.members.Goals as goal

pub loop-state-preserved : goal.loop-state-preserved
loop-state-preserved c =
    let class = c.args.class.now in
    let state = c.loop-state.state in
    let members = c.loop-state.members.items in
    let of = get_or class state 0 in
    let items = λ (v : Vec ℕ). v.items in
    let state_low : state < length class = omega (arith, c.loop-state-test.true, c.requires.each_state) in
    let low = c.requires.in_range state 0 state_low in
    let within : of < length members = omega (arith, low, c.loop-state.invariant.1) in
    let inside : of < length (rows members) = omega (arith, within, length-map members items) in (
      added class state (rows members) _ c.loop-state.invariant.0 of state inside
          (row_pushed items members of state c.index_mut.result.now c.push.new.self within c.index_mut.ensures.value
          c.in_ok-push.ensures.items) refl refl,
      length-set members of c.push.new.self ∙ c.loop-state.invariant.1,
    )

pub returns-clause-has : goal.returns-clause-has
returns-clause-has c =
    let all : c.loop-state.state ≡ c.args.states = omega (arith, c.loop-state-test.false, c.loop-state.auto.state-end) in
    subst (λ n. HasMembers c.args.class.now n (rows c.loop-state.members.items)) all c.loop-state.invariant.0
