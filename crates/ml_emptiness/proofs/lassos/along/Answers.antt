use Rattle.std.proofs.Common.{◌∷◌, ◌++◌, [], get_or, sym, subst, take}
use Rattle.ml_lists.proofs.Member.{place-member}
use Rattle.ml_emptiness.specs.Systems.{table_of}
use Rattle.ml_emptiness.specs.private.Pairs.{AreStepped}
use Rattle.ml_emptiness.proofs.Letters.{next_entry}
use Rattle.ml_emptiness.proofs.Stepped.{stepped_more}
use Rattle.ml_emptiness.proofs.Tables.{entry_is}
use Rattle.ml_emptiness.proofs.lassos.along.Goals as goal

pub step_along-requires-clause-joint : goal.step_along-requires-clause-joint
step_along-requires-clause-joint c =
    c.requires.joint _ (place-member c.args.arcs.now c.loop-arc.arc-index (record { from = 0; priority = 0; to = 0 }) c.loop-arc-test.true)

pub loop-arc-preserved : goal.loop-arc-preserved
loop-arc-preserved c =
    let row = c.args.both.now.letters.now in
    let s = table_of c.args.both.now.system.now in
    let pairs = c.args.pairs.now in
    let arcs = c.args.arcs.now in
    let i = c.loop-arc.arc-index in
    let a = get_or arcs i (record { from = 0; priority = 0; to = 0 }) in
    let st = c.in_ok-step_along.ensures in
    let ns = c.loop-arc.trail.states.items in
    let ls = c.loop-arc.trail.letters.items in
    subst (λ us. AreStepped row s pairs us c.step_along.new.trail.states.items c.step_along.new.trail.letters.items)
    (sym (next_entry arcs i a c.loop-arc-test.true (entry_is arcs i (record { from = 0; priority = 0; to = 0 }) c.loop-arc-test.true)))
    (subst (λ us. AreStepped row s pairs (take i arcs ++ a ∷ []) us c.step_along.new.trail.letters.items) (sym st.2.states)
    (subst (λ us. AreStepped row s pairs (take i arcs ++ a ∷ []) (ns ++ st.0 ∷ []) us) (sym st.2.letters)
    (stepped_more row s pairs (take i arcs) ns ls a st.0 st.1 c.loop-arc.invariant st.3)))
