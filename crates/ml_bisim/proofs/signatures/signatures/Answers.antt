use Rattle.std.proofs.Common.{◌≡◌, ◌∙◌, get_or, length, refl, subst, sym, arith}
use Rattle.ml_bisim.specs.private.Signatures.{AreSteps, IsSignature}
use Rattle.ml_bisim.proofs.Signed.{are_signed, signed_more}
use Rattle.ml_bisim.proofs.signatures.signatures.Goals as goal

pub loop-state-preserved : goal.loop-state-preserved
loop-state-preserved c =
    signed_more
    (λ i k. IsSignature c.args.structure.now.edges c.args.edges.now.actions.items c.args.class.now
    (get_or c.args.states.now i 0) k)
    c.loop-state.state-index c.loop-state.signatures.items c.push.new.self.items _ c.loop-state.invariant
    (record {
      in_class = refl;
      steps = subst (AreSteps c.args.structure.now.edges c.args.edges.now.actions.items c.args.class.now
          (get_or c.args.states.now c.loop-state.state-index 0))
          (sym (c.in_ok-from_slice.ensures.items ∙ c.deref.ensures.value)) c.in_ok-gather.ensures;
    }) c.in_ok-push.ensures.items

pub returns : goal.returns
returns c =
    let all : c.loop-state.state-index ≡ length c.args.states.now =
    omega (arith, c.loop-state-test.false, c.loop-state.auto.state-index-end) in
    are_signed c.args.structure.now.edges c.args.edges.now.actions.items c.args.class.now c.args.states.now
    c.loop-state.state-index c.loop-state.signatures.items c.loop-state.invariant all
