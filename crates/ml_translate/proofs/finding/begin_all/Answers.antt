use Rattle.std.proofs.Common.{rules, ◌≡◌, ◌<◌, [], ◌∷◌, length, ap, ◌∙◌, subst, arith}
use Rattle.ml_translate.specs.private.Finding.{IsBegun, IsFull, IsGrown}
use Rattle.ml_translate.proofs.FoundPlaces.{begin_is, begun_full, begun_more}
use Rattle.ml_translate.proofs.finding.begin_all.Goals as goal

pub returns-in_err-add-clause-passed : goal.returns-in_err-add-clause-passed
returns-in_err-add-clause-passed c = λ e props.
    let a = c.args.automaton.now in
    let l = c.loop-state in
    let long = ap length c.states-node-items.ensures.value in
    let low : l.state < length a.states = omega arith in
    let here =
    begin_is a l.state c.states-node-items.result.now c.of.result c.states-node-items.ensures.value
    (c.of.ensures ∙ c.new.ensures.items) in
    begun_full a props c.args.limit l.state l.places.keys low (l.invariant.begun props)
    (subst (λ s. IsFull c.args.limit l.places.keys s) here (c.in_err-add.ensures.passed (search rules)))

pub loop-state-preserved : goal.loop-state-preserved
loop-state-preserved c =
    let a = c.args.automaton.now in
    let l = c.loop-state in
    let long = ap length c.states-node-items.ensures.value in
    let low : l.state < length a.states = omega arith in
    let here =
    begin_is a l.state c.states-node-items.result.now c.of.result c.states-node-items.ensures.value
    (c.of.ensures ∙ c.new.ensures.items) in
    record {
      few = c.in_ok-add.ensures.few;
      begun = λ props.
          begun_more a props c.args.limit l.state l.places.keys c.add.new.places.keys low (l.invariant.begun props)
          (subst (λ s. IsGrown (s ∷ []) l.places.keys c.add.new.places.keys) here c.in_ok-add.ensures.grown)
          c.in_ok-add.ensures.few;
    }

pub returns-clause-begun : goal.returns-clause-begun
returns-clause-begun c = λ props.
    let a = c.args.automaton.now in
    let l = c.loop-state in
    let long = ap length c.states-node-items.ensures.value in
    let all : l.state ≡ length a.states = omega arith in
    subst (λ n. IsBegun a props n c.args.limit l.places.keys) all (l.invariant.begun props)
