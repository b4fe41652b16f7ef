-- One state more, until each has its play.
use Rattle.std.proofs.Common.{ℕ, ◌≡◌, [], ◌∷◌, ◌++◌, length, slice_get, sym, ap, ◌∙◌, subst, arith, length-append}
use Rattle.std.specs.Global.{Vec}
use Rattle.std.proofs.lemmas.List.{length-map, map_push}
use Rattle.std.proofs.lemmas.Option.{slice_get_within}
use Rattle.ml_parity.specs.Game.{size}
use Rattle.ml_parity.specs.Refusal.{lists_of}
use Rattle.ml_synthesis.specs.Machines.{EnvironmentTable}
use Rattle.ml_synthesis.specs.private.Numbered.{IsEnvironmentMet}
use Rattle.ml_synthesis.proofs.Choices.{base_is_vertex}
use Rattle.ml_synthesis.proofs.EnvironmentSteps.{environment_first, environment_more}
use Rattle.ml_synthesis.proofs.RowsMet.{few_numbers, met_all}
use Rattle.ml_synthesis.proofs.environment_making.environment_of.Goals as goal

pub loop-state-init : goal.loop-state-init
loop-state-init c =
    let a = c.args.arena.now in
    let none : record { plays = c.new-plays.result.items; next = lists_of c.new-next.result.items } ≡ record
    { plays = []; next = [] } =
    λ i. record { plays = c.new-plays.ensures.items i; next = ap lists_of c.new-next.ensures.items i } in
    subst (IsEnvironmentMet a.input_sets a.base a.game c.args.solution.now.choice c.in_ok-states.states.keys) (sym none)
    (subst (λ ks. IsEnvironmentMet a.input_sets a.base a.game c.args.solution.now.choice ks
    (record { plays = []; next = [] })) (sym c.in_ok-states.ensures)
    (environment_first a.input_sets a.base a.game c.args.solution.now.choice
    (base_is_vertex a.input_sets a.base a.arrivals.keys a.game c.args.solution.now c.requires.solved)))

pub loop-state-smaller : goal.loop-state-smaller
loop-state-smaller c =
    let a = c.args.arena.now in
    let l = c.loop-state in
    let here = ap (slice_get l.states.keys) (sym (c.len.ensures ∙ l.next.ok.0)) ∙ sym c.in-Some.ensures in
    let place = slice_get_within l.states.keys (length l.next.items) c.in-Some.state here in
    let few = few_numbers a.base (size a.game) l.states.keys l.invariant.met.numbers in
    let one = ap length c.in_ok-push-2.ensures.items ∙ length-append l.next.items (c.in_ok-play.row ∷ []) in
    omega (arith, place, few, one)

pub loop-state-preserved : goal.loop-state-preserved
loop-state-preserved c =
    let a = c.args.arena.now in
    let l = c.loop-state in
    let table : EnvironmentTable = record { plays = l.plays.items; next = lists_of l.next.items } in
    let long : length (lists_of l.next.items) ≡ length l.next.items = length-map l.next.items
    (λ (x : Vec ℕ). x.items) in
    let rows = ap lists_of c.in_ok-push-2.ensures.items ∙ map_push (λ (x : Vec ℕ). x.items) l.next.items
    c.in_ok-play.row in
    let more : record { plays = c.push.new.self.items; next = lists_of c.push-in-Some.new.self.items }
    ≡ record {
      plays = l.plays.items ++ c.in_ok-play.play ∷ [];
      next = lists_of l.next.items ++ c.in_ok-play.row.items ∷
          [];
    } =
    λ i. record { plays = c.in_ok-push.ensures.items i; next = rows i } in
    subst (IsEnvironmentMet a.input_sets a.base a.game c.args.solution.now.choice c.answer_at.new.states.keys)
    (sym more)
    (environment_more a.input_sets a.base a.game c.args.solution.now.choice l.states.keys c.answer_at.new.states.keys
    table c.in-Some.state c.in_ok-play.play c.in_ok-play.row.items l.invariant
    (ap (slice_get l.states.keys) (long ∙ sym (c.len.ensures ∙ l.next.ok.0)) ∙ sym c.in-Some.ensures)
    c.in_ok-play.ensures.answer c.in_ok-play.ensures.met)

pub answer_at-requires-clause-is_state : goal.answer_at-requires-clause-is_state
answer_at-requires-clause-is_state c =
    let l = c.loop-state in
    l.invariant.met.numbers.from_first (length l.next.items) c.in-Some.state
    (ap (slice_get l.states.keys) (sym (c.len.ensures ∙ l.next.ok.0)) ∙ sym c.in-Some.ensures)

pub answer_at-requires-clause-is_vertex : goal.answer_at-requires-clause-is_vertex
answer_at-requires-clause-is_vertex c =
    let l = c.loop-state in
    l.invariant.met.numbers.low (length l.next.items) c.in-Some.state
    (ap (slice_get l.states.keys) (sym (c.len.ensures ∙ l.next.ok.0)) ∙ sym c.in-Some.ensures)

pub answer_at-requires-clause-numbers : goal.answer_at-requires-clause-numbers
answer_at-requires-clause-numbers c = c.loop-state.invariant.met.numbers

pub returns : goal.returns
returns c =
    let a = c.args.arena.now in
    let l = c.loop-state in
    let rows = length-map l.next.items (λ (x : Vec ℕ). x.items) in
    record {
      states = l.states.keys;
      met = l.invariant;
      all =
          l.invariant.a_play_each
          ∙ met_all a.base (size a.game) l.states.keys (lists_of l.next.items) l.invariant.met c.len.result
          (c.len.ensures ∙ l.next.ok.0 ∙ sym rows) (sym c.in_default.ensures);
    }
