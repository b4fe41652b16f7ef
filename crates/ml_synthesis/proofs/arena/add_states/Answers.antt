-- One state with its priority more, until there is no other.
use Rattle.std.proofs.Common.{◌≡◌, ◌+◌, ◌*◌, length, get_or, slice_get, Some, sym, ap, ◌∙◌, subst, arith}
use Rattle.std.specs.Global.{Vec}
use Rattle.std.proofs.lemmas.List.{length-map}
use Rattle.std.proofs.lemmas.Option.{slice_get-get_or}
use Rattle.ml_parity.specs.declared.players.Player.TheVariants.{Odd}
use Rattle.ml_parity.specs.Refusal.{game_of}
use Rattle.ml_determinise.specs.Numbering.{rows_of}
use Rattle.ml_determinise.specs.declared.moves.DetMove.{DetMove}
use Rattle.ml_synthesis.specs.declared.arrival.Arrival.{Arrival}
use Rattle.ml_synthesis.specs.private.Arena.{IsDraft}
use Rattle.ml_synthesis.proofs.Drafts.{draft_state, grown_game}
use Rattle.ml_synthesis.proofs.arena.add_states.Goals as goal

pub loop-arrival-preserved : goal.loop-arrival-preserved
loop-arrival-preserved c =
    let a = c.args.automaton.now in
    let l = c.loop-arrival in
    let rows = rows_of a.moves.now in
    let n = a.input_sets in
    let ks = c.args.arrivals.now.keys in
    let listed = c.as_slice-arrival-items.result.now in
    let keys : listed ≡ ks = c.as_slice-arrival-items.ensures.keys in
    let arrival : Arrival = get_or listed l.arrival-index (record { state = 0; priority = 0 }) in
    let stands : slice_get ks l.arrival-index ≡ Some arrival =
    ap (λ zs. slice_get zs l.arrival-index) (sym keys)
    ∙ slice_get-get_or listed l.arrival-index (record { state = 0; priority = 0 }) c.loop-arrival-test.true in
    let states = length-map a.moves.now (λ (r : Vec DetMove). r.items) in
    let base : c.args.base ≡ length rows * n = c.requires.base ∙ ap (λ q. q * n) (sym states) in
    let game = game_of l.draft.owner l.draft.priority l.draft.successors in
    let more = grown_game l.draft.owner c.add.new.self.owner l.draft.priority c.add.new.self.priority l.draft.successors
    c.add.new.self.successors Odd arrival.priority c.in_ok-row.row c.in_ok-add.ensures.owner
    c.in_ok-add.ensures.priority c.in_ok-add.ensures.successors in
    let next : c.args.base + l.arrival-index + 1 ≡ c.args.base + (l.arrival-index + 1) = omega arith in
    subst (IsDraft n a.output_sets a.neutral rows ks
    (game_of c.add.new.self.owner c.add.new.self.priority c.add.new.self.successors))
    next (subst (λ g. IsDraft n a.output_sets a.neutral rows ks g (c.args.base + l.arrival-index + 1)) (sym more)
    (draft_state n a.output_sets a.neutral rows ks game (c.args.base + l.arrival-index) l.invariant l.arrival-index
    arrival c.in_ok-row.row.items (ap (λ b. b + l.arrival-index) base) stands c.in_ok-row.ensures))

pub returns : goal.returns
returns c =
    let a = c.args.automaton.now in
    let l = c.loop-arrival in
    let rows = rows_of a.moves.now in
    let ks = c.args.arrivals.now.keys in
    let keys = ap length c.as_slice-arrival-items.ensures.keys in
    let past = c.loop-arrival-test.false in
    let bound = l.auto.arrival-index-end in
    let states = length-map a.moves.now (λ (r : Vec DetMove). r.items) in
    let base : c.args.base ≡ length rows * a.input_sets = c.requires.base ∙ ap (λ q. q * a.input_sets) (sym states) in
    let all : c.args.base + l.arrival-index ≡ length rows * a.input_sets + length ks = omega
    (arith, keys, past, bound, base) in
    subst (IsDraft a.input_sets a.output_sets a.neutral rows ks
    (game_of l.draft.owner l.draft.priority l.draft.successors)) all
    l.invariant
