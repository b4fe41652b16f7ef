-- One state with inputs more.
use Rattle.std.proofs.Common.{◌≡◌, ◌+◌, ◌*◌, ◌/◌, ◌%◌, ◌<◌, length, sym, ap, ◌∙◌, subst, arith}
use Rattle.std.specs.Global.{Vec}
use Rattle.std.proofs.lemmas.List.{length-map}
use Rattle.ml_parity.specs.declared.players.Player.TheVariants.{Even}
use Rattle.ml_parity.specs.Refusal.{game_of}
use Rattle.ml_determinise.specs.Numbering.{rows_of}
use Rattle.ml_determinise.specs.declared.moves.DetMove.{DetMove}
use Rattle.ml_synthesis.specs.private.Arena.{IsAnswered, IsDraft}
use Rattle.ml_synthesis.proofs.Drafts.{draft_known, grown_game}
use Rattle.ml_synthesis.proofs.arena.add_known.Goals as goal

pub loop-v-preserved : goal.loop-v-preserved
loop-v-preserved c =
    let a = c.args.automaton.now in
    let l = c.loop-v in
    let rows = rows_of a.moves.now in
    let n = a.input_sets in
    let m = a.output_sets in
    let js = c.answers.new.arrivals.keys in
    let states = length-map a.moves.now (λ (r : Vec DetMove). r.items) in
    let base : c.args.base ≡ length rows * n = c.requires.base ∙ ap (λ q. q * n) (sym states) in
    let answered : IsAnswered n m (length rows * n) a.neutral rows l.arrivals.keys (l.v / n) (l.v % n) m js
    c.in_ok-row.row.items =
    subst (λ b. IsAnswered n m b a.neutral rows l.arrivals.keys (l.v / n) (l.v % n) m js c.in_ok-row.row.items) base
    c.in_ok-row.ensures in
    let here : l.v < length rows * n = subst (λ b. l.v < b) base c.loop-v-test.true in
    let game = game_of l.draft.owner l.draft.priority l.draft.successors in
    let more = grown_game l.draft.owner c.add.new.self.owner l.draft.priority c.add.new.self.priority l.draft.successors
    c.add.new.self.successors Even a.neutral c.in_ok-row.row c.in_ok-add.ensures.owner c.in_ok-add.ensures.priority
    c.in_ok-add.ensures.successors in (
      subst (λ g. IsDraft n m a.neutral rows js g (l.v + 1)) (sym more)
          (draft_known n m a.neutral rows l.arrivals.keys game l.v l.invariant.0 js c.in_ok-row.row.items here
          answered),
      (let few = answered.few in let so_far = l.invariant.1 in let sets = c.requires.few in
          omega (arith, few, so_far, sets)),
    )
