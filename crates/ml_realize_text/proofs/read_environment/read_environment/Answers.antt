use Rattle.std.proofs.Common.{◌≡◌, ℕ, ◌+◌, ◌<◌, List, [], ◌∷◌, ◌++◌, length, refl, sym, ap, subst, ◌∙◌, length-append, arith}
use Rattle.std.proofs.lemmas.List.{map-append}
use Rattle.std.specs.Global.{Vec}
use Rattle.ml_parity.specs.Refusal.{lists_of}
use Rattle.ml_realize_text.specs.RealizeRules.{at_state}
use Rattle.ml_realize_text.specs.private.Reads.{Goes, TellsFault, environment_of, played_lines}
use Rattle.ml_realize_text.proofs.Going.{room_on}
use Rattle.ml_realize_text.proofs.EnvironmentRead.{PlaysTo, environment_fits, environment_lines_read, plays_begin, plays_more, plays_refused, rows_count, rows_last}
use Rattle.ml_realize_text.proofs.Tables.{play_rows}
use Rattle.ml_realize_text.proofs.read_environment.read_environment.Goals as goal

pub loop-state-init : goal.loop-state-init
loop-state-init c =
    let ins = c.args.inputs.now in
    let outs = c.args.outputs.now in
    subst
    (λ (ns : List (Vec ℕ)).
    PlaysTo ins outs c.args.states c.args.at (play_rows c.new-plays.result.items (lists_of ns)) c.args.at
    × (length c.new-plays.result.items ≡ 0)
    × (length (lists_of ns) ≡ 0))
    (sym c.new-next.ensures.items)
    (subst
    (λ (ps : List ℕ).
    PlaysTo ins outs c.args.states c.args.at (play_rows ps []) c.args.at × (length ps ≡ 0) × (length (lists_of []) ≡ 0))
    (sym c.new-plays.ensures.items) (plays_begin ins outs c.args.states c.args.at, refl, refl))

pub read_row-requires-clause-room : goal.read_row-requires-clause-room
read_row-requires-clause-room c = room_on c.loop-state.invariant.0.goes c.requires.room

pub returns-in-Err-clause-refused : goal.returns-in-Err-clause-refused
returns-in-Err-clause-refused c =
    let ins = c.args.inputs.now in
    let outs = c.args.outputs.now in
    let so_far = c.loop-state.invariant in
    let mid = c.loop-state.rest in
    let rows = play_rows c.loop-state.plays.items (lists_of c.loop-state.next.items) in
    let count : length rows ≡ c.loop-state.state = rows_count c.loop-state.plays.items (lists_of c.loop-state.next.items) c.loop-state.state so_far.1 so_far.2 in
    plays_refused ins outs c.args.states c.requires.inputs c.requires.outputs c.ranges.states.fits c.args.at mid rows
    c.in-Err.refusal so_far.0
    (subst (λ s. TellsFault (at_state (environment_of ins outs) c.args.states s) mid c.in-Err.refusal) (sym count) c.in-Err.ensures.refused)

pub loop-state-preserved : goal.loop-state-preserved
loop-state-preserved c =
    let ins = c.args.inputs.now in
    let outs = c.args.outputs.now in
    let items = λ (row : Vec ℕ). row.items in
    let ps = c.loop-state.plays.items in
    let ns = c.loop-state.next.items in
    let mid = c.loop-state.rest in
    let so_far = c.loop-state.invariant in
    let p = c.in-Ok.read.0 in
    let row = c.in-Ok.read.1 in
    let rest = c.in-Ok.read.2 in
    let count : length (play_rows ps (lists_of ns)) ≡ c.loop-state.state = rows_count ps (lists_of ns) c.loop-state.state so_far.1 so_far.2 in
    let below : length (play_rows ps (lists_of ns)) < c.args.states = omega (arith, c.loop-state-test.true, count) in
    let goes = subst (λ s. Goes mid (played_lines ins outs s (p, row.items)) rest) (sym count) c.in-Ok.ensures.read in
    let more = map-append items ns (row ∷ []) in
    let rows : play_rows (ps ++ p ∷ []) (lists_of (ns ++ row ∷ [])) ≡ play_rows ps (lists_of ns) ++ (p, row.items) ∷ [] =
    ap (play_rows (ps ++ p ∷ [])) more ∙ rows_last ps (lists_of ns) p row.items (so_far.2 ∙ sym so_far.1) in
    let all = plays_more ins outs c.args.states c.args.at mid rest (play_rows ps (lists_of ns)) (play_rows (ps ++ p ∷ []) (lists_of (ns ++ row ∷ [])))
    (p, row.items) so_far.0 below goes c.in-Ok.ensures.fits rows in
    subst
    (λ (xs : List (Vec ℕ)).
    PlaysTo ins outs c.args.states c.args.at (play_rows c.push.new.self.items (lists_of xs)) rest
    × (length c.push.new.self.items ≡ c.loop-state.state + 1)
    × (length (lists_of xs) ≡ c.loop-state.state + 1))
    (sym c.in_ok-push-2.ensures.items)
    (subst
    (λ (xs : List ℕ).
    PlaysTo ins outs c.args.states c.args.at (play_rows xs (lists_of (ns ++ row ∷ []))) rest
    × (length xs ≡ c.loop-state.state + 1)
    × (length (lists_of (ns ++ row ∷ [])) ≡ c.loop-state.state + 1))
    (sym c.in_ok-push.ensures.items) (
      all,
      omega (arith, length-append ps (p ∷ []), so_far.1),
      omega (arith, ap length more, length-append (lists_of ns) (row.items ∷ []), so_far.2),
    ))

pub returns-clause-read : goal.returns-clause-read
returns-clause-read c =
    let so_far = c.loop-state.invariant in
    environment_lines_read c.args.inputs.now c.args.outputs.now c.args.states c.args.at c.loop-state.rest c.loop-state.plays.items
    (lists_of c.loop-state.next.items) (so_far.2 ∙ sym so_far.1) so_far.0

pub returns-clause-fits : goal.returns-clause-fits
returns-clause-fits c =
    let so_far = c.loop-state.invariant in
    let ps = c.loop-state.plays.items in
    let ns = lists_of c.loop-state.next.items in
    let count : length (play_rows ps ns) ≡ c.loop-state.state = rows_count ps ns c.loop-state.state so_far.1 so_far.2 in
    let most = so_far.0.most in
    environment_fits c.args.inputs.now c.args.outputs.now c.args.states c.args.at c.loop-state.rest ps ns (so_far.2 ∙ sym so_far.1)
    c.requires.some (omega (arith, so_far.1, count, most, c.loop-state-test.false)) so_far.0
