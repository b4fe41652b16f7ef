-- The moves from the state are read, and their ends are met.
use Rattle.std.proofs.Common.{◌≡◌, ◌+◌, ◌*◌, ◌<◌, ◌++◌, ◌∷◌, [], length, get_or, sym, subst, arith}
use Rattle.std.specs.Global.{Vec}
use Rattle.std.proofs.lemmas.List.{length-map}
use Rattle.std.proofs.lemmas.Option.{slice_get_within}
use Rattle.ml_lists.specs.Added.{IsAdded}
use Rattle.ml_lists.proofs.Added.{added_long}
use Rattle.ml_determinise.specs.declared.moves.DetMove.{DetMove}
use Rattle.ml_determinise.specs.Numbering.{rows_of}
use Rattle.ml_synthesis.specs.private.Arena.{IsAnswered, arrival_of}
use Rattle.ml_synthesis.proofs.Answered.{answered_more, answered_none, letter_low, read_length, read_move}
use Rattle.ml_synthesis.proofs.arena.answers.Goals as goal

pub loop-outs-init : goal.loop-outs-init
loop-outs-init c =
    let a = c.args.automaton.now in
    let ks = c.args.arrivals.now.keys in
    subst (IsAnswered a.input_sets a.output_sets c.args.base a.neutral (rows_of a.moves.now) ks c.args.state c.args.ins
    0 ks) (sym c.in_ok-vertices.ensures.items)
    (answered_none a.input_sets a.output_sets c.args.base a.neutral (rows_of a.moves.now) ks c.args.state c.args.ins
    c.requires.arrivals)

pub index-end-requires : goal.index-end-requires
index-end-requires c =
    let a = c.args.automaton.now in
    let low = letter_low a.input_sets a.output_sets c.args.ins c.loop-outs.outs c.requires.ins c.loop-outs-test.true in
    let long = c.requires.moves.a_move_each c.args.state
    (let few = length-map a.moves.now (λ (r : Vec DetMove). r.items) in let state = c.requires.state in
    omega (arith, few, state)) in
    let read = read_length a.moves.now c.args.state c.index-automaton-state.result c.requires.state
    c.index-automaton-state.is in
    let ok = (get_or a.moves.now c.args.state c.index-automaton-state.result).ok.0 in
    omega (arith, low, long, read, ok)

pub overflow_add-branch : goal.overflow_add-branch
overflow_add-branch c =
    let few = c.loop-outs.invariant.few in
    let stands = slice_get_within c.arrival_number.new.arrivals.keys c.in_ok-arrival_number.field-0 _
    c.in_ok-arrival_number.ensures.stands in
    let grown = (added_long c.loop-outs.arrivals.keys c.arrival_number.new.arrivals.keys _
    c.in_ok-arrival_number.field-0 c.in_ok-arrival_number.ensures).1 in
    let room = c.requires.room in
    let base = c.requires.base in
    let sets = c.requires.few in
    let test = c.loop-outs-test.true in
    omega (arith, few, stands, grown, room, base, sets, test)

pub loop-outs-preserved : goal.loop-outs-preserved
loop-outs-preserved c =
    let a = c.args.automaton.now in
    let l = c.loop-outs in
    let rows = rows_of a.moves.now in
    let q = c.args.state in
    let ins = c.args.ins in
    let i = c.in_ok-arrival_number.field-0 in
    let hs = c.arrival_number.new.arrivals.keys in
    let low : q < length rows =
    let few = length-map a.moves.now (λ (r : Vec DetMove). r.items) in
    let state = c.requires.state in
    omega (arith, few, state) in
    let inside : ins + a.input_sets * l.outs < length (get_or a.moves.now q c.index-automaton-state.result).items =
    let letter = letter_low a.input_sets a.output_sets ins l.outs c.requires.ins c.loop-outs-test.true in
    let long = c.requires.moves.a_move_each q low in
    let read = read_length a.moves.now q c.index-automaton-state.result c.requires.state c.index-automaton-state.is in
    omega (arith, letter, long, read) in
    let move = read_move a.moves.now q c.index-automaton-state.result c.requires.state c.index-automaton-state.is
    (ins + a.input_sets * l.outs) c.index-end.result.now inside c.index-end.ensures in
    let pushed : c.push.new.self.items ≡ l.vertices.items ++ (c.args.base + i) ∷ [] = c.in_ok-push.ensures.items in
    subst (IsAnswered a.input_sets a.output_sets c.args.base a.neutral rows c.args.arrivals.now.keys q ins (l.outs + 1)
    hs) (sym pushed)
    (answered_more a.input_sets a.output_sets c.args.base a.neutral rows c.args.arrivals.now.keys q ins l.outs
    l.arrivals.keys l.vertices.items l.invariant low c.requires.ins c.loop-outs-test.true hs i
    (subst (λ (x : DetMove). IsAdded l.arrivals.keys (arrival_of x) hs i) (sym move) c.in_ok-arrival_number.ensures))
