use Rattle.std.proofs.Common.{arith}
use Rattle.std.proofs.lemmas.Option.{slice_get_within}
use Rattle.ml_refute.proofs.FoundEntries.{number_more, few_numbered}
use Rattle.ml_refute.proofs.deciding.number_of.Goals as goal

pub overflow_cast-result : goal.overflow_cast-result
overflow_cast-result c =
    let told = c.in_ok-entry.ensures in
    let number =
    number_more c.args.game.now.graph.now c.args.game.now.arena.now c.args.game.now.solution.now c.requires.odd
    c.args.vertices.now.keys c.insert_full.new.self.keys c.args.v c.in_ok-entry.entry told.stored.0
    c.requires.numbered c.requires.won c.requires.unchosen told.keys told.stored.1 told.stored.2 in
    let few =
    few_numbered c.args.game.now.graph.now c.args.game.now.arena.now c.args.game.now.solution.now c.requires.odd
    c.insert_full.new.self.keys number.numbered in
    let low = slice_get_within c.insert_full.new.self.keys c.in_ok-entry.entry c.args.v number.stands in
    omega (arith, few, low, c.size-size.ensures, c.size-size.type_inv)

pub returns : goal.returns
returns c =
    let told = c.in_ok-entry.ensures in
    number_more c.args.game.now.graph.now c.args.game.now.arena.now c.args.game.now.solution.now c.requires.odd
    c.args.vertices.now.keys c.insert_full.new.self.keys c.args.v c.in_ok-entry.entry told.stored.0
    c.requires.numbered c.requires.won c.requires.unchosen told.keys told.stored.1 told.stored.2
