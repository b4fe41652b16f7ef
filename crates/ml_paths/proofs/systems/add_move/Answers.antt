use Rattle.std.proofs.Common.{rules, ◌≡◌, ◌<◌, ◌∙◌, true, bytes_eq, length, refl, subst, sym}
use Rattle.std.specs.Global.{Vec}
use Rattle.std.proofs.lemmas.List.{length-map}
use Rattle.ml_emptiness.specs.Systems.{table_of}
use Rattle.ml_emptiness.specs.declared.systems.Move.{Move}
use Rattle.ml_paths.specs.private.Letters.{number_of}
use Rattle.ml_paths.specs.private.Systems.{IsMoved}
use Rattle.ml_paths.proofs.Moves.{moved}
use Rattle.ml_paths.proofs.Swapped.{swap_low}
use Rattle.ml_paths.proofs.systems.add_move.Goals as goal

pub returns-in_ok-push_move : goal.returns-in_ok-push_move
returns-in_ok-push_move c =
    let start = c.args.start in
    let numbers = c.args.numbers.now in
    let e = c.args.edge.now in
    let t = table_of c.args.system.now.items in
    let t' = table_of c.push_move.new.system.items in
    let is : bytes_eq e.action c.args.action.now ≡ true = search rules in
    let long = length-map c.args.system.now.items (λ (row : Vec Move). row.items) ∙ c.requires.states in
    let low = swap_low start e.source (length numbers) c.requires.start c.requires.source in
    let from = c.swapped.ensures in
    subst (λ b. IsMoved start numbers b e t t') (sym is)
    (moved start numbers e t t' c.swapped.result (number_of numbers e.source) c.swapped-to.result
    (subst (λ n. c.swapped.result < n) (sym long) (subst (λ k. k < length numbers) (sym from) low)) from refl
    c.swapped-to.ensures c.in_ok-push_move.ensures)
