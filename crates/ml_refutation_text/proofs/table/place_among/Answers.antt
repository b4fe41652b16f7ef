use Rattle.std.proofs.Common.{sym, ◌∙◌}
use Rattle.std.specs.Str.{bytes_eq}
use Rattle.ml_refutation_text.proofs.EachOnce.{place_shown, place_found, place_missing}
use Rattle.ml_refutation_text.proofs.table.place_among.Goals as goal

pub returns-in-Some : goal.returns-in-Some
returns-in-Some c =
    let keys = c.args.lists.now.keys in
    let x = c.args.list.now in
    place_found (λ k. bytes_eq x k.now) keys c.in-Some.place (sym c.in-Some.ensures.index) ∙ place_shown keys x

pub returns-in-None : goal.returns-in-None
returns-in-None c =
    let keys = c.args.lists.now.keys in
    let x = c.args.list.now in
    c.len.ensures.len ∙ place_missing (λ k. bytes_eq x k.now) keys (sym c.in-None.ensures.index) ∙ place_shown keys x
