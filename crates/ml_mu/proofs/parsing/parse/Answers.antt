use Rattle.std.proofs.Common.{rules, sym, ◌∙◌, subst}
use Rattle.ml_mu.specs.Parsing.{IsParsedAs}
use Rattle.ml_mu.specs.Term.{formula_of}
use Rattle.ml_mu.proofs.Parsed.{refused_first, found_small, found_parsed, fault_refused, parsed_well}
use Rattle.ml_mu.proofs.parsing.parse.Goals as goal

pub returns-in_err-tree : goal.returns-in_err-tree
returns-in_err-tree c =
    let refused = refused_first c.args.text.now c.in_err-tree.field-0.0 (c.in_err-tree.ensures {u = tt}) in search rules

pub standings-requires : goal.standings-requires
standings-requires c = found_small c.args.text.now (formula_of c.in_ok-tree.field-0.tree) (c.in_ok-tree.ensures {u = tt}).0

pub new-requires : goal.new-requires
new-requires c =
    let f = formula_of c.in_ok-tree.field-0.tree in
    let read = c.in_ok-tree.ensures {u = tt} in
    let same = c.as_slice.ensures.value ∙ c.in_ok-standings.ensures in
    parsed_well c.args.text.now f
    (found_parsed c.args.text.now f c.as_slice.result.now c.as_slice-2.result.now read.0 same
    (c.as_slice-2.ensures.value ∙ read.1) (c.in-None.ensures {u = tt}))

pub returns-in-Some : goal.returns-in-Some
returns-in-Some c =
    let read = c.in_ok-tree.ensures {u = tt} in
    let same = c.as_slice.ensures.value ∙ c.in_ok-standings.ensures in
    fault_refused c.args.text.now (formula_of c.in_ok-tree.field-0.tree) c.as_slice.result.now
    c.as_slice-2.result.now c.in-Some.refusal read.0 same (c.as_slice-2.ensures.value ∙ read.1)
    (c.in-Some.ensures {u = tt})

pub returns-in-None : goal.returns-in-None
returns-in-None c =
    let f = formula_of c.in_ok-tree.field-0.tree in
    let read = c.in_ok-tree.ensures {u = tt} in
    let same = c.as_slice.ensures.value ∙ c.in_ok-standings.ensures in
    subst (IsParsedAs c.args.text.now) (sym c.new.ensures)
    (found_parsed c.args.text.now f c.as_slice.result.now c.as_slice-2.result.now read.0 same
    (c.as_slice-2.ensures.value ∙ read.1) (c.in-None.ensures {u = tt}))
