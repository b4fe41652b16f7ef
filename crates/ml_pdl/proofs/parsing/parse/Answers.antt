use Rattle.std.proofs.Common.{rules, sym, ◌∙◌, subst}
use Rattle.ml_pdl.specs.Parsing.{IsParsedAs}
use Rattle.ml_pdl.specs.WellFormed.{IsWellFormed}
use Rattle.ml_pdl.specs.private.FormViews.{phrase_view}
use Rattle.ml_pdl.proofs.Parsed.{refused_first, found_parsed, found_well}
use Rattle.ml_pdl.proofs.parsing.parse.Goals as goal

pub returns-in_err-tree : goal.returns-in_err-tree
returns-in_err-tree c =
    let refused = refused_first c.args.text.now c.in_err-tree.field-0.0 (c.in_err-tree.ensures {u = tt}) in search rules

pub new-requires-2 : goal.new-requires-2
new-requires-2 c =
    let read = c.in_ok-tree.ensures {u = tt} in
    subst IsWellFormed (sym c.as_formula.ensures) (found_well c.args.text.now (phrase_view c.in_ok-tree.field-0.tree) read.0)

pub returns : goal.returns
returns c =
    let read = c.in_ok-tree.ensures {u = tt} in
    subst (IsParsedAs c.args.text.now) (sym (c.new-2.ensures ∙ c.as_formula.ensures))
    (found_parsed c.args.text.now (phrase_view c.in_ok-tree.field-0.tree) read.0)
